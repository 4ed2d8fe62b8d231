-- Lists that grow by items, one for each item of another list.
use Rattle.std.proofs.Common.{◌≡◌, ℕ, zero, suc, ◌+◌, ◌<◌, ◌≤◌, List, [], ◌∷◌, ◌++◌, length, drop, get_or, drop-cons, add-one, append_assoc, refl, sym, ap, subst, ◌∙◌, arith}
use Rattle.std.proofs.lemmas.List.{drop_all, append-nil}
use Rattle.jvm_model.specs.Bodies.{AreEach}
use Rattle.body_make.specs.Names.{Adds}

-- an item within a list is the same by any default
pub within : {X : Type 0} (xs : List X) (i : ℕ) (d : X) → i < length xs → get_or xs i d ≡ get_or xs i (get_or xs i d)
within [] i d lt = absurd (omega (arith, lt))
within (x ∷ xs) zero d lt = refl
within (x ∷ xs) (suc i) d lt = same xs i d (get_or xs i d) (omega (arith, lt))
  where
    same : {X : Type 0} (xs : List X) (i : ℕ) (d e : X) → i < length xs → get_or xs i d ≡ get_or xs i e
    same [] i d e lt = absurd (omega (arith, lt))
    same (x ∷ xs) zero d e lt = refl
    same (x ∷ xs) (suc i) d e lt = same xs i d e (omega (arith, lt))

module _ {X Y : Type 0} (Is : X → Y → Type 0) where
  each_then : (xs ys : List X) (firsts seconds : List Y) → AreEach Is xs firsts → AreEach Is ys seconds → AreEach Is (xs ++ ys) (firsts ++ seconds)
  each_then [] ys [] seconds first second = second
  each_then [] ys (y ∷ firsts) seconds first second = absurd first
  each_then (x ∷ xs) ys [] seconds first second = absurd first
  each_then (x ∷ xs) ys (y ∷ firsts) seconds first second = (first.0, each_then xs ys firsts seconds first.1 second)

  -- by the items of one list, and then by those of another
  pub adds_then : (xs ys : List X) (old mid new : List Y) → Adds Is xs old mid → Adds Is ys mid new → Adds Is (xs ++ ys) old new
  adds_then xs ys old mid new (firsts, e, first) (seconds, f, second) =
      (firsts ++ seconds, f ∙ ap (λ (l : List Y). l ++ seconds) e ∙ append_assoc old firsts seconds, each_then xs ys firsts seconds first second)

  pub adds_one : (x : X) (y : Y) (old new : List Y) → new ≡ old ++ y ∷ [] → Is x y → Adds Is (x ∷ []) old new
  adds_one x y old new e is = (y ∷ [], e, (is, tt))

  pub adds_none : (old : List Y) → Adds Is [] old old
  adds_none old = ([], sym (append-nil old), tt)

  -- what is added to an empty list is all of it
  pub adds_all : (xs : List X) (new : List Y) → Adds Is xs [] new → AreEach Is xs new
  adds_all xs new (more, e, each) = subst (λ (l : List Y). AreEach Is xs l) (sym e) each

  -- ---- in a loop over a list

  abbrev pub Completes : List X → List X → List Y → List Y → Type 0
  Completes all left old now = (new : List Y) → Adds Is left now new → Adds Is all old new

  pub completes_more : (xs : List X) (i : ℕ) (x : X) (y : Y) (old now next : List Y) → i < length xs → x ≡ get_or xs i x → next ≡ now ++ y ∷ [] → Is x y
      → Completes xs (drop i xs) old now → Completes xs (drop (i + 1) xs) old next
  completes_more xs i x y old now next lt same e is completes = λ new adds.
      completes new (subst (λ (l : List X). Adds Is l now new) (sym at_hand) (adds_then (x ∷ []) (drop (i + 1) xs) now next new (adds_one x y now next e is) adds))
    where
      at_hand : drop i xs ≡ x ∷ drop (i + 1) xs
      at_hand = drop-cons xs i x lt ∙ ap (λ a. a ∷ drop (suc i) xs) (sym same) ∙ ap (λ n. x ∷ drop n xs) (sym (add-one i))

  pub completes_end : (xs : List X) (i : ℕ) (now : List Y) → length xs ≤ i → Completes xs (drop i xs) [] now → AreEach Is xs now
  completes_end xs i now le completes = adds_all xs now (completes now (subst (λ (l : List X). Adds Is l now now) (sym (drop_all i xs le)) (adds_none now)))
