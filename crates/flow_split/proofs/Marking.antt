-- Marks of locals, one after the other.
use Rattle.std.proofs.Common.{◌≡◌, ℕ, zero, suc, ◌+◌, ◌<◌, ◌≤◌, Bool, true, false, ◌||◌, nat_eq, List, ◌∷◌, map, length, get_or, set, replicate, refl, sym, take, ap, ◌∙◌, arith}
use Rattle.std.specs.List.{list_any, range_with_len}
use Rattle.std.proofs.lemmas.Bool.Decides.{nat_tests}
use Rattle.std.proofs.lemmas.List.{length-set, get_or-set_same, get_or-set_other}
use Rattle.std.proofs.lemmas.List.FromFn.{length-map-range_with_len, get_or-map-range_with_len, fill_by_all}
use Rattle.std.proofs.lemmas.List.Folds.{list_any_more}
use Rattle.flow_split.specs.Shares.{AreMarks}

module _ (count : ℕ) (test : ℕ → Bool) (marks : List Bool) (are : AreMarks count test marks) where
  pub long : length marks ≡ count
  long = ap length are ∙ length-map-range_with_len test 0 count

  pub mark_at : (k : ℕ) (d : Bool) → k < count → get_or marks k d ≡ test k
  mark_at k d within = ap (λ (l : List Bool). get_or l k d) are ∙ get_or-map-range_with_len test 0 count k k d within (omega arith)

  -- a test that agrees has the same marks
  pub marks_as : (other : ℕ → Bool) → ((k : ℕ) → k < count → test k ≡ other k) → AreMarks count other marks
  marks_as other agree = fill_by_all other marks count false long (λ k within. mark_at k false within ∙ agree k within)

  -- one more local is marked
  pub marked : (local : ℕ) → local < length marks → AreMarks count (λ k. test k || nat_eq local k) (set marks local true)
  marked local within =
      fill_by_all (λ k. test k || nat_eq local k) (set marks local true) count false (length-set marks local true ∙ long) (λ k inside.
      grind (arith, nat_tests, mark_at k false inside, λ (same : k ≡ local). ap (λ i. get_or (set marks local true) i false) same ∙ get_or-set_same marks local true false within, λ (other : k ≡ local → ⊥). get_or-set_other marks local k true false other))

  -- a local that has no mark changes none
  pub marked_past : (local : ℕ) → length marks ≤ local → AreMarks count (λ k. test k || nat_eq local k) marks
  marked_past local past = marks_as (λ k. test k || nat_eq local k) (λ k inside. grind (arith, nat_tests, long))

or_false : (a : Bool) → a ≡ (a || false)
or_false true = refl
or_false false = refl

or_more : (a b c : Bool) → ((a || b) || c) ≡ (a || (b || c))
or_more true b c = refl
or_more false b c = refl

-- an element that passes for one local alone marks that
pub mark_more : {X : Type 0} (count : ℕ) (test : ℕ → Bool) (each : ℕ → X → Bool) (xs : List X) (i : ℕ) (d : X) (marks : List Bool) (one : ℕ → Bool) → i < length xs
    → ((k : ℕ) → each k (get_or xs i d) ≡ one k)
    → AreMarks count (λ k. (test k || list_any (each k) (take i xs)) || one k) marks → AreMarks count (λ k. test k || list_any (each k) (take (i + 1) xs)) marks
mark_more count test each xs i d marks one within same are =
    marks_as count (λ k. (test k || list_any (each k) (take i xs)) || one k) marks are (λ k. test k || list_any (each k) (take (i + 1) xs)) (λ k inside.
    or_more (test k) (list_any (each k) (take i xs)) (one k)
    ∙ ap (λ b. test k || (list_any (each k) (take i xs) || b)) (sym (same k))
    ∙ ap (λ b. test k || b) (sym (list_any_more (each k) xs i d within)))

-- no local marks none
pub unmarked : (count : ℕ) (test : ℕ → Bool) (marks : List Bool) → AreMarks count test marks → AreMarks count (λ k. test k || false) marks
unmarked count test marks are = marks_as count test marks are (λ k. test k || false) (λ k inside. or_false (test k))

-- at first none is marked
clear : (a n : ℕ) → replicate n false ≡ map (λ k. false) (range_with_len a n)
clear a zero = refl
clear a (suc n) = ap (λ (list : List Bool). false ∷ list) (clear (a + 1) n)

pub none_marked : (count n : ℕ) (marks : List Bool) → marks ≡ replicate n false → n ≡ count → AreMarks count (λ k. false) marks
none_marked count n marks is same = is ∙ clear 0 n ∙ ap (λ k. map (λ k. false) (range_with_len 0 k)) same
