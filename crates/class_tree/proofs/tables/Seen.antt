-- Classes that are added to those that were seen.
use Rattle.std.proofs.Common.{◌≡◌, ℕ, ◌+◌, ◌<◌, Bool, true, false, cond, nat_eq, List, [], ◌∷◌, ◌++◌, length, get_or, take, Option, Some, None, inl, inr, refl, sym, ap, subst, ◌∙◌, arith}
use Rattle.std.specs.Option.{option_or, option_to_list}
use Rattle.std.specs.List.{list_any, AllByRecursion, filter_map, cons_option}
use Rattle.std.proofs.lemmas.Bool.{eqb-true, cases_lt}
use Rattle.std.proofs.lemmas.List.{take_more, get_or_append_left}
use Rattle.std.proofs.lemmas.List.Elements.{filter_map-append}
use Rattle.std.proofs.Math.Seq.{get_or-append_seam}
use Rattle.indexmap.specs.IndexSet.{insert_key}
use Rattle.class_pool.specs.declared.types.MemberId.{MemberId}
use Rattle.class_tree.specs.Upwards.{first_answer}
use Rattle.class_tree.specs.Ways.{seen_after, way_at, answer_of}
use Rattle.class_tree.proofs.ancestors.Leading.{or_cases}
use Rattle.class_tree.proofs.lookups.Climbing.{or_none, or_assoc, answer_none, answer_cons, answer_one, answer_append, all_append}

-- ---- one more

pushed : (ks xs : List ℕ) (x : ℕ) → seen_after ks (xs ++ x ∷ []) ≡ insert_key nat_eq (seen_after ks xs) x
pushed ks [] x = refl
pushed ks (y ∷ ys) x = pushed (insert_key nat_eq ks y) ys x

pub seen_more : (ks xs : List ℕ) (i d : ℕ) → i < length xs → seen_after ks (take (i + 1) xs) ≡ insert_key nat_eq (seen_after ks (take i xs)) (get_or xs i d)
seen_more ks xs i d lt = ap (seen_after ks) (take_more xs i d lt) ∙ pushed ks (take i xs) (get_or xs i d)

-- ---- what they answer

module _ (f : ℕ → Option MemberId) where
  once : (o : Option MemberId) (rest : Option MemberId) → option_or (option_or o rest) o ≡ option_or o rest
  once None rest = or_none rest
  once (Some x) rest = refl

  -- a class that was seen answers nothing new
  seen : (k : ℕ) (ks : List ℕ) → list_any (nat_eq k) ks ≡ true → option_or (first_answer f ks) (f k) ≡ first_answer f ks
  seen k [] e = cc
  seen k (x ∷ ks) e =
      let split = answer_cons f x ks in
      ap (λ o. option_or o (f k)) split
      ∙ elim (or_cases (nat_eq k x) (list_any (nat_eq k) ks) e) [
        | inl here ↦ ap (λ n. option_or (option_or (f x) (first_answer f ks)) (f n)) (eqb-true k x here) ∙ once (f x) (first_answer f ks)
        | inr later ↦ or_assoc (f x) (first_answer f ks) (f k) ∙ ap (option_or (f x)) (seen k ks later)
      ]
      ∙ sym split

  added_by : (k : ℕ) (ks : List ℕ) (b : Bool) → list_any (nat_eq k) ks ≡ b → first_answer f (cond b ks (ks ++ k ∷ [])) ≡ option_or (first_answer f ks) (f k)
  added_by k ks true e = sym (seen k ks e)
  added_by k ks false e = answer_append f ks (k ∷ []) ∙ ap (option_or (first_answer f ks)) (answer_one f k)

  pub answer_seen : (ks xs : List ℕ) → first_answer f (seen_after ks xs) ≡ option_or (first_answer f ks) (first_answer f xs)
  answer_seen ks [] = sym (ap (option_or (first_answer f ks)) (answer_none f) ∙ or_none (first_answer f ks))
  answer_seen ks (x ∷ xs) =
      answer_seen (insert_key nat_eq ks x) xs
      ∙ ap (λ o. option_or o (first_answer f xs)) (added_by x ks (list_any (nat_eq x) ks) refl)
      ∙ or_assoc (first_answer f ks) (f x) (first_answer f xs)
      ∙ ap (option_or (first_answer f ks)) (sym (answer_cons f x xs))

-- ---- what holds of them all

module _ (P : ℕ → Type 0) where
  all_added : (k : ℕ) (ks : List ℕ) (b : Bool) → P k → AllByRecursion P ks → AllByRecursion P (cond b ks (ks ++ k ∷ []))
  all_added k ks true p all = all
  all_added k ks false p all = all_append P ks (k ∷ []) all (p, tt)

  pub all_seen : (ks xs : List ℕ) → AllByRecursion P ks → AllByRecursion P xs → AllByRecursion P (seen_after ks xs)
  all_seen ks [] all more = all
  all_seen ks (x ∷ xs) all more = all_seen (insert_key nat_eq ks x) xs (all_added x ks (list_any (nat_eq x) ks) more.0 all) more.1

-- ---- along ways

module _ (ways : List (List ℕ)) (own above : List ℕ) (answer : ℕ → Option MemberId) where
  -- the way so far
  abbrev pub IsSoFar : ℕ → List ℕ → Type 0
  IsSoFar i way = first_answer answer way ≡ option_or (first_answer answer own) (first_answer (answer_of ways answer) (take i above))

  pub begins : (way : List ℕ) → way ≡ seen_after [] own → IsSoFar 0 way
  begins way is =
      ap (first_answer answer) is ∙ answer_seen answer [] own ∙ ap (λ o. option_or o (first_answer answer own)) (answer_none answer)
      ∙ sym (ap (option_or (first_answer answer own)) (answer_none (answer_of ways answer)) ∙ or_none (first_answer answer own))

  pub goes_on : (i : ℕ) (way next : List ℕ) (d : ℕ) → i < length above → IsSoFar i way → next ≡ seen_after way (way_at ways (get_or above i d)) → IsSoFar (i + 1) next
  goes_on i way next d lt so_far is =
      let upper = get_or above i d in
      let later = answer_of ways answer in
      ap (first_answer answer) is ∙ answer_seen answer way (way_at ways upper)
      ∙ ap (λ o. option_or o (later upper)) so_far
      ∙ or_assoc (first_answer answer own) (first_answer later (take i above)) (later upper)
      ∙ ap (option_or (first_answer answer own)) (sym (ap (first_answer later) (take_more above i d lt) ∙ answer_append later (take i above) (upper ∷ []) ∙ ap (option_or (first_answer later (take i above))) (answer_one later upper)))

-- ---- entries that name classes

one_more : (seen : List ℕ) (o : Option ℕ) → seen_after seen (option_to_list o) ≡ seen_after seen (cons_option o [])
one_more seen None = refl
one_more seen (Some n) = refl

pub seen_append : (seen xs ys : List ℕ) → seen_after seen (xs ++ ys) ≡ seen_after (seen_after seen xs) ys
seen_append seen [] ys = refl
seen_append seen (x ∷ xs) ys = seen_append (insert_key nat_eq seen x) xs ys

pub named_more : (name : ℕ → Option ℕ) (seen indexes : List ℕ) (i d : ℕ) → i < length indexes
    → seen_after seen (filter_map name (take (i + 1) indexes)) ≡ seen_after (seen_after seen (filter_map name (take i indexes))) (option_to_list (name (get_or indexes i d)))
named_more name seen indexes i d lt =
    ap (λ l. seen_after seen (filter_map name l)) (take_more indexes i d lt)
    ∙ ap (seen_after seen) (filter_map-append name (take i indexes) (get_or indexes i d ∷ []))
    ∙ seen_append seen (filter_map name (take i indexes)) (cons_option (name (get_or indexes i d)) [])
    ∙ sym (one_more (seen_after seen (filter_map name (take i indexes))) (name (get_or indexes i d)))

-- ---- lists of ways

pub ways_more : (F : ℕ → List ℕ) (ways : List (List ℕ)) (way : List ℕ) (n : ℕ) → length ways ≡ n → ((class : ℕ) → class < n → way_at ways class ≡ F class) → way ≡ F n
    → (class : ℕ) → class < n + 1 → way_at (ways ++ way ∷ []) class ≡ F class
ways_more F ways way n many each new class lt =
    elim (cases_lt class n) [
      | inl less ↦ get_or_append_left ways (way ∷ []) [] class (omega (arith, less, many)) ∙ each class less
      | inr more ↦
          let e : class ≡ n = omega (arith, lt, more) in
          ap (way_at (ways ++ way ∷ [])) (e ∙ sym many) ∙ get_or-append_seam ways way [] [] ∙ new ∙ ap F (sym e)
    ]

-- one way more, where each keeps what it is to keep
pub kept_more : (P : ℕ → List ℕ → Type 0) (ways : List (List ℕ)) (way : List ℕ) (n : ℕ) → length ways ≡ n → ((class : ℕ) → class < n → P class (way_at ways class)) → P n way
    → (class : ℕ) → class < n + 1 → P class (way_at (ways ++ way ∷ []) class)
kept_more P ways way n many each new class lt =
    elim (cases_lt class n) [
      | inl less ↦ subst (P class) (sym (get_or_append_left ways (way ∷ []) [] class (omega (arith, less, many)))) (each class less)
      | inr more ↦
          let e : n ≡ class = omega (arith, lt, more) in
          let Q : ℕ → Type 0 = λ c. P c (way_at (ways ++ way ∷ []) c) in
          subst Q (many ∙ e) (subst (P (length ways)) (sym (get_or-append_seam ways way [] [])) (let R : ℕ → Type 0 = λ c. P c way in subst R (sym many) new))
    ]
