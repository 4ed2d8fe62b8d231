-- The part of a list in the order of classes that is of one class.
use Rattle.std.proofs.Common.{◌≡◌, ℕ, zero, suc, ◌+◌, ◌-◌, ◌≤◌, Bool, true, false, nat_eq, nat_lt, cond, inl, inr, List, [], ◌∷◌, filter, take, drop, length, get_or, refl, sym, ap, subst, ◌∙◌, arith}
use Rattle.std.specs.List.Sorted.{IsPartitionPoint}
use Rattle.std.proofs.lemmas.Bool.{cases_lt, ltb-true, ltb-false}
use Rattle.std.proofs.lemmas.Bool.Decides.{Decides-eqb, eqb_tells}

not_same : (a b : ℕ) → (a ≡ b → ⊥) → nat_eq a b ≡ false
not_same a b differ = elim (eqb_tells a b) [ inl same ↦ absurd (differ same.1) | inr other ↦ other.0 ]

module _ {X : Type 0} (class_of : X → ℕ) where
  abbrev pub is_in : ℕ → X → Bool
  is_in class item = nat_eq class (class_of item)

  -- so many of them are of classes below this number
  abbrev pub IsPoint : List X → ℕ → ℕ → Type 0
  IsPoint items class at = IsPartitionPoint (λ item. nat_lt (class_of item) class ≡ true) (λ item. nat_lt (class_of item) class ≡ false) items at

  tail_point : (item : X) (items : List X) (class at : ℕ) → IsPoint (item ∷ items) class (suc at) → IsPoint items class at
  tail_point item items class at point = (λ k d low high. point.0 (suc k) d (omega arith) (omega (arith, high)), λ k d low high. point.1 (suc k) d (omega (arith, low)) (omega (arith, high)))

  tail_start : (item : X) (items : List X) (class : ℕ) → IsPoint (item ∷ items) class 0 → IsPoint items class 0
  tail_start item items class point = (λ k d low high. absurd (omega (arith, high)), λ k d low high. point.1 (suc k) d (omega arith) (omega (arith, high)))

  none_taken : (n m : ℕ) → (let none : List X = [] in take m (drop n none) ≡ none)
  none_taken zero zero = refl
  none_taken zero (suc m) = refl
  none_taken (suc n) zero = refl
  none_taken (suc n) (suc m) = refl

  between_at : (class : ℕ) (items : List X) (start end : ℕ) → IsPoint items class start → IsPoint items (class + 1) end → take (end - start) (drop start items) ≡ filter (is_in class) items
  between_at class [] start end first second = none_taken start (end - start)
  between_at class (item ∷ items) zero zero first second =
      let above = ltb-false (class_of item) (class + 1) (second.1 0 item (omega arith) (omega arith)) in
      between_at class items zero zero (tail_start item items class first) (tail_start item items (class + 1) second)
      ∙ sym (ap (λ b. cond b (item ∷ filter (is_in class) items) (filter (is_in class) items)) (not_same class (class_of item) (omega (arith, above))))
  between_at class (item ∷ items) zero (suc end) first second =
      let from = ltb-false (class_of item) class (first.1 0 item (omega arith) (omega arith)) in
      let below = ltb-true (class_of item) (class + 1) (second.0 0 item (omega arith) (omega arith)) in
      let many : suc end - 0 ≡ suc end = omega arith in
      let rest : end ≡ end - 0 = omega arith in
      ap (λ n. take n (item ∷ items)) many
      ∙ ap (λ n. item ∷ take n items) rest
      ∙ ap (λ ys. item ∷ ys) (between_at class items zero end (tail_start item items class first) (tail_point item items (class + 1) end second))
      ∙ sym (ap (λ b. cond b (item ∷ filter (is_in class) items) (filter (is_in class) items)) ((Decides-eqb class (class_of item)).1 (omega (arith, from, below))))
  between_at class (item ∷ items) (suc start) zero first second =
      let below = ltb-true (class_of item) class (first.0 0 item (omega arith) (omega arith)) in
      let above = ltb-false (class_of item) (class + 1) (second.1 0 item (omega arith) (omega arith)) in
      absurd (omega (arith, below, above))
  between_at class (item ∷ items) (suc start) (suc end) first second =
      let below = ltb-true (class_of item) class (first.0 0 item (omega arith) (omega arith)) in
      let same_length : suc end - suc start ≡ end - start = omega arith in
      ap (λ n. take n (drop start items)) same_length
      ∙ between_at class items start end (tail_point item items class start first) (tail_point item items (class + 1) end second)
      ∙ sym (ap (λ b. cond b (item ∷ filter (is_in class) items) (filter (is_in class) items)) (not_same class (class_of item) (omega (arith, below))))

  ordered_at : (class : ℕ) (items : List X) (start end : ℕ) → start ≤ length items → IsPoint items class start → IsPoint items (class + 1) end → start ≤ end
  ordered_at class [] start end le first second = omega (arith, le)
  ordered_at class (item ∷ items) start end le first second =
      elim (cases_lt end start) [
        | inl less ↦
            let at : X = get_or (item ∷ items) end item in
            let below = ltb-true (class_of at) class (first.0 end item (omega arith) less) in
            let above = ltb-false (class_of at) (class + 1) (second.1 end item (omega arith) (omega (arith, less, le))) in
            absurd (omega (arith, below, above))
        | inr fine ↦ fine
      ]

  -- those between two points
  pub between : (class first second : ℕ) (items : List X) (start end : ℕ) → first ≡ class → second ≡ class → IsPoint items first start → IsPoint items (second + 1) end
      → take (end - start) (drop start items) ≡ filter (is_in class) items
  between class first second items start end is_first is_second from to =
      between_at class items start end (subst (λ (n : ℕ). IsPoint items n start) is_first from) (subst (λ (n : ℕ). IsPoint items (n + 1) end) is_second to)

  pub is_ordered : (class first second : ℕ) (items : List X) (start end : ℕ) → first ≡ class → second ≡ class → start ≤ length items → IsPoint items first start → IsPoint items (second + 1) end → start ≤ end
  is_ordered class first second items start end is_first is_second le from to =
      ordered_at class items start end le (subst (λ (n : ℕ). IsPoint items n start) is_first from) (subst (λ (n : ℕ). IsPoint items (n + 1) end) is_second to)
