-- Where the places of a pool have no entry.
use Rattle.std.proofs.Common.{◌≡◌, ℕ, zero, suc, Bool, true, false, [], ◌∷◌, Option, Some, None, refl, sym, ap, arith, inl, inr}
use Rattle.std.specs.Prelude.{slice_get, option_and_then, ◌↔◌}
use Rattle.std.specs.Borrow.{Bor}
use Rattle.std.specs.Option.{option_copied}
use Rattle.std.proofs.lemmas.Option.{slice_get_past, slice_get_cases}
use Rattle.class_pool.specs.declared.pool.Const.{Const}
use Rattle.class_pool.specs.Pool.{Slots, entry_at, is_wide, AreSpacedAfter, AreSpaced, IsSecond, LacksEntry}

-- a position is the second of two; the first one is that, or not
abbrev pub IsSecondAfter : Bool → Slots → ℕ → Type 0
IsSecondAfter second slots zero = second ≡ true
IsSecondAfter second slots (suc position) = (entry : Const) × (slice_get slots position ≡ Some (Some entry)) × (is_wide entry ≡ true)

none_is_second : (second : Bool) (slots : Slots) (position : ℕ) → AreSpacedAfter second slots → slice_get slots position ≡ Some None → IsSecondAfter second slots position
none_is_second second [] position spaced e = absurd cc
none_is_second false (None ∷ slots) position spaced e = absurd spaced
none_is_second true (None ∷ slots) zero spaced e = refl
none_is_second true (None ∷ slots) (suc zero) spaced e = let second = none_is_second false slots zero spaced e in absurd cc
none_is_second true (None ∷ slots) (suc (suc position)) spaced e = none_is_second false slots (suc position) spaced e
none_is_second false (Some entry ∷ slots) zero spaced e = absurd cc
none_is_second false (Some entry ∷ slots) (suc zero) spaced e = (entry, refl, none_is_second (is_wide entry) slots zero spaced e)
none_is_second false (Some entry ∷ slots) (suc (suc position)) spaced e = none_is_second (is_wide entry) slots (suc position) spaced e
none_is_second true (Some entry ∷ slots) position spaced e = absurd spaced

second_is_none : (second : Bool) (slots : Slots) (position : ℕ) → AreSpacedAfter second slots → IsSecondAfter second slots position → slice_get slots position ≡ Some None
second_is_none false [] zero spaced s = absurd cc
second_is_none false [] (suc position) spaced s = absurd cc
second_is_none true [] position spaced s = absurd spaced
second_is_none false (None ∷ slots) position spaced s = absurd spaced
second_is_none true (None ∷ slots) zero spaced s = refl
second_is_none true (None ∷ slots) (suc zero) spaced s = absurd cc
second_is_none true (None ∷ slots) (suc (suc position)) spaced s = second_is_none false slots (suc position) spaced s
second_is_none false (Some entry ∷ slots) zero spaced s = absurd cc
second_is_none false (Some entry ∷ slots) (suc zero) spaced s = let is = s.1 in let wide = s.2 in second_is_none (is_wide entry) slots zero spaced cc
second_is_none false (Some entry ∷ slots) (suc (suc position)) spaced s = second_is_none (is_wide entry) slots (suc position) spaced s
second_is_none true (Some entry ∷ slots) position spaced s = absurd spaced

-- ---- by an index

-- the place that an entry is at
entry_there : (slot : Option (Option Const)) (entry : Const) → option_and_then (λ x. x) slot ≡ Some entry → slot ≡ Some (Some entry)
entry_there None entry e = absurd cc
entry_there (Some None) entry e = absurd cc
entry_there (Some (Some other)) entry e = ap (λ x. Some x) e

second_of : (slots : Slots) (position : ℕ) → IsSecondAfter false slots position → IsSecond slots (suc position)
second_of slots zero s = absurd cc
second_of slots (suc position) s = (s.0, ap (option_and_then (λ x. x)) s.1, s.2)

second_before : (slots : Slots) (position : ℕ) → IsSecond slots (suc position) → IsSecondAfter false slots position
second_before slots zero s = let e = s.1 in absurd cc
second_before slots (suc position) s = (s.0, entry_there (slice_get slots position) s.0 s.1, s.2)

none_at : (slots : Slots) (position : ℕ) (slot : Option Const) → AreSpaced slots → slice_get slots position ≡ Some slot → entry_at slots (suc position) ≡ None → IsSecond slots (suc position)
none_at slots position None spaced is e = second_of slots position (none_is_second false slots position spaced is)
none_at slots position (Some entry) spaced is e = let there = ap (option_and_then (λ x. x)) is in absurd cc

lacks_from : (slots : Slots) (index : ℕ) → AreSpaced slots → entry_at slots index ≡ None → LacksEntry slots index
lacks_from slots zero spaced e = inl refl
lacks_from slots (suc position) spaced e =
    elim ((slice_get_cases slots position).1) [
      | inl x ↦ inr (inr (none_at slots position x.0 spaced x.2 e))
      | inr past ↦ inr (inl (omega (arith, past.0)))
    ]

lacks : (slots : Slots) (index : ℕ) → AreSpaced slots → LacksEntry slots index → entry_at slots index ≡ None
lacks slots zero spaced l = refl
lacks slots (suc position) spaced l =
    elim l [
      | inl none ↦ absurd cc
      | inr (inl past) ↦ ap (option_and_then (λ x. x)) (slice_get_past slots position (omega (arith, past)))
      | inr (inr second) ↦ ap (option_and_then (λ x. x)) (second_is_none false slots position spaced (second_before slots position second))
    ]

pub none_tells : (slots : Slots) (index : ℕ) (entry : Option (Bor Const)) → AreSpaced slots → option_copied entry ≡ entry_at slots index → (entry ≡ None) ↔ LacksEntry slots index
none_tells slots index None spaced e = (λ _. lacks_from slots index spaced (sym e), λ _. refl)
none_tells slots index (Some entry) spaced e = (λ n. absurd cc, λ l. let none = lacks slots index spaced l in absurd cc)
