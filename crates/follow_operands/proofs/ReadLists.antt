-- What is read of lists that are appended, and of copies of one item.
use Rattle.std.proofs.Common.{◌≡◌, ◌⊎◌, inl, inr, ℕ, zero, suc, ◌+◌, List, [], ◌∷◌, ◌++◌, length, replicate, Some, sym, arith}
use Rattle.std.specs.Prelude.{slice_get}
use Rattle.std.proofs.lemmas.Option.{none-some, same_Some}

module _ {X : Type 0} where
  -- it is read of the first list, or of the second one behind it
  abbrev pub IsReadOf : List X → List X → ℕ → X → Type 0
  IsReadOf first second i x = (slice_get first i ≡ Some x) ⊎ ((j : ℕ) × (i ≡ length first + j) × (slice_get second j ≡ Some x))

  read_later : (y : X) (first second : List X) (i : ℕ) (x : X) → IsReadOf first second i x → IsReadOf (y ∷ first) second (suc i) x
  read_later y first second i x (inl is) = inl is
  read_later y first second i x (inr behind) = let at = behind.1 in inr (behind.0, omega (arith, at), behind.2)

  pub read_appended : (first second : List X) (i : ℕ) (x : X) → slice_get (first ++ second) i ≡ Some x → IsReadOf first second i x
  read_appended [] second i x is = inr (i, omega arith, is)
  read_appended (y ∷ first) second zero x is = inl is
  read_appended (y ∷ first) second (suc i) x is = read_later y first second i x (read_appended first second i x is)

  pub read_copy : (count : ℕ) (y : X) (i : ℕ) (x : X) → slice_get (replicate count y) i ≡ Some x → x ≡ y
  read_copy zero y i x is = absurd (none-some x is)
  read_copy (suc count) y zero x is = sym (same_Some y x is)
  read_copy (suc count) y (suc i) x is = read_copy count y i x is
