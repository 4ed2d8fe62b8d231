-- Two references are of one object exactly where their cells are equal.
use Rattle.std.proofs.Common.{◌≡◌, ◌≢◌, ℕ, ◌⊎◌, inl, inr, true, false, not, nat_eq, is_some, Some, None, refl, sym, ap, ◌∙◌, arith}
use Rattle.std.proofs.lemmas.Bool.{eq-eqb, ne_eqb}
use Rattle.std.proofs.lemmas.Bool.Decides.{eqb_tells}
use Rattle.mote_model.specs.State.{Reference}
use Rattle.mote_model.specs.Picture.{Naming, IsNaming, cell_of, IsKept}
use Rattle.mote_model.specs.SplitStep.{are_same}

module _ (naming : Naming) (is : IsNaming naming) where
  -- equal names, or neither names nor offsets
  same_names : (a b : ℕ) → naming.kept a ≡ true → naming.kept b ≡ true → ((nat_eq a b ≡ true) × (a ≡ b)) ⊎ ((nat_eq a b ≡ false) × (a ≢ b)) → nat_eq (naming.offset a) (naming.offset b) ≡ nat_eq a b
  same_names a b kept also (inl same) = eq-eqb (naming.offset a) (naming.offset b) (ap naming.offset same.1) ∙ sym same.0
  same_names a b kept also (inr apart) = ne_eqb (naming.offset a) (naming.offset b) (λ e. apart.1 (is.apart a b kept also e)) ∙ sym apart.0

  pub same_cells : (a b : Reference) → IsKept naming a → IsKept naming b → nat_eq (cell_of naming a) (cell_of naming b) ≡ are_same a b
  same_cells None None kept also = refl
  same_cells None (Some b) kept also = ne_eqb 0 (naming.offset b) (λ e. omega (arith, is.above b also, e))
  same_cells (Some a) None kept also = ne_eqb (naming.offset a) 0 (λ e. omega (arith, is.above a kept, e))
  same_cells (Some a) (Some b) kept also = same_names a b kept also (eqb_tells a b)

  pub null_cell : (a : Reference) → IsKept naming a → nat_eq (cell_of naming a) 0 ≡ not (is_some a)
  null_cell None kept = refl
  null_cell (Some a) kept = ne_eqb (naming.offset a) 0 (λ e. omega (arith, is.above a kept, e))

  pub object_cell : (a : Reference) → IsKept naming a → not (nat_eq (cell_of naming a) 0) ≡ is_some a
  object_cell None kept = refl
  object_cell (Some a) kept = ap not (null_cell (Some a) kept)
