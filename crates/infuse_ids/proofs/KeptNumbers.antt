-- What fields keep, and the cells of it.
use Rattle.std.proofs.Common.{◌≡◌, ℕ, ℤ, pos, Bool, true, false, cond, nat_eq, List, [], ◌∷◌, ◌++◌, Some, None, sym, ap, ◌∙◌}
use Rattle.std.proofs.lemmas.List.{append_assoc}
use Rattle.cell_num.specs.Cells.{low_cell, high_cell}
use Rattle.class_pool.specs.declared.descriptor.Kind.{Kind}
use Rattle.jvm_model.specs.Initialisers.{Number, Null, is_whole_kind}
use Rattle.jvm_model.specs.InitialStatics.{narrowed, kept}
use Rattle.jvm_model.specs.ImageNumbering.{cells_of_value}
use Rattle.jvm_model.specs.State.{Whole}
use Rattle.jvm_model.specs.State.{Null as NoObject}
use Rattle.jvm_model.specs.WidthsSlots.{passed_cells}

module _ (kind : Kind) where
  module _ (whole : is_whole_kind kind ≡ true) where
    pub kept_none : kept kind None ≡ Whole (pos 0)
    kept_none = ap (λ (is : Bool). cond is (Whole (pos 0)) NoObject) whole

    pub kept_null : kept kind (Some Null) ≡ Whole (pos 0)
    kept_null = ap (λ (is : Bool). cond is (Whole (pos 0)) NoObject) whole

    pub kept_some : (number : ℤ) → kept kind (Some (Number number)) ≡ Whole (narrowed kind number)
    kept_some number = ap (λ (is : Bool). cond is (Whole (narrowed kind number)) NoObject) whole

  module _ (old : List ℕ) (number : ℤ) where
    pub two_cells : nat_eq (passed_cells kind) 2 ≡ true → (old ++ low_cell number ∷ []) ++ high_cell number ∷ [] ≡ old ++ cells_of_value kind (Whole number)
    two_cells two =
        append_assoc old (low_cell number ∷ []) (high_cell number ∷ [])
        ∙ ap (λ ys. old ++ ys) (sym (ap (λ (is : Bool). cond is (low_cell number ∷ high_cell number ∷ []) (low_cell number ∷ [])) two))

    pub one_cell : nat_eq (passed_cells kind) 2 ≡ false → old ++ low_cell number ∷ [] ≡ old ++ cells_of_value kind (Whole number)
    one_cell one = ap (λ ys. old ++ ys) (sym (ap (λ (is : Bool). cond is (low_cell number ∷ high_cell number ∷ []) (low_cell number ∷ [])) one))
