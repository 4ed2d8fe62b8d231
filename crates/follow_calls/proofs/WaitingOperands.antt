-- The operands of a frame that waits stand in both halves as they are, where whole numbers have two cells.
use Rattle.std.proofs.Common.{◌≡◌, inl, inr, ℕ, zero, suc, true, List, [], ◌∷◌, drop, length, Option, Some, None, refl, sym, ap, subst}
use Rattle.std.specs.List.{AllByRecursion}
use Rattle.std.specs.Option.{option_map_or}
use Rattle.cell_num.specs.Cells.{low_cell, high_cell}
use Rattle.image_instr.specs.declared.insn.Kind.{Kind}
use Rattle.image_instr.specs.declared.insn.Kind.TheVariants as kind
use Rattle.image_instr.specs.declared.insn.Width.{Width}
use Rattle.image_instr.specs.declared.insn.Width.TheVariants as width
use Rattle.body_form.specs.declared.body.Body.{Body}
use Rattle.body_form.specs.declared.types.VFrame.{VFrame}
use Rattle.body_form.specs.declared.types.VType.{VType}
use Rattle.body_form.specs.declared.types.VType.TheVariants as known
use Rattle.jvm_model.specs.Bodies.{AreEach}
use Rattle.jvm_model.specs.State.{Value, Whole, Null, Name}
use Rattle.jvm_model.specs.WidthsShapes.{shape_of, shapes_of, shapes_at, width_where, is_narrow}
use Rattle.mote_model.specs.State.{Reference}
use Rattle.match_states.specs.MatchedFrames.{IsOfShape, reference_of, operand_refs, operand_cells}
use Rattle.match_states.specs.Setting.{Setting, IsWide, table_for, widths_for}
use Rattle.follow_numbers.specs.WideCode.{value_refs, value_cells}

-- a reference, or a whole number of two cells
abbrev pub IsWideShape : Kind → Type 0
IsWideShape kind.One = ⊥
IsWideShape shape = Unit {0}

wide_shape : (of : Width) → of ≡ width.Two → (type : VType) → IsWideShape (shape_of of type)
wide_shape of two known.Top = tt
wide_shape of two known.Int = subst (λ (w : Width). IsWideShape (shape_of w known.Int)) (sym two) tt
wide_shape of two known.Null = tt
wide_shape of two (known.Ref type) = tt
wide_shape of two (known.New pc) = tt
wide_shape of two known.This = tt

wide_shapes : (of : ℕ → Width) → ((place : ℕ) → of place ≡ width.Two) → (types : List VType) → AllByRecursion IsWideShape (shapes_of of types)
unfolding shapes_of
wide_shapes of two [] = tt
wide_shapes of two (type ∷ types) = (wide_shape (of (length types)) (two (length types)) type, wide_shapes of two types)

wide_found : (of : ℕ → Width) → ((place : ℕ) → of place ≡ width.Two) → (found : Option VFrame) → AllByRecursion IsWideShape (option_map_or (λ (frame : VFrame). shapes_of of frame.stack) found [])
wide_found of two None = tt
wide_found of two (Some frame) = wide_shapes of two frame.stack

wide_below : (count : ℕ) (shapes : List Kind) → AllByRecursion IsWideShape shapes → AllByRecursion IsWideShape (drop count shapes)
wide_below zero shapes all = all
wide_below (suc count) [] all = tt
wide_below (suc count) (shape ∷ shapes) all = wide_below count shapes all.1

-- ---- in both halves

pub record StandAsValues (shapes : List Kind) (values : List Value) : Type 0 where
  pub refs : operand_refs shapes values ≡ value_refs values
  pub cells : operand_cells shapes values ≡ value_cells values

one_more : (shape : Kind) (value : Value) (shapes : List Kind) (values : List Value) → IsWideShape shape → IsOfShape shape value → StandAsValues shapes values → StandAsValues (shape ∷ shapes) (value ∷ values)
unfolding operand_refs operand_cells
one_more kind.One value shapes values wide is rest = absurd wide
one_more kind.Ref (Whole number) shapes values wide (inl is) rest = cc
one_more kind.Ref (Whole number) shapes values wide (inr is) rest = let e = is.1 in cc
one_more kind.Ref Null shapes values wide is rest = record { refs = ap (λ (l : List Reference). reference_of Null ∷ l) rest.refs; cells = rest.cells }
one_more kind.Ref (Name name) shapes values wide is rest = record { refs = ap (λ (l : List Reference). reference_of (Name name) ∷ l) rest.refs; cells = rest.cells }
one_more kind.Two (Whole number) shapes values wide is rest = record { refs = rest.refs; cells = ap (λ (l : List ℕ). high_cell number ∷ low_cell number ∷ l) rest.cells }
one_more kind.Two Null shapes values wide is rest = let e = is.1 in cc
one_more kind.Two (Name name) shapes values wide is rest = let e = is.1 in cc

stand_as_values : (shapes : List Kind) (values : List Value) → AllByRecursion IsWideShape shapes → AreEach IsOfShape shapes values → StandAsValues shapes values
unfolding operand_refs operand_cells
stand_as_values [] [] wide shaped = record { refs = refl; cells = refl }
stand_as_values [] (value ∷ values) wide shaped = absurd shaped
stand_as_values (shape ∷ shapes) [] wide shaped = absurd shaped
stand_as_values (shape ∷ shapes) (value ∷ values) wide shaped = one_more shape value shapes values wide.0 shaped.0 (stand_as_values shapes values wide.1 shaped.1)

-- those below so many at a pc of a wide body
pub operands_below : (setting : Setting) (body : Body) → IsWide setting body → (pc taken : ℕ) (values : List Value) → AreEach IsOfShape (drop taken (shapes_at (widths_for setting body) (table_for setting body) pc)) values
    → StandAsValues (drop taken (shapes_at (widths_for setting body) (table_for setting body) pc)) values
operands_below setting body wide pc taken values shaped =
    let shapes = shapes_at (widths_for setting body) (table_for setting body) pc in
    stand_as_values (drop taken shapes) values
    (wide_below taken shapes (wide_found ((widths_for setting body).operand pc) (λ place. ap (λ narrow. width_where (is_narrow narrow pc true place)) wide) (table_for setting body pc))) shaped
