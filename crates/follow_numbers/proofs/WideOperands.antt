-- Operands that fit a frame of types are of its shapes, and stand in both halves as their values do, in wide bodies.
use Rattle.std.proofs.Common.{◌≡◌, inl, inr, ℕ, ℤ, true, List, [], ◌∷◌, ◌++◌, length, Some, refl, sym, ap, subst, ◌∙◌, FitsSigned}
use Rattle.std.specs.Int.{w32}
use Rattle.std.specs.List.{AllByRecursion}
use Rattle.std.specs.Option.{option_map_or}
use Rattle.image_instr.specs.declared.insn.Kind.{Kind}
use Rattle.image_instr.specs.declared.insn.Kind.TheVariants as kind
use Rattle.image_instr.specs.declared.insn.Width.{Width}
use Rattle.image_instr.specs.declared.insn.Width.TheVariants as width
use Rattle.body_form.specs.declared.body.Body.{Body}
use Rattle.body_form.specs.declared.types.VFrame.{VFrame}
use Rattle.body_form.specs.declared.types.VType.{VType}
use Rattle.body_form.specs.declared.types.VType.TheVariants as known
use Rattle.jvm_model.specs.Bodies.{AreEach}
use Rattle.jvm_model.specs.ImageExpansion.{top_of}
use Rattle.jvm_model.specs.State.{Value, Whole, Null, Name}
use Rattle.jvm_model.specs.WidthsShapes.{is_narrow, width_where, shape_of, shapes_of, shapes_at}
use Rattle.mote_model.specs.State.{Reference}
use Rattle.typed_machine.specs.TypedState.{Object}
use Rattle.typed_machine.specs.TypedWorld.{World}
use Rattle.type_safety.specs.Fitting.{ValueFits}
use Rattle.match_states.specs.MatchedFrames.{IsOfShape, operand_refs, operand_cells}
use Rattle.match_states.specs.Setting.{Setting, IsWide, table_for, widths_for}
use Rattle.follow_numbers.specs.WideCode.{refs_of_value, cells_of_value, value_refs, value_cells, IsInt, MayBeOperand}

-- a value is of a shape, and stands in both halves as its shape says
record HasShape (shape : Kind) (value : Value) : Type 0 where
  pub is : IsOfShape shape value
  pub int : IsInt value
  pub two : (number : ℤ) → value ≡ Whole number → shape ≡ kind.Two
  pub refs : (shapes : List Kind) (values : List Value) → operand_refs (shape ∷ shapes) (value ∷ values) ≡ refs_of_value value ++ operand_refs shapes values
  pub cells : (shapes : List Kind) (values : List Value) → operand_cells (shape ∷ shapes) (value ∷ values) ≡ cells_of_value value ++ operand_cells shapes values

whole_two : (value : Value) (n : ℤ) → value ≡ Whole n → FitsSigned w32 n → HasShape kind.Two value
unfolding operand_refs operand_cells
whole_two value n e fits =
    subst (HasShape kind.Two) (sym e)
    (record { is = (n, refl, fits); int = fits; two = λ number e. refl; refs = λ shapes values. refl; cells = λ shapes values. refl })

null_ref : (value : Value) → value ≡ Null → HasShape kind.Ref value
unfolding operand_refs operand_cells
null_ref value e = subst (HasShape kind.Ref) (sym e) (record { is = inl refl; int = tt; two = λ number e. cc; refs = λ shapes values. refl; cells = λ shapes values. refl })

name_ref : (value : Value) (name : ℕ) → value ≡ Name name → HasShape kind.Ref value
unfolding operand_refs operand_cells
name_ref value name e = subst (HasShape kind.Ref) (sym e) (record { is = inr (name, refl); int = tt; two = λ number e. cc; refs = λ shapes values. refl; cells = λ shapes values. refl })

-- operands of shapes that stand in both halves as their values do
pub record AreShaped (shapes : List Kind) (values : List Value) : Type 0 where
  pub shaped : AreEach IsOfShape shapes values
  pub ints : AllByRecursion IsInt values
  pub refs : operand_refs shapes values ≡ value_refs values
  pub cells : operand_cells shapes values ≡ value_cells values
  -- a whole number at the top has two cells
  pub top : (number : ℤ) (below : List Value) → values ≡ Whole number ∷ below → top_of shapes ≡ kind.Two

no_values : AreShaped [] []
unfolding operand_refs operand_cells
no_values = record { shaped = tt; ints = tt; refs = refl; cells = refl; top = λ number below e. cc }

module _ (world : World) (objects : List Object) (body : Body) where
  one_fits : (of : Width) → of ≡ width.Two → (type : VType) → MayBeOperand type → (value : Value) → ValueFits world objects body value type → HasShape (shape_of of type) value
  one_fits of two known.Top may value fits = absurd cc
  one_fits of two known.Int may value fits = subst (λ (w : Width). HasShape (shape_of w known.Int) value) (sym two) (whole_two value fits.0 fits.1 fits.2)
  one_fits of two known.Null may value fits = null_ref value fits
  one_fits of two (known.Ref type) may value (inl null) = null_ref value null
  one_fits of two (known.Ref type) may value (inr names) = name_ref value names.name names.is
  one_fits of two (known.New pc) may value fits = name_ref value fits.name fits.is
  one_fits of two known.This may value fits = name_ref value fits.name fits.is

  pub fit_shapes : (of : ℕ → Width) → ((place : ℕ) → of place ≡ width.Two) → (types : List VType) → AllByRecursion MayBeOperand types → (values : List Value)
      → AreEach (ValueFits world objects body) values types → AreShaped (shapes_of of types) values
  unfolding shapes_of
  fit_shapes of two [] may [] fits = no_values
  fit_shapes of two [] may (value ∷ values) fits = absurd fits
  fit_shapes of two (type ∷ types) may [] fits = absurd fits
  fit_shapes of two (type ∷ types) may (value ∷ values) fits =
      let one = one_fits (of (length types)) (two (length types)) type may.0 value fits.0 in
      let rest = fit_shapes of two types may.1 values fits.1 in
      record {
        shaped = (one.is, rest.shaped);
        ints = (one.int, rest.ints);
        refs = one.refs (shapes_of of types) values ∙ ap (λ (l : List Reference). refs_of_value value ++ l) rest.refs;
        cells = one.cells (shapes_of of types) values ∙ ap (λ (l : List ℕ). cells_of_value value ++ l) rest.cells;
        top = λ number below e. one.two number cc;
      }

  -- those before the instruction at a pc of a wide body
  pub frame_shapes : (setting : Setting) (of : Body) → IsWide setting of → (pc : ℕ) (types : VFrame) → table_for setting of pc ≡ Some types → AllByRecursion MayBeOperand types.stack
      → (values : List Value) → AreEach (ValueFits world objects body) values types.stack → AreShaped (shapes_at (widths_for setting of) (table_for setting of) pc) values
  frame_shapes setting of wide pc types known may values fits =
      let operand = (widths_for setting of).operand pc in
      subst (λ found. AreShaped (option_map_or (λ (frame : VFrame). shapes_of operand frame.stack) found []) values) (sym known)
      (fit_shapes operand (λ place. ap (λ narrow. width_where (is_narrow narrow pc true place)) wide) types.stack may values fits)
