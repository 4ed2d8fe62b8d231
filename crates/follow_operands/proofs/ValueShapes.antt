-- The shapes of operands in wide bodies are those of their values, and count what stands in both halves.
use Rattle.std.proofs.Common.{◌≡◌, inl, inr, ℕ, ◌+◌, true, List, [], ◌∷◌, ◌++◌, map, length, Some, refl, sym, ap, ap₂, subst, ◌∙◌, length-append}
use Rattle.std.specs.List.{AllByRecursion}
use Rattle.std.specs.Option.{option_map_or}
use Rattle.std.proofs.lemmas.List.{append_assoc}
use Rattle.std.proofs.lemmas.List.Sums.{sum_by-cons}
use Rattle.image_instr.specs.declared.insn.Kind.{Kind}
use Rattle.image_instr.specs.declared.insn.Width.{Width}
use Rattle.image_instr.specs.declared.insn.Width.TheVariants as width
use Rattle.image_instr.specs.Effect as effect
use Rattle.body_form.specs.declared.body.Body.{Body}
use Rattle.body_form.specs.declared.op.Op.{Op}
use Rattle.body_form.specs.declared.types.VFrame.{VFrame}
use Rattle.body_form.specs.declared.types.VType.{VType}
use Rattle.body_form.specs.declared.types.VType.TheVariants as known
use Rattle.jvm_model.specs.Bodies.{AreEach}
use Rattle.jvm_model.specs.ImageExpansion.{refs_in, cells_in}
use Rattle.jvm_model.specs.State.{Value, Whole, Null, Name}
use Rattle.jvm_model.specs.WidthsShapes.{is_narrow, width_where, shape_of, shapes_of, shapes_at}
use Rattle.mote_model.specs.State.{Reference}
use Rattle.mote_model.specs.SplitState as split
use Rattle.typed_machine.specs.TypedState.{Object, State}
use Rattle.typed_machine.specs.TypedWorld.{World}
use Rattle.type_safety.specs.Fitting.{ValueFits, FramesFit}
use Rattle.match_states.specs.Setting.{Setting, table_for, widths_for}
use Rattle.follow_numbers.specs.WideCode.{refs_of_value, cells_of_value, value_refs, value_cells, MayBeOperand, IsWideCode, StandsAt}
use Rattle.follow_numbers.proofs.KnownOperands.{body_operands}
use Rattle.follow_numbers.proofs.NextStates.{body_at, found_at}
use Rattle.follow_operands.specs.WideShapes.{kind_of_value}

-- ---- in both halves

pub refs-append : (top below : List Value) → value_refs (top ++ below) ≡ value_refs top ++ value_refs below
refs-append [] below = refl
refs-append (value ∷ top) below =
    ap (λ (l : List Reference). refs_of_value value ++ l) (refs-append top below) ∙ sym (append_assoc (refs_of_value value) (value_refs top) (value_refs below))

pub cells-append : (top below : List Value) → value_cells (top ++ below) ≡ value_cells top ++ value_cells below
cells-append [] below = refl
cells-append (value ∷ top) below =
    ap (λ (l : List ℕ). cells_of_value value ++ l) (cells-append top below) ∙ sym (append_assoc (cells_of_value value) (value_cells top) (value_cells below))

one_refs : (value : Value) → effect.refs_of (kind_of_value value) ≡ length (refs_of_value value)
one_refs (Whole number) = refl
one_refs Null = refl
one_refs (Name name) = refl

one_cells : (value : Value) → effect.cells_of (kind_of_value value) ≡ length (cells_of_value value)
one_cells (Whole number) = refl
one_cells Null = refl
one_cells (Name name) = refl

-- the shapes count the references and the cells
pub refs_counted : (values : List Value) → refs_in (map kind_of_value values) ≡ length (value_refs values)
refs_counted [] = refl
refs_counted (value ∷ values) =
    sum_by-cons effect.refs_of (kind_of_value value) (map kind_of_value values)
    ∙ ap₂ (λ (a b : ℕ). a + b) (one_refs value) (refs_counted values)
    ∙ sym (length-append (refs_of_value value) (value_refs values))

pub cells_counted : (values : List Value) → cells_in (map kind_of_value values) ≡ length (value_cells values)
cells_counted [] = refl
cells_counted (value ∷ values) =
    sum_by-cons effect.cells_of (kind_of_value value) (map kind_of_value values)
    ∙ ap₂ (λ (a b : ℕ). a + b) (one_cells value) (cells_counted values)
    ∙ sym (length-append (cells_of_value value) (value_cells values))

-- ---- by their types

module _ (world : World) (objects : List Object) (body : Body) where
  one_kind : (of : Width) → of ≡ width.Two → (type : VType) → MayBeOperand type → (value : Value) → ValueFits world objects body value type → shape_of of type ≡ kind_of_value value
  one_kind of two known.Top may value fits = absurd cc
  one_kind of two known.Int may value fits = ap (λ (w : Width). shape_of w known.Int) two ∙ sym (ap kind_of_value fits.1)
  one_kind of two known.Null may value fits = sym (ap kind_of_value fits)
  one_kind of two (known.Ref type) may value (inl null) = sym (ap kind_of_value null)
  one_kind of two (known.Ref type) may value (inr names) = sym (ap kind_of_value names.is)
  one_kind of two (known.New pc) may value fits = sym (ap kind_of_value fits.is)
  one_kind of two known.This may value fits = sym (ap kind_of_value fits.is)

  fit_kinds : (of : ℕ → Width) → ((place : ℕ) → of place ≡ width.Two) → (types : List VType) → AllByRecursion MayBeOperand types → (values : List Value)
      → AreEach (ValueFits world objects body) values types → shapes_of of types ≡ map kind_of_value values
  unfolding shapes_of
  fit_kinds of two [] may [] fits = refl
  fit_kinds of two [] may (value ∷ values) fits = absurd fits
  fit_kinds of two (type ∷ types) may [] fits = absurd fits
  fit_kinds of two (type ∷ types) may (value ∷ values) fits =
      ap₂ (λ (a : Kind) (b : List Kind). a ∷ b) (one_kind (of (length types)) (two (length types)) type may.0 value fits.0) (fit_kinds of two types may.1 values fits.1)

module _ {setting : Setting} {state : State} {other : split.State} {instruction : Op} (code : IsWideCode setting) (here : StandsAt setting state other instruction) where
  -- those before the instruction
  pub shapes_here : shapes_at (widths_for setting (body_at here)) (table_for setting (body_at here)) here.frame.pc ≡ map kind_of_value here.frame.operands
  shapes_here =
      let body = body_at here in
      let pc = here.frame.pc in
      let fits = (subst (FramesFit setting.world setting.tables state.objects) here.frames_are here.match.fits.frames).0 in
      let at : table_for setting body pc ≡ Some fits.types = ap (λ id. setting.tables id pc) (found_at here).method ∙ fits.known in
      let operand = (widths_for setting body).operand pc in
      ap (λ found. option_map_or (λ (frame : VFrame). shapes_of operand frame.stack) found []) at
      ∙ fit_kinds setting.world state.objects fits.body operand (λ place. ap (λ narrow. width_where (is_narrow narrow pc true place)) (code.wide body (found_at here).of_set)) fits.types.stack
      (body_operands setting code.compiled body (found_at here).of_set pc fits.types at) here.frame.operands fits.has.operands
