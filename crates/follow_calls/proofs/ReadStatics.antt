-- The split machine follows the typed one where a static is read.
use Rattle.std.proofs.Common.{◌≡◌, inl, inr, ℕ, ◌+◌, true, List, [], ◌∷◌, ◌++◌, length, reverse, slice_get, Option, Some, refl, sym, ap, subst, ◌∙◌}
use Rattle.std.specs.Option.{option_map_or}
use Rattle.account.specs.Account.{no_need}
use Rattle.class_pool.specs.declared.descriptor.Kind.{Kind as DeclaredKind}
use Rattle.class_pool.specs.declared.descriptor.Kind.TheVariants as declared
use Rattle.image_instr.specs.declared.insn.Kind.{Kind}
use Rattle.image_instr.specs.declared.insn.Kind.TheVariants as kind
use Rattle.image_instr.specs.declared.insn.MInsn.TheVariants as insns
use Rattle.image_instr.specs.Insn.{insn_bytes}
use Rattle.body_form.specs.declared.op.FieldUse.{FieldUse}
use Rattle.body_form.specs.declared.op.Op.TheVariants as op
use Rattle.jvm_model.specs.ImageExpansion.{Emitted, alone, kind_in, read_as, top_of}
use Rattle.jvm_model.specs.ImageNumbering.{ids_of}
use Rattle.jvm_model.specs.Initialisers.{is_whole_kind, is_reference_kind}
use Rattle.jvm_model.specs.InitialStatics.{narrowed}
use Rattle.jvm_model.specs.State.{Value, Whole}
use Rattle.jvm_model.specs.WidthsShapes.{point_at, shapes_at}
use Rattle.mote_model.specs.State.{Reference, Frame as SplitFrame}
use Rattle.mote_model.specs.SplitMoves as split_moves
use Rattle.mote_model.specs.SplitMoves.{cells_at as cells_from, push_cells, push_ref, using}
use Rattle.mote_model.specs.SplitObjects.{size_of}
use Rattle.mote_model.specs.SplitState as split
use Rattle.mote_model.specs.SplitStep as split_step
use Rattle.typed_machine.specs.TypedMoves.{goes_on}
use Rattle.typed_machine.specs.TypedState.{State}
use Rattle.typed_machine.specs.TypedStep.{move, read_static}
use Rattle.typed_machine.specs.TypedWorld.{pc_after}
use Rattle.type_safety.proofs.fitting.NewObject.{IsOfNames}
use Rattle.type_safety.specs.Facts.{IsStaticField}
use Rattle.type_safety.specs.Fitting.{IsKept, KindFits, FieldFits}
use Rattle.type_safety.specs.Safety.{MoveFits}
use Rattle.match_states.specs.MatchedFrames.{cells_of_shape, reference_of}
use Rattle.match_states.specs.Setting.{Setting, table_for, widths_for}
use Rattle.match_code.specs.Standing.{emitted_at}
use Rattle.match_code.proofs.CodeLayout.{same_after}
use Rattle.match_code.proofs.QuietRuns.{OverNone}
use Rattle.follow_numbers.specs.WideCode.{IsWideCode, StandsAt, value_cells}
use Rattle.follow_numbers.proofs.NextStates.{body_at, found_at, refs_at, cells_at, typed_move, is_unstuck, next_shapes}
use Rattle.follow_numbers.proofs.NextMoves.{AreMatched, next_there, next_offset, both_go_on}
use Rattle.follow_operands.proofs.MovedFrames.{one_loud, locals_kept}
use Rattle.follow_operands.proofs.StoredReferences.{refers}
use Rattle.follow_calls.proofs.DeclaredStatics.{static_named, whole_or_reference, whole_value, reference_value}
use Rattle.follow_calls.proofs.KeptNumbers.{kept_cells, read_back}
use Rattle.follow_calls.proofs.PlacedItems.{cells_there, ref_there}
use Rattle.follow_calls.proofs.StaticParts.{number_stands, reference_stands}
use Rattle.follow_calls.proofs.WholeKinds.{kept_size, reference_kind, reference_reads}

-- the cells of a number are read
gets_cells : (state : split.State) (frame : SplitFrame) (others : List SplitFrame) (next at : ℕ) (of : DeclaredKind) → is_whole_kind of ≡ true
    → split_step.get_static state frame others next (kind_in of) at ≡ using (cells_from state.cell_statics at (size_of (kind_in of))) (λ cells. split_moves.goes_on state (push_cells cells frame) others next)
gets_cells state frame others next at declared.Int whole = refl
gets_cells state frame others next at declared.Char whole = refl
gets_cells state frame others next at declared.Short whole = refl
gets_cells state frame others next at declared.Byte whole = refl
gets_cells state frame others next at declared.Boolean whole = refl
gets_cells state frame others next at of whole = absurd cc

module _ {setting : Setting} {state : State} {other : split.State} (code : IsWideCode setting) (used : FieldUse) (here : StandsAt setting state other (op.GetStatic used)) where
  abbrev next : Option ℕ
  next = pc_after (body_at here).ops here.frame.pc

  pub static_here : IsStaticField setting.world used
  static_here = (code.compiled.typed.facts (body_at here) (found_at here).of_set).named here.frame.pc (op.GetStatic used) here.at

  held : FieldFits setting.world state.objects state.statics used.field static_here.field
  held = here.match.fits.statics used.field static_here.field static_here.is

  fits_kind : KindFits setting.world state.objects used.kind held.value
  fits_kind = subst (λ (of : DeclaredKind). KindFits setting.world state.objects of held.value) static_here.kind held.has

  typed : move setting.world state ≡ goes_on state here.frame here.frames next (held.value ∷ here.frame.operands)
  typed = typed_move here ∙ ap (read_static state here.frame here.frames next) held.is

  named : IsOfNames setting.world.files used.kind
  named = subst (IsOfNames setting.world.files) static_here.kind (static_named setting.world.files code.compiled.typed.closed used.field static_here.field static_here.is)

  abbrev place : ℕ
  place = (ids_of setting.numbering).static used.field

  reads_number : is_whole_kind used.kind ≡ true → AreMatched setting state other
  reads_number whole =
      let body = body_at here in
      let pc = here.frame.pc in
      let of = used.kind in
      let is = whole_value setting.world state.objects body held.value of whole fits_kind in
      let number = is.0 in
      let kept : narrowed of number ≡ number = subst (λ (k : DeclaredKind). IsKept k held.value) static_here.kind held.kept number is.1 in
      let values : List Value = Whole number ∷ here.frame.operands in
      let goes : move setting.world state ≡ goes_on state here.frame here.frames next values = typed ∙ ap (λ (value : Value). goes_on state here.frame here.frames next (value ∷ here.frame.operands)) is.1 in
      let to = next_there code here next values (subst (MoveFits setting.world setting.tables) goes (is_unstuck here code)) in
      let does = goes ∙ ap (λ (to : Option ℕ). goes_on state here.frame here.frames to values) to.1 in
      let shapes = shapes_at (widths_for setting body) (table_for setting body) in
      let insn = insns.GetS (kind_in of) place in
      let emits : emitted_at setting body pc (op.GetStatic used) ≡ alone insn ++ read_as of kind.Two =
      ap (λ (to : Option ℕ). alone insn ++ read_as of (top_of (option_map_or shapes to []))) (sym (same_after body.ops pc) ∙ to.1)
      ∙ ap (λ (shape : Kind). alone insn ++ read_as of shape) ((next_shapes here code no_need to.0 values does).top number here.frame.operands refl) in
      let stands = number_stands setting code.compiled used static_here whole state.objects state.statics here.match.fits.statics body in
      let cells = kept_cells of number in
      let there : cells_from other.cell_statics place (size_of (kind_in of)) ≡ Some cells =
      ap (λ (l : List ℕ). cells_from l place (size_of (kind_in of))) (here.match.statics.cells_are ∙ stands.held held.value held.is ∙ ap (λ (value : Value). stands.before ++ (cells_of_shape (kind_in of) value ++ stands.after)) is.1)
      ∙ ap (λ (at : ℕ). cells_from (stands.before ++ (cells ++ stands.after)) at (size_of (kind_in of))) stands.place
      ∙ ap (cells_from (stands.before ++ (cells ++ stands.after)) (length stands.before)) (kept_size of whole number)
      ∙ cells_there stands.before cells stands.after in
      let after = here.split.pc + length (insn_bytes insn []) in
      let between = push_cells cells here.split in
      let behind = split_moves.at_pc between after in
      let read = read_back setting.image other here.others behind number (value_cells here.frame.operands) of whole kept (ap (λ (l : List ℕ). reverse cells ++ l) (cells_at here code)) in
      one_loud code here here.frame.locals values goes [] insn [] (read_as of kind.Two) emits here.split between read.last (OverNone here.split) refl
      (gets_cells (split.with_frames other (here.split ∷ here.others)) here.split here.others after place of whole
      ∙ ap (λ found. using found (λ cells. split_moves.goes_on other (push_cells cells here.split) here.others after)) there)
      read.over
      (record {
        method = read.method;
        locals = locals_kept code here read.last (ap (λ half. half.locals) read.refs) read.locals;
        refs = ap (λ half. half.operands) read.refs ∙ refs_at here code;
        cells = read.cells_are;
      })

  reads_reference : is_reference_kind used.kind ≡ true → AreMatched setting state other
  reads_reference is =
      let body = body_at here in
      let reference = refers held.value (reference_value setting.world state.objects body held.value used.kind is named.dims fits_kind) in
      let insn = insns.GetS kind.Ref place in
      let shape = top_of (point_at body.ops (widths_for setting body) (table_for setting body) here.frame.pc).after in
      let emits : emitted_at setting body here.frame.pc (op.GetStatic used) ≡ alone insn =
      ap (λ (k : Kind). alone (insns.GetS k place) ++ read_as used.kind shape) (reference_kind used.kind is)
      ∙ ap (λ (l : List Emitted). alone insn ++ l) (reference_reads used.kind shape is) in
      let stands = reference_stands setting code.compiled used static_here is state.statics in
      let there : slice_get other.ref_statics place ≡ Some (reference_of held.value) =
      ap (λ (l : List Reference). slice_get l place) (here.match.statics.refs_are ∙ stands.held held.value held.is)
      ∙ ap (slice_get (stands.before ++ reference_of held.value ∷ stands.after)) stands.place
      ∙ ref_there stands.before (reference_of held.value) stands.after in
      let after = next_offset code here insn [] emits in
      both_go_on code here insn [] emits (held.value ∷ here.frame.operands) (push_ref (reference_of held.value) here.split)
      (record {
        method = refl;
        ref_locals = refl;
        cell_locals = refl;
        refs = ap (λ refs. reference_of held.value ∷ refs) (refs_at here code) ∙ sym (reference.refs here.frame.operands);
        cells = cells_at here code ∙ sym (reference.cells here.frame.operands);
      })
      typed (ap (λ found. using found (λ reference. split_moves.goes_on other (push_ref reference here.split) here.others after)) there)

  pub get_static_follows : AreMatched setting state other
  get_static_follows =
      elim (whole_or_reference setting.world.files used.kind named) [
        | inl whole ↦ reads_number whole
        | inr is ↦ reads_reference is
      ]
