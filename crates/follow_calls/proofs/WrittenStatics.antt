-- The split machine follows the typed one where a static is written.
use Rattle.std.proofs.Common.{◌≡◌, inl, inr, ℕ, ◌+◌, true, List, [], ◌∷◌, ◌++◌, length, Option, Some, refl, sym, ap, subst, ◌∙◌}
use Rattle.std.specs.Option.{option_map_or}
use Rattle.std.proofs.lemmas.Bool.{and_parts}
use Rattle.account.specs.Account.{Stuck}
use Rattle.class_pool.specs.declared.descriptor.Kind.{Kind as DeclaredKind}
use Rattle.class_pool.specs.declared.descriptor.Kind.TheVariants as declared
use Rattle.image_instr.specs.declared.insn.Kind.{Kind}
use Rattle.image_instr.specs.declared.insn.Kind.TheVariants as kind
use Rattle.image_instr.specs.declared.insn.MInsn.TheVariants as insns
use Rattle.image_instr.specs.Insn.{insn_bytes}
use Rattle.body_form.specs.declared.op.FieldUse.{FieldUse}
use Rattle.body_form.specs.declared.op.Op.TheVariants as op
use Rattle.body_form.specs.declared.types.VType.{VType}
use Rattle.jvm_model.specs.Bodies.{AreEach}
use Rattle.jvm_model.specs.ImageExpansion.{Emitted, alone, kind_in, top_of, write_as}
use Rattle.jvm_model.specs.ImageNumbering.{ids_of}
use Rattle.jvm_model.specs.Initialisers.{is_whole_kind, is_reference_kind}
use Rattle.jvm_model.specs.InitialStatics.{narrowed}
use Rattle.jvm_model.specs.State.{Value, Whole}
use Rattle.jvm_model.specs.TypesFrames.{fits_kind}
use Rattle.jvm_model.specs.TypesRules.{takes}
use Rattle.jvm_model.specs.WidthsShapes.{shapes_at}
use Rattle.mote_model.specs.State.{Reference, Frame as SplitFrame}
use Rattle.mote_model.specs.SplitMoves as split_moves
use Rattle.mote_model.specs.SplitMoves.{SplitMove, take_cells, take_ref_from, using, with_cells, with_cells_at, with_ref_at, with_refs}
use Rattle.mote_model.specs.SplitObjects.{size_of}
use Rattle.mote_model.specs.SplitState as split
use Rattle.mote_model.specs.SplitStep as split_step
use Rattle.typed_machine.specs.TypedCalls.{kept_as}
use Rattle.typed_machine.specs.TypedMoves.{goes_on}
use Rattle.typed_machine.specs.TypedState.{State, with_static}
use Rattle.typed_machine.specs.TypedStep.{move, write_static}
use Rattle.typed_machine.specs.TypedWorld.{pc_after}
use Rattle.type_safety.proofs.fitting.NewObject.{IsOfNames}
use Rattle.type_safety.specs.Facts.{IsStaticField}
use Rattle.type_safety.specs.Fitting.{ValueFits, KindFits, FieldFits}
use Rattle.match_states.specs.MatchedFrames.{cells_of_shape, reference_of}
use Rattle.match_states.specs.Setting.{Setting, table_for, widths_for}
use Rattle.match_code.specs.Standing.{emitted_at}
use Rattle.match_code.proofs.QuietRuns.{OverNone}
use Rattle.follow_numbers.specs.WideCode.{IsWideCode, StandsAt, value_cells, value_refs}
use Rattle.follow_numbers.proofs.NextStates.{body_at, found_at, operands_at, refs_at, cells_at, typed_move}
use Rattle.follow_numbers.proofs.NextMoves.{AreMatched}
use Rattle.follow_operands.proofs.LocalRules.{refers_by, rule_here, where_true, whole_by}
use Rattle.follow_operands.proofs.StoredReferences.{refers}
use Rattle.follow_calls.proofs.ChangedStates.{last_changes}
use Rattle.follow_calls.proofs.DeclaredStatics.{static_named, whole_or_reference, whole_value}
use Rattle.follow_calls.proofs.KeptNumbers.{cut_as, kept_cells, take_kept}
use Rattle.follow_calls.proofs.PlacedItems.{cells_set, ref_set}
use Rattle.follow_calls.proofs.ReturnedReferences.{kept_reference}
use Rattle.follow_calls.proofs.StaticParts.{cells_counted, kept_count, number_stands, reference_stands}
use Rattle.follow_calls.proofs.WholeKinds.{reference_kind, reference_taken, reference_writes, whole_taken}

-- the cells of a number are written
puts_cells : (state : split.State) (frame : SplitFrame) (others : List SplitFrame) (next at : ℕ) (of : DeclaredKind) → is_whole_kind of ≡ true
    → split_step.put_static state frame others next (kind_in of) at
    ≡ take_cells (size_of (kind_in of)) frame (λ cells rest. using (with_cells_at state.cell_statics at cells) (λ (statics : List ℕ). split_moves.goes_on (record state { cell_statics = statics }) rest others next))
puts_cells state frame others next at declared.Int whole = refl
puts_cells state frame others next at declared.Char whole = refl
puts_cells state frame others next at declared.Short whole = refl
puts_cells state frame others next at declared.Byte whole = refl
puts_cells state frame others next at declared.Boolean whole = refl
puts_cells state frame others next at of whole = absurd cc

module _ {setting : Setting} {state : State} {other : split.State} (code : IsWideCode setting) (used : FieldUse) (here : StandsAt setting state other (op.PutStatic used)) where
  abbrev next : Option ℕ
  next = pc_after (body_at here).ops here.frame.pc

  static_here : IsStaticField setting.world used
  static_here = (code.compiled.typed.facts (body_at here) (found_at here).of_set).named here.frame.pc (op.PutStatic used) here.at

  held : FieldFits setting.world state.objects state.statics used.field static_here.field
  held = here.match.fits.statics used.field static_here.field static_here.is

  named : IsOfNames setting.world.files used.kind
  named = subst (IsOfNames setting.world.files) static_here.kind (static_named setting.world.files code.compiled.typed.closed used.field static_here.field static_here.is)

  -- ---- the value at the top

  record Writes : Type 0 where
    pub value : Value
    pub below : List Value
    pub are : here.frame.operands ≡ value ∷ below
    pub type : VType
    pub taken : fits_kind setting.world.files used.kind type ≡ true
    pub fits : ValueFits setting.world state.objects (rule_here code here).of value type

  writes_in : (operands : List Value) (stack : List VType) → here.frame.operands ≡ operands → AreEach (ValueFits setting.world state.objects (rule_here code here).of) operands stack
      → takes (fits_kind setting.world.files used.kind ∷ []) stack ≡ true → Writes
  unfolding takes
  writes_in [] [] are fits test = absurd cc
  writes_in [] (type ∷ stack) are fits test = absurd fits
  writes_in (value ∷ below) [] are fits test = absurd fits
  writes_in (value ∷ below) (type ∷ stack) are fits test =
      record { value = value; below = below; are = are; type = type; taken = (and_parts (fits_kind setting.world.files used.kind type) true test).0; fits = fits.0 }

  writes : Writes
  writes =
      let rule = rule_here code here in
      writes_in here.frame.operands rule.types.stack refl rule.operands (where_true (takes (fits_kind setting.world.files used.kind ∷ []) rule.types.stack) _ rule.change rule.rule).0

  typed_as : (value : Value) → here.frame.operands ≡ value ∷ writes.below → move setting.world state ≡ goes_on (with_static state used.field (kept_as used.kind value)) here.frame here.frames next writes.below
  typed_as value are =
      typed_move here ∙ ap (write_static state here.frame here.frames next used) are
      ∙ ap (λ (found : Option Value). option_map_or (λ (old : Value). goes_on (with_static state used.field (kept_as used.kind value)) here.frame here.frames next writes.below) found Stuck) held.is

  abbrev place : ℕ
  place = (ids_of setting.numbering).static used.field

  -- ---- a whole number

  writes_number : is_whole_kind used.kind ≡ true → AreMatched setting state other
  writes_number whole =
      let body = body_at here in
      let of = used.kind in
      let below = writes.below in
      let is = whole_by setting.world state.objects (rule_here code here).of writes.type (whole_taken setting.world.files of writes.type whole writes.taken) writes.value writes.fits in
      let number = is.0 in
      let kept = narrowed of number in
      let are : here.frame.operands ≡ Whole number ∷ below = writes.are ∙ ap (λ (value : Value). value ∷ below) is.1 in
      let insn = insns.PutS (kind_in of) place in
      let emits : emitted_at setting body here.frame.pc (op.PutStatic used) ≡ write_as of kind.Two ++ alone insn =
      ap (λ (shape : Kind). write_as of shape ++ alone insn) ((operands_at here code).top number below are) in
      let cut = cut_as setting.image other here.others here.split number is.2 (value_cells below) (cells_at here code ∙ ap value_cells are) of whole in
      let stands = number_stands setting code.compiled used static_here whole state.objects state.statics here.match.fits.statics body in
      let cells = kept_cells of kept in
      let old = cells_of_shape (kind_in of) held.value in
      let old_fits : KindFits setting.world state.objects of held.value = subst (λ (k : DeclaredKind). KindFits setting.world state.objects k held.value) static_here.kind held.has in
      let count : length cells ≡ length old = cells_counted of whole kept ∙ sym (kept_count of whole held.value (whole_value setting.world state.objects body held.value of whole old_fits)) in
      let set : with_cells_at other.cell_statics place cells ≡ Some (stands.before ++ (cells ++ stands.after)) =
      ap (λ (l : List ℕ). with_cells_at l place cells) (here.match.statics.cells_are ∙ stands.held held.value held.is)
      ∙ ap (λ (at : ℕ). with_cells_at (stands.before ++ (old ++ stands.after)) at cells) stands.place
      ∙ cells_set stands.before old stands.after cells count in
      let from = split.with_frames other (cut.last ∷ here.others) in
      let after = cut.last.pc + length (insn_bytes insn []) in
      let last = with_cells cut.last (value_cells below) in
      last_changes code here (with_static state used.field (Whole kept)) below (typed_as (Whole number) are) (write_as of kind.Two) insn [] emits cut.last last cut.over refl
      (record other { cell_statics = stands.before ++ (cells ++ stands.after) })
      (record {
        objects = here.match.objects;
        statics = record { refs_are = here.match.statics.refs_are ∙ sym (stands.same_refs (Whole kept)); cells_are = sym (stands.set_cells (Whole kept)) };
        answers = here.match.answers;
      })
      (puts_cells from cut.last here.others after place of whole
      ∙ take_kept cut.last of whole kept (value_cells below) cut.cells_are
      (λ cells rest. using (with_cells_at other.cell_statics place cells) (λ (statics : List ℕ). split_moves.goes_on (record from { cell_statics = statics }) rest here.others after))
      ∙ ap (λ found. using found (λ (statics : List ℕ). split_moves.goes_on (record from { cell_statics = statics }) last here.others after)) set)
      (record {
        method = cut.method;
        ref_locals = ap (λ half. half.locals) cut.refs;
        cell_locals = cut.locals;
        refs = ap (λ half. half.operands) cut.refs ∙ refs_at here code ∙ ap value_refs are;
        cells = refl;
      })

  -- ---- a reference

  writes_reference : is_reference_kind used.kind ≡ true → AreMatched setting state other
  writes_reference is =
      let body = body_at here in
      let value = writes.value in
      let below = writes.below in
      let shaped = refers_by setting.world state.objects (rule_here code here).of writes.type (reference_taken setting.world.files used.kind writes.type is named.dims writes.taken) value writes.fits in
      let reference = refers value shaped in
      let shape = top_of (shapes_at (widths_for setting body) (table_for setting body) here.frame.pc) in
      let insn = insns.PutS kind.Ref place in
      let emits : emitted_at setting body here.frame.pc (op.PutStatic used) ≡ alone insn =
      ap (λ (k : Kind). write_as used.kind shape ++ alone (insns.PutS k place)) (reference_kind used.kind is)
      ∙ ap (λ (l : List Emitted). l ++ alone insn) (reference_writes used.kind shape is) in
      let typed : move setting.world state ≡ goes_on (with_static state used.field value) here.frame here.frames next below =
      typed_as value writes.are ∙ ap (λ (v : Value). goes_on (with_static state used.field v) here.frame here.frames next below) (kept_reference used.kind value shaped) in
      let stands = reference_stands setting code.compiled used static_here is state.statics in
      let set : with_ref_at other.ref_statics place (reference_of value) ≡ Some (stands.before ++ reference_of value ∷ stands.after) =
      ap (λ (l : List Reference). with_ref_at l place (reference_of value)) (here.match.statics.refs_are ∙ stands.held held.value held.is)
      ∙ ap (λ (at : ℕ). with_ref_at (stands.before ++ reference_of held.value ∷ stands.after) at (reference_of value)) stands.place
      ∙ ref_set stands.before (reference_of held.value) stands.after (reference_of value) in
      let from = split.with_frames other (here.split ∷ here.others) in
      let after = here.split.pc + length (insn_bytes insn []) in
      let last = with_refs here.split (value_refs below) in
      let put : Reference → SplitFrame → SplitMove = λ reference rest. using (with_ref_at other.ref_statics place reference) (λ (statics : List Reference). split_moves.goes_on (record from { ref_statics = statics }) rest here.others after) in
      last_changes code here (with_static state used.field value) below typed [] insn [] emits here.split last (OverNone here.split) refl
      (record other { ref_statics = stands.before ++ reference_of value ∷ stands.after })
      (record {
        objects = here.match.objects;
        statics = record { refs_are = sym (stands.set_refs value); cells_are = here.match.statics.cells_are ∙ sym (stands.same_cells value) };
        answers = here.match.answers;
      })
      (ap (λ (refs : List Reference). take_ref_from here.split refs put) (refs_at here code ∙ ap value_refs writes.are ∙ reference.refs below)
      ∙ ap (λ found. using found (λ (statics : List Reference). split_moves.goes_on (record from { ref_statics = statics }) last here.others after)) set)
      (record {
        method = refl;
        ref_locals = refl;
        cell_locals = refl;
        refs = refl;
        cells = cells_at here code ∙ ap value_cells writes.are ∙ reference.cells below;
      })

  pub put_static_follows : AreMatched setting state other
  put_static_follows =
      elim (whole_or_reference setting.world.files used.kind named) [
        | inl whole ↦ writes_number whole
        | inr is ↦ writes_reference is
      ]
