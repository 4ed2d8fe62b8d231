-- The split machine follows the typed one where a reference is loaded.
use Rattle.std.proofs.Common.{◌≡◌, ℕ, List, [], ◌∷◌, Option, Some, None, unwrap_or, refl, sym, ap, ◌∙◌}
use Rattle.std.specs.Prelude.{slice_get}
use Rattle.std.specs.Option.{option_map_or}
use Rattle.image_instr.specs.declared.insn.Kind.TheVariants as kind
use Rattle.image_instr.specs.declared.insn.MInsn.TheVariants as insns
use Rattle.insn_form.specs.declared.ValueKind.TheVariants as value_kind
use Rattle.body_form.specs.declared.op.Op.TheVariants as op
use Rattle.jvm_model.specs.ImageExpansion.{alone}
use Rattle.jvm_model.specs.WidthsSlots.{reference_locals}
use Rattle.mote_model.specs.State.{Reference}
use Rattle.mote_model.specs.SplitMoves as split_moves
use Rattle.mote_model.specs.SplitMoves.{push_ref, using}
use Rattle.mote_model.specs.SplitState as split
use Rattle.typed_machine.specs.TypedState.{State}
use Rattle.match_states.specs.MatchedFrames.{reference_of, local_reference}
use Rattle.match_states.specs.Setting.{Setting}
use Rattle.match_code.specs.Standing.{emitted_at}
use Rattle.follow_numbers.specs.WideCode.{IsWideCode, StandsAt}
use Rattle.follow_numbers.proofs.NextStates.{body_at, found_at, refs_at, cells_at}
use Rattle.follow_numbers.proofs.NextMoves.{AreMatched, next_offset, both_go_on}
use Rattle.follow_operands.proofs.DistinctLocals.{read_slot}
use Rattle.follow_operands.proofs.LocalRules.{refers_by, rule_here, low_local, loads}
use Rattle.follow_operands.proofs.ReferenceSlots.{has_slot}
use Rattle.follow_operands.proofs.SlottedTables.{body_slotted}
use Rattle.follow_operands.proofs.StoredReferences.{refers}
use Rattle.follow_operands.proofs.WideLocals.{source_slot}

module _ {setting : Setting} {state : State} {other : split.State} (code : IsWideCode setting) (local : ℕ) where
  pub load_ref_follows : StandsAt setting state other (op.Load value_kind.Ref local) → AreMatched setting state other
  load_ref_follows here =
      let body = body_at here in
      let rule = rule_here code here in
      let load = loads code value_kind.Ref local here in
      let reference = refers load.value (refers_by setting.world state.objects rule.of load.type load.kind load.value load.fits) in
      let low = low_local code here local load.low in
      let slotted = body_slotted setting code.compiled body (found_at here).of_set here.frame.pc rule.types rule.at local load.type load.there load.kind in
      let found = has_slot body local low slotted in
      let insn = insns.Load kind.Ref found.0 in
      let emitted : emitted_at setting body here.frame.pc (op.Load value_kind.Ref local) ≡ alone insn =
      ap (λ (slot : Option ℕ). alone (insns.Load kind.Ref (unwrap_or slot 0))) (source_slot setting code.compiled body (found_at here).of_set local low ∙ found.1) in
      let after = next_offset code here insn [] emitted in
      let held : slice_get here.split.refs.locals found.0 ≡ Some (reference_of load.value) =
      ap (λ (refs : List Reference). slice_get refs found.0) here.youngest.locals.refs_are
      ∙ read_slot (local_reference here.frame) (reference_locals body) local found.0 found.1
      ∙ ap (λ value. Some (option_map_or reference_of value None)) load.at in
      both_go_on code here insn [] emitted (load.value ∷ here.frame.operands) (push_ref (reference_of load.value) here.split)
      (record {
        method = refl;
        ref_locals = refl;
        cell_locals = refl;
        refs = ap (λ refs. reference_of load.value ∷ refs) (refs_at here code) ∙ sym (reference.refs here.frame.operands);
        cells = cells_at here code ∙ sym (reference.cells here.frame.operands);
      })
      load.typed (ap (λ found. using found (λ reference. split_moves.goes_on other (push_ref reference here.split) here.others after)) held)
