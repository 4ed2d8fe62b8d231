-- The split machine follows the typed one where a reference is stored.
use Rattle.std.proofs.Common.{◌≡◌, inl, inr, ℕ, ℤ, ◌+◌, ◌<◌, false, nat_eq, List, [], ◌∷◌, map, length, Option, Some, unwrap_or, refl, sym, ap, ap₂, subst, ◌∙◌, arith}
use Rattle.std.proofs.lemmas.Bool.{cases_Bool, eqb-true}
use Rattle.std.proofs.lemmas.Bool.Decides.{nat_tests}
use Rattle.image_instr.specs.declared.insn.Kind.TheVariants as kind
use Rattle.image_instr.specs.declared.insn.MInsn.TheVariants as insns
use Rattle.image_instr.specs.Insn.{insn_bytes}
use Rattle.insn_form.specs.declared.ValueKind.TheVariants as value_kind
use Rattle.body_form.specs.declared.op.Op.TheVariants as op
use Rattle.jvm_model.specs.ImageExpansion.{alone}
use Rattle.jvm_model.specs.State.{Value, Whole, Null, Name}
use Rattle.jvm_model.specs.WidthsSlots.{is_store, is_reference_parameter, is_stored, reference_locals, slot_of}
use Rattle.mote_model.specs.State.{Reference}
use Rattle.mote_model.specs.SplitMoves as split_moves
use Rattle.mote_model.specs.SplitMoves.{with_refs, with_ref_locals, with_ref_at, take_ref_from, using}
use Rattle.mote_model.specs.SplitState as split
use Rattle.typed_machine.specs.TypedState.{State}
use Rattle.typed_machine.specs.TypedStep.{local_at}
use Rattle.match_states.specs.MatchedFrames.{IsOfShape, reference_of, local_reference, LocalsMatch}
use Rattle.match_states.specs.Setting.{Setting}
use Rattle.match_code.specs.Standing.{emitted_at}
use Rattle.match_code.proofs.QuietRuns.{OverNone}
use Rattle.follow_numbers.specs.WideCode.{value_refs, value_cells, IsWideCode, StandsAt}
use Rattle.follow_numbers.proofs.NextStates.{body_at, found_at, refs_at, cells_at}
use Rattle.follow_numbers.proofs.NextMoves.{AreMatched}
use Rattle.follow_operands.proofs.DistinctLocals.{sets_reference}
use Rattle.follow_operands.proofs.LocalRooms.{or_second}
use Rattle.follow_operands.proofs.LocalRules.{refers_by, rule_here, low_local, stores}
use Rattle.follow_operands.proofs.MovedFrames.{frame_with, one_loud}
use Rattle.follow_operands.proofs.ReferenceSlots.{distinct_slots, has_slot}
use Rattle.follow_operands.proofs.SetFrames.{locals_set, set_here, set_beside, reference_beside, reference_here, typed_store}
use Rattle.follow_operands.proofs.WideLocals.{any_there, source_slot}

-- a reference stands in one half alone, and is no whole number
pub record Refers (value : Value) : Type 0 where
  pub refs : (below : List Value) → value_refs (value ∷ below) ≡ reference_of value ∷ value_refs below
  pub cells : (below : List Value) → value_cells (value ∷ below) ≡ value_cells below
  pub other : (number : ℤ) → value ≡ Whole number → ⊥

null_refers : Refers Null
null_refers = record { refs = λ below. refl; cells = λ below. refl; other = λ number is. cc }

name_refers : (name : ℕ) → Refers (Name name)
name_refers name = record { refs = λ below. refl; cells = λ below. refl; other = λ number is. cc }

pub refers : (value : Value) → IsOfShape kind.Ref value → Refers value
refers value (inl is) = subst Refers (sym is) null_refers
refers value (inr is) = subst Refers (sym is.1) (name_refers is.0)

module _ {setting : Setting} {state : State} {other : split.State} (code : IsWideCode setting) (local : ℕ) (here : StandsAt setting state other (op.Store value_kind.Ref local)) where
  -- the local has a slot, since it is stored here
  slot_here : local < length here.frame.locals → (slot : ℕ) × (slot_of (body_at here) local ≡ Some slot)
  slot_here low =
      let body = body_at here in
      let stored = any_there (is_store value_kind.Ref local) here.frame.pc (op.Store value_kind.Ref local) (λ pc. grind (arith, nat_tests)) body.ops here.at in
      has_slot body local (low_local code here local low) (or_second (is_reference_parameter body local) (is_stored value_kind.Ref body local) stored)

  module _ (value : Value) (reference : Refers value) (below : List Value) (are : here.frame.operands ≡ value ∷ below) (low : local < length here.frame.locals)
      (slot : ℕ) (slotted : slot_of (body_at here) local ≡ Some slot) where
    abbrev set : List (Option Value)
    set = locals_set code here local value

    abbrev beside : (other : ℕ) → nat_eq other local ≡ false → local_reference (frame_with code here set) other ≡ local_reference here.frame other
    beside = reference_beside code here local value

    abbrev refs_after : List Reference
    refs_after = map (local_reference (frame_with code here set)) (reference_locals (body_at here))

    sets_slot : with_ref_at here.split.refs.locals slot (reference_of value) ≡ Some refs_after
    sets_slot =
        ap₂ (λ (refs : List Reference) (held : Reference). with_ref_at refs slot held) here.youngest.locals.refs_are (sym (reference_here code here local value low))
        ∙ sets_reference (local_reference here.frame) (local_reference (frame_with code here set)) local beside (reference_locals (body_at here)) (distinct_slots (body_at here)) slot slotted

    same_value : (held : Value) → Some value ≡ Some held → value ≡ held
    same_value held is = cc

    -- the locals match, since the cells of the others stay
    reference_set : LocalsMatch setting (body_at here) (frame_with code here set) refs_after here.split.cells.locals
    reference_set =
        record {
          refs_are = refl;
          slotted =
              λ found name is. elim (cases_Bool (nat_eq found local)) [
                | inl same ↦ (slot, ap (slot_of (body_at here)) (eqb-true found local same) ∙ slotted)
                | inr differs ↦ here.youngest.locals.slotted found name (sym (set_beside code here local value found differs) ∙ is)
              ];
          count = here.youngest.locals.count;
          numbers =
              λ found number is. elim (cases_Bool (nat_eq found local)) [
                | inl same ↦
                    let one = ap (local_at (frame_with code here set)) (eqb-true found local same) in
                    absurd (reference.other number (same_value (Whole number) (sym (set_here code here local value low) ∙ sym one ∙ is)))
                | inr differs ↦ here.youngest.locals.numbers found number (sym (set_beside code here local value found differs) ∙ is)
              ];
        }

    stores_reference : emitted_at setting (body_at here) here.frame.pc (op.Store value_kind.Ref local) ≡ alone (insns.Store kind.Ref slot) → AreMatched setting state other
    stores_reference emitted =
        let insn = insns.Store kind.Ref slot in
        let after = here.split.pc + length (insn_bytes insn []) in
        let rest = with_refs here.split (value_refs below) in
        let between = with_ref_locals rest refs_after in
        let last = split_moves.at_pc between after in
        let use_it : Reference → _ = λ reference rest. using (with_ref_at rest.refs.locals slot reference) (λ locals. split_moves.goes_on other (with_ref_locals rest locals) here.others after) in
        one_loud code here set below (typed_store code value_kind.Ref local here value below are low) [] insn [] [] emitted here.split between last (OverNone here.split) refl
        (ap (λ (refs : List Reference). take_ref_from here.split refs use_it) (refs_at here code ∙ ap value_refs are ∙ reference.refs below)
        ∙ ap (λ found. using found (λ locals. split_moves.goes_on other (with_ref_locals rest locals) here.others after)) sets_slot)
        (OverNone last)
        (record {
          method = refl;
          locals = reference_set;
          refs = refl;
          cells = cells_at here code ∙ ap value_cells are ∙ reference.cells below;
        })

  pub store_ref_follows : AreMatched setting state other
  store_ref_follows =
      let body = body_at here in
      let store = stores code value_kind.Ref local here in
      let reference = refers store.value (refers_by setting.world state.objects (rule_here code here).of store.type store.kind store.value store.fits) in
      let found = slot_here store.low in
      let emitted : emitted_at setting body here.frame.pc (op.Store value_kind.Ref local) ≡ alone (insns.Store kind.Ref found.0) =
      ap (λ (slot : Option ℕ). alone (insns.Store kind.Ref (unwrap_or slot 0))) (source_slot setting code.compiled body (found_at here).of_set local (low_local code here local store.low) ∙ found.1) in
      stores_reference store.value reference store.below store.are store.low found.0 found.1 emitted
