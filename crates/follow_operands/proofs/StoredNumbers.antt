-- The split machine follows the typed one where a whole number is stored. Where a reference stood before, its slot is
-- cleared, which the account sees.
use Rattle.std.proofs.Common.{◌≡◌, ℕ, ℤ, ◌+◌, ◌<◌, false, nat_eq, List, [], ◌∷◌, ◌++◌, map, length, Option, Some, None, refl, sym, ap, ap₂, ◌∙◌, arith}
use Rattle.std.specs.Option.{option_map_or}
use Rattle.std.proofs.lemmas.Bool.Decides.{nat_tests}
use Rattle.cell_num.specs.Cells.{low_cell, high_cell}
use Rattle.image_instr.specs.declared.insn.Kind.TheVariants as kind
use Rattle.image_instr.specs.declared.insn.MInsn.TheVariants as insns
use Rattle.image_instr.specs.declared.insn.Width.{Width}
use Rattle.image_instr.specs.Insn.{insn_bytes}
use Rattle.insn_form.specs.declared.ValueKind.TheVariants as value_kind
use Rattle.body_form.specs.declared.op.Op.TheVariants as op
use Rattle.jvm_model.specs.ImageExpansion.{Emitted, alone}
use Rattle.jvm_model.specs.State.{Value, Whole}
use Rattle.jvm_model.specs.WidthsShapes.{kind_of_width}
use Rattle.jvm_model.specs.WidthsSlots.{is_store, reference_locals, slot_of, cell_of}
use Rattle.mote_model.specs.State.{Reference, Frame as SplitFrame}
use Rattle.mote_model.specs.SplitMoves as split_moves
use Rattle.mote_model.specs.SplitMoves.{with_cells, with_ref_locals, with_cell_locals, with_ref_at, using}
use Rattle.mote_model.specs.SplitState as split
use Rattle.typed_machine.specs.TypedMoves.{goes_on}
use Rattle.typed_machine.specs.TypedState.{State}
use Rattle.typed_machine.specs.TypedStep.{move}
use Rattle.typed_machine.specs.TypedWorld.{pc_after}
use Rattle.match_states.specs.MatchedFrames.{local_reference}
use Rattle.match_states.specs.Setting.{Setting, widths_for}
use Rattle.match_code.specs.Standing.{emitted_at}
use Rattle.match_code.proofs.QuietInsns.{stores_two}
use Rattle.match_code.proofs.QuietRuns.{GoesOverAll, OverNone, OverOne}
use Rattle.follow_numbers.specs.WideCode.{value_refs, value_cells, IsWideCode, StandsAt}
use Rattle.follow_numbers.proofs.NextStates.{body_at, found_at, refs_at, cells_at}
use Rattle.follow_numbers.proofs.NextMoves.{AreMatched}
use Rattle.follow_operands.proofs.DistinctLocals.{place_lacks, slots_kept, sets_reference}
use Rattle.follow_operands.proofs.LocalRules.{whole_by, rule_here, low_local, stores}
use Rattle.follow_operands.proofs.MovedFrames.{frame_with, all_quiet, one_loud}
use Rattle.follow_operands.proofs.NumberLocals.{two_here, inside_here, cells_after, number_set}
use Rattle.follow_operands.proofs.ReferenceSlots.{distinct_slots}
use Rattle.follow_operands.proofs.SetFrames.{locals_set, reference_beside, reference_here, typed_store}
use Rattle.follow_operands.proofs.WideLocals.{any_there, stored_cell, source_cell, source_slot}
use Rattle.follow_operands.proofs.WrittenCells.{writes}

module _ {setting : Setting} {state : State} {other : split.State} (code : IsWideCode setting) (local : ℕ) (here : StandsAt setting state other (op.Store value_kind.Int local)) where
  module _ (number : ℤ) (below : List Value) (are : here.frame.operands ≡ Whole number ∷ below) (low : local < length here.frame.locals)
      (cell : ℕ) (has : cell_of (body_at here) (widths_for setting (body_at here)) local ≡ Some cell) where
    abbrev set : List (Option Value)
    set = locals_set code here local (Whole number)

    abbrev typed : move setting.world state ≡ goes_on state (frame_with code here set) here.frames (pc_after (body_at here).ops here.frame.pc) below
    typed = typed_store code value_kind.Int local here (Whole number) below are low

    -- the frame with the cells of the number written
    abbrev wrote : SplitFrame
    wrote = with_cell_locals (with_cells here.split (value_cells below)) (cells_after code here local number low cell has)

    abbrev behind : SplitFrame
    behind = split_moves.at_pc wrote (here.split.pc + length (insn_bytes (insns.Store kind.Two cell) []))

    over_store : GoesOverAll setting.image other here.others here.split (alone (insns.Store kind.Two cell)) behind
    over_store =
        OverOne here.split wrote behind (insns.Store kind.Two cell) [] []
        (stores_two setting.image (split.with_frames other (here.split ∷ here.others)) here.split here.others (high_cell number) (low_cell number) (value_cells below) (cells_at here code ∙ ap value_cells are)
        cell (cells_after code here local number low cell has) (writes here.split.cells.locals cell (low_cell number) (high_cell number) (inside_here code here local low cell has)))
        (OverNone behind)

    -- what the slots hold of other locals stays
    abbrev beside : (other : ℕ) → nat_eq other local ≡ false → local_reference (frame_with code here set) other ≡ local_reference here.frame other
    beside = reference_beside code here local (Whole number)

    by_slot : (found : Option ℕ) → slot_of (body_at here) local ≡ found
        → emitted_at setting (body_at here) here.frame.pc (op.Store value_kind.Int local) ≡ alone (insns.Store kind.Two cell) ++ option_map_or (λ (slot : ℕ). alone (insns.RClear slot)) found [] → AreMatched setting state other
    by_slot None lacks emitted =
        all_quiet code here set below typed (alone (insns.Store kind.Two cell)) emitted behind over_store
        (record {
          method = refl;
          locals =
              number_set code here local number low cell has here.split.refs.locals
              (here.youngest.locals.refs_are
              ∙ slots_kept (local_reference here.frame) local (local_reference (frame_with code here set)) beside (reference_locals (body_at here)) (place_lacks (reference_locals (body_at here)) local lacks));
          refs = refs_at here code ∙ ap value_refs are;
          cells = refl;
        })
    by_slot (Some slot) slotted emitted =
        let refs = map (local_reference (frame_with code here set)) (reference_locals (body_at here)) in
        let cleared = with_ref_locals behind refs in
        let after = behind.pc + length (insn_bytes (insns.RClear slot) []) in
        let last = split_moves.at_pc cleared after in
        let clears : with_ref_at behind.refs.locals slot None ≡ Some refs =
        ap₂ (λ (refs : List Reference) (reference : Reference). with_ref_at refs slot reference) here.youngest.locals.refs_are (sym (reference_here code here local (Whole number) low))
        ∙ sets_reference (local_reference here.frame) (local_reference (frame_with code here set)) local beside (reference_locals (body_at here)) (distinct_slots (body_at here)) slot slotted in
        one_loud code here set below typed (alone (insns.Store kind.Two cell)) (insns.RClear slot) [] [] emitted behind cleared last over_store refl
        (ap (λ found. using found (λ refs. split_moves.goes_on other (with_ref_locals behind refs) here.others after)) clears) (OverNone last)
        (record {
          method = refl;
          locals = number_set code here local number low cell has refs refl;
          refs = refs_at here code ∙ ap value_refs are;
          cells = refl;
        })

  pub store_int_follows : AreMatched setting state other
  store_int_follows =
      let body = body_at here in
      let store = stores code value_kind.Int local here in
      let whole = whole_by setting.world state.objects (rule_here code here).of store.type store.kind store.value store.fits in
      let low_here = low_local code here local store.low in
      let stored = any_there (is_store value_kind.Int local) here.frame.pc (op.Store value_kind.Int local) (λ pc. grind (arith, nat_tests)) body.ops here.at in
      let found = stored_cell body (widths_for setting body) (two_here code here) local low_here stored in
      let cell = source_cell setting code.compiled body (found_at here).of_set local low_here found.0 found.1 in
      let emitted : emitted_at setting body here.frame.pc (op.Store value_kind.Int local) ≡ alone (insns.Store kind.Two found.0) ++ option_map_or (λ (slot : ℕ). alone (insns.RClear slot)) (slot_of body local) [] =
      ap₂ (λ (first rest : List Emitted). first ++ rest)
      (ap₂ (λ (w : Width) (cell : ℕ). alone (insns.Store (kind_of_width w) cell)) (two_here code here local) cell)
      (ap (λ (slot : Option ℕ). option_map_or (λ (slot : ℕ). alone (insns.RClear slot)) slot []) (source_slot setting code.compiled body (found_at here).of_set local low_here)) in
      by_slot whole.0 store.below (store.are ∙ ap (λ value. value ∷ store.below) whole.1) store.low found.0 found.1 (slot_of body local) refl emitted
