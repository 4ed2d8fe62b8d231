-- A caller waits at its call on both machines, without the operands that the call took.
use Rattle.std.proofs.Common.{◌≡◌, ℕ, List, drop, Some, sym, ap, subst, ◌∙◌}
use Rattle.body_form.specs.declared.op.MethodUse.{MethodUse}
use Rattle.body_form.specs.declared.op.Op.{Op}
use Rattle.jvm_model.specs.ImageExpansion.{Emitted}
use Rattle.jvm_model.specs.WidthsShapes.{shapes_at}
use Rattle.mote_model.specs.State.{Reference, Frame as SplitFrame}
use Rattle.mote_model.specs.SplitMoves.{with_refs, with_cells}
use Rattle.mote_model.specs.SplitState as split
use Rattle.typed_machine.specs.TypedMoves.{at_pc}
use Rattle.typed_machine.specs.TypedState.{State}
use Rattle.type_safety.proofs.fitting.EachLists.{each_drop}
use Rattle.match_states.specs.MatchedFrames.{IsOfShape, LocalsMatch, WaitingMatches, call_at}
use Rattle.match_states.specs.Setting.{Setting, table_for, widths_for}
use Rattle.match_code.specs.Standing.{StandsBetween}
use Rattle.match_code.proofs.MatchedCode.{cuts_at}
use Rattle.follow_numbers.specs.WideCode.{value_refs, value_cells, IsWideCode, StandsAt}
use Rattle.follow_numbers.proofs.NextStates.{body_at, found_at}
use Rattle.follow_calls.proofs.WaitingOperands.{operands_below}

module _ {setting : Setting} {state : State} {other : split.State} {instruction : Op} (code : IsWideCode setting) (here : StandsAt setting state other instruction)
    (used : MethodUse) (taken : ℕ) (call : call_at instruction ≡ Some (used, taken)) (cut : SplitFrame) (rest : List Emitted)
    (stands : StandsBetween setting (body_at here) cut here.frame.pc instruction (cuts_at setting (body_at here) here.frame.pc used) rest)
    (method : cut.method ≡ here.split.method) (refs : cut.refs ≡ here.split.refs) (cells : cut.cells.locals ≡ here.split.cells.locals) where
  locals_wait : LocalsMatch setting (body_at here) here.frame cut.refs.locals cut.cells.locals
  locals_wait =
      subst (λ (all : List Reference). LocalsMatch setting (body_at here) here.frame all cut.cells.locals) (sym (ap (λ refs. refs.locals) refs))
      (subst (LocalsMatch setting (body_at here) here.frame here.split.refs.locals) (sym cells) here.youngest.locals)

  -- the references and the cells below those that are taken are those of the other operands
  pub caller_waits : (refs_below : List Reference) (cells_below : List ℕ) → refs_below ≡ value_refs (drop taken here.frame.operands) → cells_below ≡ value_cells (drop taken here.frame.operands)
      → WaitingMatches setting (at_pc here.frame here.frame.pc (drop taken here.frame.operands)) (with_cells (with_refs cut refs_below) cells_below)
  caller_waits refs_below cells_below refs_are cells_are =
      let body = body_at here in
      let pc = here.frame.pc in
      let shapes = shapes_at (widths_for setting body) (table_for setting body) pc in
      let shaped = each_drop IsOfShape taken shapes here.frame.operands here.youngest.operands.shaped in
      let stand = operands_below setting body (code.wide body (found_at here).of_set) pc taken (drop taken here.frame.operands) shaped in
      let locals = locals_wait in
      record {
        body = here.youngest.body;
        found = here.youngest.found;
        method = method ∙ here.youngest.method;
        instruction = instruction;
        at = here.at;
        used = used;
        taken = taken;
        call = call;
        pc = stands.pc_is;
        locals = record { refs_are = locals.refs_are; slotted = locals.slotted; count = locals.count; numbers = locals.numbers };
        operands = record { shaped = shaped; refs_are = refs_are ∙ sym stand.refs; cells_are = cells_are ∙ sym stand.cells };
      }
