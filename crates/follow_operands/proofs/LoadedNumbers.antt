-- The split machine follows the typed one where a whole number is loaded.
use Rattle.std.proofs.Common.{◌≡◌, ℕ, [], ◌∷◌, Some, refl, ap, ap₂, ◌∙◌}
use Rattle.cell_num.specs.Cells.{low_cell, high_cell}
use Rattle.image_instr.specs.declared.insn.Kind.TheVariants as kind
use Rattle.image_instr.specs.declared.insn.MInsn.TheVariants as insns
use Rattle.image_instr.specs.declared.insn.Width.{Width}
use Rattle.insn_form.specs.declared.ValueKind.TheVariants as value_kind
use Rattle.body_form.specs.declared.op.Op.TheVariants as op
use Rattle.jvm_model.specs.ImageExpansion.{alone}
use Rattle.jvm_model.specs.State.{Whole}
use Rattle.jvm_model.specs.WidthsShapes.{kind_of_width}
use Rattle.mote_model.specs.SplitMoves as split_moves
use Rattle.mote_model.specs.SplitMoves.{using, push_cells}
use Rattle.mote_model.specs.SplitState as split
use Rattle.typed_machine.specs.TypedMoves.{goes_on}
use Rattle.typed_machine.specs.TypedState.{State}
use Rattle.typed_machine.specs.TypedWorld.{pc_after}
use Rattle.match_states.specs.Setting.{Setting}
use Rattle.match_code.specs.Standing.{emitted_at}
use Rattle.follow_numbers.specs.WideCode.{IsWideCode, StandsAt}
use Rattle.follow_numbers.proofs.NextStates.{body_at, found_at, refs_at, cells_at}
use Rattle.follow_numbers.proofs.NextMoves.{AreMatched, next_offset, both_go_on}
use Rattle.follow_operands.proofs.LocalRules.{whole_by, rule_here, low_local, loads}
use Rattle.follow_operands.proofs.NumberLocals.{two_here, held_two}
use Rattle.follow_operands.proofs.WideLocals.{source_cell}

module _ {setting : Setting} {state : State} {other : split.State} (code : IsWideCode setting) (local : ℕ) where
  pub load_int_follows : StandsAt setting state other (op.Load value_kind.Int local) → AreMatched setting state other
  load_int_follows here =
      let body = body_at here in
      let load = loads code value_kind.Int local here in
      let whole = whole_by setting.world state.objects (rule_here code here).of load.type load.kind load.value load.fits in
      let number = whole.0 in
      let held = here.youngest.locals.numbers local number (load.at ∙ ap (λ value. Some value) whole.1) in
      let insn = insns.Load kind.Two held.cell in
      let emitted : emitted_at setting body here.frame.pc (op.Load value_kind.Int local) ≡ alone insn =
      ap₂ (λ (w : Width) (cell : ℕ). alone (insns.Load (kind_of_width w) cell)) (two_here code here local)
      (source_cell setting code.compiled body (found_at here).of_set local (low_local code here local load.low) held.cell held.has) in
      let after = next_offset code here insn [] emitted in
      both_go_on code here insn [] emitted (Whole number ∷ here.frame.operands) (push_cells (low_cell number ∷ high_cell number ∷ []) here.split)
      (record { method = refl; ref_locals = refl; cell_locals = refl; refs = refs_at here code; cells = ap (λ cells. high_cell number ∷ low_cell number ∷ cells) (cells_at here code) })
      (load.typed ∙ ap (λ value. goes_on state here.frame here.frames (pc_after body.ops here.frame.pc) (value ∷ here.frame.operands)) whole.1)
      (ap (λ found. using found (λ cells. split_moves.goes_on other (push_cells cells here.split) here.others after)) (held_two code here local number held))
