-- Matches of an instruction that is one machine instruction: it goes on, or jumps.
use Rattle.std.proofs.Common.{◌≡◌, ℕ, ◌+◌, Bool, true, false, nat_lt, if◌then◌else◌, List, [], ◌∷◌, length, Option, Some, None, refl, sym, ap, subst, ◌∙◌}
use Rattle.account.specs.Account.{Does, no_need, tick_need}
use Rattle.account.specs.RunLaws.{Rests, Matches}
use Rattle.image_instr.specs.declared.insn.MInsn.{MInsn}
use Rattle.image_instr.specs.declared.insn.SwitchRow.{SwitchRow}
use Rattle.image_instr.specs.Insn.{insn_bytes, IsInsn}
use Rattle.body_form.specs.declared.op.Op.{Op}
use Rattle.jvm_model.specs.ImageEmission.{offset_of}
use Rattle.jvm_model.specs.State.{Value}
use Rattle.mote_model.specs.State.{Frame as SplitFrame}
use Rattle.mote_model.specs.SplitMoves as split_moves
use Rattle.mote_model.specs.SplitState as split
use Rattle.mote_model.specs.SplitStep as split_step
use Rattle.typed_machine.specs.TypedMoves.{goes_on, jumps, branches}
use Rattle.typed_machine.specs.TypedState.{State}
use Rattle.typed_machine.specs.TypedStep.{move}
use Rattle.typed_machine.specs.TypedWorld.{pc_after}
use Rattle.type_safety.specs.Safety.{MoveFits}
use Rattle.match_states.specs.Followed.{StatesMatch, EndingsMatch}
use Rattle.match_states.specs.Setting.{Setting, source_for}
use Rattle.typed_machine.specs.TypedView.{machine}
use Rattle.match_code.specs.Standing.{emitted_at, StandsInExpansion}
use Rattle.match_code.proofs.CodeLayout.{same_after}
use Rattle.match_code.proofs.CodeMoves.{insn_here, move_here, goes_past}
use Rattle.match_code.proofs.CodeOrder.{same_order}
use Rattle.match_code.proofs.MatchedCode.{youngest_stands}
use Rattle.follow_numbers.specs.WideCode.{IsWideCode, StandsAt, HasOperands}
use Rattle.follow_numbers.proofs.NextStates.{body_at, found_at, is_unstuck, goes_to}

-- the split machine does as the typed one does from states that match
abbrev pub AreMatched : Setting → State → split.State → Type 0
AreMatched setting state other = Matches (machine setting.world) (split_step.machine setting.image) (StatesMatch setting) (EndingsMatch setting) state other

module _ {setting : Setting} {state : State} {other : split.State} {instruction : Op} (code : IsWideCode setting) (here : StandsAt setting state other instruction) where
  -- where the typed machine would go on, there is a next pc
  pub next_there : (next : Option ℕ) (values : List Value) → MoveFits setting.world setting.tables (goes_on state here.frame here.frames next values) → (to : ℕ) × (next ≡ Some to)
  next_there None values fits = absurd fits
  next_there (Some to) values fits = (to, refl)

  module _ (insn : MInsn) (rows : List SwitchRow) (emitted : emitted_at setting (body_at here) here.frame.pc instruction ≡ (insn, rows) ∷ []) where
    pub stands_alone : StandsInExpansion setting (body_at here) here.split here.frame.pc instruction [] insn rows []
    stands_alone = youngest_stands setting here.frame here.split here.youngest instruction here.at insn rows [] emitted

    pub is_alone : IsInsn insn rows
    is_alone = insn_here setting (body_at here) here.split here.frame.pc instruction [] insn rows (code.insns (body_at here) (found_at here).of_set) [] stands_alone

    abbrev pub next_offset : ℕ
    next_offset = here.split.pc + length (insn_bytes insn rows)

    pub alone_move : split_step.move setting.image other ≡ split_step.move_of setting.image other here.split here.others next_offset insn rows
    alone_move = move_here setting (body_at here) here.split here.frame.pc instruction [] insn rows code.compiled [] stands_alone is_alone other here.others here.others_are

    module _ (values : List Value) (last : SplitFrame) (has : HasOperands here.split last values) where
      -- both go on
      pub both_go_on : move setting.world state ≡ goes_on state here.frame here.frames (pc_after (body_at here).ops here.frame.pc) values
          → split_step.move_of setting.image other here.split here.others next_offset insn rows ≡ split_moves.goes_on other last here.others next_offset → AreMatched setting state other
      both_go_on typed moves =
          let next = next_there (pc_after (body_at here).ops here.frame.pc) values (subst (MoveFits setting.world setting.tables) typed (is_unstuck here code)) in
          let last_there = split_moves.at_pc last next_offset in
          let past =
          goes_past setting (body_at here) here.split here.frame.pc instruction [] insn rows code.compiled stands_alone next.0 (sym (same_after (body_at here).ops here.frame.pc) ∙ next.1) last_there
          (record { method = has.method; pc = refl }) in
          goes_to here code no_need next.0 values (typed ∙ ap (λ to. goes_on state here.frame here.frames to values) next.1) last_there
          (record { method = has.method; ref_locals = has.ref_locals; cell_locals = has.cell_locals; refs = has.refs; cells = has.cells }) past
          other (Rests other) (alone_move ∙ moves)

      -- both jump
      pub both_jump : (target : ℕ) → last.pc ≡ here.split.pc → move setting.world state ≡ jumps state here.frame here.frames target values
          → split_step.move_of setting.image other here.split here.others next_offset insn rows ≡ split_moves.jumps other last here.others (offset_of (source_for setting (body_at here)) target) → AreMatched setting state other
      both_jump target stays typed moves =
          let offset = offset_of (source_for setting (body_at here)) target in
          let order : nat_lt last.pc offset ≡ nat_lt here.frame.pc target =
          ap (λ (pc : ℕ). nat_lt pc offset) stays ∙ same_order setting code.compiled (body_at here) here.split here.frame.pc instruction [] insn rows [] stands_alone is_alone target in
          goes_to here code (if nat_lt here.frame.pc target then no_need else tick_need) target values typed (split_moves.at_pc last offset)
          (record { method = has.method; ref_locals = has.ref_locals; cell_locals = has.cell_locals; refs = has.refs; cells = has.cells }) refl
          other (Rests other) (alone_move ∙ moves ∙ ap (λ (b : Bool). Does (if b then no_need else tick_need) [] (split.with_frames other (split_moves.at_pc last offset ∷ here.others))) order)

      -- both branch by the same test
      pub both_branch : (taken : Bool) (target : ℕ) → last.pc ≡ here.split.pc
          → move setting.world state ≡ branches taken state here.frame here.frames target (pc_after (body_at here).ops here.frame.pc) values
          → split_step.move_of setting.image other here.split here.others next_offset insn rows ≡ split_moves.branches taken other last here.others (offset_of (source_for setting (body_at here)) target) next_offset → AreMatched setting state other
      both_branch true target stays typed moves = both_jump target stays typed moves
      both_branch false target stays typed moves = both_go_on typed moves
