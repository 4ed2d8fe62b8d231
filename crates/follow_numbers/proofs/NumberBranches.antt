-- The split machine follows the typed one at jumps, and at branches on whole numbers.
use Rattle.std.proofs.Common.{◌≡◌, ℕ, ℤ, Bool, true, false, if◌then◌else◌, Option, Some, map, unwrap_or, List, [], ◌∷◌, refl, ap, ◌∙◌}
use Rattle.std.specs.Prelude.{pos}
use Rattle.cell_num.specs.declared.conditions.Cond.{Cond}
use Rattle.cell_num.specs.declared.conditions.Cond.TheVariants as cond
use Rattle.cell_num.specs.Conditions.{is_met}
use Rattle.std.specs.Ordering.{int_eq}
use Rattle.insn_form.specs.declared.SwitchForm.{SwitchForm}
use Rattle.insn_form.specs.declared.SwitchForm.TheVariants as switch
use Rattle.insn_form.specs.declared.SwitchRow.{SwitchRow}
use Rattle.image_instr.specs.declared.insn.SwitchRow as image_row
use Rattle.image_instr.specs.Switch.{target_in}
use Rattle.jvm_model.specs.Operands.{row_target}
use Rattle.mote_model.specs.SplitStep as split_step
use Rattle.image_instr.specs.declared.insn.MInsn.TheVariants as insns
use Rattle.image_instr.specs.declared.insn.Width.{Width}
use Rattle.image_instr.specs.declared.insn.Width.TheVariants as width
use Rattle.body_form.specs.declared.op.Op.TheVariants as op
use Rattle.jvm_model.specs.ImageEmission.{offset_of}
use Rattle.jvm_model.specs.ImageExpansion.{condition_of, alone, moved_row, switch_insn}
use Rattle.jvm_model.specs.State.{Value, Whole}
use Rattle.mote_model.specs.Numbers.{cond_of}
use Rattle.mote_model.specs.State.{Frame as SplitFrame}
use Rattle.mote_model.specs.SplitMoves as split_moves
use Rattle.mote_model.specs.SplitMoves.{SplitMove, with_cells, take_number}
use Rattle.mote_model.specs.SplitState as split
use Rattle.typed_machine.specs.TypedState.{State}
use Rattle.typed_machine.specs.TypedStep.{if_number, if_numbers, choose}
use Rattle.typed_machine.specs.TypedWorld.{pc_after}
use Rattle.match_states.specs.Setting.{Setting, source_for}
use Rattle.follow_numbers.specs.WideCode.{value_cells, IsWideCode, StandsAt}
use Rattle.follow_numbers.proofs.NextStates.{body_at, typed_move, refs_at, cells_at}
use Rattle.follow_numbers.proofs.NextMoves.{AreMatched, next_offset, both_jump, both_branch}
use Rattle.follow_numbers.proofs.TakenNumbers.{AsksOne, take_int, one_number, two_numbers, refs_of, cells_of, ints_of, top_is_two}

same_condition : (c : Cond) → cond_of (condition_of c) ≡ c
same_condition cond.Eq = refl
same_condition cond.Ne = refl
same_condition cond.Lt = refl
same_condition cond.Ge = refl
same_condition cond.Gt = refl
same_condition cond.Le = refl

one_target : (offset : ℕ → ℕ) (default target to : ℕ) (found : Option ℕ) → to ≡ offset (unwrap_or found default) → (b : Bool) → (if b then offset target else to) ≡ offset (unwrap_or (if b then Some target else found) default)
one_target offset default target to found same true = refl
one_target offset default target to found same false = same

-- both switches go to the same pc
same_target : (offset : ℕ → ℕ) (default : ℕ) (key : ℤ) (rows : List SwitchRow) → target_in (offset default) (map (moved_row offset) rows) key ≡ offset (unwrap_or (row_target key rows) default)
same_target offset default key [] = refl
same_target offset default key (row ∷ rows) =
    one_target offset default row.target (target_in (offset default) (map (moved_row offset) rows) key) (row_target key rows) (same_target offset default key rows) (int_eq row.key key)

-- a switch of either form chooses among its rows
chooses : (setting : Setting) (state : split.State) (frame : SplitFrame) (others : List SplitFrame) (next : ℕ) (form : SwitchForm) (default : ℕ) (rows : List SwitchRow) (moved : List image_row.SwitchRow)
    → split_step.move_of setting.image state frame others next (switch_insn form width.Two default rows) moved ≡ split_step.choose state frame others width.Two moved default
chooses setting state frame others next switch.Lookup default rows moved = refl
chooses setting state frame others next switch.Table default rows moved = refl

module _ {setting : Setting} {state : State} {other : split.State} (code : IsWideCode setting) where
  pub goto_follows : (target : ℕ) → StandsAt setting state other (op.Goto target) → AreMatched setting state other
  goto_follows target here =
      let insn = insns.Goto (offset_of (source_for setting (body_at here)) target) in
      both_jump code here insn [] refl here.frame.operands here.split
      (record { method = refl; ref_locals = refl; cell_locals = refl; refs = refs_at here code; cells = cells_at here code })
      target refl (typed_move here) refl

  pub switch_follows : (form : SwitchForm) (default : ℕ) (rows : List SwitchRow) → StandsAt setting state other (op.Switch form default rows) → AreMatched setting state other
  switch_follows form default rows here =
      let offset = offset_of (source_for setting (body_at here)) in
      let moved = map (moved_row offset) rows in
      let does : List Value → _ = choose state here.frame here.frames (λ key. unwrap_or (row_target key rows) default) in
      let one = one_number code here does (record { empty = refl; null = λ below. refl; name = λ name below. refl }) here.frame.operands (typed_move here) in
      let operands = Whole one.number ∷ one.below in
      let ints = ints_of code here operands one.are in
      let last = with_cells here.split (value_cells one.below) in
      let insn = switch_insn form width.Two (offset default) rows in
      let emitted = ap (λ (w : Width). (switch_insn form w (offset default) rows, moved) ∷ []) (top_is_two code here one.number one.below one.are) in
      let after = next_offset code here insn moved emitted in
      both_jump code here insn moved emitted one.below last
      (record { method = refl; ref_locals = refl; cell_locals = refl; refs = refs_of code here operands one.are; cells = refl })
      (unwrap_or (row_target one.number rows) default) refl (typed_move here ∙ ap does one.are)
      (chooses setting other here.split here.others after form (offset default) rows moved
      ∙ take_int here.split one.number (value_cells one.below) ints.0 (cells_of code here operands one.are) (λ key rest. split_moves.jumps other rest here.others (target_in (offset default) moved key))
      ∙ ap (split_moves.jumps other last here.others) (same_target offset default one.number rows))

  pub if_follows : (c : Cond) (target : ℕ) → StandsAt setting state other (op.If c target) → AreMatched setting state other
  if_follows c target here =
      let next = pc_after (body_at here).ops here.frame.pc in
      let offset = offset_of (source_for setting (body_at here)) target in
      let insn = insns.Jz width.Two (condition_of c) offset in
      let does : List Value → _ = if_number state here.frame here.frames next (λ number. is_met c number (pos 0)) target in
      let one = one_number code here does (record { empty = refl; null = λ below. refl; name = λ name below. refl }) here.frame.operands (typed_move here) in
      let ints = ints_of code here (Whole one.number ∷ one.below) one.are in
      let last = with_cells here.split (value_cells one.below) in
      let two = top_is_two code here one.number one.below one.are in
      let emitted = ap (λ (w : Width). alone (insns.Jz w (condition_of c) offset)) two in
      let after = next_offset code here insn [] emitted in
      both_branch code here insn [] emitted one.below last
      (record { method = refl; ref_locals = refl; cell_locals = refl; refs = refs_of code here (Whole one.number ∷ one.below) one.are; cells = refl })
      (is_met c one.number (pos 0)) target refl (typed_move here ∙ ap does one.are)
      (take_int here.split one.number (value_cells one.below) ints.0 (cells_of code here (Whole one.number ∷ one.below) one.are)
      (λ number rest. split_moves.branches (is_met (cond_of (condition_of c)) number (pos 0)) other rest here.others offset after)
      ∙ ap (λ (test : Cond). split_moves.branches (is_met test one.number (pos 0)) other last here.others offset after) (same_condition c))

  pub if_cmp_follows : (c : Cond) (target : ℕ) → StandsAt setting state other (op.IfCmp c target) → AreMatched setting state other
  if_cmp_follows c target here =
      let next = pc_after (body_at here).ops here.frame.pc in
      let offset = offset_of (source_for setting (body_at here)) target in
      let insn = insns.JCmp width.Two (condition_of c) offset in
      let does : List Value → _ = if_numbers state here.frame here.frames next (is_met c) target in
      let asks : AsksOne does = record { empty = refl; null = λ below. refl; name = λ name below. refl } in
      let numbers = two_numbers code here does asks (λ b. record { empty = refl; null = λ below. refl; name = λ name below. refl }) here.frame.operands (typed_move here) in
      let operands = Whole numbers.b ∷ Whole numbers.a ∷ numbers.below in
      let ints = ints_of code here operands numbers.are in
      let first = with_cells here.split (value_cells (Whole numbers.a ∷ numbers.below)) in
      let last = with_cells first (value_cells numbers.below) in
      let emitted = ap (λ (w : Width). alone (insns.JCmp w (condition_of c) offset)) (top_is_two code here numbers.b (Whole numbers.a ∷ numbers.below) numbers.are) in
      let after = next_offset code here insn [] emitted in
      both_branch code here insn [] emitted numbers.below last
      (record { method = refl; ref_locals = refl; cell_locals = refl; refs = refs_of code here operands numbers.are; cells = refl })
      (is_met c numbers.a numbers.b) target refl (typed_move here ∙ ap does numbers.are)
      (take_int here.split numbers.b (value_cells (Whole numbers.a ∷ numbers.below)) ints.0 (cells_of code here operands numbers.are)
      (λ b below. take_number width.Two below (λ a rest. split_moves.branches (is_met (cond_of (condition_of c)) a b) other rest here.others offset after))
      ∙ take_int first numbers.a (value_cells numbers.below) ints.1.0 refl (λ a rest. split_moves.branches (is_met (cond_of (condition_of c)) a numbers.b) other rest here.others offset after)
      ∙ ap (λ (test : Cond). split_moves.branches (is_met test numbers.a numbers.b) other last here.others offset after) (same_condition c))
