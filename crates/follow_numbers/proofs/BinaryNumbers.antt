-- The split machine follows the typed one at the arithmetic of two whole numbers; both throw where the divisor is 0.
use Rattle.std.proofs.Common.{◌≡◌, ℤ, List, [], ◌∷◌, Option, Some, None, refl, ap, ◌∙◌}
use Rattle.cell_num.specs.declared.arithmetic.BinOp.{BinOp}
use Rattle.cell_num.specs.declared.arithmetic.BinOp.TheVariants as bin
use Rattle.cell_num.specs.Arithmetic.{applied}
use Rattle.image_instr.specs.declared.insn.MInsn.TheVariants as insns
use Rattle.image_instr.specs.declared.insn.Width.{Width}
use Rattle.image_instr.specs.declared.insn.Width.TheVariants as width
use Rattle.body_form.specs.declared.op.Op.TheVariants as op
use Rattle.class_tree.specs.Tree.{Gathers}
use Rattle.jvm_model.specs.ImageExpansion.{alone, operation_of}
use Rattle.jvm_model.specs.ImageLimits.{first_excess}
use Rattle.jvm_model.specs.State.{Value, Whole}
use Rattle.mote_model.specs.Numbers.{op_of}
use Rattle.mote_model.specs.SplitMoves.{SplitMove, with_cells, push_number, take_number}
use Rattle.mote_model.specs.SplitState as split
use Rattle.mote_model.specs.SplitStep as split_step
use Rattle.typed_machine.specs.TypedMoves.{arithmetic_exception}
use Rattle.typed_machine.specs.TypedState.{State}
use Rattle.typed_machine.specs.TypedStep as step
use Rattle.typed_machine.specs.TypedStep.{move}
use Rattle.typed_machine.specs.TypedWorld.{pc_after}
use Rattle.match_states.specs.Setting.{Setting}
use Rattle.follow_numbers.specs.WideCode.{value_cells, IsWideCode, StandsAt}
use Rattle.follow_numbers.proofs.NextStates.{body_at, typed_move}
use Rattle.follow_numbers.proofs.NextMoves.{AreMatched, next_offset, both_go_on}
use Rattle.follow_numbers.proofs.TakenNumbers.{AsksOne, take_int, two_numbers, refs_of, cells_of, ints_of, top_is_two}
use Rattle.follow_numbers.proofs.MachineThrows.{throw_follows}
use Rattle.follow_numbers.proofs.LibraryObjects.{arithmetic_alike}

same_operation : (o : BinOp) → op_of (operation_of o) ≡ o
same_operation bin.Add = refl
same_operation bin.Sub = refl
same_operation bin.Mul = refl
same_operation bin.Div = refl
same_operation bin.Rem = refl
same_operation bin.Shl = refl
same_operation bin.Shr = refl
same_operation bin.Ushr = refl
same_operation bin.And = refl
same_operation bin.Or = refl
same_operation bin.Xor = refl

module _ {setting : Setting} {state : State} {other : split.State} (code : IsWideCode setting) (closed : Gathers setting.world.files None) (within : first_excess setting.world.files setting.numbering ≡ None) where
  pub bin_follows : (operation : BinOp) → StandsAt setting state other (op.Bin operation) → AreMatched setting state other
  bin_follows operation here =
      let next = pc_after (body_at here).ops here.frame.pc in
      let insn = insns.Bin width.Two (operation_of operation) in
      let does : List Value → _ = step.compute setting.world state here.frame here.frames next operation in
      let asks : AsksOne does = record { empty = refl; null = λ below. refl; name = λ name below. refl } in
      let numbers = two_numbers code here does asks (λ b. record { empty = refl; null = λ below. refl; name = λ name below. refl }) here.frame.operands (typed_move here) in
      let operands = Whole numbers.b ∷ Whole numbers.a ∷ numbers.below in
      let ints = ints_of code here operands numbers.are in
      let first = with_cells here.split (value_cells (Whole numbers.a ∷ numbers.below)) in
      let rest = with_cells first (value_cells numbers.below) in
      let emitted = ap (λ (w : Width). alone (insns.Bin w (operation_of operation))) (top_is_two code here numbers.b (Whole numbers.a ∷ numbers.below) numbers.are) in
      let after = next_offset code here insn [] emitted in
      let gives : Option ℤ → SplitMove = split_step.result setting.image other (here.split ∷ here.others) rest here.others after width.Two in
      let typed = typed_move here ∙ ap does numbers.are in
      let moves : split_step.move_of setting.image other here.split here.others after insn [] ≡ gives (applied operation numbers.a numbers.b) =
      take_int here.split numbers.b (value_cells (Whole numbers.a ∷ numbers.below)) ints.0 (cells_of code here operands numbers.are)
      (λ b below. take_number width.Two below (λ a rest. split_step.result setting.image other (here.split ∷ here.others) rest here.others after width.Two (applied (op_of (operation_of operation)) a b)))
      ∙ take_int first numbers.a (value_cells numbers.below) ints.1.0 refl (λ a rest. split_step.result setting.image other (here.split ∷ here.others) rest here.others after width.Two (applied (op_of (operation_of operation)) a numbers.b))
      ∙ ap (λ (o : BinOp). gives (applied o numbers.a numbers.b)) (same_operation operation) in
      let typed_gives = step.result setting.world state here.frame here.frames next numbers.below in
      let by_result : (found : Option ℤ) → applied operation numbers.a numbers.b ≡ found → AreMatched setting state other = λ found is.
      elim found as (λ found. applied operation numbers.a numbers.b ≡ found → AreMatched setting state other) [
        | None ↦ λ is. throw_follows code here arithmetic_exception (arithmetic_alike setting code.compiled closed within) insn [] emitted (typed ∙ ap typed_gives is) (moves ∙ ap gives is)
        | Some number ↦ λ is.
            both_go_on code here insn [] emitted (Whole number ∷ numbers.below) (push_number width.Two number rest)
            (record { method = refl; ref_locals = refl; cell_locals = refl; refs = refs_of code here operands numbers.are; cells = refl })
            (typed ∙ ap typed_gives is) (moves ∙ ap gives is)
      ] is in
      by_result (applied operation numbers.a numbers.b) refl
