-- The move of each instruction that the machine runs, from a reached state, stays reached.
use Rattle.std.proofs.Common.{◌≡◌, ℕ, ◌+◌, ◌≤◌, true, List, [], length, drop, reverse, Option, sym, ap, subst}
use Rattle.std.specs.Option.{option_map_or}
use Rattle.std.proofs.lemmas.Bool.{false≢true}
use Rattle.image_instr.specs.declared.insn.MInsn.{MInsn}
use Rattle.image_instr.specs.declared.insn.MInsn.TheVariants as insns
use Rattle.image_instr.specs.Reading.{insn_at, rows_at}
use Rattle.image_form.specs.declared.record.Image.{Image}
use Rattle.image_form.specs.declared.record.Method.{Method}
use Rattle.image_form.specs.Grammar.{IsMethod}
use Rattle.image_check.specs.Checked.{IsCheckedMethod}
use Rattle.mote_model.specs.State.{Frame}
use Rattle.mote_model.specs.SplitState.{State}
use Rattle.mote_model.specs.SplitStep.{code_from, move_of, move_at, move_among}
use Rattle.split_safety.specs.Reached.{IsCell, IsReached, depth_of}
use Rattle.split_safety.specs.Runs.{RunsMethod, runs_so_far}
use Rattle.split_safety.specs.Safety.{IsSound, StaysReached, MovesStayReached}
use Rattle.split_safety.proofs.facts.Lists.{all_left, all_right, all_unreverse, all_of_each}
use Rattle.split_safety.proofs.facts.Standing.{Stands, stands_there}
use Rattle.split_safety.proofs.moves.CallMoves.{call_moves}
use Rattle.split_safety.proofs.moves.Going.{IsAt, used}
use Rattle.split_safety.proofs.moves.JumpMoves.{jz_moves, jcmp_moves, rj_moves, goto_moves, switch_moves, table_moves}
use Rattle.split_safety.proofs.moves.Lemmas.{MoveLemma}
use Rattle.split_safety.proofs.moves.LocalMoves.{load_moves, store_moves, clear_moves, inc_moves, get_static_moves, put_static_moves}
use Rattle.split_safety.proofs.moves.NumberMoves.{const1_moves, const2_moves, small1_moves, small2_moves, mid2_moves, null_moves, bin_moves, neg_moves, sx_moves, zx_moves, sb_moves, bit_moves}
use Rattle.split_safety.proofs.moves.OperandMoves.{rdupx_moves, dupx_moves, rpop_moves, pop_moves, rswap_moves, swap_moves, drop_moves}
use Rattle.split_safety.proofs.moves.ReturnMoves.{ret_moves}
use Rattle.split_safety.proofs.moves.Throwing.{own_method}

insn_moves : (insn : MInsn) → runs_so_far insn ≡ true → MoveLemma insn
insn_moves (insns.Const1 value) run = const1_moves value
insn_moves (insns.Const2 value) run = const2_moves value
insn_moves (insns.Small1 value) run = small1_moves value
insn_moves (insns.Small2 value) run = small2_moves value
insn_moves (insns.Mid2 value) run = mid2_moves value
insn_moves insns.Null run = null_moves
insn_moves (insns.Load k place) run = load_moves k place
insn_moves (insns.Store k place) run = store_moves k place
insn_moves (insns.RClear place) run = clear_moves place
insn_moves (insns.Inc w place amount) run = inc_moves w place amount
insn_moves (insns.RDupX m n) run = rdupx_moves m n
insn_moves (insns.DupX m n) run = dupx_moves m n
insn_moves (insns.RPop count) run = rpop_moves count
insn_moves (insns.Pop count) run = pop_moves count
insn_moves insns.RSwap run = rswap_moves
insn_moves (insns.Swap m n) run = swap_moves m n
insn_moves (insns.Drop above) run = drop_moves above
insn_moves (insns.Bin w operation) run = bin_moves w operation
insn_moves (insns.Neg w) run = neg_moves w
insn_moves insns.Sx run = sx_moves
insn_moves insns.Zx run = zx_moves
insn_moves insns.Sb run = sb_moves
insn_moves insns.Bit run = bit_moves
insn_moves (insns.Jz w condition target) run = jz_moves w condition target
insn_moves (insns.JCmp w condition target) run = jcmp_moves w condition target
insn_moves (insns.RJ test target) run = rj_moves test target
insn_moves (insns.Goto target) run = goto_moves target
insn_moves (insns.Switch w default count) run = switch_moves w default count
insn_moves (insns.Table w default low count) run = table_moves w default low count
insn_moves (insns.Ret kept) run = ret_moves kept
insn_moves (insns.GetS k place) run = get_static_moves k place
insn_moves (insns.PutS k place) run = put_static_moves k place
insn_moves (insns.CallS id) run = call_moves id
insn_moves insn run = absurd (false≢true run)

-- ---- the instruction of a reached state

module _ (image : Image) (sound : IsSound image) (state : State) (reached : IsReached image state) where
  abbrev frame : Frame
  frame = reached.frame

  abbrev method : Method
  method = reached.running.method

  some_code : 1 ≤ length method.code
  some_code = of_grammar.code_some
    where
      of_grammar : IsMethod image.types method
      of_grammar = own_method (IsMethod image.types) image frame.method method (all_of_each (IsMethod image.types) [] image.methods sound.image_is.methods_are) reached.running.found

  pub stands : Stands image method frame.pc (depth_of frame)
  stands =
      stands_there image method (own_method (IsCheckedMethod image) image frame.method method sound.checked reached.running.found) (own_method RunsMethod image frame.method method sound.runs reached.running.found)
      some_code frame.pc (depth_of frame) reached.running.sent

  pub at : IsAt image state frame reached.others method stands.insn stands.size
  at =
      let cells = reached.running.locals.are_cells in
      record {
        sound = sound;
        method_is = reached.running.found;
        ref_locals = reached.running.locals.refs;
        cell_locals = reached.running.locals.cells;
        locals_are = all_left IsCell frame.cells.locals (reverse frame.cells.operands) cells;
        operands_are = all_unreverse IsCell frame.cells.operands (all_right IsCell frame.cells.locals (reverse frame.cells.operands) cells);
        waiting = reached.waiting;
        statics = record { refs = reached.ref_statics; cells = reached.cell_statics; are_cells = reached.are_cells };
        here = reached.running.sent;
        there = stands.found;
        operands = stands.operands;
        result = stands.result;
        fits = stands.fits;
        fits_after = stands.fits_after;
        inside = stands.inside;
        ids = stands.ids;
        pushes = stands.pushes;
        sent = stands.sent;
      }

  code_is : code_from image frame ≡ drop frame.pc method.code
  code_is = ap (λ (found : Option Method). drop frame.pc (option_map_or (λ (m : Method). m.code) found [])) reached.running.found

  pub stays : StaysReached image (move_among image state state.frames)
  stays =
      subst (λ (frames : List Frame). StaysReached image (move_among image state frames)) (sym reached.frames_are)
      (subst (λ (bytes : List ℕ). StaysReached image (move_at image state frame reached.others bytes)) (sym code_is)
      (used image (insn_at (drop frame.pc method.code)) (λ (found : MInsn × ℕ). move_of image state frame reached.others (frame.pc + found.1) found.0 (rows_at found.0 (drop frame.pc method.code))) (stands.insn, stands.size) stands.found
      (insn_moves stands.insn stands.run image state frame reached.others method stands.size at)))

pub moves_stay : MovesStayReached
moves_stay image sound state reached = stays image sound state reached
