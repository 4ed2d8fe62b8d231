use Rattle.std.proofs.Common.{◌≤◌, sym, ap, subst, ◌∙◌, arith, length, reverse, take}
use Rattle.std.specs.Int.{w32}
use Rattle.std.proofs.lemmas.Int.{to_z-of_z}
use Rattle.image_check.specs.Visits.{HasOperands}
use Rattle.image_instr.specs.declared.signature.Effect.{Effect}
use Rattle.image_instr.specs.Switch.{target_in, default_of}
use Rattle.mote_model.specs.SplitMoves.{jumps, count_of, number_of}
use Rattle.split_safety.specs.Reached.{depth_of}
use Rattle.mote_exec.specs.Steps.{with_taken}
use Rattle.mote_exec.proofs.GoingOn.{at, cells_counted, number_is, rows}
use Rattle.mote_exec.proofs.Jumping.{jumped, pc_is}
use Rattle.mote_exec.proofs.Standing.{behind, step_of, switch_there, holds}
use Rattle.mote_exec.proofs.Taking.{takes_number}
use Rattle.mote_exec.proofs.switches.choose.Goals as goal

pub number_below-key-requires-clause-there : goal.number_below-key-requires-clause-there
number_below-key-requires-clause-there g c =
    let memory = c.args.mote.now in
    let is = c.requires in
    let step = step_of g.shown memory is.insn is.ready in
    let next = is.ready.next in
    let operands = (at g.shown memory memory is.insn (behind g.shown memory is.insn is.ready) step).operands in
    let known = subst (λ (effect : Effect). HasOperands effect (depth_of next.frame)) is.effect operands in
    omega (arith, known.cells, cells_counted g.shown memory memory is.insn (behind g.shown memory is.insn is.ready) step)

pub switch_target-target-requires : goal.switch_target-target-requires
switch_target-target-requires g c =
    let memory = c.args.mote.now in
    let is = c.requires in
    let here = c.from-pc.ensures ∙ c.pc_at.ensures ∙ pc_is g.shown memory memory is.insn (behind g.shown memory is.insn is.ready) (step_of g.shown memory is.insn is.ready) in
    switch_there g.shown memory is.insn is.ready c.args.code.now is.code_is c.from-pc.result here is.switches

pub jump-requires-clause-there : goal.jump-requires-clause-there
jump-requires-clause-there g c =
    let memory = c.args.mote.now in
    let is = c.requires in
    let step = step_of g.shown memory is.insn is.ready in
    let next = is.ready.next in
    let operands = (at g.shown memory memory is.insn (behind g.shown memory is.insn is.ready) step).operands in
    let known = subst (λ (effect : Effect). HasOperands effect (depth_of next.frame)) is.effect operands in
    omega (arith, known.cells, c.cell_count.ensures, cells_counted g.shown memory memory is.insn (behind g.shown memory is.insn is.ready) step)

pub returns : goal.returns
returns g c =
    let memory = c.args.mote.now in
    let is = c.requires in
    let step = step_of g.shown memory is.insn is.ready in
    let after = behind g.shown memory is.insn is.ready in
    let next = is.ready.next in
    let frame = next.frame in
    let w = c.args.width in
    let operands = (at g.shown memory memory is.insn after step).operands in
    let known = subst (λ (effect : Effect). HasOperands effect (depth_of frame)) is.effect operands in
    let enough : count_of w ≤ length frame.cells.operands = omega (arith, known.cells) in
    let below = c.number_below-key in
    let key = number_of (reverse (take (count_of w) frame.cells.operands)) in
    let read = to_z-of_z w32 below.result below.ensures.fits ∙ below.ensures.value ∙ number_is g.shown memory memory is.insn after step w 0 (omega (arith, enough)) in
    let read_rows = rows g.shown memory memory is.insn after step in
    let here = c.from-pc.ensures ∙ c.pc_at.ensures ∙ pc_is g.shown memory memory is.insn after step in
    let there = holds g.shown memory is.insn is.ready c.args.code.now is.code_is c.from-pc.result here (λ i. omega (arith, c.type_inv.code i)) in
    let target_is = c.switch_target-target.ensures is.insn read_rows next.size there ∙ ap (target_in (default_of is.insn) read_rows) read in
    jumped g.shown memory c.jump.new.mote is.insn after step c.cell_count.result (count_of w) c.switch_target-target.result c.args.left.now c.jump.new.left c.jump.result c.cell_count.ensures enough c.jump.ensures
    (is.chooses frame next.others after read_rows
    ∙ takes_number w frame (λ key rest. jumps g.shown.state rest next.others (target_in (default_of is.insn) read_rows key)) enough
    ∙ ap (λ target. jumps g.shown.state (with_taken (count_of w) frame) next.others target) (sym target_is))
