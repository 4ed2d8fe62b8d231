use Rattle.std.proofs.Common.{◌≤◌, pos, Bool, to_z, of_z, sym, ap, ◌∙◌, arith, length, reverse, take}
use Rattle.std.specs.Int.{w32}
use Rattle.std.proofs.lemmas.Int.{to_z-of_z}
use Rattle.image_instr.specs.declared.insn.MInsn.TheVariants as insns
use Rattle.cell_num.specs.Conditions.{is_met}
use Rattle.mote_model.specs.Numbers.{cond_of}
use Rattle.mote_model.specs.SplitMoves.{SplitMove, branches, count_of, number_of}
use Rattle.mote_exec.specs.Steps.{with_taken}
use Rattle.mote_exec.proofs.GoingOn.{at, cells_counted, number_is}
use Rattle.mote_exec.proofs.Jumping.{falls, jumped}
use Rattle.mote_exec.proofs.Taking.{takes_number}
use Rattle.mote_exec.proofs.Widths.{cells_same}
use Rattle.mote_exec.proofs.jumps.jump_if_zero.Goals as goal

pub number_below-number-requires-clause-there : goal.number_below-number-requires-clause-there
number_below-number-requires-clause-there g c =
    let memory = c.args.mote.now in
    let insn = insns.Jz c.args.width c.args.condition c.args.target in
    let operands = (at g.shown memory memory insn c.args.next c.requires).operands in
    omega (arith, operands.cells, cells_same c.args.width, cells_counted g.shown memory memory insn c.args.next c.requires)

pub jump-requires-clause-there : goal.jump-requires-clause-there
jump-requires-clause-there g c =
    let memory = c.args.mote.now in
    let insn = insns.Jz c.args.width c.args.condition c.args.target in
    let operands = (at g.shown memory memory insn c.args.next c.requires).operands in
    omega (arith, operands.cells, cells_same c.args.width, cells_counted g.shown memory memory insn c.args.next c.requires, c.cell_count-count.ensures)

pub fall-requires-clause-there : goal.fall-requires-clause-there
fall-requires-clause-there g c =
    let memory = c.args.mote.now in
    let insn = insns.Jz c.args.width c.args.condition c.args.target in
    let operands = (at g.shown memory memory insn c.args.next c.requires).operands in
    omega (arith, operands.cells, cells_same c.args.width, cells_counted g.shown memory memory insn c.args.next c.requires, c.cell_count-count.ensures)

pub returns-then-holds : goal.returns-then-holds
returns-then-holds g c =
    let memory = c.args.mote.now in
    let w = c.args.width in
    let count = count_of w in
    let insn = insns.Jz w c.args.condition c.args.target in
    let next = c.requires.ready.next in
    let frame = next.frame in
    let operands = frame.cells.operands in
    let here = at g.shown memory memory insn c.args.next c.requires in
    let enough : count ≤ length operands = omega (arith, here.operands.cells, cells_same w) in
    let top = number_of (reverse (take count operands)) in
    let below = c.number_below-number in
    let read = to_z-of_z w32 below.result below.ensures.fits ∙ below.ensures.value ∙ number_is g.shown memory memory insn c.args.next c.requires w 0 (omega (arith, enough)) in
    let met = c.holds.ensures.test ∙ ap (λ cond. is_met cond (to_z w32 (of_z w32 below.result)) (pos 0)) c.comparison.ensures ∙ ap (λ n. is_met (cond_of c.args.condition) n (pos 0)) read in
    let ways : Bool → SplitMove = λ met. branches met g.shown.state (with_taken count frame) next.others c.args.target c.args.next in
    let taken = takes_number w frame (λ number rest. branches (is_met (cond_of c.args.condition) number (pos 0)) g.shown.state rest next.others c.args.target c.args.next) enough in
    jumped g.shown memory c.jump.new.mote insn c.args.next c.requires c.cell_count-count.result count c.args.target c.args.left.now c.jump.new.left c.jump.result c.cell_count-count.ensures enough c.jump.ensures
    (taken ∙ ap ways (sym met ∙ c.if-holds.true))

pub returns-else-holds : goal.returns-else-holds
returns-else-holds g c =
    let memory = c.args.mote.now in
    let w = c.args.width in
    let count = count_of w in
    let insn = insns.Jz w c.args.condition c.args.target in
    let next = c.requires.ready.next in
    let frame = next.frame in
    let operands = frame.cells.operands in
    let here = at g.shown memory memory insn c.args.next c.requires in
    let enough : count ≤ length operands = omega (arith, here.operands.cells, cells_same w) in
    let top = number_of (reverse (take count operands)) in
    let below = c.number_below-number in
    let read = to_z-of_z w32 below.result below.ensures.fits ∙ below.ensures.value ∙ number_is g.shown memory memory insn c.args.next c.requires w 0 (omega (arith, enough)) in
    let met = c.holds.ensures.test ∙ ap (λ cond. is_met cond (to_z w32 (of_z w32 below.result)) (pos 0)) c.comparison.ensures ∙ ap (λ n. is_met (cond_of c.args.condition) n (pos 0)) read in
    let ways : Bool → SplitMove = λ met. branches met g.shown.state (with_taken count frame) next.others c.args.target c.args.next in
    let taken = takes_number w frame (λ number rest. branches (is_met (cond_of c.args.condition) number (pos 0)) g.shown.state rest next.others c.args.target c.args.next) enough in
    rw c.fall.ensures.on
    (falls g.shown memory c.fall.new.mote insn c.args.next c.requires c.cell_count-count.result count c.cell_count-count.ensures enough c.fall.ensures.stepped
    (taken ∙ ap ways (sym met ∙ c.if-holds.false)) c.args.left.now)
