use Rattle.std.proofs.Common.{◌≤◌, ◌+◌, ◌*◌, Bool, to_z, of_z, sym, ap, ap₂, ◌∙◌, arith, length, drop, reverse, take}
use Rattle.std.specs.Int.{w32}
use Rattle.std.proofs.lemmas.Int.{to_z-of_z}
use Rattle.image_instr.specs.declared.insn.MInsn.TheVariants as insns
use Rattle.cell_num.specs.Conditions.{is_met}
use Rattle.mote_stack.specs.Frames.{youngest_frame}
use Rattle.mote_model.specs.Numbers.{cond_of}
use Rattle.mote_model.specs.SplitMoves.{SplitMove, branches, count_of, number_of}
use Rattle.mote_exec.specs.Steps.{number_below, with_taken}
use Rattle.mote_exec.proofs.GoingOn.{at, cells_counted, number_is}
use Rattle.mote_exec.proofs.Jumping.{falls, jumped}
use Rattle.mote_exec.proofs.Taking.{takes_two}
use Rattle.mote_exec.proofs.Widths.{cells_same}
use Rattle.mote_exec.proofs.jumps.jump_if_compared.Goals as goal

pub number_below-right-requires-clause-there : goal.number_below-right-requires-clause-there
number_below-right-requires-clause-there g c =
    let memory = c.args.mote.now in
    let insn = insns.JCmp c.args.width c.args.condition c.args.target in
    let operands = (at g.shown memory memory insn c.args.next c.requires).operands in
    omega (arith, operands.cells, cells_same c.args.width, cells_counted g.shown memory memory insn c.args.next c.requires)

pub number_below-first-requires-clause-there : goal.number_below-first-requires-clause-there
number_below-first-requires-clause-there g c =
    let memory = c.args.mote.now in
    let insn = insns.JCmp c.args.width c.args.condition c.args.target in
    let operands = (at g.shown memory memory insn c.args.next c.requires).operands in
    omega (arith, operands.cells, cells_same c.args.width, cells_counted g.shown memory memory insn c.args.next c.requires, c.cell_count-count.ensures)

pub jump-requires-clause-there : goal.jump-requires-clause-there
jump-requires-clause-there g c =
    let memory = c.args.mote.now in
    let insn = insns.JCmp c.args.width c.args.condition c.args.target in
    let operands = (at g.shown memory memory insn c.args.next c.requires).operands in
    omega (arith, operands.cells, cells_same c.args.width, cells_counted g.shown memory memory insn c.args.next c.requires, c.cell_count-count.ensures)

pub fall-requires-clause-there : goal.fall-requires-clause-there
fall-requires-clause-there g c =
    let memory = c.args.mote.now in
    let insn = insns.JCmp c.args.width c.args.condition c.args.target in
    let operands = (at g.shown memory memory insn c.args.next c.requires).operands in
    omega (arith, operands.cells, cells_same c.args.width, cells_counted g.shown memory memory insn c.args.next c.requires, c.cell_count-count.ensures)

pub returns-then-holds : goal.returns-then-holds
returns-then-holds g c =
    let memory = c.args.mote.now in
    let w = c.args.width in
    let count = count_of w in
    let insn = insns.JCmp w c.args.condition c.args.target in
    let next = c.requires.ready.next in
    let frame = next.frame in
    let operands = frame.cells.operands in
    let here = at g.shown memory memory insn c.args.next c.requires in
    let enough : count + count ≤ length operands = omega (arith, here.operands.cells, cells_same w) in
    let b = number_of (reverse (take count operands)) in
    let a = number_of (reverse (take count (drop count operands))) in
    let right = c.number_below-right in
    let left = c.number_below-first in
    let right_is = to_z-of_z w32 right.result right.ensures.fits ∙ right.ensures.value ∙ number_is g.shown memory memory insn c.args.next c.requires w 0 (omega (arith, enough)) in
    let left_is = to_z-of_z w32 left.result left.ensures.fits ∙ left.ensures.value ∙ ap (λ above. number_below w above (youngest_frame memory.region).cells) c.cell_count-count.ensures
    ∙ number_is g.shown memory memory insn c.args.next c.requires w count enough in
    let met = c.holds.ensures.test ∙ ap (λ cond. is_met cond (to_z w32 (of_z w32 left.result)) (to_z w32 (of_z w32 right.result))) c.comparison.ensures ∙ ap₂ (is_met (cond_of c.args.condition)) left_is right_is in
    let ways : Bool → SplitMove = λ met. branches met g.shown.state (with_taken (count + count) frame) next.others c.args.target c.args.next in
    let taken = takes_two w frame (λ b a rest. branches (is_met (cond_of c.args.condition) a b) g.shown.state rest next.others c.args.target c.args.next) enough in
    jumped g.shown memory c.jump.new.mote insn c.args.next c.requires (2 * c.cell_count-count.result) (count + count) c.args.target c.args.left.now c.jump.new.left c.jump.result (omega (arith, c.cell_count-count.ensures)) enough c.jump.ensures
    (taken ∙ ap ways (sym met ∙ c.if-holds.true))

pub returns-else-holds : goal.returns-else-holds
returns-else-holds g c =
    let memory = c.args.mote.now in
    let w = c.args.width in
    let count = count_of w in
    let insn = insns.JCmp w c.args.condition c.args.target in
    let next = c.requires.ready.next in
    let frame = next.frame in
    let operands = frame.cells.operands in
    let here = at g.shown memory memory insn c.args.next c.requires in
    let enough : count + count ≤ length operands = omega (arith, here.operands.cells, cells_same w) in
    let b = number_of (reverse (take count operands)) in
    let a = number_of (reverse (take count (drop count operands))) in
    let right = c.number_below-right in
    let left = c.number_below-first in
    let right_is = to_z-of_z w32 right.result right.ensures.fits ∙ right.ensures.value ∙ number_is g.shown memory memory insn c.args.next c.requires w 0 (omega (arith, enough)) in
    let left_is = to_z-of_z w32 left.result left.ensures.fits ∙ left.ensures.value ∙ ap (λ above. number_below w above (youngest_frame memory.region).cells) c.cell_count-count.ensures
    ∙ number_is g.shown memory memory insn c.args.next c.requires w count enough in
    let met = c.holds.ensures.test ∙ ap (λ cond. is_met cond (to_z w32 (of_z w32 left.result)) (to_z w32 (of_z w32 right.result))) c.comparison.ensures ∙ ap₂ (is_met (cond_of c.args.condition)) left_is right_is in
    let ways : Bool → SplitMove = λ met. branches met g.shown.state (with_taken (count + count) frame) next.others c.args.target c.args.next in
    let taken = takes_two w frame (λ b a rest. branches (is_met (cond_of c.args.condition) a b) g.shown.state rest next.others c.args.target c.args.next) enough in
    rw c.fall.ensures.on
    (falls g.shown memory c.fall.new.mote insn c.args.next c.requires (2 * c.cell_count-count.result) (count + count) (omega (arith, c.cell_count-count.ensures)) enough c.fall.ensures.stepped
    (taken ∙ ap ways (sym met ∙ c.if-holds.false)) c.args.left.now)
