use Rattle.std.proofs.Common.{◌≤◌, ℤ, neg_ℤ, FitsSigned, rules, ap, ◌∙◌, arith, length, reverse, take}
use Rattle.std.specs.Int.{w32, int_wrap, int_wrapping_neg}
use Rattle.std.proofs.lemmas.Int.{to_z-of_z, wrapping_neg_is}
use Rattle.image_instr.specs.declared.insn.MInsn.TheVariants as insns
use Rattle.mote_model.specs.SplitMoves.{count_of, number_of, goes_on, push_number}
use Rattle.mote_exec.proofs.GoingOn.{at, gives_number, number_is, room, there}
use Rattle.mote_exec.proofs.Taking.{takes_number}
use Rattle.mote_exec.proofs.Widths.{cells_same}
use Rattle.mote_exec.proofs.numbers.negate.Goals as goal

pub number_below-number-requires-clause-there : goal.number_below-number-requires-clause-there
number_below-number-requires-clause-there g c =
    let memory = c.args.mote.now in
    let insn = insns.Neg c.args.width in
    let operands = (at g.shown memory memory insn c.args.next c.requires).operands in
    let enough = there g.shown memory memory insn c.args.next c.requires (count_of c.args.width) (omega (arith, operands.cells, cells_same c.args.width)) in
    omega (arith, enough)

pub put_number-requires-clause-there : goal.put_number-requires-clause-there
put_number-requires-clause-there g c =
    let memory = c.args.mote.now in
    let insn = insns.Neg c.args.width in
    let operands = (at g.shown memory memory insn c.args.next c.requires).operands in
    rw c.cell_count.ensures (there g.shown memory memory insn c.args.next c.requires (count_of c.args.width) (omega (arith, operands.cells, cells_same c.args.width)))

pub put_number-requires-clause-room : goal.put_number-requires-clause-room
put_number-requires-clause-room g c =
    let memory = c.args.mote.now in
    let insn = insns.Neg c.args.width in
    let next = at g.shown memory memory insn c.args.next c.requires in
    let same = cells_same c.args.width in
    rw c.cell_count.ensures (room g.shown memory memory insn c.args.next c.requires (count_of c.args.width) (count_of c.args.width) (omega (arith, next.operands.cells, same)) (omega (arith, next.operands.cells, next.fits_after, same)))

pub returns : goal.returns
returns g c =
    let memory = c.args.mote.now in
    let insn = insns.Neg c.args.width in
    let w = c.args.width in
    let next = c.requires.ready.next in
    let frame = next.frame in
    let new = c.put_number.new.mote in
    let operands = (at g.shown memory memory insn c.args.next c.requires).operands in
    let enough : count_of w ≤ length frame.cells.operands = omega (arith, operands.cells, cells_same w) in
    let number = number_of (reverse (take (count_of w) frame.cells.operands)) in
    let below = c.number_below-number in
    let same = to_z-of_z w32 below.result below.ensures.fits in
    let read = below.ensures.value ∙ number_is g.shown memory new insn c.args.next c.requires w 0 (omega (arith, enough)) in
    let negated : ℤ → ℤ = λ number. int_wrap w32 (neg_ℤ number) in
    let fits : FitsSigned w32 c.wrapping_neg.result = search rules in
    let result = c.wrapping_neg.ensures ∙ ap (int_wrapping_neg w32) same ∙ wrapping_neg_is w32 below.result below.ensures.fits ∙ ap negated read in
    rw c.put_number.ensures.on
    (gives_number g.shown memory new insn c.args.next c.requires c.cell_count.result (count_of w) w c.wrapping_neg.result (negated number) c.cell_count.ensures fits result enough c.put_number.ensures.stepped
    (takes_number w frame (λ number rest. goes_on g.shown.state (push_number w (negated number) rest) next.others c.args.next) enough))
