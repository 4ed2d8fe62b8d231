use Rattle.std.proofs.Common.{◌≤◌, ◌+◌, length, refl, ap, ◌∙◌}
use Rattle.std.specs.Fmt.{signed_decimal}
use Rattle.std.specs.Int.{w32}
use Rattle.std.proofs.lemmas.Int.{to_z-of_z}
use Rattle.image_instr.specs.declared.insn.MInsn.TheVariants as insns
use Rattle.mote_exec.proofs.GoingOn.{at}
use Rattle.mote_call.proofs.Answering.{step_of}
use Rattle.mote_call.proofs.ShownNumbers.{number_read, shows_of, two_cells}
use Rattle.mote_call.proofs.natives.print.Goals as goal

pub top_number-number-requires-clause-there : goal.top_number-number-requires-clause-there
top_number-number-requires-clause-there g c =
    let old = c.args.mote.now in
    let ready = c.requires.1.1 in
    let here = at g.shown old old (insns.CallS 3) (ready.next.frame.pc + ready.next.size) (step_of g.shown old (insns.CallS 3) ready) in
    two_cells g.shown old 3 ready here.operands.cells

pub show_number-requires : goal.show_number-requires
show_number-requires g c κs within =
    let old = c.args.mote.now in
    let ready = c.requires.1.1 in
    let here = at g.shown old old (insns.CallS 3) (ready.next.frame.pc + ready.next.size) (step_of g.shown old (insns.CallS 3) ready) in
    let enough : 2 ≤ length ready.next.frame.cells.operands = here.operands.cells in
    let number = c.top_number-number in
    let digits = c.as_bytes.ensures.value ∙ c.format.ensures.text ∙ ap signed_decimal (to_z-of_z w32 number.result number.ensures.fits ∙ number.ensures.value ∙ number_read g.shown old 3 ready enough) in
    (within, (c.requires.1.0, shows_of g.shown old 3 ready enough signed_decimal (λ answers. refl) c.as_bytes.result.now digits))
