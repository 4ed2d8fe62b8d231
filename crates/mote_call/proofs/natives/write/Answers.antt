use Rattle.std.proofs.Common.{◌≤◌, ◌∷◌, [], ◌+◌, length, refl, ap, ◌∙◌}
use Rattle.std.specs.Int.{w32}
use Rattle.std.proofs.lemmas.Int.{to_z-of_z}
use Rattle.dialogue.specs.Natives.{low_byte}
use Rattle.image_instr.specs.declared.insn.MInsn.TheVariants as insns
use Rattle.mote_exec.proofs.GoingOn.{at}
use Rattle.mote_call.proofs.Answering.{step_of}
use Rattle.mote_call.proofs.ShownNumbers.{number_read, shows_of, two_cells}
use Rattle.mote_call.proofs.natives.write.Goals as goal

pub top_number-requires-clause-there : goal.top_number-requires-clause-there
top_number-requires-clause-there g c =
    let old = c.args.mote.now in
    let ready = c.requires.1.1 in
    let here = at g.shown old old (insns.CallS 1) (ready.next.frame.pc + ready.next.size) (step_of g.shown old (insns.CallS 1) ready) in
    two_cells g.shown old 1 ready here.operands.cells

pub show_number-requires : goal.show_number-requires
show_number-requires g c κs within =
    let old = c.args.mote.now in
    let ready = c.requires.1.1 in
    let here = at g.shown old old (insns.CallS 1) (ready.next.frame.pc + ready.next.size) (step_of g.shown old (insns.CallS 1) ready) in
    let enough : 2 ≤ length ready.next.frame.cells.operands = here.operands.cells in
    let byte = c.low_byte-byte.ensures ∙ ap low_byte (to_z-of_z w32 c.top_number.result c.top_number.ensures.fits ∙ c.top_number.ensures.value ∙ number_read g.shown old 1 ready enough) in
    (within, (c.requires.1.0, shows_of g.shown old 1 ready enough (λ number. low_byte number ∷ []) (λ answers. refl) (c.low_byte-byte.result ∷ []) (ap (λ byte. byte ∷ []) byte)))
