use Rattle.infuse_emit.proofs.code.emit_at.Given as goal

abbrev pub ghost-emit_instruction : goal.ghost-emit_instruction
ghost-emit_instruction g a = g.seen
