use Rattle.infuse_emit.specs.Parts.{seen_in}
use Rattle.infuse_emit.proofs.code.emit_index.Given as goal

abbrev pub ghost-emit_at : goal.ghost-emit_at
ghost-emit_at a = seen_in a.parts.now a.offsets.now a.pc
