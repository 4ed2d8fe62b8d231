use Rattle.std.proofs.Common.{◌≡◌, filter, map, take, nat_lt}
use Rattle.jvm_model.specs.ImageEmission.{handler_of}
use Rattle.infuse_emit.specs.Parts.{source_in}
use Rattle.infuse_emit.proofs.handlers.handlers_of.Given as goal

abbrev pub invariant-loop-guard : goal.invariant-loop-guard
invariant-loop-guard l = l.handlers.items ≡ filter (λ handler. nat_lt handler.start handler.end) (map (handler_of (source_in l.parts)) (take l.guard-index l.parts.body.now.handlers))
