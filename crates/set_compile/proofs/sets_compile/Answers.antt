use Rattle.set_compile.proofs.CompiledSets.{sets_compile}
use Rattle.set_compile.proofs.sets_compile.Goals as goal

pub returns : goal.returns
returns c = sets_compile c.typed_code_is_safe.ensures.facts c.class_order_is_right.ensures
