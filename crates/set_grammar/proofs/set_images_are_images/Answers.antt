use Rattle.set_grammar.proofs.SetGrammars.{images_are_images}
use Rattle.set_grammar.proofs.SetRows.{rows_are}
use Rattle.set_grammar.proofs.SetTypes.{types_are}
use Rattle.set_grammar.proofs.set_images_are_images.Goals as goal

pub returns-clause-types : goal.returns-clause-types
returns-clause-types c = types_are

pub returns-clause-rows : goal.returns-clause-rows
returns-clause-rows c = rows_are c.sets_compile.ensures

pub returns-clause-images : goal.returns-clause-images
returns-clause-images c = images_are_images c.sets_compile.ensures c.typed_code_starts.ensures c.bodies_keep_limits.ensures.parameters
