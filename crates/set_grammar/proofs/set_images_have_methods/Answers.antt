use Rattle.set_grammar.proofs.SetMain.{main_is}
use Rattle.set_grammar.proofs.SetMethods.{methods_are}
use Rattle.set_grammar.proofs.SetStatics.{statics_are}
use Rattle.set_grammar.proofs.set_images_have_methods.Goals as goal

pub returns-clause-statics : goal.returns-clause-statics
returns-clause-statics c = statics_are c.sets_compile.ensures c.typed_code_starts.ensures

pub returns-clause-main : goal.returns-clause-main
returns-clause-main c = main_is c.sets_compile.ensures c.typed_code_starts.ensures

pub returns-clause-methods : goal.returns-clause-methods
returns-clause-methods c = methods_are c.sets_compile.ensures c.bodies_keep_limits.ensures.parameters
