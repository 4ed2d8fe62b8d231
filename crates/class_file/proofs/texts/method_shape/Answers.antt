use Rattle.std.proofs.Common.{None, sym, ap, ◌∙◌}
use Rattle.byte_read.proofs.Steps.{same_why}
use Rattle.class_file.specs.Texts.{unless_memory}
use Rattle.class_file.proofs.text_table.Told.{method_none}
use Rattle.class_file.proofs.texts.method_shape.Goals as goal

pub returns-in-Err-clause-none : goal.returns-in-Err-clause-none
returns-in-Err-clause-none c = λ none.
    let told = method_none c.args.text.now c.read_descriptor.result c.read_descriptor.ensures.refused none in
    c.unless_memory.ensures ∙ ap (unless_memory None) (same_why _ _ (sym c.in-Err.is ∙ told))
