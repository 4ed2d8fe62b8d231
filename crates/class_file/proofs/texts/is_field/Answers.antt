use Rattle.std.proofs.Common.{false, sym, ap, ◌∙◌}
use Rattle.byte_read.proofs.Steps.{no_failure, same_why}
use Rattle.class_file.specs.Texts.{unless_memory}
use Rattle.class_file.proofs.text_table.Told.{field_none}
use Rattle.class_file.proofs.texts.is_field.Goals as goal
use Rattle.class_file.proofs.texts.is_field.Goals.{in-Ok, in-Err}

pub returns-clause-none : goal.returns-clause-none
returns-clause-none c = λ none.
    let told = field_none c.args.text.now c.read_field_descriptor.result c.read_field_descriptor.ensures.refused none in
    elim c.match-read_field_descriptor.branch [
      | in-Ok w ↦ absurd (no_failure _ _ (sym w.in-Ok.is ∙ told))
      | in-Err w ↦ w.result-is ∙ w.unless_memory.ensures ∙ ap (unless_memory false) (same_why _ _ (sym w.in-Err.is ∙ told))
    ]
