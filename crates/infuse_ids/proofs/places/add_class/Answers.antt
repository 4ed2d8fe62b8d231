use Rattle.std.proofs.Common.{List, ◌++◌, sym, ap, ◌∙◌}
use Rattle.std.proofs.lemmas.List.{append-nil}
use Rattle.jvm_model.specs.ImageNumbering.{Field, class_fields}
use Rattle.infuse_ids.proofs.ClassFields.{no_fields_in}
use Rattle.infuse_ids.proofs.Placing.{placed_same}
use Rattle.infuse_ids.proofs.places.add_class.Goals as goal

pub returns-in-Ok-add_fields-clause-placed : goal.returns-in-Ok-add_fields-clause-placed
returns-in-Ok-add_fields-clause-placed c before after among are = c.in-Ok-add_fields.ensures.placed c.args.set.now before after (sym c.in-Some.ensures) among c.in-Ok.ensures.above are

pub returns-in-None-clause-placed : goal.returns-in-None-clause-placed
returns-in-None-clause-placed c before after among are =
    let files = c.args.set.now in
    let none = no_fields_in files c.args.class (sym c.in-None.ensures) in
    placed_same files before (before ++ class_fields files c.args.class) c.args.counts.now.statics c.args.places.now
    (sym (ap (λ (fields : List Field). before ++ fields) none ∙ append-nil before)) are
