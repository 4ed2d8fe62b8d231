use Rattle.std.proofs.Common.{List, Some, None, ap, ◌∙◌}
use Rattle.std.specs.Option.{option_or}
use Rattle.class_pool.specs.Members.{MemberName}
use Rattle.jvm_model.specs.Initialisers.{Pushed}
use Rattle.jvm_model.specs.InitialStatics.{last_write}
use Rattle.infuse_ids.specs.Writes.{last_set}
use Rattle.infuse_ids.proofs.LastWrites.{none_written, of_method}
use Rattle.infuse_ids.proofs.writes.add_method.Goals as goal

pub returns-in-Ok-clause-set : goal.returns-in-Ok-clause-set
returns-in-Ok-clause-set c field =
    let old = last_set c.args.writes.now field.name field.descriptor in
    c.in-Ok.ensures.set field
    ∙ ap (λ (writes : List (MemberName × Pushed)). option_or (last_write field writes) old) (of_method c.args.pool.now c.args.method.now (Some c.in-Some.code.now) c.in-Some.ensures)

pub returns-in-None-clause-set : goal.returns-in-None-clause-set
returns-in-None-clause-set c field =
    let old = last_set c.args.writes.now field.name field.descriptor in
    none_written field old
    ∙ ap (λ (writes : List (MemberName × Pushed)). option_or (last_write field writes) old) (of_method c.args.pool.now c.args.method.now None c.in-None.ensures)
