use Rattle.std.proofs.Common.{List, None, sym, ap, ◌∙◌}
use Rattle.std.specs.Option.{option_or}
use Rattle.class_pool.specs.Members.{MemberName}
use Rattle.jvm_model.specs.Initialisers.{Pushed}
use Rattle.jvm_model.specs.InitialStatics.{last_write}
use Rattle.infuse_ids.specs.Writes.{last_set}
use Rattle.infuse_ids.proofs.LastWrites.{none_written, of_code}
use Rattle.infuse_ids.proofs.writes.add_code.Goals as goal

pub returns-in-Ok-None-clause-set : goal.returns-in-Ok-None-clause-set
returns-in-Ok-None-clause-set c field =
    let old = last_set c.args.writes.now field.name field.descriptor in
    none_written field old
    ∙ ap (λ (writes : List (MemberName × Pushed)). option_or (last_write field writes) old) (of_code c.args.pool.now c.args.code.now None (sym c.in-Ok-None.field-0-is ∙ c.in-Ok-None.ensures.found))
