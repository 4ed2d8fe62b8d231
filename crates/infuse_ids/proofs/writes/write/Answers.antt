use Rattle.std.proofs.Common.{List, Some, None, ap, ◌∙◌}
use Rattle.std.specs.Option.{option_or}
use Rattle.class_pool.specs.Members.{MemberName}
use Rattle.jvm_model.specs.Initialisers.{Pushed}
use Rattle.jvm_model.specs.InitialStatics.{last_write}
use Rattle.infuse_ids.specs.Writes.{last_set, pushed_of, named_of}
use Rattle.infuse_ids.proofs.LastWrites.{one_write, written, none_written}
use Rattle.infuse_ids.proofs.writes.write.Goals as goal

pub returns-in-Ok : goal.returns-in-Ok
returns-in-Ok c field =
    let old = last_set c.args.writes.now field.name field.descriptor in
    let pushed = pushed_of c.args.pushed in
    let named = named_of c.in-Some.named in
    c.in-Ok.ensures field ∙ one_write field named pushed old
    ∙ ap (λ (writes : List (MemberName × Pushed)). option_or (last_write field writes) old) (written c.args.pool.now pushed c.args.insn.now (Some named) c.in-Some.ensures)

pub returns-in-None : goal.returns-in-None
returns-in-None c field =
    let old = last_set c.args.writes.now field.name field.descriptor in
    none_written field old
    ∙ ap (λ (writes : List (MemberName × Pushed)). option_or (last_write field writes) old) (written c.args.pool.now (pushed_of c.args.pushed) c.args.insn.now None c.in-None.ensures)
