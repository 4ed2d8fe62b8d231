use Rattle.body_form.specs.Flow.{IsStart}
use Rattle.body_form.specs.Reach.{IsReached}
use Rattle.type_rounds.proofs.tables.Lists.{all_map}
use Rattle.infuse_sets.proofs.frames.plan_of.Goals as goal

pub split-requires-clause-rows : goal.split-requires-clause-rows
split-requires-clause-rows g c =
    let typed = c.args.typed.now in
    let body = typed.body.now in
    let reached = c.requires.1.reached in
    record { rise = reached.rise; starts = all_map (λ row. IsStart body.ops row.0 × IsReached body row.0) (λ row. IsStart body.ops row.0) (λ row is. is.0) typed.types reached.only }
