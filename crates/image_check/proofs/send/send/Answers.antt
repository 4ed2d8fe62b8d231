use Rattle.std.proofs.Common.{◌≡◌, ◌∙◌, Some, None, get_or, sym, ap}
use Rattle.std.proofs.lemmas.List.{get_or_default}
use Rattle.image_check.proofs.Depths.{compared}
use Rattle.image_check.proofs.send.send.Goals as goal

pub returns-in-Some : goal.returns-in-Some
returns-in-Some c =
    let table = c.args.flow.now.depths.items in
    let there : get_or table c.args.to None ≡ Some c.in-Some.other =
    get_or_default table c.args.to None c.index.result.now c.requires ∙ ap (λ i. get_or table i c.index.result.now) (sym c.from.ensures) ∙ sym c.index.ensures ∙ c.in-Some.is in
    record { sent = compared c.eq.result table c.args.flow.now.work.items c.args.to c.in-Some.other c.args.d c.eq.ensures there; memory = tt }
