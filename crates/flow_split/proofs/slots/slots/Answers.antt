use Rattle.std.proofs.Common.{ap, ◌∙◌}
use Rattle.std.proofs.lemmas.Result.{IfOk-weaker}
use Rattle.flow_split.specs.Shares.{positions_of}
use Rattle.flow_split.proofs.SlotsPlaced.{slots_placed}
use Rattle.flow_split.proofs.slots.slots.Goals as goal

pub returns : goal.returns
returns c = IfOk-weaker c.positions.result _ _ (λ slots placed body is. placed ∙ ap positions_of is ∙ slots_placed body) c.positions.ensures
