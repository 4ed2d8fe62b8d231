use Rattle.std.proofs.Common.{ap, ◌∙◌}
use Rattle.std.proofs.lemmas.Result.{IfOk-weaker}
use Rattle.flow_split.specs.Shares.{positions_of}
use Rattle.flow_split.proofs.CellsPlaced.{cells_placed}
use Rattle.flow_split.proofs.cells.cells.Goals as goal

pub returns : goal.returns
returns c = IfOk-weaker c.positions.result _ _ (λ cells placed body widths is. placed ∙ ap positions_of is ∙ cells_placed body widths) c.positions.ensures
