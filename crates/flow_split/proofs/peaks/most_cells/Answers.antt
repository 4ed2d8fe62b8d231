-- After the last move the number of cells itself counts.
use Rattle.std.proofs.Common.{[], ap, ◌∙◌, arith}
use Rattle.std.proofs.lemmas.List.{append-nil}
use Rattle.flow_split.specs.Peaks.{most_after}
use Rattle.flow_split.proofs.PeakSteps.{ends}
use Rattle.flow_split.proofs.peaks.most_cells.Goals as goal

pub returns-in-Some : goal.returns-in-Some
returns-in-Some c =
    let whole = c.in-Some.ensures [] ∙ ap (most_after c.args.peak) (append-nil c.args.moves.now) in
    omega (arith, whole, ends c.in-Some.after)
