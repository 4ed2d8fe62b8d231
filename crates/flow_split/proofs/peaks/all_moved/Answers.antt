-- Each turn makes one more move.
use Rattle.std.proofs.Common.{◌+◌, ◌++◌, List, drop, get_or, sym, ap, ◌∙◌}
use Rattle.std.proofs.lemmas.List.{drop_more}
use Rattle.flow_split.specs.declared.moves.Move.{Move}
use Rattle.flow_split.specs.declared.peaks.Peak.{Peak}
use Rattle.flow_split.specs.Peaks.{most_after}
use Rattle.flow_split.proofs.PeakSteps.{step_after}
use Rattle.flow_split.proofs.peaks.all_moved.Goals as goal

pub loop-made-preserved : goal.loop-made-preserved
loop-made-preserved c = λ rest.
    let moves = c.args.moves.now in
    let index = c.loop-made.made-index in
    let still : Move = record { pops = 0; pushes = 0 } in
    ap (λ (p : Peak). most_after p (drop (index + 1) moves ++ rest)) c.in-Some.ensures
    ∙ step_after c.loop-made.after (get_or moves index still) (drop (index + 1) moves ++ rest)
    ∙ ap (λ (list : List Move). most_after c.loop-made.after (list ++ rest)) (sym (drop_more moves index still c.loop-made-test.true))
    ∙ c.loop-made.invariant rest
