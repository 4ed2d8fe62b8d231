use Rattle.std.proofs.Common.{◌≡◌, ◌++◌, List, drop}
use Rattle.flow_split.specs.declared.moves.Move.{Move}
use Rattle.flow_split.specs.Peaks.{most_after}
use Rattle.flow_split.proofs.peaks.all_moved.Given as goal

abbrev pub invariant-loop-made : goal.invariant-loop-made
invariant-loop-made l = (rest : List Move) → most_after l.after (drop l.made-index l.moves ++ rest) ≡ most_after l.fn.peak (l.moves ++ rest)
