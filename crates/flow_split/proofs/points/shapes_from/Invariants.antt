use Rattle.std.proofs.Common.{◌≡◌, ◌++◌, List, take, length}
use Rattle.body_form.specs.declared.types.VType.{VType}
use Rattle.flow_split.specs.Totals.{shapes_before}
use Rattle.flow_split.proofs.points.shapes_from.Given as goal

abbrev pub invariant-loop-position : goal.invariant-loop-position
invariant-loop-position l = (rest : List VType) → length (l.values ++ rest) ≡ l.height → l.shapes.items ≡ take l.position (shapes_before l.narrow l.pc (l.values ++ rest))
