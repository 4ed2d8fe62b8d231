use Rattle.std.proofs.Common.{◌≡◌, ◌≤◌, ◌*◌, ◌++◌, drop, reverse}
use Rattle.jvm_model.specs.ImageExpansion.{cut_arguments}
use Rattle.expansion.specs.Expanding.{insns}
use Rattle.expansion.proofs.calls.cut_arguments.Given as goal

abbrev pub invariant-loop-at : goal.invariant-loop-at
invariant-loop-at l =
    record {
      cut : l.out.items ++ insns (cut_arguments l.above (drop l.at (reverse l.params)) (drop l.at l.shapes)) ≡ l.fn.out.items ++ insns (cut_arguments 0 (reverse l.params) l.shapes);
      most : l.above ≤ 2 * l.at;
    }
