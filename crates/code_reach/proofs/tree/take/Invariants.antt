use Rattle.std.proofs.Common.{◌⊎◌, ℕ, length}
use Rattle.code_reach.specs.Visits.{IsIn, IsMarked, Grows}
use Rattle.code_reach.proofs.tree.take.Given as goal

abbrev pub invariant-loop-index : goal.invariant-loop-index
invariant-loop-index l =
    record {
      grows : Grows (IsIn l.fn.waiting) l.fn.visits l.visits;
      less : (index : ℕ) → IsIn l.waiting index → IsIn l.fn.waiting index;
      rest : (index : ℕ) → IsIn l.fn.waiting index → IsIn l.waiting index ⊎ IsMarked l.visits index;
    }

abbrev pub decreases-loop-index : goal.decreases-loop-index
decreases-loop-index l = length l.waiting
