use Rattle.std.proofs.Common.{◌+◌, length}
use Rattle.code_reach.specs.Reached.{code_ways}
use Rattle.code_reach.specs.Visits.{Reaching, pcs_of, unmarked}
use Rattle.code_reach.specs.Tree.{IsTreeOf}
use Rattle.code_reach.proofs.search.reached.Given as goal

abbrev pub invariant-loop-index : goal.invariant-loop-index
invariant-loop-index g l =
    record {
      tree : IsTreeOf (pcs_of l.code) l.rows l.tree l.visits;
      reaching : Reaching (code_ways g.F.Flow.way l.rows l.code) l.visits;
    }

abbrev pub decreases-loop-index : goal.decreases-loop-index
decreases-loop-index g l = unmarked l.visits + length l.visits.todo.items
