use Rattle.std.proofs.Common.{map, take}
use Rattle.code_reach.specs.Visits.{IsIn, Reaches, pcs_of, index_of}
use Rattle.code_reach.proofs.search.reach_targets.Given as goal

abbrev pub invariant-loop-k : goal.invariant-loop-k
invariant-loop-k g l = let way = g.F.Flow.way l.insn in Reaches (IsIn (map (index_of (pcs_of l.code)) (take l.k way.targets))) l.fn.visits l.visits
