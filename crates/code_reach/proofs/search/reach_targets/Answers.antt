use Rattle.std.proofs.Common.{◌≡◌, get_or, ap, ◌∙◌, arith}
use Rattle.code_reach.specs.Visits.{pcs_of, index_of}
use Rattle.code_reach.proofs.Ways.{targets_more}
use Rattle.code_reach.proofs.search.reach_targets.Goals as goal

pub loop-k-preserved : goal.loop-k-preserved
loop-k-preserved g c =
    let way = g.F.Flow.way c.args.insn.now in
    let index = c.index_of.result in
    let is : index ≡ index_of (pcs_of c.args.code.now) (get_or way.targets c.loop-k.k 0) = c.index_of.ensures ∙ ap (index_of (pcs_of c.args.code.now)) c.target.ensures in
    targets_more (index_of (pcs_of c.args.code.now)) way.targets c.loop-k.k index c.args.visits.now c.loop-k.visits c.reach.new.self (omega (arith, c.loop-k-test.true, c.target_count-k-end.ensures)) is c.loop-k.invariant c.in_ok-reach.ensures
