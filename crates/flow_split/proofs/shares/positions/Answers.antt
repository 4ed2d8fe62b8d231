-- One more local, and one more place.
use Rattle.std.proofs.Common.{take, arith}
use Rattle.std.proofs.lemmas.List.Sums.{sum_by_more}
use Rattle.flow_split.specs.declared.shares.Share.{Share}
use Rattle.flow_split.specs.Shares.{passed_in, extended_in, position_at}
use Rattle.flow_split.proofs.OneMore.{one_more}
use Rattle.flow_split.proofs.shares.positions.Goals as goal

pub loop-share-preserved : goal.loop-share-preserved
loop-share-preserved c =
    let shares = c.args.shares.now in
    let i = c.loop-share.share-index in
    let none : Share = record { passed = 0; extended = 0; stored = 0 } in
    let passed = sum_by_more (λ (t : Share). t.passed) shares i none c.loop-share-test.true in
    let extended = sum_by_more (λ (t : Share). t.extended) shares i none c.loop-share-test.true in
    let stored = sum_by_more (λ (t : Share). t.stored) shares i none c.loop-share-test.true in
    let here = c.first_position.ensures (passed_in shares) (extended_in shares) (take i shares) c.loop-share.invariant.passed c.loop-share.invariant.extended c.loop-share.invariant.stored in
    record {
      passed = omega (arith, passed);
      extended = omega (arith, extended);
      stored = omega (arith, stored);
      positions = one_more (position_at shares) i c.loop-share.positions.items c.push.new.self.items c.first_position.result c.in-Ok.ensures.items c.loop-share.invariant.positions here;
    }
