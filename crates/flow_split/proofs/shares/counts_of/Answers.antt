use Rattle.std.proofs.Common.{arith}
use Rattle.std.proofs.lemmas.List.Sums.{sum_by_more}
use Rattle.flow_split.specs.declared.shares.Share.{Share}
use Rattle.flow_split.proofs.shares.counts_of.Goals as goal

pub loop-share-preserved : goal.loop-share-preserved
loop-share-preserved c =
    let shares = c.args.shares.now in
    let i = c.loop-share.share-index in
    let none : Share = record { passed = 0; extended = 0; stored = 0 } in
    let passed = sum_by_more (λ (t : Share). t.passed) shares i none c.loop-share-test.true in
    let extended = sum_by_more (λ (t : Share). t.extended) shares i none c.loop-share-test.true in
    let stored = sum_by_more (λ (t : Share). t.stored) shares i none c.loop-share-test.true in
    record {
      passed = omega (arith, passed);
      extended = omega (arith, extended);
      stored = omega (arith, stored);
      passed_small = omega arith;
      extended_small = omega arith;
      stored_small = omega arith;
    }
