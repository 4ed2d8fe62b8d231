-- One more local.
use Rattle.std.proofs.Common.{◌<◌, ℕ, length, get_or, ap, arith}
use Rattle.std.proofs.lemmas.List.Sums.{sum_by_more}
use Rattle.flow_split.specs.declared.shares.Share.{Share}
use Rattle.flow_split.proofs.FillsMade.{fill_append}
use Rattle.flow_split.proofs.fills.fills.Goals as goal

pub loop-local-preserved : goal.loop-local-preserved
loop-local-preserved c =
    let locals = c.args.shares.now in
    let i = c.loop-local.local in
    let none : Share = record { passed = 0; extended = 0; stored = 0 } in
    let within : i < length locals = omega arith in
    let here = ap (λ (k : ℕ). get_or locals k none) c.from.ensures in
    let passed_here = ap (λ (t : Share). t.passed) here in
    let extended_here = ap (λ (t : Share). t.extended) here in
    let passed = sum_by_more (λ (t : Share). t.passed) locals i none within in
    let extended = sum_by_more (λ (t : Share). t.extended) locals i none within in
    record {
      passed = omega (arith, passed, passed_here);
      extended = omega (arith, extended, extended_here);
      small = omega arith;
      fills = λ widths is.
          fill_append c.args.body.now widths locals i c.from.result c.loop-local.next.passed c.loop-local.next.extended none c.loop-local.fills.items c.append.new.fills.items c.fill.result
          is c.loop-local-test.true c.from.ensures c.loop-local.invariant.passed c.loop-local.invariant.extended c.in-Ok.ensures c.fill.ensures (c.loop-local.invariant.fills widths is);
    }
