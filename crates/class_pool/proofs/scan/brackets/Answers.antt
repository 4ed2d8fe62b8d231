use Rattle.std.proofs.Common.{arith}
use Rattle.class_pool.proofs.descriptors.Scans.{bracket, no_bracket, no_letter}
use Rattle.class_pool.proofs.scan.brackets.Goals as goal

pub returns-then-letter-ne91-clause-value : goal.returns-then-letter-ne91-clause-value
returns-then-letter-ne91-clause-value c = omega (arith, no_bracket c.args.text.now c.loop-letter.letter-index c.loop-letter-test.true c.if-letter-ne91.true, c.loop-letter.invariant.so_far)

pub loop-letter-preserved : goal.loop-letter-preserved
loop-letter-preserved c = record {
  dims_is = omega (arith, c.loop-letter.invariant.dims_is);
  so_far = omega (arith, bracket c.args.text.now c.loop-letter.letter-index c.loop-letter-test.true c.if-letter-ne91.false, c.loop-letter.invariant.so_far);
}

pub returns-clause-value : goal.returns-clause-value
returns-clause-value c = omega (arith, no_letter c.args.text.now c.loop-letter.letter-index c.loop-letter-test.false, c.loop-letter.invariant.so_far)
