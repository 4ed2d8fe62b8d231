-- The rows below a pc are the first ones.
use Rattle.std.proofs.Common.{◌∙◌, arith}
use Rattle.std.proofs.lemmas.Bool.Decides.{nat_tests}
use Rattle.flow_split.proofs.RowsByPc.{below_first}
use Rattle.flow_split.proofs.rows.first_from.Goals as goal

pub returns-then-not-is_below : goal.returns-then-not-is_below
returns-then-not-is_below c =
    let first = c.is_below.ensures ∙ below_first 0 c.args.pc c.args.types.now c.requires.rise c.loop-index.index in
    grind (arith, nat_tests, first, c.if-not-is_below.true, c.loop-index.invariant)

pub loop-index-preserved : goal.loop-index-preserved
loop-index-preserved c =
    let first = c.is_below.ensures ∙ below_first 0 c.args.pc c.args.types.now c.requires.rise c.loop-index.index in
    grind (arith, nat_tests, first, c.if-not-is_below.false, c.loop-index.invariant)
