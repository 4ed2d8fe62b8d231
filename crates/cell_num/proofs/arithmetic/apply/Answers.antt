use Rattle.std.proofs.Common.{ap, Some}
use Rattle.std.proofs.lemmas.Int.{wrapping_add_is, wrapping_sub_is}
use Rattle.std.specs.Int.{w32}
use Rattle.cell_num.proofs.arithmetic.apply.Goals as goal

pub returns-in-Add-clause-value : goal.returns-in-Add-clause-value
returns-in-Add-clause-value c = rw c.in-Add.is (ap Some (wrapping_add_is w32 c.args.a c.args.b c.ranges.a c.ranges.b))

pub returns-in-Sub-clause-value : goal.returns-in-Sub-clause-value
returns-in-Sub-clause-value c = rw c.in-Sub.is (ap Some (wrapping_sub_is w32 c.args.a c.args.b c.ranges.a c.ranges.b))
