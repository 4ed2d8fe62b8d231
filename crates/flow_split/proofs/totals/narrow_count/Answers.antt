-- The entries of operands are those between the two parts.
use Rattle.std.proofs.Common.{arith}
use Rattle.flow_split.proofs.Parting.{parts_counted}
use Rattle.flow_split.proofs.totals.narrow_count.Goals as goal

pub overflow_sub-result : goal.overflow_sub-result
overflow_sub-result c = omega (arith, c.entries_through.ensures, c.entries_before.ensures, parts_counted c.args.pc c.args.narrow.now)

pub returns : goal.returns
returns c = omega (arith, c.entries_through.ensures, c.entries_before.ensures, parts_counted c.args.pc c.args.narrow.now)
