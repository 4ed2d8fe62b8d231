use Rattle.std.proofs.Common.{FitsSigned}
use Rattle.std.proofs.lemmas.Int.{to_z-of_z}
use Rattle.std.specs.Int.{w32}
use Rattle.cell_num.proofs.Wrapping.{short_is}
use Rattle.cell_num.proofs.conversions.convert.Goals as goal

pub returns-in-Short-clause-value : goal.returns-in-Short-clause-value
returns-in-Short-clause-value c =
    let fits : FitsSigned w32 c.args.v = c.ranges.v in
    rw c.in-Short.is (short_is c.args.v c.sext.result c.low-in-Short.result fits (simp to_z-of_z at c.low-in-Short.ensures.value) c.sext.ensures.value)
