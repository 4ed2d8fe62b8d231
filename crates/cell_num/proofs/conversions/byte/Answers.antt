use Rattle.std.proofs.Common.{FitsSigned}
use Rattle.std.proofs.lemmas.Int.{to_z-of_z}
use Rattle.std.specs.Int.{w32}
use Rattle.cell_num.proofs.Wrapping.{byte_is}
use Rattle.cell_num.proofs.conversions.byte.Goals as goal

pub returns-clause-value : goal.returns-clause-value
returns-clause-value c =
    let fits : FitsSigned w32 c.args.v = c.ranges.v in
    byte_is c.args.v c.cast_signed.result c.from.result c.cast_unsigned.result fits (simp to_z-of_z at c.cast_unsigned.ensures) c.cast_signed.ensures c.from.ensures
