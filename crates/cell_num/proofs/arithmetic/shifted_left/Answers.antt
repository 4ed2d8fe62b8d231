use Rattle.std.proofs.Common.{FitsSigned}
use Rattle.std.proofs.lemmas.Int.{to_z-of_z}
use Rattle.std.specs.Int.{w32}
use Rattle.cell_num.specs.Arithmetic.{shift_count}
use Rattle.cell_num.proofs.Wrapping.{shifted_left_is}
use Rattle.cell_num.proofs.arithmetic.shifted_left.Goals as goal

pub returns : goal.returns
returns c =
    let a_fits : FitsSigned w32 c.args.a = c.ranges.a in
    let count_fits : FitsSigned w32 c.args.count = c.ranges.count in
    shifted_left_is c.args.a c.wrapping_shl.result c.low_five_bits.result (shift_count c.args.count) a_fits c.low_five_bits.ensures.bound (simp to_z-of_z at c.low_five_bits.ensures.value) (simp to_z-of_z at c.wrapping_shl.ensures)
