use Rattle.std.proofs.Common.{ap, FitsSigned}
use Rattle.std.proofs.lemmas.Int.{to_z-of_z}
use Rattle.std.specs.Int.{w32, cast_unsigned}
use Rattle.cell_num.proofs.Wrapping.{quotient_is}
use Rattle.cell_num.proofs.arithmetic.quotient.Goals as goal

pub returns-else-b-eq0 : goal.returns-else-b-eq0
returns-else-b-eq0 c =
    let a_fits : FitsSigned w32 c.args.a = c.ranges.a in
    let b_fits : FitsSigned w32 c.args.b = c.ranges.b in
    quotient_is c.args.a c.args.b c.wrapping_div.result a_fits (λ e. c.if-b-eq0.false (ap (cast_unsigned w32) e)) (simp to_z-of_z at c.wrapping_div.ensures)
