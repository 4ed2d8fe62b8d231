use Rattle.std.proofs.Common.{FitsSigned, ◌∙◌, sym, subst, rules, arith, ◌≤ℤ◌}
use Rattle.std.proofs.lemmas.Int.{to_z-of_z, ints}
use Rattle.std.specs.Int.{w32, w64}
use Rattle.cell_num.specs.Ranges.{IsGreatestNotAbove, IsLeastNotBelow, thresholds}
use Rattle.cell_num.proofs.Thresholds.{threshold_below-is, threshold_above-is, are_ints-true, rounded_is}
use Rattle.cell_num.proofs.ranges.round_out.Goals as goal

pub returns-then-are_ints-clause-value : goal.returns-then-are_ints-clause-value
returns-then-are_ints-clause-value c =
    let lo_fits : FitsSigned w64 c.args.lo = c.ranges.lo in
    let hi_fits : FitsSigned w64 c.args.hi = c.ranges.hi in
    let below_fits : FitsSigned w32 c.down_to_threshold.result = search rules in
    let above_fits : FitsSigned w32 c.up_to_threshold.result = search rules in
    rounded_is c.args.lo c.args.hi _ _ (simp to_z-of_z at c.if-are_ints.ensures)
    (to_z-of_z w32 c.down_to_threshold.result below_fits ∙ (simp to_z-of_z at c.down_to_threshold.ensures))
    (to_z-of_z w32 c.up_to_threshold.result above_fits ∙ (simp to_z-of_z at c.up_to_threshold.ensures))

pub returns-then-are_ints-clause-lower : goal.returns-then-are_ints-clause-lower
returns-then-are_ints-clause-lower c within =
    let lo_fits : FitsSigned w64 c.args.lo = c.ranges.lo in
    let below_fits : FitsSigned w32 c.down_to_threshold.result = search rules in
    subst (IsGreatestNotAbove thresholds c.args.lo) (sym (to_z-of_z w32 c.down_to_threshold.result below_fits ∙ (simp to_z-of_z at c.down_to_threshold.ensures))) (threshold_below-is c.args.lo within.0)

pub returns-then-are_ints-clause-upper : goal.returns-then-are_ints-clause-upper
returns-then-are_ints-clause-upper c within =
    let hi_fits : FitsSigned w64 c.args.hi = c.ranges.hi in
    let above_fits : FitsSigned w32 c.up_to_threshold.result = search rules in
    subst (IsLeastNotBelow thresholds c.args.hi) (sym (to_z-of_z w32 c.up_to_threshold.result above_fits ∙ (simp to_z-of_z at c.up_to_threshold.ensures))) (threshold_above-is c.args.hi within.1)

pub returns-then-are_ints-clause-outside : goal.returns-then-are_ints-clause-outside
returns-then-are_ints-clause-outside c none =
    let lo_fits : FitsSigned w64 c.args.lo = c.ranges.lo in
    let hi_fits : FitsSigned w64 c.args.hi = c.ranges.hi in
    absurd (none (are_ints-true c.args.lo c.args.hi (simp to_z-of_z at c.if-are_ints.ensures)))

pub returns-then-are_ints-clause-ordered : goal.returns-then-are_ints-clause-ordered
returns-then-are_ints-clause-ordered c =
    let lo_fits : FitsSigned w64 c.args.lo = c.ranges.lo in
    let hi_fits : FitsSigned w64 c.args.hi = c.ranges.hi in
    let within = are_ints-true c.args.lo c.args.hi (simp to_z-of_z at c.if-are_ints.ensures) in
    let below = (returns-then-are_ints-clause-lower c within).not_above in
    let above = (returns-then-are_ints-clause-upper c within).not_below in
    let given : c.args.lo ≤ℤ c.args.hi = c.requires in
    omega (arith, ints)
