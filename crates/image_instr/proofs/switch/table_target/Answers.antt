use Rattle.std.proofs.Common.{◌≡◌, ℤ, ◌+ℤ◌, pos, sym, ◌∙◌, ap, w32, to_z, of_z}
use Rattle.std.proofs.lemmas.Int.{to_z-of_z}
use Rattle.image_instr.proofs.switches.Targets.{targets-outside, targets-at}
use Rattle.image_instr.proofs.switch.table_target.Goals as goal

pub returns-in-Some : goal.returns-in-Some
returns-in-Some c =
    let wanted : to_z w32 (of_z w32 c.args.wanted) ≡ c.args.wanted = to_z-of_z w32 c.args.wanted c.ranges.wanted in
    let low : to_z w32 (of_z w32 c.args.low) ≡ c.args.low = to_z-of_z w32 c.args.low c.ranges.low in
    let found = c.in-Some.ensures.found in
    let key : c.args.wanted ≡ c.args.low +ℤ pos c.in-Some.place = sym wanted ∙ found.1 ∙ ap (λ (l : ℤ). l +ℤ pos c.in-Some.place) low in
    c.target_at.ensures ∙ sym (targets-at c.args.default c.args.count c.args.low c.args.targets.now c.args.wanted c.in-Some.place found.0 key)

pub returns-in-None : goal.returns-in-None
returns-in-None c =
    let wanted : to_z w32 (of_z w32 c.args.wanted) ≡ c.args.wanted = to_z-of_z w32 c.args.wanted c.ranges.wanted in
    let low : to_z w32 (of_z w32 c.args.low) ≡ c.args.low = to_z-of_z w32 c.args.low c.ranges.low in
    sym (targets-outside c.args.default c.args.count c.args.low c.args.targets.now c.args.wanted (λ place lt e.
    c.in-None.ensures.none place lt (wanted ∙ e ∙ ap (λ (l : ℤ). l +ℤ pos place) (sym low))))
