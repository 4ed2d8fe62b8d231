-- The instruction goes on, and no other one is after it.
use Rattle.std.proofs.Common.{◌≡◌, true, false, ◌&&◌, ◌+◌, nat_eq, length, get_or, sym, ap, ◌∙◌}
use Rattle.body_form.specs.Flow.{goes_on}
use Rattle.flow_verify.proofs.families.Placed.{falls_at}
use Rattle.flow_verify.proofs.after.falls_off.Goals as goal

pub returns-then-goes_on : goal.returns-then-goes_on
returns-then-goes_on c =
    let slice = c.as_slice-ops.result.now in
    let x = get_or slice c.args.position c.index-ops-position.result in
    let on : goes_on x.1 ≡ true = sym c.goes_on.ensures ∙ c.if-goes_on.true in
    sym (falls_at c.args.body.now slice c.as_slice-ops.ensures.rise c.as_slice-ops.ensures.all c.args.position c.index-ops-position.result c.requires ∙ ap (λ b. b && nat_eq (c.args.position + 1) (length slice)) on)

pub returns-else-goes_on : goal.returns-else-goes_on
returns-else-goes_on c =
    let slice = c.as_slice-ops.result.now in
    let x = get_or slice c.args.position c.index-ops-position.result in
    let on : goes_on x.1 ≡ false = sym c.goes_on.ensures ∙ c.if-goes_on.false in
    c.if-goes_on.false ∙ sym (falls_at c.args.body.now slice c.as_slice-ops.ensures.rise c.as_slice-ops.ensures.all c.args.position c.index-ops-position.result c.requires ∙ ap (λ b. b && nat_eq (c.args.position + 1) (length slice)) on)
