-- The arguments fit, and the object is below them.
use Rattle.std.proofs.Common.{◌≡◌, true, List, length, drop, sym, ap, ◌∙◌}
use Rattle.jvm_model.specs.TypesRules.{takes, construct_on}
use Rattle.type_table.specs.Frames.{frame_of}
use Rattle.flow_verify.specs.declared.need.Need.{Need}
use Rattle.flow_verify.specs.Needs.{tests_of}
use Rattle.flow_verify.proofs.families.Constructing.{constructed}
use Rattle.flow_verify.proofs.constructors.construct.Goals as goal

pub returns-clause-change : goal.returns-clause-change
returns-clause-change c =
    let frame = frame_of c.args.store.now c.args.frame in
    let needs = c.in_ok-needs.needs.items in
    let passes : takes (tests_of c.args.set.now needs) frame.stack ≡ true =
    ap (λ (l : List Need). takes (tests_of c.args.set.now l) frame.stack) (sym c.deref.ensures.value) ∙ sym c.takes.ensures.takes ∙ c.if-not-takes.false in
    c.construct_on.ensures.change ∙ ap (λ n. construct_on c.args.set.now c.args.body.now frame c.args.used.now (drop n frame.stack)) (c.len.ensures ∙ sym c.deref.ensures.len ∙ ap length c.deref.ensures.value)
    ∙ constructed c.args.set.now c.args.body.now frame c.args.used.now needs c.in_ok-needs.ensures passes
