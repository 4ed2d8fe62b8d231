use Rattle.std.proofs.Common.{◌-◌, inr, sym, ◌∙◌}
use Rattle.jvm_model.specs.Linking.{initialiser_refusal}
use Rattle.body_make.specs.Refusals.{refusal_of}
use Rattle.jvm_model.proofs.phases.Scans.{scan_more, scan_here, scan_end}
use Rattle.body_make.proofs.Initialised.{no_fault, fault_refused}
use Rattle.body_make.proofs.initialisers.test_initialisers.Goals as goal

pub returns-in-Ok-Some-clause-refused : goal.returns-in-Ok-Some-clause-refused
returns-in-Ok-Some-clause-refused c =
    let position = c.args.class - 32 in
    let method = c.index-methods-member.result in
    inr (sym c.loop-member.invariant
    ∙ scan_here (initialiser_refusal position c.args.file.now) c.args.methods.now c.loop-member.member method (refusal_of c.refusal_at.result) c.loop-member-test.true c.index-methods-member.is
    (fault_refused position c.args.file.now c.loop-member.member method c.in-Ok-Some.pc (refusal_of c.refusal_at.result) (sym c.in-Ok-Some.field-0-is ∙ c.in-Ok-Some.ensures.found) c.refusal_at.ensures))

pub loop-member-preserved : goal.loop-member-preserved
loop-member-preserved c =
    let position = c.args.class - 32 in
    let method = c.index-methods-member.result in
    scan_more (initialiser_refusal position c.args.file.now) c.args.methods.now c.loop-member.member method c.loop-member-test.true c.index-methods-member.is
    (no_fault position c.args.file.now c.loop-member.member method (sym c.in-Ok-None.field-0-is ∙ c.in-Ok-None.ensures.found))
    ∙ c.loop-member.invariant

pub returns-clause-passed : goal.returns-clause-passed
returns-clause-passed c =
    sym c.loop-member.invariant ∙ scan_end (initialiser_refusal (c.args.class - 32) c.args.file.now) c.args.methods.now c.loop-member.member c.loop-member-test.false
