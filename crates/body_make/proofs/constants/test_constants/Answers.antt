use Rattle.std.proofs.Common.{◌-◌, inr, sym, ◌∙◌}
use Rattle.jvm_model.specs.Phases.{refusal_of_insn}
use Rattle.jvm_model.specs.Initialisers.{has_bad_constant}
use Rattle.jvm_model.specs.Linking.{constant_refusal}
use Rattle.jvm_model.specs.declared.refusal.Cause.TheVariants.{BadInitialiser}
use Rattle.body_make.specs.Refusals.{refusal_of}
use Rattle.jvm_model.proofs.phases.Scans.{scan_more, scan_here, scan_end}
use Rattle.body_make.proofs.Refusing.{refused_where, passed_where}
use Rattle.body_make.proofs.constants.test_constants.Goals as goal

pub returns-in-Ok-true-clause-refused : goal.returns-in-Ok-true-clause-refused
returns-in-Ok-true-clause-refused c =
    let position = c.args.class - 32 in
    let file = c.args.file.now in
    let field = c.index-fields-member.result in
    inr (sym c.loop-member.invariant
    ∙ scan_here (constant_refusal position file) c.args.fields.now c.loop-member.member field (refusal_of c.refusal_at.result) c.loop-member-test.true c.index-fields-member.is
    (refused_where (has_bad_constant file.pool field) (refusal_of_insn BadInitialiser position c.loop-member.member 0 1) (refusal_of c.refusal_at.result) (sym c.in-Ok-true.ensures.found ∙ c.in-Ok-true.field-0-test) c.refusal_at.ensures))

pub loop-member-preserved : goal.loop-member-preserved
loop-member-preserved c =
    let position = c.args.class - 32 in
    let file = c.args.file.now in
    let field = c.index-fields-member.result in
    scan_more (constant_refusal position file) c.args.fields.now c.loop-member.member field c.loop-member-test.true c.index-fields-member.is
    (passed_where (has_bad_constant file.pool field) (refusal_of_insn BadInitialiser position c.loop-member.member 0 1) (sym c.in-Ok-false.ensures.found ∙ c.in-Ok-false.field-0-test))
    ∙ c.loop-member.invariant

pub returns-clause-passed : goal.returns-clause-passed
returns-clause-passed c =
    sym c.loop-member.invariant ∙ scan_end (constant_refusal (c.args.class - 32) c.args.file.now) c.args.fields.now c.loop-member.member c.loop-member-test.false
