use Rattle.std.proofs.Common.{◌-◌, sym, ◌∙◌}
use Rattle.class_tree.specs.Members.{in_file}
use Rattle.jvm_model.specs.Phases.{refusal_of_insn}
use Rattle.jvm_model.specs.Overrides.{overrides_badly}
use Rattle.jvm_model.specs.Linking.{override_refusal}
use Rattle.jvm_model.specs.declared.refusal.Cause.TheVariants.{BadOverride}
use Rattle.body_make.specs.Refusals.{refusal_of}
use Rattle.jvm_model.proofs.phases.Scans.{scan_more, scan_here, scan_end}
use Rattle.body_make.proofs.Refusing.{refused_own, passed_own}
use Rattle.body_make.proofs.overrides.test_overrides.Goals as goal

pub returns-then-overrides_badly-clause-refused : goal.returns-then-overrides_badly-clause-refused
returns-then-overrides_badly-clause-refused c =
    let position = c.args.class - 32 in
    let file = c.args.file.now in
    let m = c.index-methods-member.result in
    let test = override_refusal c.args.set.now position file in
    sym c.loop-member.invariant
    ∙ scan_here test c.args.methods.now c.loop-member.member m (refusal_of c.refusal_at.result) c.loop-member-test.true c.index-methods-member.is
    (refused_own (λ class. overrides_badly c.args.set.now class c.loop-member.member (in_file file.pool m)) c.args.class (refusal_of_insn BadOverride position c.loop-member.member 0 0) (refusal_of c.refusal_at.result) c.requires.own (sym c.if-overrides_badly.ensures) c.refusal_at.ensures)

pub loop-member-preserved : goal.loop-member-preserved
loop-member-preserved c =
    let position = c.args.class - 32 in
    let file = c.args.file.now in
    let m = c.index-methods-member.result in
    let test = override_refusal c.args.set.now position file in
    scan_more test c.args.methods.now c.loop-member.member m c.loop-member-test.true c.index-methods-member.is
    (passed_own (λ class. overrides_badly c.args.set.now class c.loop-member.member (in_file file.pool m)) c.args.class (refusal_of_insn BadOverride position c.loop-member.member 0 0) c.requires.own (sym c.if-overrides_badly.ensures))
    ∙ c.loop-member.invariant

pub returns-clause-passed : goal.returns-clause-passed
returns-clause-passed c =
    let test = override_refusal c.args.set.now (c.args.class - 32) c.args.file.now in
    sym c.loop-member.invariant ∙ scan_end test c.args.methods.now c.loop-member.member c.loop-member-test.false
