-- Each operand passes the test of its need, or some do not.
use Rattle.std.proofs.Common.{◌<◌, true, false, length, sym, ◌∙◌, arith}
use Rattle.std.proofs.lemmas.List.{length-map}
use Rattle.class_tree.specs.MergeLaws.{IsKnown}
use Rattle.type_table.specs.Frames.{frame_of}
use Rattle.type_table.proofs.Lengths.{frame_is_high}
use Rattle.flow_verify.specs.Needs.{test_of, tests_of}
use Rattle.flow_verify.proofs.families.Taking.{all_at, takes_none, need_next, need_lacks, needs_end}
use Rattle.flow_verify.proofs.need.takes.Goals as goal

pub returns-then-needs-frame-clause-takes : goal.returns-then-needs-frame-clause-takes
returns-then-needs-frame-clause-takes c =
    let stack = (frame_of c.args.store.now c.args.frame).stack in
    let tests = tests_of c.args.set.now c.args.needs.now in
    let fewer : length stack < length tests = omega (arith, frame_is_high c.args.store.now c.args.frame c.requires.there, length-map c.args.needs.now (test_of c.args.set.now)) in
    sym (takes_none tests stack fewer)

pub passes-requires : goal.passes-requires
passes-requires c =
    all_at (IsKnown c.args.set.now) (frame_of c.args.store.now c.args.frame).stack c.loop-position.position c.in-Some.value c.requires.known.stack (sym c.in-Some.ensures)

pub returns-then-not-passes-clause-takes : goal.returns-then-not-passes-clause-takes
returns-then-not-passes-clause-takes c =
    let stack = (frame_of c.args.store.now c.args.frame).stack in
    sym (need_next c.args.set.now c.args.needs.now stack c.loop-position.position c.loop-position-test.true c.in-Some.value false (sym c.in-Some.ensures) (sym c.if-not-passes.true ∙ c.passes.ensures)) ∙ c.loop-position.invariant

pub returns-in-None-clause-takes : goal.returns-in-None-clause-takes
returns-in-None-clause-takes c =
    let stack = (frame_of c.args.store.now c.args.frame).stack in
    sym (need_lacks c.args.set.now c.args.needs.now stack c.loop-position.position c.loop-position-test.true (sym c.in-None.ensures)) ∙ c.loop-position.invariant

pub loop-position-preserved : goal.loop-position-preserved
loop-position-preserved c =
    let stack = (frame_of c.args.store.now c.args.frame).stack in
    sym (need_next c.args.set.now c.args.needs.now stack c.loop-position.position c.loop-position-test.true c.in-Some.value true (sym c.in-Some.ensures) (sym c.if-not-passes.false ∙ c.passes.ensures)) ∙ c.loop-position.invariant

pub returns-clause-takes : goal.returns-clause-takes
returns-clause-takes c =
    sym (needs_end c.args.set.now c.args.needs.now (frame_of c.args.store.now c.args.frame).stack c.loop-position.position c.loop-position-test.false) ∙ c.loop-position.invariant
