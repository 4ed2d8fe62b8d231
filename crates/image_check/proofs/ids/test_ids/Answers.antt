use Rattle.std.proofs.Common.{get_or, inr}
use Rattle.std.proofs.lemmas.List.Elements.{All-more, Contains-get_or}
use Rattle.image_check.specs.Ids.{HasIds}
use Rattle.image_check.proofs.Passing.{yes, no, all-kept}
use Rattle.image_check.proofs.Starts.{nothing}
use Rattle.image_check.proofs.ids.test_ids.Goals as goal

pub returns-then-not-has_ids-clause-refused : goal.returns-then-not-has_ids-clause-refused
returns-then-not-has_ids-clause-refused c =
    let insns = c.args.insns.now in
    let x = get_or insns c.loop-x.x-index nothing in
    let has = HasIds c.args.image.now c.args.method.now x.1 in
    inr (record {
      insns = insns;
      insn = x.1;
      is_code = c.requires.code;
      stands = Contains-get_or insns c.loop-x.x-index nothing c.loop-x-test.true;
      is_not = no c.has_ids.result has (¬ has) c.if-not-has_ids.true c.has_ids.ensures;
    })

pub loop-x-preserved : goal.loop-x-preserved
loop-x-preserved c =
    let x = get_or c.args.insns.now c.loop-x.x-index nothing in
    let has = HasIds c.args.image.now c.args.method.now x.1 in
    All-more (λ x. HasIds c.args.image.now c.args.method.now x.1) c.args.insns.now c.loop-x.x-index nothing c.loop-x-test.true c.loop-x.invariant
    (yes c.has_ids.result has (¬ has) c.if-not-has_ids.false c.has_ids.ensures)

pub returns-clause-kept : goal.returns-clause-kept
returns-clause-kept c =
    all-kept (λ x. HasIds c.args.image.now c.args.method.now x.1) c.args.insns.now c.loop-x.x-index c.loop-x-test.false c.loop-x.invariant
