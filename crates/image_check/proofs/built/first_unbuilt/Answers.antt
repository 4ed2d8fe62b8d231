use Rattle.std.proofs.Common.{◌≡◌, ◌∙◌, sym, true, get_or}
use Rattle.std.proofs.lemmas.Bool.{false≢true}
use Rattle.std.proofs.lemmas.List.Elements.{All-more, Contains-get_or}
use Rattle.image_check.specs.Built.{is_built}
use Rattle.image_check.proofs.Passing.{all-kept}
use Rattle.image_check.proofs.Starts.{nothing}
use Rattle.image_check.proofs.built.first_unbuilt.Goals as goal

pub returns-then-not-is_built-clause-some : goal.returns-then-not-is_built-clause-some
returns-then-not-is_built-clause-some c =
    let insns = c.args.insns.now in
    let x = get_or insns c.loop-x.x-index nothing in
    record {
      insns = insns;
      insn = x.1;
      is_code = c.requires;
      stands = Contains-get_or insns c.loop-x.x-index nothing c.loop-x-test.true;
      is_not = λ passes. false≢true (sym c.if-not-is_built.true ∙ c.is_built.ensures ∙ passes);
    }

pub loop-x-preserved : goal.loop-x-preserved
loop-x-preserved c =
    All-more (λ x. is_built x.1 ≡ true) c.args.insns.now c.loop-x.x-index nothing c.loop-x-test.true c.loop-x.invariant (sym c.is_built.ensures ∙ c.if-not-is_built.false)

pub returns-clause-none : goal.returns-clause-none
returns-clause-none c = all-kept (λ x. is_built x.1 ≡ true) c.args.insns.now c.loop-x.x-index c.loop-x-test.false c.loop-x.invariant
