use Rattle.std.proofs.Common.{sym, ◌∙◌}
use Rattle.set_image.specs.LinkRefusals.{form_refusal}
use Rattle.infuse_sets.proofs.FirstRefusals.{here, later, none}
use Rattle.infuse_sets.proofs.forms.test_forms.Goals as goal

pub returns-in-Err : goal.returns-in-Err
returns-in-Err c =
    record {
      passed = tt;
      refused = sym c.loop-body.invariant ∙ here form_refusal c.args.bodies.now c.loop-body.body-index c.body-item.result c.in-Err.why c.loop-body-test.true c.body-item.is c.in-Err.ensures.refused;
    }

pub loop-body-preserved : goal.loop-body-preserved
loop-body-preserved c =
    later form_refusal c.args.bodies.now c.loop-body.body-index c.body-item.result c.loop-body-test.true c.body-item.is c.in-Ok.ensures.passed ∙ c.loop-body.invariant

pub returns : goal.returns
returns c = record { passed = sym c.loop-body.invariant ∙ none form_refusal c.args.bodies.now c.loop-body.body-index c.loop-body-test.false; refused = tt }
