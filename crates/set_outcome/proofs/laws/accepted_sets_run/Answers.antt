use Rattle.set_outcome.proofs.AlikeOutcomes.{outcomes_alike}
use Rattle.set_outcome.proofs.KeptRules.{images_built, images_checked, images_formed}
use Rattle.set_outcome.proofs.laws.accepted_sets_run.Goals as goal

pub returns-clause-image : goal.returns-clause-image
returns-clause-image c = let linked = c.one_linked.ensures in images_formed linked.unique linked.linked c.set_images_are_images.ensures.images

pub returns-clause-checked : goal.returns-clause-checked
returns-clause-checked c =
    let linked = c.one_linked.ensures in
    let rules = c.set_images_keep_rules.ensures in
    images_checked linked.unique linked.linked rules.insns rules.depths

pub returns-clause-built : goal.returns-clause-built
returns-clause-built c = let linked = c.one_linked.ensures in images_built linked.unique linked.linked c.set_images_keep_rules.ensures.insns

pub returns-clause-runs_alike : goal.returns-clause-runs_alike
returns-clause-runs_alike c = outcomes_alike c.one_linked.ensures.unique c.one_linked.ensures.linked c.sets_run_alike.ensures
