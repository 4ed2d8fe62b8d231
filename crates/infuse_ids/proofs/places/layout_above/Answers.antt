use Rattle.std.proofs.Common.{ℕ, [], Option, ap, ◌∙◌}
use Rattle.std.specs.Option.{option_map_or}
use Rattle.jvm_model.specs.ImageNumbering.{fields_of_object}
use Rattle.infuse_ids.specs.Places.{layout_in}
use Rattle.infuse_ids.proofs.places.layout_above.Goals as goal

pub returns-in-Ok-clause-above : goal.returns-in-Ok-clause-above
returns-in-Ok-clause-above c =
    let files = c.args.set.now in
    c.in-Ok.ensures.layout files c.requires
    ∙ ap (λ (o : Option ℕ). layout_in (option_map_or (fields_of_object files) o [])) c.in-Some.ensures.superclass

pub returns-in-None-clause-above : goal.returns-in-None-clause-above
returns-in-None-clause-above c = ap (λ (o : Option ℕ). layout_in (option_map_or (fields_of_object c.args.set.now) o [])) c.in-None.ensures.superclass
