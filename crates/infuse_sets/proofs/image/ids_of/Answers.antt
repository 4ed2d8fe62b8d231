use Rattle.std.proofs.Common.{sym, ap, ◌∙◌}
use Rattle.jvm_model.specs.ImageLimits.{first_excess}
use Rattle.infuse_sets.proofs.image.ids_of.Goals as goal

pub returns-in-Ok-clause-fits : goal.returns-in-Ok-clause-fits
returns-in-Ok-clause-fits g c =
    ap (first_excess c.args.set.now) (sym (c.in-Ok.ensures.numbers g.main c.requires.1.1)) ∙ c.in-Ok.ensures.fits
