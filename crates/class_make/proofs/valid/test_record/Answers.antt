use Rattle.std.proofs.Common.{sym, ◌∙◌}
use Rattle.class_make.proofs.Tested.{not_fitting}
use Rattle.class_make.proofs.valid.test_record.Goals as goal

pub returns-then-not-fits-clause-refused : goal.returns-then-not-fits-clause-refused
returns-then-not-fits-clause-refused c = not_fitting c.args.file.now (sym c.fits.ensures ∙ c.if-not-fits.true)
