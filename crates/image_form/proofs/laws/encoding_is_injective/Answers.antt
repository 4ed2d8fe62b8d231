use Rattle.image_form.proofs.format.Whole.{one_image, no_prefix}
use Rattle.image_form.proofs.laws.encoding_is_injective.Goals as goal

pub returns-clause-image : goal.returns-clause-image
returns-clause-image c = one_image

pub returns-clause-prefix : goal.returns-clause-prefix
returns-clause-prefix c = no_prefix
