use Rattle.image_check.proofs.Apart.{refused_not_checked}
use Rattle.image_check.proofs.laws.refused_images_are_not_checked.Goals as goal

pub returns : goal.returns
returns c = refused_not_checked
