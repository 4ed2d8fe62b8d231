use Rattle.mote_core.proofs.SoundImages.{checked_images_are_sound}
use Rattle.mote_core.proofs.start.start.Goals as goal

pub returns-in_err-state-clause-sound : goal.returns-in_err-state-clause-sound
returns-in_err-state-clause-sound c = let image = c.image-image.ensures in checked_images_are_sound c.args.checked.now image.image image.checked image.built

pub returns-clause-sound : goal.returns-clause-sound
returns-clause-sound c = let image = c.image-image.ensures in checked_images_are_sound c.args.checked.now image.image image.checked image.built
