use Rattle.image_form.proofs.format.Whole.{one_image}
use Rattle.mote_top.proofs.replies.Sets.{infusion_is_one}
use Rattle.mote_top.proofs.laws.infusions_are_one_or_none.Goals as goal

pub returns-clause-exclusive : goal.returns-clause-exclusive
returns-clause-exclusive c = λ bytes image refusal is none. infusion_is_one bytes image is refusal none

pub returns-clause-one_image : goal.returns-clause-one_image
returns-clause-one_image c = λ bytes first second a b. one_image bytes first second a.encoded b.encoded
