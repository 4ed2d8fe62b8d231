use Rattle.set_grammar.proofs.SetSelectors.{selectors_are}
use Rattle.set_grammar.proofs.set_images_have_selectors.Goals as goal

pub returns : goal.returns
returns c = record { selectors = selectors_are }
