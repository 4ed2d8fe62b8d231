use Rattle.dialogue.proofs.Inputs.{bytes_of-answers_of}
use Rattle.dialogue.proofs.inputs_are_answered.Goals as goal

pub returns-clause-whole : goal.returns-clause-whole
returns-clause-whole c = bytes_of-answers_of
