-- What a run shows when it is over, whichever machine runs: one record for all of them.
use Rattle.std.specs.Prelude.{List}
use Rattle.dialogue.specs.Answers.{Answers}
use Rattle.dialogue.specs.Dialogue.{Item}

-- how the run ended, its dialogue, and the answers that it left
pub record Outcome (Ending : Type 0) : Type 0 where
  pub ending : Ending
  pub dialogue : List Item
  pub left : Answers
