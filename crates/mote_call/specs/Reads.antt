-- What a console gives to a read.
use Rattle.std.specs.Prelude.{◌≡◌, ℕ, ℤ, List, Option}
use Rattle.dialogue.specs.Answers.{Answers, MayGive}
use Rattle.dialogue.specs.Natives.{next_byte, after_byte}
use Rattle.host_face.specs.Talk.{without_first}

-- the console may give answers, of which the first has this value, and these others after it
pub record Gave (before : Option (List ℕ)) (number : ℤ) (others : Answers) : Type 0 where
  pub answers : Answers
  pub may : MayGive before answers
  pub value : number ≡ next_byte answers
  pub others_are : others ≡ after_byte answers

-- a number is the value of an answer, before whatever a console may give after it
pub record IsRead (before after : Option (List ℕ)) (number : ℤ) : Type 0 where
  pub gave : (others : Answers) → MayGive after others → Gave before number others
  pub rest : after ≡ without_first 1 before
