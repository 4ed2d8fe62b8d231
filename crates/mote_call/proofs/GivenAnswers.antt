-- Answers that a console may give.
use Rattle.std.proofs.Common.{ℕ, List, [], Option, Some, None, refl}
use Rattle.dialogue.specs.Answers.{Answers, answers_of, MayGive}

pub some_answers : Option (List ℕ) → Answers
some_answers None = []
some_answers (Some input) = answers_of input

pub may-some : (left : Option (List ℕ)) → MayGive left (some_answers left)
unfolding some_answers
may-some None = tt
may-some (Some input) = refl
