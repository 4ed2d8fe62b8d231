-- The answers of an input.
use Rattle.std.proofs.Common.{◌≡◌, ℕ, List, [], ◌∷◌, refl, ap}
use Rattle.dialogue.specs.Answers.{answers_of, bytes_of}

-- their bytes are the input
pub bytes_of-answers_of : (input : List ℕ) → bytes_of (answers_of input) ≡ input
bytes_of-answers_of [] = refl
bytes_of-answers_of (byte ∷ input) = ap (λ rest. byte ∷ rest) (bytes_of-answers_of input)
