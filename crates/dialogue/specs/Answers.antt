-- What a console answers to the gets of a run.
use Rattle.std.specs.Prelude.{◌≡◌, ℕ, List, [], ◌∷◌, map, Option, Some, None, IfSome, IsSomeAnd}

-- the answers in order, each a byte or the end of the input; after the last one each get answers the end
abbrev pub Answers : Type 0
Answers = List (Option ℕ)

-- the answers of a console with this input
abbrev pub answers_of : List ℕ → Answers
answers_of input = map Some input

-- the bytes that are answered before the end
abbrev pub bytes_of : Answers → List ℕ
bytes_of [] = []
bytes_of (None ∷ rest) = []
bytes_of (Some byte ∷ rest) = byte ∷ bytes_of rest

-- where the input is told, the answers are those of it; else each get may give any byte or the end
abbrev pub MayGive : Option (List ℕ) → Answers → Type 0
MayGive left answers = IfSome left (λ input. answers ≡ answers_of input)

-- what is left is told, and the answers are those of it
abbrev pub TellsLeft : Option (List ℕ) → Answers → Type 0
TellsLeft left answers = IsSomeAnd left (λ input. answers ≡ answers_of input)
