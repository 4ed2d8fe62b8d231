-- What the natives of mote/Console show and read.
use Rattle.std.specs.Prelude.{ℕ, ℤ, pos, negsuc, ◌%◌, [], ◌∷◌, Some, None}
use Rattle.std.specs.Int.{w32, cast_unsigned}
use Rattle.dialogue.specs.Answers.{Answers}

-- write shows the low eight bits of a whole number
abbrev pub low_byte : ℤ → ℕ
low_byte number = cast_unsigned w32 number % 256

-- read gives the value of the byte that is answered, or -1 at the end; a number counts by its low eight
-- bits, so a byte, which has no more, by itself
abbrev pub next_byte : Answers → ℤ
next_byte [] = negsuc 0
next_byte (None ∷ rest) = negsuc 0
next_byte (Some byte ∷ rest) = pos (byte % 256)

abbrev pub after_byte : Answers → Answers
after_byte [] = []
after_byte (answer ∷ rest) = rest
