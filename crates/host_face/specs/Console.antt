-- What a console reads and shows, each list of bytes told or untold.
use Rattle.std.specs.Prelude.{◌≡◌, ℕ, ◌≤◌, List, [], ◌∷◌, ◌++◌, length, Option, Some, None, IsSomeAnd, option_map}

-- the byte was the first of those that were left, or none was left
abbrev pub Takes : Option ℕ → Option (List ℕ) → Option (List ℕ) → Type 0
Takes (Some byte) old new = old ≡ option_map (λ rest. byte ∷ rest) new
Takes None old new = (old ≡ option_map (λ _. []) old) × (new ≡ old)

-- one byte more, where the bytes are told
abbrev pub with_byte : ℕ → Option (List ℕ) → Option (List ℕ)
with_byte byte bytes = option_map (λ bytes. bytes ++ byte ∷ []) bytes

-- where a room is told, the bytes are told and fit into it
abbrev pub FitsRoom : Option ℕ → Option (List ℕ) → Type 0
FitsRoom None bytes = Unit {0}
FitsRoom (Some room) bytes = IsSomeAnd bytes (λ bytes. length bytes ≤ room)

-- where a room is told, the bytes are told and fill it
abbrev pub FillsRoom : Option ℕ → Option (List ℕ) → Type 0
FillsRoom None bytes = Unit {0}
FillsRoom (Some room) bytes = IsSomeAnd bytes (λ bytes. length bytes ≡ room)
