-- The first refusal among those of the items of a list.
use Rattle.std.specs.Prelude.{ℕ, suc, nat_le, if◌then◌else◌, List, [], ◌∷◌, Option, None}
use Rattle.std.specs.Option.{option_or}

-- what the first item is refused for that has a refusal; each is told its position, which counts from here
unfoldable pub first_refusal : {X R : Type 0} → (ℕ → X → Option R) → ℕ → List X → Option R
first_refusal test position [] = None
first_refusal test position (x ∷ xs) = option_or (test position x) (first_refusal test (suc position) xs)

-- a number in the four bytes of its field: the greatest one where it is beyond
abbrev pub saturated : ℕ → ℕ
saturated n = if nat_le n 4294967295 then n else 4294967295
