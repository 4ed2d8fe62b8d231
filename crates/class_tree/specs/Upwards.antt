-- The first answer on the way up from a class.
use Rattle.std.specs.Prelude.{ℕ, zero, suc, List, [], ◌∷◌, Option, None}
use Rattle.std.specs.Option.{option_or}

-- the first answer that the classes of a list give, in their order
unfoldable pub first_answer : {X : Type 0} → (ℕ → Option X) → List ℕ → Option X
first_answer answer [] = None
first_answer answer (class ∷ classes) = option_or (answer class) (first_answer answer classes)

-- The answer that a class itself gives, or else the first that those above it give, in their order, each by
-- the same rule. Levels above so many are not asked.
unfoldable pub first_upwards : {X : Type 0} → (ℕ → List ℕ) → (ℕ → Option X) → ℕ → ℕ → Option X
first_upwards above own zero class = None
first_upwards above own (suc levels) class = option_or (own class) (first_answer (first_upwards above own levels) (above class))
