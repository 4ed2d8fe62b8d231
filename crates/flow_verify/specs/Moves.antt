-- The instructions that move operands, by the positions of those that they push.
use Rattle.std.specs.Prelude.{ℕ, ◌<◌, nat_le, if◌then◌else◌, List, map, length, get_or, Option, None}
use Rattle.std.specs.List.{AllByRecursion}
use Rattle.body_form.specs.declared.types.VFrame.{VFrame}
use Rattle.body_form.specs.declared.types.VType.{VType}
use Rattle.body_form.specs.declared.types.VType.TheVariants as known
use Rattle.jvm_model.specs.TypesRules.{Change, moves}

-- the operands at these positions, the top one at 0
abbrev pub picked : List VType → List ℕ → List VType
picked stack positions = map (λ position. get_or stack position known.Top) positions

-- where there are so many operands, they are taken, and those at these positions are pushed
abbrev pub moves_at : VFrame → ℕ → List ℕ → Option Change
moves_at frame pops positions = if nat_le pops (length frame.stack) then moves frame pops (picked frame.stack positions) else None

-- the positions are those of the operands that are taken
abbrev pub AreTaken : ℕ → List ℕ → Type 0
AreTaken pops positions = AllByRecursion (λ position. position < pops) positions
