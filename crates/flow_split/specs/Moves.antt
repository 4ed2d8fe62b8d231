-- What instructions do to the cells of the operand stack.
use Rattle.std.specs.Prelude.{◌≡◌, ℕ, ◌+◌, ◌-◌, max, Bool, ◌&&◌, not, nat_eq, List, [], ◌∷◌, map, filter}
use Rattle.image_instr.specs.declared.signature.Sig.{Sig}
use Rattle.image_instr.specs.Effect.{effect_of}
use Rattle.jvm_model.specs.ImageExpansion.{Emitted}
use Rattle.jvm_model.specs.WidthsFrame.{popped, pushed}
use Rattle.flow_split.specs.declared.moves.Move.{Move}

-- so many cells are popped, and then so many pushed
abbrev pub move_of : Sig → Emitted → Move
move_of sig emitted = record { pops = popped (effect_of emitted.0 sig); pushes = pushed (effect_of emitted.0 sig) }

-- the greatest number of cells before, between and after these moves
unfoldable pub most_moves : ℕ → List Move → ℕ
most_moves height [] = height
most_moves height (move ∷ rest) = max height (most_moves ((height - move.pops) + move.pushes) rest)

-- nothing is popped or pushed
abbrev pub is_still : Move → Bool
is_still move = nat_eq move.pops 0 && nat_eq move.pushes 0

abbrev pub moving : List Move → List Move
moving moves = filter (λ move. not (is_still move)) moves

-- these are the moves of the instructions, but for those that move nothing
abbrev pub AreMoves : List Emitted → List Move → Type 0
AreMoves emitted moves = (sig : Sig) → moving moves ≡ moving (map (move_of sig) emitted)
