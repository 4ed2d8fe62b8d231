-- The greatest number of operand cells by what moves.
use Rattle.std.specs.Prelude.{◌≡◌, ℕ, List}
use Rattle.image_instr.specs.declared.signature.Sig.{Sig}
use Rattle.jvm_model.specs.ImageExpansion.{Emitted}
use Rattle.jvm_model.specs.WidthsFrame.{most_operands}
use Rattle.flow_split.specs.declared.moves.Move.{Move}
use Rattle.flow_split.specs.Moves.{most_moves, AreMoves}

-- the moves of instructions have the greatest number of the instructions
abbrev pub MovesAreEnough : Type 0
MovesAreEnough = (sig : Sig) (height : ℕ) (emitted : List Emitted) (moves : List Move) → AreMoves emitted moves → most_operands sig height emitted ≡ most_moves height moves
