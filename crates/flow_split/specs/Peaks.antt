-- The greatest number of operand cells of a run of moves that has begun.
use Rattle.std.specs.Prelude.{ℕ, ◌+◌, ◌-◌, max, List}
use Rattle.image_instr.specs.declared.signature.Sig.{Sig}
use Rattle.jvm_model.specs.ImageExpansion.{Emitted}
use Rattle.jvm_model.specs.WidthsFrame.{most_operands}
use Rattle.flow_split.specs.declared.moves.Move.{Move}
use Rattle.flow_split.specs.declared.peaks.Peak.{Peak}
use Rattle.flow_split.specs.Moves.{most_moves}

-- where these moves follow
abbrev pub most_after : Peak → List Move → ℕ
most_after peak moves = max peak.most (most_moves peak.height moves)

-- where these instructions follow
abbrev pub most_emitted : Sig → Peak → List Emitted → ℕ
most_emitted sig peak emitted = max peak.most (most_operands sig peak.height emitted)

-- after a move
abbrev pub moved : Peak → Move → Peak
moved peak made = record { height = (peak.height - made.pops) + made.pushes; most = max peak.most peak.height }
