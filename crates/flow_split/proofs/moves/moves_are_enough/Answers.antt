-- Moves that move nothing do not count.
use Rattle.flow_split.proofs.Moving.{enough}
use Rattle.flow_split.proofs.moves.moves_are_enough.Goals as goal

pub returns : goal.returns
returns c = enough
