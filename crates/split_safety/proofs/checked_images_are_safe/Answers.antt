use Rattle.split_safety.proofs.moves.AllMoves.{moves_stay}
use Rattle.split_safety.proofs.moves.Starting.{starts_are_reached}
use Rattle.split_safety.proofs.checked_images_are_safe.Goals as goal

pub returns-clause-moves : goal.returns-clause-moves
returns-clause-moves c = moves_stay

pub returns-clause-starts : goal.returns-clause-starts
returns-clause-starts c = starts_are_reached
