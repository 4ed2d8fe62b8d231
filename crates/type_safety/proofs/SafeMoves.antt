-- From a state that fits there is a move, and the next state fits.
use Rattle.type_safety.specs.Safety.{FactsKeepSafe}
use Rattle.type_safety.proofs.fitting.PartsHold.{are_parts}
use Rattle.type_safety.proofs.moves.AllMoves.{moves_fit}

pub facts_keep_safe : FactsKeepSafe
facts_keep_safe = moves_fit are_parts
