-- The parts of moves hold.
use Rattle.type_safety.specs.Parts.{AreParts, LeavingFits}
use Rattle.type_safety.proofs.fitting.Growing.{growing_fits}
use Rattle.type_safety.proofs.fitting.Leaving.{leaves}
use Rattle.type_safety.proofs.fitting.Standing.{fitting_stands}
use Rattle.type_safety.proofs.fitting.Throwing.{throws_fit, object_throws_fit}
use Rattle.type_safety.proofs.fitting.Values.{are_of_set}

leaving_fits : LeavingFits
leaving_fits world tables set objects fit = leaves world tables set objects (are_of_set world objects fit)

pub are_parts : AreParts
are_parts = record { growing = growing_fits; leaving = leaving_fits; stands = fitting_stands; throwing = throws_fit; object_throwing = object_throws_fit }
