use Rattle.set_laws.proofs.EarlyPhases.{early_phase_functions}
use Rattle.set_laws.proofs.laws.early_phases_are_functions.Goals as goal

pub returns : goal.returns
returns c = early_phase_functions
