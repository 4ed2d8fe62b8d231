use Rattle.typed_machine.proofs.StepKeeps.{objects_kept}
use Rattle.typed_machine.proofs.objects_keep_types.Goals as goal

pub returns : goal.returns
returns c = objects_kept
