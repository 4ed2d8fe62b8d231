use Rattle.dialogue.specs.Dialogue.{puts-append, notes-append, puts-noting, notes-noting}
use Rattle.dialogue.proofs.dialogues_join.Goals as goal

pub returns : goal.returns
returns c = record { puts = puts-append; notes = notes-append; noting_puts = puts-noting; noting_notes = notes-noting }
