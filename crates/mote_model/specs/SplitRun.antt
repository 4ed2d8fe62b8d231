-- Runs of an image on the split machine.
use Rattle.std.specs.Prelude.{ℕ, List, [], ◌∷◌, replicate, Option, Some, None}
use Rattle.dialogue.specs.Answers.{Answers}
use Rattle.image_form.specs.declared.record.Image.{Image}
use Rattle.image_form.specs.declared.record.Method.{Method}
use Rattle.account.specs.Account.{Event, Bounds, Standing, Ends, Settled, Lost}
use Rattle.account.specs.Run.{begins, EndsSo}
use Rattle.mote_model.specs.State.{Frame}
use Rattle.mote_model.specs.SplitState.{State, method_at, frame_cells}
use Rattle.mote_model.specs.SplitMoves.{Ending, half}
use Rattle.mote_model.specs.SplitStep.{machine}

-- main's frame, all null and 0
abbrev pub first_frame : ℕ → Method → Frame
first_frame id method =
    record { method = id; pc = 0; refs = half (replicate method.ref_locals None) []; cells = half (replicate method.cell_locals 0) [] }

-- the initial statics, no objects, all of the answers
abbrev pub start_state : Image → Method → Answers → State
start_state image method answers =
    record {
      frames = first_frame image.main method ∷ [];
      objects = [];
      ref_statics = replicate image.static_refs None;
      cell_statics = image.static_cells;
      answers = answers;
    }

abbrev pub start_main : Image → Bounds → Answers → Option Method → Settled State Ending
start_main image bounds answers None = Lost
start_main image bounds answers (Some method) = begins bounds (frame_cells method) 0 (start_state image method answers)

-- where a run begins: main's frame is tested first, with no cell in use
abbrev pub start_of : Image → Bounds → Answers → Settled State Ending
start_of image bounds answers = start_main image bounds answers (method_at image image.main)

-- the run of an image within bounds, whose gets are answered so, ends so
abbrev pub Runs : Image → Bounds → Answers → List Event → Standing State → Ends Ending → Type 0
Runs image bounds answers events last how = EndsSo (machine image) bounds (start_of image bounds answers) events last how
