-- The memory of a new mote: before main's frame is pushed, and after.
use Rattle.std.specs.Prelude.{◌≡◌, ℕ, ◌<◌, ◌≤◌, [], replicate, Option, Some, None}
use Rattle.dialogue.specs.Answers.{Answers}
use Rattle.image_form.specs.declared.record.Image.{Image}
use Rattle.image_form.specs.declared.record.Method.{Method}
use Rattle.mote_model.specs.declared.ending.Ending.{Ending}
use Rattle.mote_model.specs.declared.ending.Ending.TheVariants as ending
use Rattle.mote_model.specs.declared.memory.State.{State as Memory}
use Rattle.mote_model.specs.Picture.{Pictures, shown_stack}
use Rattle.mote_model.specs.SplitRun.{start_state}
use Rattle.mote_model.specs.SplitState.{frame_cells, method_at}
use Rattle.mote_core.specs.Kept.{nothing_placed}

-- no frame on a stack of so many cells, the initial statics, and no collection so far
pub record IsEmpty (image : Image) (size : ℕ) (memory : Memory) : Type 0 where
  pub region : memory.region ≡ shown_stack image nothing_placed size []
  pub ref_statics : memory.ref_statics.items ≡ replicate image.static_refs 0
  pub cell_statics : memory.cell_statics.items ≡ image.static_cells
  pub collections : memory.collections ≡ 0

-- Where main's frame fits a stack of so many cells, it is pushed, and there is no ending; and where it does not, the ending
-- is that want.
pub record HasBegun (image : Image) (size : ℕ) (memory : Memory) (how : Option Ending) : Type 0 where
  pub fits : (method : Method) → method_at image image.main ≡ Some method → frame_cells method ≤ size → (how ≡ None) × ((answers : Answers) → Pictures image nothing_placed size memory (start_state image method answers))
  pub wants : (method : Method) → method_at image image.main ≡ Some method → size < frame_cells method → how ≡ Some (ending.StackWanted (frame_cells method) 0)
  pub collections : memory.collections ≡ 0
