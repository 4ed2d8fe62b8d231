-- What a mote is, what a new one stands for, and what a run leaves of it.
use Rattle.std.specs.Prelude.{◌≡◌, ℕ, ◌<◌, ◌≤◌, false, Option, Some, None}
use Rattle.dialogue.specs.Answers.{Answers}
use Rattle.image_form.specs.Grammar.{IsImage}
use Rattle.image_form.specs.declared.record.Image.{Image}
use Rattle.image_form.specs.declared.record.Method.{Method}
use Rattle.mote_model.specs.declared.ending.Ending.{Ending}
use Rattle.mote_model.specs.declared.ending.Ending.TheVariants as ending
use Rattle.mote_model.specs.declared.memory.State.{State as Memory}
use Rattle.mote_model.specs.Picture.{Naming}
use Rattle.mote_model.specs.SplitRun.{start_state}
use Rattle.mote_model.specs.SplitState.{frame_cells, method_at}
use Rattle.split_safety.specs.Ready.{Shown}
use Rattle.run_loop.specs.Ran.{Stands, Start}

-- an image, how many cells the heap has, the memory, and the ending that is kept, if there is one
pub record Kept : Type 0 where
  pub image : Image
  pub heap : ℕ
  pub memory : Memory
  pub ending : Option Ending

-- no object is placed
abbrev pub nothing_placed : Naming
nothing_placed = record { offset = λ name. 0; kept = λ name. false }

-- where the run of the image begins with this method, over a stack of so many cells
abbrev pub begun : Image → ℕ → Method → Answers → Shown
begun image size method answers = record { image = image; state = start_state image method answers; naming = nothing_placed; size = size }

-- A new mote of the image, with a heap and a stack of so many cells: where main's frame fits, it stands for the start of the
-- run, whatever each get will be answered; and where it does not, the mote keeps that want.
pub record IsNew (image : Image) (heap size : ℕ) (mote : Kept) : Type 0 where
  pub image_form : IsImage image
  pub image_is : mote.image ≡ image
  pub heap_is : mote.heap ≡ heap
  pub stands : (method : Method) → method_at image image.main ≡ Some method → frame_cells method ≤ size → (mote.ending ≡ None) × ((answers : Answers) → Stands (begun image size method answers) mote.memory)
  pub wants : (method : Method) → method_at image image.main ≡ Some method → size < frame_cells method → mote.ending ≡ Some (ending.StackWanted (frame_cells method) 0)
  pub collections : let memory = mote.memory in memory.collections ≡ 0

-- unless it keeps an ending, the mote stands for this state of the run of its image
abbrev pub StandsFor : Shown → Kept → Type 0
StandsFor at mote = mote.ending ≡ None → (at.image ≡ mote.image) × Stands at mote.memory

-- where its next run starts
abbrev pub start_of : Shown → Kept → Start
start_of at mote = record { at = at; heap = mote.heap }

-- the ending that is kept after a run: none after one that is spent
abbrev pub kept_after : Ending → Option Ending
kept_after ending.Spent = None
kept_after how = Some how

-- a run leaves the image and the heap, and has no collection so far
pub record Leaves (old new : Kept) : Type 0 where
  pub image : new.image ≡ old.image
  pub heap : new.heap ≡ old.heap
  pub collections : let after = new.memory in let before = old.memory in after.collections ≡ before.collections
