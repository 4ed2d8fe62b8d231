-- A frame whose halves a test fills.
use Rattle.std.proofs.Common.{◌≡◌, ℕ, ◌+◌, ◌-◌, ◌<◌, [], ◌∷◌, length}
use Rattle.mote_stack.specs.Frames.{Stack, youngest_frame}

-- so many cells of the one frame are in use
pub record Filling (size at : ℕ) (stack : Stack) : Type 0 where
  pub its_size : stack.size ≡ size
  pub its_bodies : stack.bodies ≡ (size - 4) ∷ []
  pub one_frame : length stack.frames ≡ 1
  pub body_is : (youngest_frame stack).body ≡ size - 4
  pub so_far : length (youngest_frame stack).refs + length (youngest_frame stack).cells ≡ at
  pub refs_there : 0 < at → 0 < length (youngest_frame stack).refs
  pub cells_there : 1 < at → 0 < length (youngest_frame stack).cells
