-- A stack that a test fills.
use Rattle.std.specs.Prelude.{◌≡◌, ℕ, ◌+◌, ◌-◌, ◌<◌, [], ◌∷◌, length}
use Rattle.mote_stack.specs.Frames.{Stack, youngest_frame}

-- one frame takes the whole memory, and its halves meet
pub record IsFilled (size : ℕ) (stack : Stack) : Type 0 where
  pub its_size : stack.size ≡ size
  pub its_bodies : stack.bodies ≡ (size - 4) ∷ []
  pub one_frame : length stack.frames ≡ 1
  pub body_is : (youngest_frame stack).body ≡ size - 4
  pub halves_meet : length (youngest_frame stack).refs + length (youngest_frame stack).cells ≡ size - 4
  pub refs_there : 0 < length (youngest_frame stack).refs
  pub cells_there : 0 < length (youngest_frame stack).cells
