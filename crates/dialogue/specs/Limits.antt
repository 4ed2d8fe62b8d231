-- What a run may use, whichever machine runs.
use Rattle.std.specs.Prelude.{ℕ}

-- the cells of the heap and of the stack, and the budget of ticks
pub record Limits : Type 0 where
  pub heap : ℕ
  pub stack : ℕ
  pub ticks : ℕ
