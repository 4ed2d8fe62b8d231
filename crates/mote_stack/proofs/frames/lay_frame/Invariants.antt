use Rattle.std.proofs.Common.{◌≡◌, ℕ, ◌≤◌, ◌<◌, get_or, vec_len}
use Rattle.mote_stack.proofs.frames.lay_frame.Given as goal

abbrev pub invariant-loop-at : goal.invariant-loop-at
invariant-loop-at l = record {
  len : vec_len l.cells ≡ vec_len l.initial.cells;
  below : (k : ℕ) → k < l.base → get_or l.cells.items k 0 ≡ get_or l.initial.cells.items k 0;
  zeros : (k : ℕ) → l.base ≤ k → k < l.at → get_or l.cells.items k 0 ≡ 0;
}
