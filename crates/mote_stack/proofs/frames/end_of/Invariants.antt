use Rattle.std.proofs.Common.{◌≡◌, ◌-◌, ◌≤◌, drop}
use Rattle.mote_stack.specs.Layout.{AreFrames, frames_below}
use Rattle.mote_stack.proofs.frames.end_of.Given as goal

abbrev pub invariant-loop-step : goal.invariant-loop-step
invariant-loop-step l = record {
  frames : AreFrames l.bodies.items l.cells.items (l.count - l._step) l.end;
  rest : drop l._step (frames_below l.bodies.items l.cells.items l.count l.used) ≡ frames_below l.bodies.items l.cells.items (l.count - l._step) l.end;
  within : l.end ≤ l.used;
}
