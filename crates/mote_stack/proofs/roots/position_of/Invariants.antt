use Rattle.std.proofs.Common.{◌≡◌, ◌-◌, ◌≤◌, ◌<◌, length}
use Rattle.mote_stack.specs.Roots.{refs_of}
use Rattle.mote_stack.specs.Layout.{AreFrames, frames_below, root_position}
use Rattle.mote_stack.proofs.roots.position_of.Given as goal

abbrev pub invariant-loop-step : goal.invariant-loop-step
invariant-loop-step l = record {
  frames : AreFrames l.bodies.items l.cells.items (l.count - l._step) l.end;
  rest : l.rest ≡ length (refs_of (frames_below l.bodies.items l.cells.items (l.count - l._step) l.end));
  within : l.end ≤ l.used;
  there : l.k < l.rest;
  value : root_position l.bodies.items l.cells.items (l.count - l._step) l.end l.k ≡ root_position l.bodies.items l.cells.items l.count l.used l.k;
}
