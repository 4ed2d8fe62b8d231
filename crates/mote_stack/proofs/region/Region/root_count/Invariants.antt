use Rattle.std.proofs.Common.{◌≡◌, ◌+◌, ◌-◌, ◌≤◌, length}
use Rattle.mote_stack.specs.Roots.{refs_of}
use Rattle.mote_stack.specs.Layout.{AreFrames, frames_below}
use Rattle.mote_stack.proofs.region.Region.root_count.Given as goal

abbrev pub invariant-loop-step : goal.invariant-loop-step
invariant-loop-step l = record {
  frames : AreFrames l.self-inside.bodies.items l.self-inside.cells.items (l.self-inside.count - l._step) l.end;
  total : l.total + length (refs_of (frames_below l.self-inside.bodies.items l.self-inside.cells.items (l.self-inside.count - l._step) l.end))
      ≡ length (refs_of (frames_below l.self-inside.bodies.items l.self-inside.cells.items l.self-inside.count l.self-inside.used));
  within : l.end ≤ l.self-inside.used;
}
