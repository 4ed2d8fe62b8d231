use Rattle.std.proofs.Common.{sym, ◌∙◌, ap}
use Rattle.std.specs.List.{sum_by}
use Rattle.mote_stack.specs.Frames.{Stack, cells_of}
use Rattle.mote_stack.proofs.Youngest.{used_is}
use Rattle.mote_stack.proofs.region.Region.used.Goals as goal

pub returns : goal.returns
returns c =
    c.from.ensures
    ∙ (sym (used_is c.self.inside.bodies.items c.self.inside.cells.items c.self.inside.count c.self.inside.used c.self.invariant.in_frames)
    ∙ ap (λ (s : Stack). sum_by cells_of s.frames) c.self.view_is)
