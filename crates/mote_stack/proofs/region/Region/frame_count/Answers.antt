use Rattle.std.proofs.Common.{length, sym, ◌∙◌, ap, subst, arith}
use Rattle.mote_stack.specs.Frames.{Stack, IsStack}
use Rattle.mote_stack.proofs.Youngest.{frame_count_is, used_is, frames_fit}
use Rattle.mote_stack.proofs.region.Region.frame_count.Goals as goal

pub returns-clause-value : goal.returns-clause-value
returns-clause-value c =
    sym (frame_count_is c.self.inside.bodies.items c.self.inside.cells.items c.self.inside.count c.self.inside.used)
    ∙ ap (λ (s : Stack). length s.frames) c.self.view_is

pub returns-clause-holds : goal.returns-clause-holds
returns-clause-holds c =
    let i = c.self.inside in
    let is = c.self.invariant in
    let long = i.cells.ok.0 in
    let within = is.within in
    let used = used_is i.bodies.items i.cells.items i.count i.used is.in_frames in
    subst (λ s. IsStack s) c.self.view_is (record {
      size_large = omega arith;
      size_small = omega arith;
      within = omega arith;
      frames_fit = frames_fit i.bodies.items i.cells.items i.count i.used is.within is.in_frames;
    })
