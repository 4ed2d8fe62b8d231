use Rattle.std.proofs.Common.{ℕ, List, length, ◌∙◌, ap, arith, length-set}
use Rattle.mote_stack.specs.Frames.{Frame, Stack}
use Rattle.mote_stack.specs.Roots.{roots_of, with_root}
use Rattle.mote_stack.proofs.RootCells.{root_set}
use Rattle.mote_stack.proofs.region.Region.set_root.Goals as goal

pub invariant_of-self : goal.invariant_of-self
invariant_of-self c =
    let i = c.self.inside in
    let is = c.self.invariant in
    let same = ap (λ (s : Stack). length (roots_of s)) c.self.view_is in
    let long = length-set i.cells.items c.position_of-at.result c.args.v in
    let done = root_set i.bodies.items i.cells.items i.count i.used c.args.k c.args.v c.position_of-at.result is.within is.in_frames (omega arith) c.position_of-at.ensures.value in
    record {
      within = rw long is.within;
      size_large = rw long is.size_large;
      size_small = rw long is.size_small;
      header_last = is.header_last;
      in_frames = done.1;
    }

stacked : ℕ → List ℕ → List Frame → Stack
stacked size bodies frames = record { size = size; bodies = bodies; frames = frames }

pub returns : goal.returns
unfolding stacked
returns c =
    let i = c.self.inside in
    let is = c.self.invariant in
    let same = ap (λ (s : Stack). length (roots_of s)) c.self.view_is in
    let done = root_set i.bodies.items i.cells.items i.count i.used c.args.k c.args.v c.position_of-at.result is.within is.in_frames (omega arith) c.position_of-at.ensures.value in
    ap (λ fs. stacked i.cells.len i.bodies.items fs) done.0 ∙ ap (λ (s : Stack). with_root s c.args.k c.args.v) c.self.view_is
