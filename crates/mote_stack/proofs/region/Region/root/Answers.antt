use Rattle.std.proofs.Common.{get_or, length, ◌∙◌, ap, arith}
use Rattle.std.proofs.lemmas.List.{get_or_read}
use Rattle.mote_stack.specs.Frames.{Stack}
use Rattle.mote_stack.specs.Roots.{roots_of}
use Rattle.mote_stack.proofs.RootCells.{root_read}
use Rattle.mote_stack.proofs.region.Region.root.Goals as goal

pub returns : goal.returns
returns c =
    let i = c.self.inside in
    let is = c.self.invariant in
    let same = ap (λ (s : Stack). length (roots_of s)) c.self.view_is in
    get_or_read i.cells.items c.position_of.result c.index.result.now (omega arith) c.index.ensures 0
    ∙ (ap (λ k. get_or i.cells.items k 0) c.position_of.ensures.value
    ∙ (root_read i.bodies.items i.cells.items i.count i.used c.args.k is.within is.in_frames (omega arith)
    ∙ ap (λ (s : Stack). get_or (roots_of s) c.args.k 0) c.self.view_is))
