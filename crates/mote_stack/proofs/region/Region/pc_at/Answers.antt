use Rattle.std.proofs.Common.{◌≡◌, ◌+◌, ◌-◌, get_or, sym, ◌∙◌, ap, arith}
use Rattle.std.proofs.lemmas.List.{get_or_read}
use Rattle.mote_stack.specs.Frames.{Frame}
use Rattle.mote_stack.proofs.Calls.{count_of}
use Rattle.mote_stack.proofs.Walks.{nth_is}
use Rattle.mote_stack.proofs.region.Region.pc_at.Goals as goal

pub end_of-end-requires-clause-there : goal.end_of-end-requires-clause-there
end_of-end-requires-clause-there c = omega (arith, count_of c.self.inside c.args.self.now c.self.view_is, c.requires)

pub overflow_sub-from : goal.overflow_sub-from
overflow_sub-from c =
    let nth = nth_is c.self.inside c.args.self.now c.args.k c.end_of-end.result c.self.view_is c.requires c.end_of-end.ensures.frames c.end_of-end.ensures.rest in
    omega (arith, nth.0, c.from.ensures)

pub returns : goal.returns
returns c =
    let cells = c.self.inside.cells.items in
    let end = c.end_of-end.result in
    let nth = nth_is c.self.inside c.args.self.now c.args.k end c.self.view_is c.requires c.end_of-end.ensures.frames c.end_of-end.ensures.rest in
    let at : c.from.result - 3 ≡ end - 4 + 1 = omega arith in
    get_or_read cells (c.from.result - 3) c.index.result.now (omega arith) c.index.ensures 0
    ∙ (ap (λ i. get_or cells i 0) at ∙ sym (ap (λ (f : Frame). f.pc) nth.1))
