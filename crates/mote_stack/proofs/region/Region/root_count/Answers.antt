use Rattle.std.proofs.Common.{◌+◌, ◌-◌, ap, arith}
use Rattle.mote_stack.specs.Layout.{base_of}
use Rattle.mote_stack.proofs.Youngest.{opened}
use Rattle.mote_stack.proofs.Walks.{method_in, depth_in, frames_next, refs_next, refs_bound, Passes, passes}
use Rattle.mote_stack.proofs.region.Region.root_count.Goals as goal
use Rattle.mote_stack.proofs.region.Region.root_count.Goals.{After-index-in-loop-step-2}

pub overflow_add-total : goal.overflow_add-total
overflow_add-total c =
    let bodies = c.self.inside.bodies.items in
    let cells = c.self.inside.cells.items in
    let count = c.self.inside.count - c.loop-step._step in
    let end = c.loop-step.end in
    let view = opened bodies cells count end (end - 4) c.loop-step.invariant.frames (omega arith) (omega arith) in
    let within = c.self.invariant.within in
    let depth = depth_in cells (end - 4) (c.from.result + 2) c.index.result.now (omega arith) (ap (λ n. n + 2) c.from.ensures) c.index.ensures in
    let bound = refs_bound bodies cells c.self.inside.count c.self.inside.used within c.self.invariant.in_frames in
    let total = c.loop-step.invariant.total in
    let next = refs_next bodies cells count end (end - 4) (count - 1) (base_of bodies cells (end - 4)) c.index.result.now view (omega arith) (omega arith) (omega arith) depth in
    omega arith

pub index-requires-in-loop-step-2 : goal.index-requires-in-loop-step-2
index-requires-in-loop-step-2 c =
    let bodies = c.self.inside.bodies.items in
    let cells = c.self.inside.cells.items in
    let count = c.self.inside.count - c.loop-step._step in
    let end = c.loop-step.end in
    let view = opened bodies cells count end (end - 4) c.loop-step.invariant.frames (omega arith) (omega arith) in
    let known = method_in bodies cells count end (end - 4) c.from-in-loop-step.result c.index-in-loop-step.result.now c.from-in-loop-step-2.result view (omega arith) c.from-in-loop-step.ensures c.index-in-loop-step.ensures c.from-in-loop-step-2.ensures in
    omega arith

-- the frame that a step passes
abbrev IsPassed : goal.After-index-in-loop-step-2 → Type 0
IsPassed c = Passes c.self.inside.bodies.items c.self.inside.cells.items (c.self.inside.count - c.loop-step._step) c.loop-step.end (c.self.inside.count - (c.loop-step._step + 1)) c.index-in-loop-step-2.result.now c.index.result.now

is_passed : (c : goal.After-index-in-loop-step-2) → IsPassed c
is_passed c =
    let bodies = c.self.inside.bodies.items in
    let cells = c.self.inside.cells.items in
    let count = c.self.inside.count - c.loop-step._step in
    let end = c.loop-step.end in
    let view = opened bodies cells count end (end - 4) c.loop-step.invariant.frames (omega arith) (omega arith) in
    passes bodies cells count end (c.self.inside.count - (c.loop-step._step + 1)) (c.from.result + 2) c.index.result.now c.from-in-loop-step.result c.index-in-loop-step.result.now c.from-in-loop-step-2.result c.index-in-loop-step-2.result.now
    c.loop-step.invariant.frames (omega arith) (omega arith) (omega arith) (ap (λ n. n + 2) c.from.ensures) c.index.ensures c.from-in-loop-step.ensures c.index-in-loop-step.ensures c.from-in-loop-step-2.ensures c.index-in-loop-step-2.ensures

pub overflow_sub-end : goal.overflow_sub-end
overflow_sub-end c = omega (arith, (is_passed (goal.at.overflow_sub-end c).After-index-in-loop-step-2).fits)

pub loop-step-preserved : goal.loop-step-preserved
loop-step-preserved c =
    let bodies = c.self.inside.bodies.items in
    let cells = c.self.inside.cells.items in
    let count = c.self.inside.count - c.loop-step._step in
    let end = c.loop-step.end in
    let passed = is_passed (goal.at.loop-step-preserved c).After-index-in-loop-step-2 in
    let base = end - 4 - c.index-in-loop-step-2.result.now in
    let older = c.self.inside.count - (c.loop-step._step + 1) in
    let total = c.loop-step.invariant.total in
    record {
      frames = frames_next bodies cells count end (end - 4) older base passed.view passed.less passed.low;
      total = omega arith;
      within = omega arith;
    }
