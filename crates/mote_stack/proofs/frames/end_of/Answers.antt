use Rattle.std.proofs.Common.{◌+◌, ◌-◌, arith}
use Rattle.mote_stack.specs.Layout.{frames_below}
use Rattle.mote_stack.proofs.Youngest.{opened}
use Rattle.mote_stack.proofs.Walks.{method_in, body_in, frames_next, drop_next}
use Rattle.mote_stack.proofs.frames.end_of.Goals as goal

pub index-requires-in-loop-step : goal.index-requires-in-loop-step
index-requires-in-loop-step c =
    let view = opened c.args.bodies.now.items c.args.cells.now.items (c.args.count - c.loop-step._step) c.loop-step.end (c.loop-step.end - 4) c.loop-step.invariant.frames (omega arith) (omega arith) in
    let known = method_in c.args.bodies.now.items c.args.cells.now.items (c.args.count - c.loop-step._step) c.loop-step.end (c.loop-step.end - 4) c.from.result c.index.result.now c.from-in-loop-step.result view (omega arith) c.from.ensures c.index.ensures c.from-in-loop-step.ensures in
    omega arith

pub overflow_sub-end : goal.overflow_sub-end
overflow_sub-end c =
    let view = opened c.args.bodies.now.items c.args.cells.now.items (c.args.count - c.loop-step._step) c.loop-step.end (c.loop-step.end - 4) c.loop-step.invariant.frames (omega arith) (omega arith) in
    let body = body_in c.args.bodies.now.items c.args.cells.now.items (c.args.count - c.loop-step._step) c.loop-step.end (c.loop-step.end - 4) c.from.result c.index.result.now c.from-in-loop-step.result c.index-in-loop-step.result.now view (omega arith) c.from.ensures c.index.ensures c.from-in-loop-step.ensures c.index-in-loop-step.ensures in
    omega arith

pub loop-step-preserved : goal.loop-step-preserved
loop-step-preserved c =
    let bodies = c.args.bodies.now.items in
    let cells = c.args.cells.now.items in
    let count = c.args.count - c.loop-step._step in
    let end = c.loop-step.end in
    let view = opened bodies cells count end (end - 4) c.loop-step.invariant.frames (omega arith) (omega arith) in
    let body = body_in bodies cells count end (end - 4) c.from.result c.index.result.now c.from-in-loop-step.result c.index-in-loop-step.result.now view (omega arith) c.from.ensures c.index.ensures c.from-in-loop-step.ensures c.index-in-loop-step.ensures in
    let base = end - 4 - c.index-in-loop-step.result.now in
    let older = c.args.count - (c.loop-step._step + 1) in
    record {
      frames = frames_next bodies cells count end (end - 4) older base view (omega arith) (omega arith);
      rest = drop_next bodies cells count end (end - 4) older base c.loop-step._step (frames_below bodies cells c.args.count c.args.used) view (omega arith) (omega arith) c.loop-step.invariant.rest;
      within = omega arith;
    }
