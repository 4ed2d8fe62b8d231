use Rattle.std.proofs.Common.{◌≡◌, ◌+◌, ◌-◌, length, sym, ◌∙◌, ap, arith}
use Rattle.mote_stack.specs.Roots.{refs_of}
use Rattle.mote_stack.specs.Layout.{frames_below}
use Rattle.mote_stack.proofs.Youngest.{opened}
use Rattle.mote_stack.proofs.Walks.{method_in, frames_next, position_below, position_here, Passes, passes}
use Rattle.mote_stack.proofs.roots.position_of.Goals as goal
use Rattle.mote_stack.proofs.roots.position_of.Goals.{After-index-in-loop-step-2}

pub overflow_sub-header : goal.overflow_sub-header
overflow_sub-header c =
    let view = opened c.args.bodies.now.items c.args.cells.now.items (c.args.count - c.loop-step._step) c.loop-step.end (c.loop-step.end - 4) c.loop-step.invariant.frames (omega arith) (omega arith) in
    omega (arith, view.header_last)

pub index-requires-in-loop-step-2 : goal.index-requires-in-loop-step-2
index-requires-in-loop-step-2 c =
    let bodies = c.args.bodies.now.items in
    let cells = c.args.cells.now.items in
    let count = c.args.count - c.loop-step._step in
    let end = c.loop-step.end in
    let view = opened bodies cells count end (end - 4) c.loop-step.invariant.frames (omega arith) (omega arith) in
    let known = method_in bodies cells count end (end - 4) c.from-in-loop-step.result c.index-in-loop-step.result.now c.from-in-loop-step-2.result view (omega arith) c.from-in-loop-step.ensures c.index-in-loop-step.ensures c.from-in-loop-step-2.ensures in
    omega arith

-- the frame that a step passes
abbrev IsPassed : goal.After-index-in-loop-step-2 → Type 0
IsPassed c = Passes c.args.bodies.now.items c.args.cells.now.items (c.args.count - c.loop-step._step) c.loop-step.end (c.args.count - (c.loop-step._step + 1)) c.index-in-loop-step-2.result.now c.index.result.now

is_passed : (c : goal.After-index-in-loop-step-2) → IsPassed c
is_passed c =
    let bodies = c.args.bodies.now.items in
    let cells = c.args.cells.now.items in
    let count = c.args.count - c.loop-step._step in
    let end = c.loop-step.end in
    let view = opened bodies cells count end (end - 4) c.loop-step.invariant.frames (omega arith) (omega arith) in
    passes bodies cells count end (c.args.count - (c.loop-step._step + 1)) (c.from.result + 2) c.index.result.now c.from-in-loop-step.result c.index-in-loop-step.result.now c.from-in-loop-step-2.result c.index-in-loop-step-2.result.now
    c.loop-step.invariant.frames (omega arith) (omega arith) (omega arith) (ap (λ n. n + 2) c.from.ensures) c.index.ensures c.from-in-loop-step.ensures c.index-in-loop-step.ensures c.from-in-loop-step-2.ensures c.index-in-loop-step-2.ensures

pub overflow_sub-base : goal.overflow_sub-base
overflow_sub-base c = omega (arith, (is_passed (goal.at.overflow_sub-base c).After-index-in-loop-step-2).fits)

pub overflow_sub-rest : goal.overflow_sub-rest
overflow_sub-rest c = omega (arith, (is_passed (goal.at.overflow_sub-rest c).After-index-in-loop-step-2).next, c.from-depth.ensures, c.loop-step.invariant.rest)

pub overflow_sub-result : goal.overflow_sub-result
overflow_sub-result c = omega (arith, (is_passed (goal.at.overflow_sub-result c).After-index-in-loop-step-2).next, c.from-depth.ensures, c.loop-step.invariant.rest, c.loop-step.invariant.there)

pub returns-then-rest-depth-clause-value : goal.returns-then-rest-depth-clause-value
returns-then-rest-depth-clause-value c =
    let bodies = c.args.bodies.now.items in
    let cells = c.args.cells.now.items in
    let count = c.args.count - c.loop-step._step in
    let end = c.loop-step.end in
    let passed = is_passed (goal.at.returns-then-rest-depth-clause-value c).After-index-in-loop-step-2 in
    let base = end - 4 - c.index-in-loop-step-2.result.now in
    let older = c.args.count - (c.loop-step._step + 1) in
    let here = position_here bodies cells count end (end - 4) older base c.args.k passed.view passed.less passed.low (omega (arith, c.if-rest-depth.true)) in
    let sum : c.from-then-rest-depth.result + (c.args.k - (c.loop-step.rest - c.from-depth.result)) ≡ base + (c.args.k - length (refs_of (frames_below bodies cells older base))) = omega arith in
    sum ∙ (sym here ∙ c.loop-step.invariant.value)

pub returns-then-rest-depth-clause-within : goal.returns-then-rest-depth-clause-within
returns-then-rest-depth-clause-within c =
    let passed = is_passed (goal.at.returns-then-rest-depth-clause-within c).After-index-in-loop-step-2 in
    omega (arith, c.if-rest-depth.true)

pub loop-step-preserved : goal.loop-step-preserved
loop-step-preserved c =
    let bodies = c.args.bodies.now.items in
    let cells = c.args.cells.now.items in
    let count = c.args.count - c.loop-step._step in
    let end = c.loop-step.end in
    let passed = is_passed (goal.at.loop-step-preserved c).After-index-in-loop-step-2 in
    let base = end - 4 - c.index-in-loop-step-2.result.now in
    let older = c.args.count - (c.loop-step._step + 1) in
    let rest = c.loop-step.invariant.rest in
    record {
      frames = frames_next bodies cells count end (end - 4) older base passed.view passed.less passed.low;
      rest = omega arith;
      within = omega arith;
      there = omega arith;
      value = sym (position_below bodies cells count end (end - 4) older base c.args.k passed.view passed.less passed.low (omega arith)) ∙ c.loop-step.invariant.value;
    }
