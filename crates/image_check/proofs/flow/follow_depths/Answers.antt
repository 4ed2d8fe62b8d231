use Rattle.std.proofs.Common.{◌≡◌, [], subst, arith}
use Rattle.std.proofs.lemmas.List.{nil_from_length}
use Rattle.image_check.specs.Flow.{IsFlow, StartsAt}
use Rattle.image_check.proofs.Ending.{all_right, all_one_depth}
use Rattle.image_check.proofs.Flowing.{first-flow, popped-flow}
use Rattle.image_check.proofs.Holding.{first_start}
use Rattle.image_check.proofs.flow.follow_depths.Goals as goal

pub loop-pc-init : goal.loop-pc-init
loop-pc-init c =
    let well = c.requires.well in
    let start : StartsAt c.args.method.now.code 0 = record { insns = well.insns; is_code = well.is_code; start = first_start c.args.method.now.code well.insns well.is_code c.requires.some } in
    rw (c.in_ok-push.ensures.items, c.new-work.ensures.items, c.in_ok-depths.ensures.items, c.len.ensures) (first-flow c.args.image.now c.args.method.now well start c.requires.some)

pub step-requires-clause-flow : goal.step-requires-clause-flow
step-requires-clause-flow c =
    popped-flow c.args.image.now c.args.method.now c.loop-pc.flow.depths.items c.loop-pc.flow.work.items c.pop.new.self.items c.in-Some.pc c.in-Some.ensures.items c.loop-pc.invariant

pub returns-clause-right : goal.returns-clause-right
returns-clause-right c =
    let none : c.loop-pc.flow.work.items ≡ [] = nil_from_length c.loop-pc.flow.work.items (omega (arith, c.in_default.ensures.cases.0, c.loop-pc.flow.work.ok.0)) in
    let flow = subst (IsFlow c.args.image.now c.args.method.now c.loop-pc.flow.depths.items) none c.loop-pc.invariant in
    all_right c.args.image.now c.args.method.now c.loop-pc.flow.depths.items flow

pub returns-clause-one_depth : goal.returns-clause-one_depth
returns-clause-one_depth c =
    let none : c.loop-pc.flow.work.items ≡ [] = nil_from_length c.loop-pc.flow.work.items (omega (arith, c.in_default.ensures.cases.0, c.loop-pc.flow.work.ok.0)) in
    let flow = subst (IsFlow c.args.image.now c.args.method.now c.loop-pc.flow.depths.items) none c.loop-pc.invariant in
    all_one_depth c.args.image.now c.args.method.now c.loop-pc.flow.depths.items flow
