use Rattle.std.proofs.Common.{◌<◌, ◌≤◌, sym, subst, arith, get_or, length, below_more}
use Rattle.std.specs.List.{Contains}
use Rattle.std.proofs.lemmas.List.Elements.{Contains-get_or}
use Rattle.image_check.specs.Visits.{successors}
use Rattle.image_check.specs.Table.{as_depth, Has}
use Rattle.image_check.specs.Flow.{IsEntered, HasOther}
use Rattle.image_check.proofs.Passing.{yes, no}
use Rattle.image_check.proofs.Spreading.{spread-more, entered-has, entered-keeps, other-first, each-place}
use Rattle.image_check.proofs.Targets.{successors_are}
use Rattle.image_check.proofs.send.send_all.Goals as goal

pub send-requires : goal.send-requires
send-requires c =
    let targets = successors c.args.code.now c.args.pc c.args.insn c.args.size in
    let lt : c.loop-index.index < length targets = omega (arith, successors_are c.args.code.now c.args.pc c.args.insn c.args.size, c.successor_count-index-end.ensures, c.loop-index-test.true) in
    omega (arith, c.requires.within c.loop-index.index 0 lt, c.loop-index.invariant.spread.size, c.successor-to.ensures)

pub returns-then-not-branch-clause-sent : goal.returns-then-not-branch-clause-sent
returns-then-not-branch-clause-sent c =
    let targets = successors c.args.code.now c.args.pc c.args.insn c.args.size in
    let d = as_depth c.args.d in
    let to = c.successor-to.result in
    let table = c.loop-index.flow.depths.items in
    let work = c.loop-index.flow.work.items in
    let lt : c.loop-index.index < length targets = omega (arith, successors_are c.args.code.now c.args.pc c.args.insn c.args.size, c.successor_count-index-end.ensures, c.loop-index-test.true) in
    let place = subst (Contains targets) (sym c.successor-to.ensures) (Contains-get_or targets c.loop-index.index 0 lt) in
    let other = no c.in_ok-send.field-0 (IsEntered table work to d c.send.new.flow.depths.items c.send.new.flow.work.items) (HasOther table to d) c.if-not-branch.true c.in_ok-send.ensures.sent in
    record { to = to; place = place; other = other-first targets d c.args.flow.now.depths.items c.args.flow.now.work.items table work c.loop-index.invariant.spread to other }

pub loop-index-preserved : goal.loop-index-preserved
loop-index-preserved c =
    let targets = successors c.args.code.now c.args.pc c.args.insn c.args.size in
    let d = as_depth c.args.d in
    let to = c.successor-to.result in
    let table = c.loop-index.flow.depths.items in
    let work = c.loop-index.flow.work.items in
    let later = c.send.new.flow.depths.items in
    let after = c.send.new.flow.work.items in
    let lt : c.loop-index.index < length targets = omega (arith, successors_are c.args.code.now c.args.pc c.args.insn c.args.size, c.successor_count-index-end.ensures, c.loop-index-test.true) in
    let place = subst (Contains targets) (sym c.successor-to.ensures) (Contains-get_or targets c.loop-index.index 0 lt) in
    let within : to < length table = omega (arith, c.requires.within c.loop-index.index 0 lt, c.loop-index.invariant.spread.size, c.successor-to.ensures) in
    let entered = yes c.in_ok-send.field-0 (IsEntered table work to d later after) (HasOther table to d) c.if-not-branch.false c.in_ok-send.ensures.sent in
    record {
      spread = spread-more targets d c.args.flow.now.depths.items c.args.flow.now.work.items table work c.loop-index.invariant.spread to place later after within entered;
      each = below_more (λ k. Has later (get_or targets k 0) d) c.loop-index.index
          (λ k h. entered-keeps table work to d later after within entered (get_or targets k 0) d (c.loop-index.invariant.each k h))
          (subst (λ i. Has later i d) c.successor-to.ensures (entered-has table work to d later after within entered));
    }

pub returns-clause-sent : goal.returns-clause-sent
returns-clause-sent c =
    let targets = successors c.args.code.now c.args.pc c.args.insn c.args.size in
    let past : length targets ≤ c.loop-index.index = omega (arith, successors_are c.args.code.now c.args.pc c.args.insn c.args.size, c.successor_count-index-end.ensures, c.loop-index-test.false) in
    record {
      spread = c.loop-index.invariant.spread;
      each = each-place targets (λ to. Has c.loop-index.flow.depths.items to (as_depth c.args.d)) (λ k lt. c.loop-index.invariant.each k (omega (arith, past, lt)));
    }
