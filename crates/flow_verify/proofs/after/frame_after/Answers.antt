-- The frame after a change is within the limits, or the rule does not hold.
use Rattle.std.proofs.Common.{true, false, option_map, sym, ap, ◌∙◌}
use Rattle.type_table.specs.Changes.{meant}
use Rattle.type_table.specs.Frames.{frame_of}
use Rattle.flow_verify.proofs.families.Placed.{read_is}
use Rattle.flow_verify.proofs.families.FrameAfter.{none_after, after_change}
use Rattle.flow_verify.proofs.after.frame_after.Goals as goal

pub returns-in-None-clause-after : goal.returns-in-None-clause-after
returns-in-None-clause-after c =
    let x = c.index-as_slice-position.result in
    let here = read_is c.args.body.now.ops c.as_slice.result.now c.as_slice.ensures.all c.args.position x c.requires.position c.index-as_slice-position.is in
    let none = sym (ap (option_map meant) (sym c.in-None.is) ∙ c.in_ok-change.ensures.change) in
    record {
      there = tt;
      is = sym (none_after c.args.set.now c.args.body.now c.args.position x here (frame_of c.args.store.now c.args.frame) (sym c.is_within.ensures ∙ c.if-not-is_within.false) (sym c.falls_off.ensures ∙ c.if-falls_off.false) none);
    }

pub returns-then-is_within-clause-after : goal.returns-then-is_within-clause-after
returns-then-is_within-clause-after c =
    let x = c.index-as_slice-position.result in
    let here = read_is c.args.body.now.ops c.as_slice.result.now c.as_slice.ensures.all c.args.position x c.requires.position c.index-as_slice-position.is in
    let some = ap (option_map meant) (sym c.in-Some.is) ∙ c.in_ok-change.ensures.change in
    let found = c.in_ok-after.ensures.changed in
    record {
      there = found.there;
      is =
          sym (after_change c.args.set.now c.args.body.now c.args.position x here (frame_of c.args.store.now c.args.frame) (sym c.is_within.ensures ∙ c.if-not-is_within.false) (sym c.falls_off.ensures ∙ c.if-falls_off.false)
          (meant c.in-Some.change) (frame_of c.changed.new.self c.in_ok-after.after) true some found.is (sym c.if-is_within.true ∙ c.is_within-2.ensures));
    }

pub returns-else-is_within-clause-after : goal.returns-else-is_within-clause-after
returns-else-is_within-clause-after c =
    let x = c.index-as_slice-position.result in
    let here = read_is c.args.body.now.ops c.as_slice.result.now c.as_slice.ensures.all c.args.position x c.requires.position c.index-as_slice-position.is in
    let some = ap (option_map meant) (sym c.in-Some.is) ∙ c.in_ok-change.ensures.change in
    let found = c.in_ok-after.ensures.changed in
    record {
      there = tt;
      is =
          sym (after_change c.args.set.now c.args.body.now c.args.position x here (frame_of c.args.store.now c.args.frame) (sym c.is_within.ensures ∙ c.if-not-is_within.false) (sym c.falls_off.ensures ∙ c.if-falls_off.false)
          (meant c.in-Some.change) (frame_of c.changed.new.self c.in_ok-after.after) false some found.is (sym c.if-is_within.false ∙ c.is_within-2.ensures));
    }
