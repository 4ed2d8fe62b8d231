-- The instruction at the position is the one at its pc.
use Rattle.std.proofs.Common.{List, get_or, None, sym, subst}
use Rattle.body_form.specs.declared.types.VFrame.{VFrame}
use Rattle.jvm_model.specs.TypesRight.{Sent, sent_from}
use Rattle.type_table.specs.Frames.{frame_of}
use Rattle.type_table.proofs.Growing.{frame_stays}
use Rattle.flow_verify.specs.KnownFrames.{IsSound}
use Rattle.flow_verify.specs.Waves.{Adds}
use Rattle.flow_verify.proofs.waves.Positions.{pc_of_position, start_here}
use Rattle.flow_verify.proofs.waves.SentAt.{at_index, sent_is, sent_unruled, is_unruled, is_ruled, one_unruled, frame_known, at_known, rule_found, rule_fails}
use Rattle.flow_verify.proofs.waves.Adding.{adds_none}
use Rattle.flow_verify.proofs.sending.send_at.Goals as goal

pub frame_after-requires-clause-there : goal.frame_after-requires-clause-there
frame_after-requires-clause-there c =
    (at_known (λ known. IsSound c.args.set.now c.args.store.now known.frame) (get_or c.args.known.now c.args.position None) c.in-Some.known c.in-Some.is (c.requires.sound c.args.position)).there

pub frame_after-requires-clause-known : goal.frame_after-requires-clause-known
frame_after-requires-clause-known c =
    (at_known (λ known. IsSound c.args.set.now c.args.store.now known.frame) (get_or c.args.known.now c.args.position None) c.in-Some.known c.in-Some.is (c.requires.sound c.args.position)).proper.known

pub send_from-requires-clause-start : goal.send_from-requires-clause-start
send_from-requires-clause-start c =
    let body = c.args.body.now in
    let x = c.index-as_slice-position.result in
    let here = at_index body.ops c.as_slice.result.now c.args.position x c.requires.within c.as_slice.ensures.all c.index-as_slice-position.is in
    start_here body.ops c.args.position x.0 c.requires.within (pc_of_position body.ops c.args.position x here)

pub send_from-requires-clause-before : goal.send_from-requires-clause-before
send_from-requires-clause-before c =
    let s = c.args.store.now in
    let sound = at_known (λ known. IsSound c.args.set.now s known.frame) (get_or c.args.known.now c.args.position None) c.in-Some.known c.in-Some.is (c.requires.sound c.args.position) in
    (frame_stays s c.frame_after.new.store c.in-Some.known.frame c.in_ok-after.ensures.grows sound.there).there

pub returns-in_ok-send_from-in-Some-2-clause-sent : goal.returns-in_ok-send_from-in-Some-2-clause-sent
returns-in_ok-send_from-in-Some-2-clause-sent c =
    let body = c.args.body.now in
    let s = c.args.store.now in
    let t = c.frame_after.new.store in
    let k = c.args.position in
    let x = c.index-as_slice-position.result in
    let known = c.in-Some.known in
    let here = at_index body.ops c.as_slice.result.now k x c.requires.within c.as_slice.ensures.all c.index-as_slice-position.is in
    let has = frame_known s c.args.known.now k known c.in-Some.is in
    let found = rule_found c.args.set.now body t k x here (frame_of s known.frame) c.in_ok-after.field-0 c.in_ok-after.ensures.after c.in-Some-2.after c.in-Some-2.is in
    let after = frame_of t c.in-Some-2.after in
    let sent = sent_is c.args.set.now body s c.args.known.now k x here (frame_of s known.frame) has after found.1 in
    let sound = at_known (λ known. IsSound c.args.set.now s known.frame) (get_or c.args.known.now k None) known c.in-Some.is (c.requires.sound k) in
    let before = (frame_stays s t known.frame c.in_ok-after.ensures.grows sound.there).is in
    subst (λ (list : List Sent). Adds body.ops c.send_from.new.store list c.args.arriving.now.items c.send_from.new.arriving.items) (sym sent)
    (subst (λ (f : VFrame). Adds body.ops c.send_from.new.store (sent_from body x.0 f after) c.args.arriving.now.items c.send_from.new.arriving.items) before c.in_ok-send_from-in-Some-2.ensures.sent)

pub returns-in_ok-send_from-in-Some-2-clause-ruled : goal.returns-in_ok-send_from-in-Some-2-clause-ruled
returns-in_ok-send_from-in-Some-2-clause-ruled c =
    let body = c.args.body.now in
    let s = c.args.store.now in
    let k = c.args.position in
    let x = c.index-as_slice-position.result in
    let here = at_index body.ops c.as_slice.result.now k x c.requires.within c.as_slice.ensures.all c.index-as_slice-position.is in
    let has = frame_known s c.args.known.now k c.in-Some.known c.in-Some.is in
    let found = rule_found c.args.set.now body c.frame_after.new.store k x here (frame_of s c.in-Some.known.frame) c.in_ok-after.field-0 c.in_ok-after.ensures.after c.in-Some-2.after c.in-Some-2.is in
    is_ruled c.args.set.now body s c.args.known.now k x here (frame_of s c.in-Some.known.frame) has (frame_of c.frame_after.new.store c.in-Some-2.after) found.1

pub returns-in-None-clause-sent : goal.returns-in-None-clause-sent
returns-in-None-clause-sent c =
    let body = c.args.body.now in
    let s = c.args.store.now in
    let k = c.args.position in
    let x = c.index-as_slice-position.result in
    let here = at_index body.ops c.as_slice.result.now k x c.requires.within c.as_slice.ensures.all c.index-as_slice-position.is in
    let has = frame_known s c.args.known.now k c.in-Some.known c.in-Some.is in
    let fails = rule_fails c.args.set.now body c.frame_after.new.store k x here (frame_of s c.in-Some.known.frame) c.in_ok-after.field-0 c.in_ok-after.ensures.after c.in-None.is in
    let none = sent_unruled c.args.set.now body s c.args.known.now k x here (frame_of s c.in-Some.known.frame) has fails in
    subst (λ (sent : List Sent). Adds body.ops c.frame_after.new.store sent c.args.arriving.now.items c.args.arriving.now.items) (sym none) (adds_none body.ops c.frame_after.new.store c.args.arriving.now.items)

pub returns-in-None-clause-ruled : goal.returns-in-None-clause-ruled
returns-in-None-clause-ruled c =
    let body = c.args.body.now in
    let s = c.args.store.now in
    let k = c.args.position in
    let x = c.index-as_slice-position.result in
    let here = at_index body.ops c.as_slice.result.now k x c.requires.within c.as_slice.ensures.all c.index-as_slice-position.is in
    let has = frame_known s c.args.known.now k c.in-Some.known c.in-Some.is in
    let fails = rule_fails c.args.set.now body c.frame_after.new.store k x here (frame_of s c.in-Some.known.frame) c.in_ok-after.field-0 c.in_ok-after.ensures.after c.in-None.is in
    let un = is_unruled c.args.set.now body s c.args.known.now k x here (frame_of s c.in-Some.known.frame) has fails in
    (un, λ pc less. one_unruled c.args.set.now body s c.args.known.now k x.0 pc less un)
