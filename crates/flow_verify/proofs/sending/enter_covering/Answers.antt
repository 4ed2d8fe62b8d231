-- Both frames are sent where the row covers the pc.
use Rattle.std.proofs.Common.{◌≡◌, List, true, false, sym, subst}
use Rattle.std.proofs.lemmas.Result.{on_ok_weaker}
use Rattle.body_form.specs.Flow.{covers}
use Rattle.jvm_model.specs.TypesRight.{Sent}
use Rattle.type_table.specs.Frames.{frame_of}
use Rattle.type_table.proofs.Growing.{frame_stays}
use Rattle.flow_verify.specs.Waves.{Adds}
use Rattle.flow_verify.proofs.waves.Adding.{adds_none}
use Rattle.flow_verify.proofs.waves.Handlers.{handlers_covering, handlers_beyond, enter_both}
use Rattle.flow_verify.proofs.sending.enter_covering.Goals as goal

pub returns-then-not-covers-clause-sent : goal.returns-then-not-covers-clause-sent
returns-then-not-covers-clause-sent c =
    let ops = c.args.body.now.ops in
    let s = c.args.store.now in
    let list = c.args.arriving.now.items in
    let beyond : covers c.args.pc c.args.guard.now ≡ false = sym c.if-not-covers.ensures in
    subst (λ (sent : List Sent). Adds ops s sent list list) (sym (handlers_beyond (frame_of s c.args.before) (frame_of s c.args.after) c.args.pc c.args.guard.now beyond)) (adds_none ops s list)

pub enter-requires-2 : goal.enter-requires-2
enter-requires-2 c = (frame_stays c.args.store.now c.enter.new.store c.args.after c.enter.ensures.grows c.requires.after).there

pub returns-clause-sent : goal.returns-clause-sent
returns-clause-sent c =
    let ops = c.args.body.now.ops in
    let s = c.args.store.now in
    let within : covers c.args.pc c.args.guard.now ≡ true = sym c.if-not-covers.ensures in
    on_ok_weaker c.enter-2.result
    (λ second.
    let both = enter_both ops s c.enter.new.store c.enter-2.new.store c.args.before c.args.after c.args.guard.now c.args.arriving.now.items c.enter.new.arriving.items c.enter-2.new.arriving.items c.requires.after
    c.enter.ensures.grows c.in_ok-enter.ensures.sent c.enter-2.ensures.grows second
    in
    subst (λ (sent : List Sent). Adds ops c.enter-2.new.store sent c.args.arriving.now.items c.enter-2.new.arriving.items)
    (sym (handlers_covering (frame_of s c.args.before) (frame_of s c.args.after) c.args.pc c.args.guard.now within)) both.adds)
    c.enter-2.ensures.sent
