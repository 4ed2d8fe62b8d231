-- Each row that covers the pc is entered.
use Rattle.std.proofs.Common.{◌≡◌, List, [], None, ◌∷◌, take, filter, get_or, sym, ap, subst, ◌∙◌}
use Rattle.body_form.specs.declared.body.Guard.{Guard}
use Rattle.body_form.specs.declared.types.VFrame.{VFrame}
use Rattle.body_form.specs.Flow.{covers}
use Rattle.jvm_model.specs.TypesRight.{Sent, sent_to_handlers}
use Rattle.type_table.specs.Frames.{frame_of}
use Rattle.type_table.proofs.Growing.{frame_stays, grows_along}
use Rattle.flow_verify.specs.Waves.{Adds}
use Rattle.flow_verify.proofs.waves.Adding.{Sends, sends_none, sends_more}
use Rattle.flow_verify.proofs.waves.Handlers.{handlers_none, handlers_more}
use Rattle.flow_verify.proofs.sending.enter_handlers.Goals as goal

-- what stands for a row past the end
abbrev no_row : Guard
no_row = record { start = 0; end = 0; target = 0; class = None }

pub loop-guard-init : goal.loop-guard-init
loop-guard-init c =
    let s = c.args.store.now in
    subst (λ (sent : List Sent). Sends c.args.body.now.ops s s sent c.args.arriving.now.items c.args.arriving.now.items) (sym (handlers_none (frame_of s c.args.before) (frame_of s c.args.after)))
    (sends_none c.args.body.now.ops s c.args.arriving.now.items)

pub enter_covering-requires-clause-before : goal.enter_covering-requires-clause-before
enter_covering-requires-clause-before c = (frame_stays c.args.store.now c.loop-guard.store c.args.before c.loop-guard.invariant.grows c.requires.before).there

pub enter_covering-requires-clause-after : goal.enter_covering-requires-clause-after
enter_covering-requires-clause-after c = (frame_stays c.args.store.now c.loop-guard.store c.args.after c.loop-guard.invariant.grows c.requires.after).there

pub returns-in-Err-clause-grows : goal.returns-in-Err-clause-grows
returns-in-Err-clause-grows c = grows_along c.args.store.now c.loop-guard.store c.enter_covering.new.store c.loop-guard.invariant.grows c.enter_covering.ensures.grows

pub loop-guard-preserved : goal.loop-guard-preserved
loop-guard-preserved c =
    let ops = c.args.body.now.ops in
    let first = c.args.store.now in
    let s = c.loop-guard.store in
    let t = c.enter_covering.new.store in
    let guards = c.as_slice-guard-items.result.now in
    let i = c.loop-guard.guard-index in
    let before = frame_of first c.args.before in
    let after = frame_of first c.args.after in
    let row = get_or guards i no_row in
    let list = c.args.arriving.now.items in
    let of : VFrame → VFrame → List Sent = λ f g. sent_to_handlers f g (filter (covers c.args.pc) (row ∷ [])) in
    let before_is = (frame_stays first s c.args.before c.loop-guard.invariant.grows c.requires.before).is in
    let after_is = (frame_stays first s c.args.after c.loop-guard.invariant.grows c.requires.after).is in
    let first_is : of (frame_of s c.args.before) (frame_of s c.args.after) ≡ of before after = ap (λ (f : VFrame). of f (frame_of s c.args.after)) before_is ∙ ap (λ (f : VFrame). of before f) after_is in
    let sent : Sends ops s t (sent_to_handlers before after (filter (covers c.args.pc) (row ∷ []))) c.loop-guard.arriving.items c.enter_covering.new.arriving.items = record { grows = c.enter_covering.ensures.grows; adds = subst (λ (all : List Sent). Adds ops t all c.loop-guard.arriving.items c.enter_covering.new.arriving.items) first_is c.in-Ok.ensures.sent } in
    subst (λ (all : List Sent). Sends ops first t all list c.enter_covering.new.arriving.items) (sym (handlers_more before after c.args.pc guards i no_row c.loop-guard-test.true))
    (sends_more ops first s t (sent_to_handlers before after (filter (covers c.args.pc) (take i guards))) (sent_to_handlers before after (filter (covers c.args.pc) (row ∷ []))) list c.loop-guard.arriving.items c.enter_covering.new.arriving.items
    c.loop-guard.invariant sent)
