-- First the successors, then the handlers.
use Rattle.std.proofs.Common.{map, filter}
use Rattle.std.proofs.lemmas.Result.{on_ok_weaker}
use Rattle.body_form.specs.Flow.{covers, successors}
use Rattle.jvm_model.specs.TypesRight.{sent_to_handlers}
use Rattle.type_table.specs.Frames.{frame_of}
use Rattle.type_table.proofs.Growing.{grows_itself}
use Rattle.flow_verify.specs.Waves.{sent_with}
use Rattle.flow_verify.proofs.waves.Adding.{Sends, sends_more}
use Rattle.flow_verify.proofs.sending.send_from.Goals as goal

pub returns-clause-sent : goal.returns-clause-sent
returns-clause-sent c =
    let body = c.args.body.now in
    let s = c.args.store.now in
    let t = c.enter_handlers.new.store in
    let before = frame_of s c.args.before in
    let after = frame_of s c.args.after in
    let next = map (sent_with after) (successors body.ops c.args.pc) in
    let list = c.args.arriving.now.items in
    let mid = c.send_on.new.arriving.items in
    let first : Sends body.ops s s next list mid = record { grows = grows_itself s; adds = c.in_ok-send_on.ensures s c.requires.after } in
    on_ok_weaker c.enter_handlers.result
    (λ sent.
    let second : Sends body.ops s t (sent_to_handlers before after (filter (covers c.args.pc) body.handlers)) mid c.enter_handlers.new.arriving.items = record { grows = c.enter_handlers.ensures.grows; adds = sent } in
    (sends_more body.ops s s t next (sent_to_handlers before after (filter (covers c.args.pc) body.handlers)) list mid c.enter_handlers.new.arriving.items first second).adds)
    c.enter_handlers.ensures.sent
