-- The start frame is what is known at first.
use Rattle.std.proofs.lemmas.Result.{IfOk-weaker}
use Rattle.flow_verify.specs.declared.start.First.{First}
use Rattle.flow_verify.specs.Starting.{IsStored}
use Rattle.flow_verify.specs.Outcomes.{IsFirst}
use Rattle.flow_verify.proofs.waves.FirstKnown.{first_is}
use Rattle.flow_verify.proofs.start.start.Goals as goal

pub returns : goal.returns
returns c =
    let files = c.args.set.now in
    let body = c.args.body.now in
    let s = c.in_ok-store.store in
    let id = c.in_ok-store.frame in
    IfOk-weaker c.at_first.result (λ (first : First). IsStored body.ops s id first.frames first.wave.items) (λ first. IsFirst files body first.frames first.wave.items)
    (λ first is. first_is files c.requires.closed body c.requires.names s id c.in_ok-store.ensures first.frames first.wave.items is) c.at_first.ensures
