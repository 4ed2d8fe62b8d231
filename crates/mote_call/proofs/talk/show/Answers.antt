use Rattle.std.proofs.Common.{◌+◌, ◌∷◌, [], take, drop, get_or, ◌∙◌}
use Rattle.std.proofs.lemmas.Result.{err_from_is_err_and}
use Rattle.dialogue.specs.Dialogue.{Put, putting, gets-putting}
use Rattle.host_face.proofs.TalkLemmas.{Talked-then, Talked-put, BrokeOff-then, BrokeOff-put, same-without}
use Rattle.mote_call.proofs.Consoles.{putting-more, putting-parts}
use Rattle.mote_call.proofs.talk.show.Goals as goal

pub loop-byte-preserved : goal.loop-byte-preserved
loop-byte-preserved g c =
    let C = g.C.Console in
    let i = c.loop-byte.byte-index in
    let byte = get_or c.args.bytes.now i 0 in
    let said = c.in_ok-put.ensures in
    let one = Talked-put C.shown C.noted C.faults C.room c.loop-byte.console c.put.new.self byte said.shown said.noted said.faults said.room in
    let both = Talked-then C.shown C.noted C.faults C.room c.args.console.now c.loop-byte.console c.put.new.self (putting (take i c.args.bytes.now)) (Put byte ∷ []) c.loop-byte.invariant.talked one in
    record {
      talked = rw (putting-more c.args.bytes.now i c.loop-byte-test.true) both;
      left = said.left ∙ c.loop-byte.invariant.left;
    }

pub returns-in_err-put-clause-said : goal.returns-in_err-put-clause-said
returns-in_err-put-clause-said g c =
    let C = g.C.Console in
    let i = c.loop-byte.byte-index in
    let bytes = c.args.bytes.now in
    let byte = get_or bytes i 0 in
    let said = c.in_err-put.ensures in
    let one = BrokeOff-put C.left C.shown C.noted C.faults C.room c.loop-byte.console c.put.new.self byte (putting (drop (i + 1) bytes)) said.left said.refused said.noted said.faults said.room said.failed said.full in
    let both = BrokeOff-then C.left C.shown C.noted C.faults C.room c.args.console.now c.loop-byte.console c.put.new.self (putting (take i bytes)) (Put byte ∷ putting (drop (i + 1) bytes)) (same-without (putting (take i bytes)) (C.left c.args.console.now) (C.left c.loop-byte.console) (gets-putting (take i bytes)) c.loop-byte.invariant.left) c.loop-byte.invariant.talked one in
    let p = err_from_is_err_and c.from_residual.result c.from_residual.ensures.1 in
    rw p.1 (rw (putting-parts bytes i c.loop-byte-test.true) both)
