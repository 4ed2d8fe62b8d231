use Rattle.std.proofs.Common.{◌+◌, ◌∷◌, [], List, take, drop, get_or, ℕ, refl, subst, ◌∙◌}
use Rattle.std.proofs.lemmas.Result.{err_from_is_err_and}
use Rattle.std.proofs.lemmas.List.{take_all}
use Rattle.dialogue.specs.Dialogue.{Note, noting, gets-noting}
use Rattle.host_face.specs.Talk.{Talked}
use Rattle.host_face.proofs.TalkLemmas.{same-without, Talked-nothing, Talked-then, Talked-note, BrokeOff-then, BrokeOff-note}
use Rattle.mote_top.proofs.replies.Notes.{noting-more, noting-parts}
use Rattle.mote_top.proofs.note.note_all.Goals as goal

pub loop-byte-init : goal.loop-byte-init
loop-byte-init g c =
    let C = g.C.Console in
    record { talked = Talked-nothing C.shown C.noted C.faults C.room c.args.console.now; left = refl }

pub loop-byte-preserved : goal.loop-byte-preserved
loop-byte-preserved g c =
    let C = g.C.Console in
    let i = c.loop-byte.byte-index in
    let byte = get_or c.args.bytes.now i 0 in
    let said = c.in_ok-note.ensures in
    let one = Talked-note C.shown C.noted C.faults C.room c.loop-byte.console c.note.new.self byte said.noted said.shown said.faults said.room in
    let both = Talked-then C.shown C.noted C.faults C.room c.args.console.now c.loop-byte.console c.note.new.self (noting (take i c.args.bytes.now)) (Note byte ∷ []) c.loop-byte.invariant.talked one in
    record {
      talked = rw (noting-more c.args.bytes.now i c.loop-byte-test.true) both;
      left = said.left ∙ c.loop-byte.invariant.left;
    }

pub returns-in_err-note-clause-said : goal.returns-in_err-note-clause-said
returns-in_err-note-clause-said g c =
    let C = g.C.Console in
    let i = c.loop-byte.byte-index in
    let bytes = c.args.bytes.now in
    let byte = get_or bytes i 0 in
    let said = c.in_err-note.ensures in
    let one = BrokeOff-note C.left C.shown C.noted C.faults C.room c.loop-byte.console c.note.new.self byte (noting (drop (i + 1) bytes)) said.left said.refused said.shown said.faults said.room said.failed said.full in
    let both = BrokeOff-then C.left C.shown C.noted C.faults C.room c.args.console.now c.loop-byte.console c.note.new.self (noting (take i bytes)) (Note byte ∷ noting (drop (i + 1) bytes)) (same-without (noting (take i bytes)) (C.left c.args.console.now) (C.left c.loop-byte.console) (gets-noting (take i bytes)) c.loop-byte.invariant.left) c.loop-byte.invariant.talked one in
    let p = err_from_is_err_and c.from_residual.result c.from_residual.ensures.1 in
    rw p.1 (rw (noting-parts bytes i c.loop-byte-test.true) both)

pub returns-clause-said : goal.returns-clause-said
returns-clause-said g c =
    let C = g.C.Console in
    let whole = take_all c.loop-byte.byte-index c.args.bytes.now c.loop-byte-test.false in
    subst (λ (bytes : List ℕ). Talked C.shown C.noted C.faults C.room c.args.console.now c.loop-byte.console (noting bytes)) whole c.loop-byte.invariant.talked
