use Rattle.std.proofs.Common.{◌≡◌, ℕ, List, ◌∷◌, [], subst, ◌∙◌}
use Rattle.std.specs.Prelude.{decimal}
use Rattle.std.proofs.lemmas.Result.{err_from_is_err_and}
use Rattle.dialogue.specs.Dialogue.{noting}
use Rattle.host_face.specs.Talk.{Says}
use Rattle.mote_top.proofs.replies.Notes.{Noting-prefix, Noting-last}
use Rattle.mote_top.proofs.note.note_number.Goals as goal

pub returns-in_err-note_all-clause-said : goal.returns-in_err-note_all-clause-said
returns-in_err-note_all-clause-said g c =
    let C = g.C.Console in
    let p = err_from_is_err_and c.from_residual.result c.from_residual.ensures.1 in
    rw p.1 (Noting-prefix C.left C.shown C.noted C.faults C.room c.args.console.now c.note_all.new.console (32 ∷ []) (decimal c.args.number) c.in_err-note_all.ensures.said)

pub returns-clause-said : goal.returns-clause-said
returns-clause-said g c =
    let C = g.C.Console in
    let text : c.as_bytes.result.now ≡ decimal c.args.number = c.as_bytes.ensures.value ∙ c.format.ensures.text in
    let last = subst (λ (bytes : List ℕ). Says C.left C.shown C.noted C.faults C.room c.note_all.new.console c.note_all-2.new.console (noting bytes) c.note_all-2.result) text c.note_all-2.ensures.said in
    Noting-last C.left C.shown C.noted C.faults C.room c.args.console.now c.note_all.new.console c.note_all-2.new.console (32 ∷ []) (decimal c.args.number) c.note_all-2.result c.in_ok-note_all.ensures.left c.in_ok-note_all.ensures.said last
