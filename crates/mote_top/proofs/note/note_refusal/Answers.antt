use Rattle.std.proofs.Common.{ℕ, List, ◌∷◌, [], subst}
use Rattle.std.specs.Prelude.{codes}
use Rattle.std.proofs.lemmas.Result.{err_from_is_err_and}
use Rattle.dialogue.specs.Dialogue.{noting}
use Rattle.host_face.specs.Talk.{Says}
use Rattle.mote_top.specs.Status.{line, cause_word}
use Rattle.mote_top.proofs.replies.Notes.{Noting-prefix, Noting-last}
use Rattle.mote_top.proofs.note.note_refusal.Goals as goal

pub returns-in_err-note_all-clause-said : goal.returns-in_err-note_all-clause-said
returns-in_err-note_all-clause-said g c =
    let C = g.C.Console in
    let r = c.args.refusal in
    let p = err_from_is_err_and c.from_residual.result c.from_residual.ensures.1 in
    rw p.1 (Noting-prefix C.left C.shown C.noted C.faults C.room c.args.console.now c.note_all.new.console (codes "refused ") (line (cause_word r.cause) (r.file ∷ r.member ∷ r.pc ∷ r.value ∷ [])) c.in_err-note_all.ensures.said)

pub returns-clause-said : goal.returns-clause-said
returns-clause-said g c =
    let C = g.C.Console in
    let r = c.args.refusal in
    let numbers = r.file ∷ r.member ∷ r.pc ∷ r.value ∷ [] in
    let last = subst (λ (word : List ℕ). Says C.left C.shown C.noted C.faults C.room c.note_all.new.console c.note_line.new.console (noting (line word numbers)) c.note_line.result) c.word_of.ensures c.note_line.ensures.said in
    Noting-last C.left C.shown C.noted C.faults C.room c.args.console.now c.note_all.new.console c.note_line.new.console (codes "refused ") (line (cause_word r.cause) numbers) c.note_line.result c.in_ok-note_all.ensures.left c.in_ok-note_all.ensures.said last
