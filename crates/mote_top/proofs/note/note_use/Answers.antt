use Rattle.std.proofs.Common.{◌∷◌, [], ◌++◌}
use Rattle.std.specs.Prelude.{codes}
use Rattle.std.proofs.lemmas.Result.{err_from_is_err_and}
use Rattle.mote_top.specs.Status.{blank_number, line}
use Rattle.mote_top.proofs.replies.Notes.{Noting-prefix, Noting-last}
use Rattle.mote_top.proofs.note.note_use.Goals as goal

pub returns-in_err-note_named-clause-said : goal.returns-in_err-note_named-clause-said
returns-in_err-note_named-clause-said g c =
    let C = g.C.Console in
    let p = err_from_is_err_and c.from_residual.result c.from_residual.ensures.1 in
    rw p.1 (Noting-prefix C.left C.shown C.noted C.faults C.room c.args.console.now c.note_named.new.console (c.args.word.now ++ blank_number c.args.used) (line (codes " size") (c.args.size ∷ [])) c.in_err-note_named.ensures.said)

pub returns-clause-said : goal.returns-clause-said
returns-clause-said g c =
    let C = g.C.Console in
    Noting-last C.left C.shown C.noted C.faults C.room c.args.console.now c.note_named.new.console c.note_line.new.console (c.args.word.now ++ blank_number c.args.used) (line (codes " size") (c.args.size ∷ [])) c.note_line.result c.in_ok-note_named.ensures.left c.in_ok-note_named.ensures.said c.note_line.ensures.said
