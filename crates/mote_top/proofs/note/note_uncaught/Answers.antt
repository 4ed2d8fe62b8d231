use Rattle.std.proofs.Common.{◌∷◌, [], ◌++◌}
use Rattle.std.specs.Prelude.{codes}
use Rattle.std.proofs.lemmas.Result.{err_from_is_err_and}
use Rattle.mote_top.proofs.replies.Notes.{Noting-prefix, Noting-last}
use Rattle.mote_top.proofs.note.note_uncaught.Goals as goal

pub returns-in_err-note_all-clause-said : goal.returns-in_err-note_all-clause-said
returns-in_err-note_all-clause-said g c =
    let C = g.C.Console in
    let p = err_from_is_err_and c.from_residual.result c.from_residual.ensures.1 in
    rw p.1 (Noting-prefix C.left C.shown C.noted C.faults C.room c.args.console.now c.note_all.new.console (codes "uncaught ") (c.args.class.now ++ 10 ∷ []) c.in_err-note_all.ensures.said)

pub returns-clause-said : goal.returns-clause-said
returns-clause-said g c =
    let C = g.C.Console in
    Noting-last C.left C.shown C.noted C.faults C.room c.args.console.now c.note_all.new.console c.note_text.new.console (codes "uncaught ") (c.args.class.now ++ 10 ∷ []) c.note_text.result c.in_ok-note_all.ensures.left c.in_ok-note_all.ensures.said c.note_text.ensures.said
