use Rattle.std.proofs.Common.{map}
use Rattle.std.specs.String.{string_bytes}
use Rattle.mote_top.specs.Call.{shelved, spoken, call, after}
use Rattle.mote_top.proofs.replies.Keeping.{promised}
use Rattle.mote_top.proofs.program.mote.Goals as goal

pub returns : goal.returns
returns g c =
    let C = g.C.Console in
    let S = g.S.Shelf in
    promised (record { image = c.accepted_sets_run.ensures.image; checked = c.accepted_sets_run.ensures.checked; built = c.accepted_sets_run.ensures.built; alike = c.accepted_sets_run.ensures.runs_alike })
    (call (map string_bytes c.args.words.now) (shelved S.kept S.load_faults S.store_faults c.args.shelf.now) (spoken C.left C.shown C.noted C.faults C.room c.args.console.now))
    (after (shelved S.kept S.load_faults S.store_faults c.replied.new.shelf) (spoken C.left C.shown C.noted C.faults C.room c.replied.new.console) c.replied.result)
    c.replied.ensures.replied c.replied.ensures.shelf
