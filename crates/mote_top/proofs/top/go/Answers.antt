use Rattle.std.proofs.Common.{Vec, Global, ℕ, map, refl, subst}
use Rattle.std.specs.String.{string_bytes}
use Rattle.mote_top.specs.Words.{go_of, class_place, limits_in}
use Rattle.mote_top.specs.Call.{shelved, spoken, call}
use Rattle.mote_top.specs.Reply.{SetReplies, MayReply, HaveAll, OfGo, dialogue_of}
use Rattle.mote_top.specs.Storing.{FailsToLoad}
use Rattle.mote_top.proofs.replies.Answering.{Answers-weaker, Answers-quiet}
use Rattle.mote_top.proofs.replies.Choices.{go_may, load_may}
use Rattle.mote_top.proofs.top.go.Goals as goal

pub returns-in-Ok-clause-replied : goal.returns-in-Ok-clause-replied
returns-in-Ok-clause-replied g c = λ settings options opts place.
    let C = g.C.Console in
    let S = g.S.Shelf in
    let names = map string_bytes c.args.names.now in
    let files = map (λ (v : Vec ℕ Global). v.items) c.as_slice.result.now in
    let limits = limits_in c.args.opts in
    let console = spoken C.left C.shown C.noted C.faults C.room c.args.console.now in
    let before = shelved S.kept S.load_faults S.store_faults c.args.shelf.now in
    let after = shelved S.kept S.load_faults S.store_faults c.load_all.new.shelf in
    let found : HaveAll before.kept names files = rw c.as_slice.ensures.value c.in-Ok.ensures.loaded in
    Answers-weaker dialogue_of (SetReplies files limits console.left) (MayReply (call (go_of settings names) before console) after limits)
    (go_may settings names files c.args.opts options opts c.requires.names before after console found c.in-Ok.ensures.kept)
    console (spoken C.left C.shown C.noted C.faults C.room c.run_classes.new.console) c.run_classes.result c.run_classes.ensures

pub returns-in-Err-clause-replied : goal.returns-in-Err-clause-replied
returns-in-Err-clause-replied g c = λ settings options opts place.
    let C = g.C.Console in
    let S = g.S.Shelf in
    let names = map string_bytes c.args.names.now in
    let limits = limits_in c.args.opts in
    let console = spoken C.left C.shown C.noted C.faults C.room c.args.console.now in
    let before = shelved S.kept S.load_faults S.store_faults c.args.shelf.now in
    let after = shelved S.kept S.load_faults S.store_faults c.load_all.new.shelf in
    let fails = subst (λ (n : ℕ). FailsToLoad names n before.load_faults after.load_faults c.in-Err.status) place c.in-Err.ensures.failed in
    Answers-quiet (λ on. MayReply (call (go_of settings names) before on) after limits) console c.in-Err.status
    (load_may (go_of settings names) names (class_place settings) (OfGo settings names refl options c.requires.names) limits before after c.in-Err.ensures.kept c.in-Err.status fails)
