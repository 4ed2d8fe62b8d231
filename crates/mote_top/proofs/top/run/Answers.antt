use Rattle.std.proofs.Common.{◌∷◌, [], refl}
use Rattle.mote_top.specs.Words.{run_of, limits_in}
use Rattle.mote_top.specs.Call.{shelved, spoken, call}
use Rattle.mote_top.specs.Reply.{HasAt, InfusionReplies, MayReply, OfRun, dialogue_of}
use Rattle.mote_top.proofs.replies.Answering.{Answers-weaker, Answers-quiet}
use Rattle.mote_top.proofs.replies.Choices.{run_may, load_may, one_load}
use Rattle.mote_top.proofs.top.run.Goals as goal

pub returns-in-Ok-clause-replied : goal.returns-in-Ok-clause-replied
returns-in-Ok-clause-replied g c = λ settings options opts.
    let C = g.C.Console in
    let S = g.S.Shelf in
    let name = c.args.name.now in
    let bytes = c.as_slice.result.now in
    let limits = limits_in c.args.opts in
    let console = spoken C.left C.shown C.noted C.faults C.room c.args.console.now in
    let before = shelved S.kept S.load_faults S.store_faults c.args.shelf.now in
    let after = shelved S.kept S.load_faults S.store_faults c.load.new.shelf in
    let found : HasAt before.kept name bytes = rw c.as_slice.ensures.value c.in-Ok.ensures.loaded in
    Answers-weaker dialogue_of (InfusionReplies bytes limits console.left) (MayReply (call (run_of name settings) before console) after limits)
    (run_may settings name bytes c.args.opts options opts c.requires.name before after console found c.in-Ok.ensures.kept)
    console (spoken C.left C.shown C.noted C.faults C.room c.run_infusion.new.console) c.run_infusion.result c.run_infusion.ensures

pub returns-in-Err-clause-replied : goal.returns-in-Err-clause-replied
returns-in-Err-clause-replied g c = λ settings options opts.
    let C = g.C.Console in
    let S = g.S.Shelf in
    let name = c.args.name.now in
    let limits = limits_in c.args.opts in
    let console = spoken C.left C.shown C.noted C.faults C.room c.args.console.now in
    let before = shelved S.kept S.load_faults S.store_faults c.args.shelf.now in
    let after = shelved S.kept S.load_faults S.store_faults c.load.new.shelf in
    Answers-quiet (λ on. MayReply (call (run_of name settings) before on) after limits) console c.in-Err.status
    (load_may (run_of name settings) (name ∷ []) 1 (OfRun name settings refl c.requires.name options) limits before after c.in-Err.ensures.kept c.in-Err.status
    (one_load name before.load_faults after.load_faults c.in-Err.status c.in-Err.ensures.failed))
