use Rattle.std.proofs.Common.{[], map, refl, subst}
use Rattle.std.specs.String.{string_bytes}
use Rattle.mote_top.specs.declared.status.Status.TheVariants.{Words}
use Rattle.mote_top.specs.declared.words.Opts.{Opts}
use Rattle.mote_top.specs.Words.{opts_for, opts_of, limits_in}
use Rattle.mote_top.specs.Call.{shelved, spoken, call}
use Rattle.mote_top.specs.Reply.{MayReply}
use Rattle.mote_top.specs.Answer.{IsNoted}
use Rattle.mote_top.proofs.replies.Answering.{Answers-noted, Replied-quiet}
use Rattle.mote_top.proofs.replies.Choices.{words_may}
use Rattle.mote_top.proofs.top.replied.Goals as goal

pub returns-in-Ok-clause-replied : goal.returns-in-Ok-clause-replied
returns-in-Ok-clause-replied g c =
    let C = g.C.Console in
    let S = g.S.Shelf in
    let words = map string_bytes c.args.words.now in
    let before = shelved S.kept S.load_faults S.store_faults c.args.shelf.now in
    let after = shelved S.kept S.load_faults S.store_faults c.answer-status.new.shelf in
    let old = spoken C.left C.shown C.noted C.faults C.room c.args.console.now in
    let mid = spoken C.left C.shown C.noted C.faults C.room c.answer-status.new.console in
    let new = spoken C.left C.shown C.noted C.faults C.room c.noted.new.console in
    let limits = limits_in (opts_for c.in-Ok.command) in
    let line : IsNoted limits mid new c.answer-status.result c.noted.result = subst (λ (o : Opts). IsNoted (limits_in o) mid new c.answer-status.result c.noted.result) c.opts.ensures c.noted.ensures in
    record { limits = limits; answers = Answers-noted limits (MayReply (call words before old) after limits) old mid new c.answer-status.result c.noted.result c.answer-status.ensures.replied line }

pub returns-in-Err-clause-replied : goal.returns-in-Err-clause-replied
returns-in-Err-clause-replied g c =
    let C = g.C.Console in
    let S = g.S.Shelf in
    let words = map string_bytes c.args.words.now in
    let before = shelved S.kept S.load_faults S.store_faults c.args.shelf.now in
    let old = spoken C.left C.shown C.noted C.faults C.room c.args.console.now in
    let new = spoken C.left C.shown C.noted C.faults C.room c.noted-in-Err.new.console in
    let limits = limits_in (opts_of []) in
    let place = c.in-Err.fault.place in
    let quiet = Replied-quiet (MayReply (call words before old) before limits) old (Words place) (words_may words place limits c.in-Err.ensures before before old refl) in
    record { limits = limits; answers = Answers-noted limits (MayReply (call words before old) before limits) old old new (Words place) c.noted-in-Err.result quiet c.noted-in-Err.ensures }
