use Rattle.std.proofs.Common.{ℕ, ◌+◌, ◌++◌, ◌∷◌, [], List, take, drop, get_or, sym, subst, ◌∙◌}
use Rattle.std.proofs.lemmas.Result.{err_from_is_err_and}
use Rattle.std.proofs.lemmas.List.{take_all, append-nil}
use Rattle.dialogue.specs.Dialogue.{noting}
use Rattle.host_face.specs.Talk.{Talked, BrokeOff, Says}
use Rattle.mote_top.specs.Status.{blank_number}
use Rattle.mote_top.proofs.replies.Notes.{Noting-prefix, Noting-broke, Noting-then, Noting-last, numbers_of, numbers-more, line-parts, line-end}
use Rattle.mote_top.proofs.note.note_line.Goals as goal

pub returns-in_err-note_number-clause-said : goal.returns-in_err-note_number-clause-said
returns-in_err-note_number-clause-said g c =
    let C = g.C.Console in
    let word = c.args.word.now in
    let numbers = c.args.numbers.now in
    let i = c.loop-number.number-index in
    let prefix = word ++ numbers_of (take i numbers) in
    let number = blank_number (get_or numbers i 0) in
    let broke = Noting-broke C.left C.shown C.noted C.faults C.room c.args.console.now c.loop-number.console c.note_number.new.console prefix number c.loop-number.invariant.left c.loop-number.invariant.talked c.in_err-note_number.ensures.said in
    let whole = Noting-prefix C.left C.shown C.noted C.faults C.room c.args.console.now c.note_number.new.console (prefix ++ number) (numbers_of (drop (i + 1) numbers) ++ 10 ∷ []) broke in
    let p = err_from_is_err_and c.from_residual-in_err-note_number.result c.from_residual-in_err-note_number.ensures.1 in
    rw p.1 (subst (λ (bytes : List ℕ). BrokeOff C.left C.shown C.noted C.faults C.room c.args.console.now c.note_number.new.console (noting bytes)) (sym (line-parts word numbers i c.loop-number-test.true)) whole)

pub returns-in_err-note_number-clause-left : goal.returns-in_err-note_number-clause-left
returns-in_err-note_number-clause-left g c = c.in_err-note_number.ensures.left ∙ c.loop-number.invariant.left

pub loop-number-init : goal.loop-number-init
loop-number-init g c =
    let C = g.C.Console in
    record {
      talked = subst (λ (bytes : List ℕ). Talked C.shown C.noted C.faults C.room c.args.console.now c.note_all.new.console (noting bytes)) (sym (append-nil c.args.word.now)) c.in_ok-note_all.ensures.said;
      left = c.in_ok-note_all.ensures.left;
    }

pub loop-number-preserved : goal.loop-number-preserved
loop-number-preserved g c =
    let C = g.C.Console in
    let word = c.args.word.now in
    let numbers = c.args.numbers.now in
    let i = c.loop-number.number-index in
    let talked = Noting-then C.left C.shown C.noted C.faults C.room c.args.console.now c.loop-number.console c.note_number.new.console (word ++ numbers_of (take i numbers)) (blank_number (get_or numbers i 0)) c.loop-number.invariant.talked c.in_ok-note_number.ensures.said in
    record {
      talked = subst (λ (bytes : List ℕ). Talked C.shown C.noted C.faults C.room c.args.console.now c.note_number.new.console (noting bytes)) (sym (numbers-more word numbers i c.loop-number-test.true)) talked;
      left = c.in_ok-note_number.ensures.left ∙ c.loop-number.invariant.left;
    }

pub returns-clause-said : goal.returns-clause-said
returns-clause-said g c =
    let C = g.C.Console in
    let word = c.args.word.now in
    let numbers = c.args.numbers.now in
    let all = take_all c.loop-number.number-index numbers c.loop-number-test.false in
    let talked = subst (λ (part : List ℕ). Talked C.shown C.noted C.faults C.room c.args.console.now c.loop-number.console (noting (word ++ numbers_of part))) all c.loop-number.invariant.talked in
    let said = Noting-last C.left C.shown C.noted C.faults C.room c.args.console.now c.loop-number.console c.note_all-2.new.console (word ++ numbers_of numbers) (10 ∷ []) c.note_all-2.result c.loop-number.invariant.left talked c.note_all-2.ensures.said in
    subst (λ (bytes : List ℕ). Says C.left C.shown C.noted C.faults C.room c.args.console.now c.note_all-2.new.console (noting bytes) c.note_all-2.result) (sym (line-end word numbers)) said
