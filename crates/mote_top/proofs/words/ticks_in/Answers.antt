use Rattle.std.proofs.Common.{◌≡◌, Ok, Some, true, Bool, sym, ap, subst, ◌∙◌}
use Rattle.std.specs.Prelude.{decimal, IsNone}
use Rattle.std.specs.Bool.{then_some}
use Rattle.std.proofs.lemmas.Bool.{false≢true}
use Rattle.std.proofs.lemmas.Fmt.{parse-decimal}
use Rattle.std.proofs.lemmas.Slice.Eq.{bytes_eq-Decides}
use Rattle.mote_top.proofs.words.ticks_in.Goals as goal

pub returns-in_default-clause-none : goal.returns-in_default-clause-none
returns-in_default-clause-none c = λ none ticks fits is.
    c.in_default.not-Ok ticks (parse-decimal 64 ticks c.args.word.now c.parse.result fits fits is c.parse.ensures.value.0)

pub returns-clause-none : goal.returns-clause-none
returns-clause-none c = λ none ticks fits is.
    let read : Ok c.in-Ok.ticks ≡ Ok ticks = sym c.in-Ok.is ∙ parse-decimal 64 ticks c.args.word.now c.parse.result fits fits is c.parse.ensures.value.0 in
    let one : c.in-Ok.ticks ≡ ticks = cc in
    let text : c.format.result.now ≡ c.args.word.now = c.format.ensures.text ∙ ap decimal one ∙ sym is in
    let equal : c.eq.result ≡ true = c.eq.ensures ∙ (bytes_eq-Decides c.format.result.now c.args.word.now).1 text in
    let some : c.then_some.result ≡ Some c.in-Ok.ticks = c.then_some.ensures ∙ ap (λ (b : Bool). then_some b c.in-Ok.ticks) equal in
    let gone : IsNone (Some c.in-Ok.ticks) = subst IsNone some none in
    false≢true (sym gone)
