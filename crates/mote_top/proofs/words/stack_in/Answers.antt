use Rattle.std.proofs.Common.{◌≡◌, sym, ◌∙◌, arith}
use Rattle.std.proofs.lemmas.Fmt.{decimal_injective}
use Rattle.mote_top.proofs.words.stack_in.Goals as goal

pub returns-then-number-lt64-clause-none : goal.returns-then-number-lt64-clause-none
returns-then-number-lt64-clause-none c = λ none cells least most is.
    let same : c.in-Some.number ≡ cells = decimal_injective c.in-Some.number cells (omega arith) (omega (arith, most)) (sym c.in-Some.ensures.some ∙ is) in
    absurd (omega (arith, same, least, c.if-number-lt64.true))

pub returns-then-number-gt32767-clause-none : goal.returns-then-number-gt32767-clause-none
returns-then-number-gt32767-clause-none c = λ none cells least most is.
    let same : c.in-Some.number ≡ cells = decimal_injective c.in-Some.number cells (omega arith) (omega (arith, most)) (sym c.in-Some.ensures.some ∙ is) in
    absurd (omega (arith, same, most, c.if-number-gt32767.true))
