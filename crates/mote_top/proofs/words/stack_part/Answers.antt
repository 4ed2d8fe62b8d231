use Rattle.std.proofs.Common.{List, ◌∷◌, [], ◌++◌, ℕ, sym, subst, refl}
use Rattle.mote_top.specs.Parts.{HasOptions}
use Rattle.mote_top.proofs.commands.WordParts.{stack_given, with_stack}
use Rattle.mote_top.proofs.commands.WordSteps.{no_stack_step}
use Rattle.mote_top.proofs.words.stack_part.Goals as goal

pub returns-in_default : goal.returns-in_default
returns-in_default c = λ words o none. no_stack_step words c.args.runs c.args.given c.args.word.now (c.in_default.ensures.none refl) o

pub returns : goal.returns
returns c = λ words o none.
    let number = c.in-Some.ensures.some in
    subst (λ (w : List ℕ). HasOptions (words ++ w ∷ []) c.args.runs (with_stack c.args.given c.in-Some.cells)) (sym number.0) (stack_given words c.args.runs c.args.given c.in-Some.cells o none (number.1, number.2))
