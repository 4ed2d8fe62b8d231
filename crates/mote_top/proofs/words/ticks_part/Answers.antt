use Rattle.std.proofs.Common.{List, ◌∷◌, [], ◌++◌, ℕ, sym, subst, refl, arith}
use Rattle.mote_top.specs.Parts.{HasOptions}
use Rattle.mote_top.proofs.commands.WordParts.{ticks_given, with_ticks}
use Rattle.mote_top.proofs.commands.WordSteps.{no_ticks_step}
use Rattle.mote_top.proofs.words.ticks_part.Goals as goal

pub returns-in_default : goal.returns-in_default
returns-in_default c = λ words o none. no_ticks_step words c.args.runs c.args.given c.args.word.now (c.in_default.ensures.none refl) o

pub returns : goal.returns
returns c = λ words o none.
    subst (λ (w : List ℕ). HasOptions (words ++ w ∷ []) c.args.runs (with_ticks c.args.given c.in-Some.ticks)) (sym c.in-Some.ensures.some) (ticks_given words c.args.runs c.args.given c.in-Some.ticks o none (omega arith))
