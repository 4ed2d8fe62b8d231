use Rattle.std.proofs.Common.{◌≡◌, sym, subst, ◌∙◌}
use Rattle.std.specs.Prelude.{codes}
use Rattle.std.proofs.lemmas.Option.{none-some}
use Rattle.mote_top.specs.declared.words.Runs.TheVariants.{Infusion, Classes}
use Rattle.mote_top.specs.Words.{IsName}
use Rattle.mote_top.proofs.commands.OptionWords.{options_apart, stack_is_no_name, ticks_is_no_name}
use Rattle.mote_top.proofs.commands.WordSteps.{no_step, first_class_step}
use Rattle.mote_top.proofs.commands.WordTests.{word-is, word-is_not}
use Rattle.mote_top.proofs.words.option_part.Goals as goal

infusion_is_no_set : Infusion ≡ Classes → ⊥
infusion_is_no_set e = cc

pub returns-in-Some : goal.returns-in-Some
returns-in-Some c = λ words o.
    let is = word-is c.args.word.now (codes "--stack") c.eq.result c.eq.ensures c.if-eq.true in
    no_step words c.args.runs c.args.given c.args.word.now
    (λ same none. none-some c.in-Some.field-0 (sym none ∙ c.in-Some.is))
    (λ same none. options_apart (sym is ∙ same))
    (λ same name. stack_is_no_name (subst IsName is name)) o

pub returns-in-Some-ticks : goal.returns-in-Some-ticks
returns-in-Some-ticks c = λ words o.
    let is = word-is c.args.word.now (codes "--ticks") c.eq-else-eq.result c.eq-else-eq.ensures c.if-eq-2.true in
    no_step words c.args.runs c.args.given c.args.word.now
    (λ same none. options_apart (sym same ∙ is))
    (λ same none. none-some c.in-Some-ticks.field-0 (sym none ∙ c.in-Some-ticks.is))
    (λ same name. ticks_is_no_name (subst IsName is name)) o

pub returns-in-Infusion : goal.returns-in-Infusion
returns-in-Infusion c = λ words o.
    let stack = word-is_not c.args.word.now (codes "--stack") c.eq.result c.eq.ensures c.if-eq.false in
    let ticks = word-is_not c.args.word.now (codes "--ticks") c.eq-else-eq.result c.eq-else-eq.ensures c.if-eq-2.false in
    no_step words c.args.runs c.args.given c.args.word.now (λ same none. stack same) (λ same none. ticks same) (λ same name. infusion_is_no_set (sym c.in-Infusion.is ∙ same)) o

pub returns-in-Classes : goal.returns-in-Classes
returns-in-Classes c = λ words o.
    let stack = word-is_not c.args.word.now (codes "--stack") c.eq.result c.eq.ensures c.if-eq.false in
    let ticks = word-is_not c.args.word.now (codes "--ticks") c.eq-else-eq.result c.eq-else-eq.ensures c.if-eq-2.false in
    first_class_step words c.args.runs c.args.given c.args.word.now c.named.result c.in-Classes.is c.named.ensures stack ticks o
