use Rattle.std.proofs.Common.{subst}
use Rattle.mote_top.specs.Parts.{IsPart}
use Rattle.mote_top.proofs.commands.WordSteps.{run_step, classes_step}
use Rattle.mote_top.proofs.words.Part.next.Goals as goal

pub returns-in-Run : goal.returns-in-Run
returns-in-Run c = λ words is. run_step words c.args.word.now c.named-in-Run.result c.named-in-Run.ensures (subst (IsPart words) c.in-Run.is is)

pub returns-in-GoClasses : goal.returns-in-GoClasses
returns-in-GoClasses c = λ words is. classes_step words c.in-GoClasses.given c.args.word.now c.named-in-GoClasses.result c.named-in-GoClasses.ensures (subst (IsPart words) c.in-GoClasses.is is)
