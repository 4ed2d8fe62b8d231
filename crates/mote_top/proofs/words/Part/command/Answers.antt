use Rattle.std.proofs.Common.{ℕ, ◌+◌, ap, subst}
use Rattle.mote_top.specs.declared.words.Runs.{Runs}
use Rattle.mote_top.specs.Parts.{HasOptions, IsPart}
use Rattle.mote_top.proofs.commands.WordParts.{go_whole}
use Rattle.mote_top.proofs.commands.WordFaults.{options_no_command, stack_no_command, ticks_no_command}
use Rattle.mote_top.proofs.words.Part.command.Goals as goal

pub returns-in-Classes : goal.returns-in-Classes
returns-in-Classes c = λ words is command whole.
    let o : HasOptions words c.in-Options.runs c.in-Options.given = subst (IsPart words) c.in-Options.is is in
    options_no_command words c.in-Options.given command (subst (λ (r : Runs). HasOptions words r c.in-Options.given) c.in-Classes.is o) whole

pub returns-in-GoClasses : goal.returns-in-GoClasses
returns-in-GoClasses c = λ words is.
    go_whole words c.in-GoClasses.given c.opts-in-GoClasses.result (1 + c.words.result) c.opts-in-GoClasses.ensures (ap (λ (n : ℕ). 1 + n) c.words.ensures) (subst (IsPart words) c.in-GoClasses.is is)

pub returns-in-Stack : goal.returns-in-Stack
returns-in-Stack c = λ words is command whole.
    let half = subst (IsPart words) c.in-Stack.is is in stack_no_command words c.in-Stack.runs c.in-Stack.given command half.0 whole

pub returns-in-Ticks : goal.returns-in-Ticks
returns-in-Ticks c = λ words is command whole.
    let half = subst (IsPart words) c.in-Ticks.is is in ticks_no_command words c.in-Ticks.runs c.in-Ticks.given command half.0 whole
