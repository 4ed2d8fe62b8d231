use Rattle.std.proofs.Common.{Option, option_map, refl, sym, subst}
use Rattle.body_make.specs.declared.initialisers.Pushed.{Pushed}
use Rattle.body_make.specs.Pushes.{pushed_of, GoesOn}
use Rattle.body_make.proofs.initialisers.step_after.Goals as goal

pub returns-in-None-clause-found : goal.returns-in-None-clause-found
returns-in-None-clause-found c =
    λ end pc insns.
    subst (λ (held : Option Pushed). GoesOn c.args.file.now end (option_map pushed_of held) (pc, c.args.insn.now) insns c.first_of_pair.result) (sym c.in-None.is)
    (c.first_of_pair.ensures c.args.file.now end pc insns refl)
