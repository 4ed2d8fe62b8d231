use Rattle.std.proofs.Common.{ℕ, ◌≤◌, List, length, sym, subst, arith}
use Rattle.mote_top.proofs.replies.NameSizes.{names_small}
use Rattle.mote_top.proofs.machine.status_of.Goals as goal

pub kept-requires-clause-fits : goal.kept-requires-clause-fits
kept-requires-clause-fits c =
    let small = subst (λ (name : List ℕ). length name ≤ 65535) (sym c.name_of.ensures) (names_small c.args.mote.now.image c.requires.image c.in-Uncaught.class) in
    omega (arith, small, c.requires.room)
