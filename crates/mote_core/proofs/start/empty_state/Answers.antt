use Rattle.std.proofs.Common.{◌≤◌, sym, subst}
use Rattle.std.specs.List.{All}
use Rattle.mote_core.proofs.Bodies.{bodies_fit}
use Rattle.mote_core.proofs.start.empty_state.Goals as goal

pub new-requires-clause-bodies : goal.new-requires-clause-bodies
new-requires-clause-bodies c = subst (All (λ body. body ≤ 32763)) (sym c.in_ok-bodies.ensures) (bodies_fit c.args.image.now c.requires.image)
