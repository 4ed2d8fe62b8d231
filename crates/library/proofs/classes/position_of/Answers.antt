use Rattle.std.proofs.Common.{List, ℕ, Bool, Bor, arith, sym}
use Rattle.std.specs.Str.{bytes_eq}
use Rattle.library.proofs.Positions.{position_absent, fails_more}
use Rattle.library.proofs.classes.position_of.Goals as goal

pub loop-position-preserved : goal.loop-position-preserved
loop-position-preserved c d k lt =
    fails_more (λ (own : Bor (List ℕ)). bytes_eq c.args.name.now own.now) c.args.names.now d _ c.loop-position.position c.loop-position-test.true (c.loop-position.invariant d) (sym c.if-eq.ensures) k lt

pub returns : goal.returns
returns c =
    let test : Bor (List ℕ) → Bool = λ own. bytes_eq c.args.name.now own.now in
    sym (position_absent test c.args.names.now c.args.name (λ k lt. c.loop-position.invariant c.args.name k (omega (arith, lt, c.loop-position-test.false))))
