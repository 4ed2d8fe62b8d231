use Rattle.code_reach.specs.Visits.{pcs_of}
use Rattle.code_reach.proofs.Members.{then_ok}
use Rattle.code_reach.proofs.Rows.{tree_grows}
use Rattle.code_reach.proofs.Ways.{follows_reached}
use Rattle.code_reach.proofs.search.visit.Goals as goal

pub returns : goal.returns
returns g c =
    let code = c.args.code.now in
    let s = c.args.visits.now in
    let t = c.reach_next.new.visits in
    let u = c.reach_targets.new.visits in
    let v = c.enter.new.visits in
    let x = c.index-code-index.result in
    let next = c.in_ok-reach_next.ensures in
    let targets = c.in_ok-reach_targets.ensures in
    then_ok c.enter.result
    (λ entered. λ rows is.
    let last = entered (pcs_of code) rows (tree_grows (pcs_of code) rows c.args.tree.now s u (λ i e. targets.grows.grows i (next.grows.grows i e)) is) in
    (follows_reached g.F.Flow.way rows code c.requires.rise c.args.index x c.requires.within c.index-code-index.is s t u v c.requires.marks next targets last.0, last.1))
    c.enter.ensures
