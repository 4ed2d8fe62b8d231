use Rattle.std.proofs.Common.{List, ℕ, set, [], ap, subst}
use Rattle.std.proofs.lemmas.List.{get_or_default}
use Rattle.code_reach.specs.Visits.{IsIn, Reaches}
use Rattle.code_reach.proofs.Members.{then_ok}
use Rattle.code_reach.proofs.Nodes.{take_root, take_more}
use Rattle.code_reach.proofs.tree.+take_above.Goals as goal

pub returns-then-node-gt1-clause-reaches : goal.returns-then-node-gt1-clause-reaches
returns-then-node-gt1-clause-reaches t c =
    let nodes = c.args.nodes.now in
    let node = c.args.node in
    let same = get_or_default nodes node c.index-nodes-node.result [] c.requires in
    let first = subst (λ (list : List ℕ). Reaches (IsIn list) c.args.visits.now c.take.new.visits) same c.in_ok-take.ensures.0 in
    let taken = ap (λ (list : List ℕ). set nodes node list) c.in_ok-take.ensures.1 in
    then_ok c.take_above.result (λ rest. take_more node nodes _ c.args.visits.now c.take.new.visits c.take_above.new.visits taken first c.if-node-gt1.true rest) c.take_above.ensures.reaches

pub returns-clause-reaches : goal.returns-clause-reaches
returns-clause-reaches t c =
    let nodes = c.args.nodes.now in
    let node = c.args.node in
    let same = get_or_default nodes node c.index-nodes-node.result [] c.requires in
    let first = subst (λ (list : List ℕ). Reaches (IsIn list) c.args.visits.now c.take.new.visits) same c.in_ok-take.ensures.0 in
    take_root node nodes c.args.visits.now c.take.new.visits first c.if-node-gt1.false
