use Rattle.code_reach.proofs.Nodes.{put_more}
use Rattle.code_reach.proofs.Members.{then_ok}
use Rattle.code_reach.proofs.tree.+put.Goals as goal

pub returns : goal.returns
returns t c =
    then_ok c.put.result
    (λ rest. put_more c.args.from c.args.to c.args.index c.args.nodes.now c.put_if.new.nodes c.put_if-2.new.nodes c.put.new.nodes c.if-from-to.false c.in_ok-put_if.ensures c.in_ok-put_if-2.ensures rest)
    c.put.ensures
