-- The new cell is the top of the operands with the value on top.
use Rattle.std.proofs.Common.{List, subst, ◌∙◌}
use Rattle.type_table.specs.declared.store.Cell.{Cell}
use Rattle.type_table.specs.Frames.{IsMarked}
use Rattle.type_table.specs.Chains.{chain_of}
use Rattle.type_table.proofs.Chaining.{is_pushed}
use Rattle.type_table.proofs.operands.push.Goals as goal

pub returns-clause-pushed : goal.returns-clause-pushed
returns-clause-pushed c =
    let marked = subst (λ (cells : List Cell). IsMarked c.mark_of.result (chain_of cells c.args.chain)) c.deref.ensures.value c.mark_of.ensures in
    is_pushed c.args.cells.now.items c.push.new.self.items c.args.chain c.in-Some.height c.len-top.result c.args.value c.is_unconstructed.result c.mark_of.result c.requires c.in_ok-push.ensures.items c.in-Some.ensures.1 (c.len-top.ensures ∙ c.args.cells.now.ok.0) c.is_unconstructed.ensures marked
