-- The new branch is the root of a tree over the two.
use Rattle.std.proofs.Common.{◌∙◌}
use Rattle.type_table.specs.Trees.{TreesGrow}
use Rattle.type_table.proofs.Growing.{begins_itself}
use Rattle.type_table.proofs.Branching.{is_new_fork}
use Rattle.type_table.proofs.trees.fork.Goals as goal

pub returns-clause-fork : goal.returns-clause-fork
returns-clause-fork c =
    let old = c.args.trees.now in
    let new = record old { branches = c.push.new.self } in
    let grow : TreesGrow old new = record { leaves = begins_itself old.leaves.items; branches = (_, c.in_ok-push.ensures.items) } in
    is_new_fork old new c.args.depth c.args.left c.args.right c.len-root.result c.mark_of.result c.mark_of-2.result c.requires.deep grow c.in_ok-push.ensures.items (c.len-root.ensures ∙ c.args.trees.now.branches.ok.0) c.requires.left c.requires.right c.mark_of.ensures c.mark_of-2.ensures
