-- The new leaf is a tree of one local.
use Rattle.std.proofs.Common.{◌∙◌}
use Rattle.type_table.proofs.Branching.{is_new_leaf}
use Rattle.type_table.proofs.trees.leaf.Goals as goal

pub returns-clause-leaf : goal.returns-clause-leaf
returns-clause-leaf c = is_new_leaf c.args.trees.now (record { leaves = c.push.new.self; branches = c.args.trees.now.branches }) c.len-root.result c.args.value c.in_ok-push.ensures.items (c.len-root.ensures ∙ c.args.trees.now.leaves.ok.0)
