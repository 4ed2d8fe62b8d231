-- The entry that is read is the root of the tree.
use Rattle.std.proofs.Common.{arith, refl}
use Rattle.std.proofs.lemmas.Option.{slice_get_read}
use Rattle.type_table.proofs.Branching.{leaf_within, is_leaf, branch_within, is_branch}
use Rattle.type_table.proofs.trees.node_at.Goals as goal

pub index-requires : goal.index-requires
index-requires c =
    let trees = c.args.trees.now in
    omega (arith, trees.leaves.ok.0, leaf_within trees.leaves.items trees.branches.items c.args.depth c.args.root c.if-depth-eq0.true c.requires)

pub index-requires-else-depth-eq0 : goal.index-requires-else-depth-eq0
index-requires-else-depth-eq0 c =
    let trees = c.args.trees.now in
    omega (arith, trees.branches.ok.0, branch_within trees.leaves.items trees.branches.items c.args.depth c.args.root (omega arith) c.requires)

pub returns-then-depth-eq0 : goal.returns-then-depth-eq0
returns-then-depth-eq0 c =
    let trees = c.args.trees.now in
    let within = leaf_within trees.leaves.items trees.branches.items c.args.depth c.args.root c.if-depth-eq0.true c.requires in (
      c.if-depth-eq0.true,
      is_leaf trees.leaves.items trees.branches.items c.args.depth c.args.root c.index.result.now c.if-depth-eq0.true (slice_get_read trees.leaves.items _ c.args.root c.index.result.now refl within c.index.ensures),
    )

pub returns-else-depth-eq0 : goal.returns-else-depth-eq0
returns-else-depth-eq0 c =
    let trees = c.args.trees.now in
    let branch = c.index-else-depth-eq0.result.now in
    let within = branch_within trees.leaves.items trees.branches.items c.args.depth c.args.root (omega arith) c.requires in
    is_branch trees c.args.depth c.args.root branch (omega arith) c.requires (slice_get_read trees.branches.items _ c.args.root branch refl within c.index-else-depth-eq0.ensures)
