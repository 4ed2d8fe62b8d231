-- A local of the right half is beyond those of the left one.
use Rattle.std.proofs.Common.{◌-◌, List, slice_get, sym, ap, ◌∙◌}
use Rattle.body_form.specs.declared.types.VType.{VType}
use Rattle.type_table.specs.Trees.{tree_of}
use Rattle.type_table.proofs.Branching.{length_tree}
use Rattle.type_table.proofs.Lists.{get_beyond}
use Rattle.type_table.proofs.trees.+local_at.Goals as goal

pub returns-else-index-half : goal.returns-else-index-half
returns-else-index-half t c =
    let trees = c.args.trees.now in
    let branch = c.in-Fork.branch in
    let is = c.in-Fork.ensures in
    ap (λ (list : List VType). slice_get list c.args.index) is.locals
    ∙ get_beyond (tree_of trees (c.args.depth - 1) branch.left) (tree_of trees (c.args.depth - 1) branch.right) c.width-half.result c.args.index (length_tree trees (c.args.depth - 1) branch.left is.left ∙ sym c.width-half.ensures) c.if-index-half.false
    ∙ c.local_at-else-index-half.ensures
