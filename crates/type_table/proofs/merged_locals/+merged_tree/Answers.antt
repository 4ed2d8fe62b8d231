-- Two trees merge by their halves, and leaves by their types.
use Rattle.std.proofs.Common.{◌≡◌, ◌-◌, ◌^◌, min, List, take, unwrap_or, refl, sym, ap, subst, ◌∙◌, arith}
use Rattle.std.specs.List.{AllByRecursion}
use Rattle.std.proofs.lemmas.Result.{IfOk-weaker}
use Rattle.body_form.specs.declared.types.VType.{VType}
use Rattle.type_table.specs.Trees.{tree_of}
use Rattle.type_table.specs.Merges.{merged_types, IsForkOver, IsMergedLeaf, IsMergedTree}
use Rattle.class_tree.specs.Merge.{merge}
use Rattle.class_tree.specs.MergeLaws.{IsKnown}
use Rattle.type_table.proofs.Branching.{tree_stays}
use Rattle.type_table.proofs.MergedTrees.{merged_itself, none_merged, leaf_is_merged, halves_known, halves_merged, is_half, half_stays, right_half}
use Rattle.type_table.proofs.merged_locals.+merged_tree.Goals as goal

pub returns-then-upper-lower-clause-merged : goal.returns-then-upper-lower-clause-merged
returns-then-upper-lower-clause-merged t c =
    let locals = take c.args.count (tree_of c.args.trees.now c.args.depth c.args.upper) in
    ap (λ n. merged_types c.args.set.now locals (take c.args.count (tree_of c.args.trees.now c.args.depth n))) (sym c.if-upper-lower.true)
    ∙ merged_itself c.args.set.now c.requires.gathered locals c.requires.known_upper

pub returns-then-count-eq0-clause-merged : goal.returns-then-count-eq0-clause-merged
returns-then-count-eq0-clause-merged t c =
    none_merged c.args.set.now c.args.count (tree_of c.args.trees.now c.args.depth c.args.upper) (tree_of c.args.trees.now c.args.depth c.args.lower) c.if-count-eq0.true

pub merged_tree-requires : goal.merged_tree-requires
merged_tree-requires t c =
    let is_upper = c.in-Fork-Fork.ensures in
    let is_lower = c.in-Fork-Fork.ensures' in
    let few : c.min.result ≡ min c.args.count (2 ^ (c.args.depth - 1)) = c.min.ensures ∙ ap (min c.args.count) c.width-half.ensures in
    let known = halves_known c.args.set.now c.args.trees.now c.args.depth c.args.count c.args.upper c.args.lower c.in-Fork-Fork.over c.in-Fork-Fork.under c.min.result (c.args.count - 2 ^ (c.args.depth - 1)) few refl is_upper is_lower in
    let upper = known c.args.upper c.in-Fork-Fork.over is_upper c.requires.known_upper in
    let lower = known c.args.lower c.in-Fork-Fork.under is_lower c.requires.known_lower in
    (omega (arith, is_upper.deep), (c.requires.gathered, (omega (arith, c.requires.small), (is_upper.left, (is_lower.left, (upper.0, lower.0))))))

pub merged_tree-requires-in-Fork-Fork : goal.merged_tree-requires-in-Fork-Fork
merged_tree-requires-in-Fork-Fork t c =
    let files = c.args.set.now in
    let first = c.args.trees.now in
    let second = c.merged_tree.new.trees in
    let low = c.args.depth - 1 in
    let over = c.in-Fork-Fork.over in
    let under = c.in-Fork-Fork.under in
    let is_upper = c.in-Fork-Fork.ensures in
    let is_lower = c.in-Fork-Fork.ensures' in
    let rest : c.saturating_sub.result ≡ c.args.count - 2 ^ low = c.saturating_sub.ensures ∙ ap (λ n. c.args.count - n) c.width-half.ensures in
    let known = halves_known files first c.args.depth c.args.count c.args.upper c.args.lower over under (min c.args.count (2 ^ low)) c.saturating_sub.result refl rest is_upper is_lower in
    let upper = known c.args.upper over is_upper c.requires.known_upper in
    let lower = known c.args.lower under is_lower c.requires.known_lower in
    let stays_upper = tree_stays first second low over.right c.in-Ok.ensures.grow is_upper.right in
    let stays_lower = tree_stays first second low under.right c.in-Ok.ensures.grow is_lower.right in
    let Known : List VType → Type 0 = λ list. AllByRecursion (IsKnown files) (take c.saturating_sub.result list) in (
      omega (arith, is_upper.deep),
      (
        c.requires.gathered,
        (omega (arith, c.requires.small), (stays_upper.has, (stays_lower.has, (subst Known (sym stays_upper.is) upper.1, subst Known (sym stays_lower.is) lower.1)))),
      ),
    )

pub fork_over-requires-clause-left : goal.fork_over-requires-clause-left
fork_over-requires-clause-left t c =
    let first = c.args.trees.now in
    let low = c.args.depth - 1 in
    let over = c.in-Fork-Fork.over in
    let half = is_half first c.merged_tree.new.trees low c.min.result over.left _ c.in-Ok.left c.in-Ok.ensures.grow c.in-Fork-Fork.ensures.left c.in-Ok.ensures.merged in
    (tree_stays c.merged_tree.new.trees c.merged_tree-in-Fork-Fork.new.trees low (unwrap_or c.in-Ok.left over.left) c.in-Ok-merged_tree.ensures.grow half.has).has

pub fork_over-requires-clause-right : goal.fork_over-requires-clause-right
fork_over-requires-clause-right t c =
    let low = c.args.depth - 1 in
    let over = c.in-Fork-Fork.over in
    let second = c.merged_tree.new.trees in
    let right = tree_stays c.args.trees.now second low over.right c.in-Ok.ensures.grow c.in-Fork-Fork.ensures.right in
    (is_half second c.merged_tree-in-Fork-Fork.new.trees low c.saturating_sub.result over.right _ c.in-Ok-merged_tree.right c.in-Ok-merged_tree.ensures.grow right.has c.in-Ok-merged_tree.ensures.merged).has

pub returns-in-Leaf-Leaf-clause-merged : goal.returns-in-Leaf-Leaf-clause-merged
returns-in-Leaf-Leaf-clause-merged t c =
    let files = c.args.set.now in
    let first = c.args.trees.now in
    let new = c.merged_leaf.new.trees in
    let count = c.args.count in
    let upper = take count (tree_of first c.args.depth c.args.upper) in
    let lower = take count (tree_of first c.args.depth c.args.lower) in
    IfOk-weaker c.merged_leaf.result (IsMergedLeaf new c.in-Leaf-Leaf.a (merge files c.in-Leaf-Leaf.a c.in-Leaf-Leaf.b)) (IsMergedTree new c.args.depth count upper (merged_types files upper lower))
    (λ found is.
    leaf_is_merged files first new c.args.depth count c.args.upper c.args.lower c.in-Leaf-Leaf.a c.in-Leaf-Leaf.b found (omega arith) c.in-Leaf-Leaf.ensures.0 c.in-Leaf-Leaf.ensures.1 c.in-Leaf-Leaf.ensures'.1 is)
    c.merged_leaf.ensures.merged

pub returns-in-Ok-merged_tree-clause-merged : goal.returns-in-Ok-merged_tree-clause-merged
returns-in-Ok-merged_tree-clause-merged t c =
    let files = c.args.set.now in
    let first = c.args.trees.now in
    let second = c.merged_tree.new.trees in
    let third = c.merged_tree-in-Fork-Fork.new.trees in
    let new = c.fork_over.new.trees in
    let low = c.args.depth - 1 in
    let count = c.args.count in
    let over = c.in-Fork-Fork.over in
    let under = c.in-Fork-Fork.under in
    let is_upper = c.in-Fork-Fork.ensures in
    let is_lower = c.in-Fork-Fork.ensures' in
    let few : c.min.result ≡ min count (2 ^ low) = c.min.ensures ∙ ap (min count) c.width-half.ensures in
    let rest : c.saturating_sub.result ≡ count - 2 ^ low = c.saturating_sub.ensures ∙ ap (λ n. count - n) c.width-half.ensures in
    let left = is_half first second low c.min.result over.left _ c.in-Ok.left c.in-Ok.ensures.grow is_upper.left c.in-Ok.ensures.merged in
    let left_stays = half_stays second third low (unwrap_or c.in-Ok.left over.left) c.min.result _ _ c.in-Ok.left c.in-Ok-merged_tree.ensures.grow left in
    let right = right_half files first second third low c.saturating_sub.result over.right under.right c.in-Ok-merged_tree.right c.in-Ok.ensures.grow c.in-Ok-merged_tree.ensures.grow is_upper.right is_lower.right c.in-Ok-merged_tree.ensures.merged in
    let upper = take count (tree_of first c.args.depth c.args.upper) in
    let lower = take count (tree_of first c.args.depth c.args.lower) in
    IfOk-weaker c.fork_over.result (IsForkOver third new c.args.depth over c.in-Ok.left c.in-Ok-merged_tree.right) (IsMergedTree new c.args.depth count upper (merged_types files upper lower))
    (λ found is.
    halves_merged files first c.args.depth count c.args.upper c.args.lower over under c.min.result c.saturating_sub.result few rest is_upper is_lower third new c.in-Ok.left c.in-Ok-merged_tree.right found left_stays right is)
    c.fork_over.ensures.fork
