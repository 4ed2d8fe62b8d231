-- A local is set in the half that it is in, and the other half stays.
use Rattle.std.proofs.Common.{◌≡◌, ℕ, ◌++◌, ◌-◌, ◌<◌, List, length, set, sym, ap, ◌∙◌, arith}
use Rattle.std.proofs.lemmas.List.{set-append_left, set-append_right}
use Rattle.std.proofs.lemmas.Result.{IfOk-weaker}
use Rattle.body_form.specs.declared.types.VType.{VType}
use Rattle.type_table.specs.Trees.{tree_of, IsTree}
use Rattle.type_table.proofs.Branching.{branch_stays, tree_stays, length_tree}
use Rattle.type_table.proofs.trees.+set_local.Goals as goal

pub fork_again-requires-clause-branch : goal.fork_again-requires-clause-branch
fork_again-requires-clause-branch t c = branch_stays c.args.trees.now c.set_local.new.trees c.args.depth c.args.root c.in-Fork.branch c.in-Ok.ensures.grow c.requires.has c.in-Fork.ensures

pub fork_again-requires-clause-has : goal.fork_again-requires-clause-has
fork_again-requires-clause-has t c = (tree_stays c.args.trees.now c.set_local.new.trees c.args.depth c.args.root c.in-Ok.ensures.grow c.requires.has).has

pub fork_again-requires-else-index-half-clause-branch : goal.fork_again-requires-else-index-half-clause-branch
fork_again-requires-else-index-half-clause-branch t c =
    branch_stays c.args.trees.now c.set_local-else-index-half.new.trees c.args.depth c.args.root c.in-Fork.branch c.in-Ok-set_local.ensures.grow c.requires.has c.in-Fork.ensures

pub fork_again-requires-else-index-half-clause-has : goal.fork_again-requires-else-index-half-clause-has
fork_again-requires-else-index-half-clause-has t c =
    (tree_stays c.args.trees.now c.set_local-else-index-half.new.trees c.args.depth c.args.root c.in-Ok-set_local.ensures.grow c.requires.has).has

pub fork_again-requires-clause-right : goal.fork_again-requires-clause-right
fork_again-requires-clause-right t c =
    (tree_stays c.args.trees.now c.set_local.new.trees (c.args.depth - 1) c.in-Fork.branch.right c.in-Ok.ensures.grow c.in-Fork.ensures.right).has

pub fork_again-requires-else-index-half-clause-left : goal.fork_again-requires-else-index-half-clause-left
fork_again-requires-else-index-half-clause-left t c =
    (tree_stays c.args.trees.now c.set_local-else-index-half.new.trees (c.args.depth - 1) c.in-Fork.branch.left c.in-Ok-set_local.ensures.grow c.in-Fork.ensures.left).has

pub returns-in-Ok-clause-set : goal.returns-in-Ok-clause-set
returns-in-Ok-clause-set t c =
    let first = c.args.trees.now in
    let second = c.set_local.new.trees in
    let low = c.args.depth - 1 in
    let branch = c.in-Fork.branch in
    let is = c.in-Fork.ensures in
    let left = tree_of first low branch.left in
    let right = tree_stays first second low branch.right c.in-Ok.ensures.grow is.right in
    let within : c.args.index < length left = omega (arith, length_tree first low branch.left is.left, c.width-half.ensures, c.if-index-half.true) in
    let all : tree_of second low c.in-Ok.left ++ tree_of second low branch.right ≡ set (tree_of first c.args.depth c.args.root) c.args.index c.args.value =
    ap (λ (list : List VType). list ++ tree_of second low branch.right) c.in-Ok.ensures.set.is
    ∙ ap (λ (list : List VType). set left c.args.index c.args.value ++ list) right.is
    ∙ sym (ap (λ (list : List VType). set list c.args.index c.args.value) is.locals ∙ set-append_left left (tree_of first low branch.right) c.args.index c.args.value within)
    in
    IfOk-weaker c.fork_again.result (λ (after : ℕ). IsTree c.fork_again.new.trees c.args.depth after (tree_of second low c.in-Ok.left ++ tree_of second low branch.right))
    (λ (after : ℕ). IsTree c.fork_again.new.trees c.args.depth after (set (tree_of first c.args.depth c.args.root) c.args.index c.args.value)) (λ after made. record { has = made.has; is = made.is ∙ all }) c.fork_again.ensures.fork

pub returns-in-Ok-set_local-clause-set : goal.returns-in-Ok-set_local-clause-set
returns-in-Ok-set_local-clause-set t c =
    let first = c.args.trees.now in
    let second = c.set_local-else-index-half.new.trees in
    let low = c.args.depth - 1 in
    let branch = c.in-Fork.branch in
    let is = c.in-Fork.ensures in
    let left = tree_stays first second low branch.left c.in-Ok-set_local.ensures.grow is.left in
    let right = tree_of first low branch.right in
    let half = c.width-half.result in
    let long : length (tree_of first low branch.left) ≡ half = length_tree first low branch.left is.left ∙ sym c.width-half.ensures in
    let all : tree_of second low branch.left ++ tree_of second low c.in-Ok-set_local.right ≡ set (tree_of first c.args.depth c.args.root) c.args.index c.args.value =
    ap (λ (list : List VType). list ++ tree_of second low c.in-Ok-set_local.right) left.is
    ∙ ap (λ (list : List VType). tree_of first low branch.left ++ list) c.in-Ok-set_local.ensures.set.is
    ∙ sym (ap (λ (list : List VType). set list c.args.index c.args.value) is.locals ∙ set-append_right (tree_of first low branch.left) right half c.args.index c.args.value long c.if-index-half.false)
    in
    IfOk-weaker c.fork_again-else-index-half.result (λ (after : ℕ). IsTree c.fork_again-else-index-half.new.trees c.args.depth after (tree_of second low branch.left ++ tree_of second low c.in-Ok-set_local.right))
    (λ (after : ℕ). IsTree c.fork_again-else-index-half.new.trees c.args.depth after (set (tree_of first c.args.depth c.args.root) c.args.index c.args.value)) (λ after made. record { has = made.has; is = made.is ∙ all }) c.fork_again-else-index-half.ensures.fork
