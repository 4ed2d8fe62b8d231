-- The halves are renamed, and where no object is marked nothing is.
use Rattle.std.proofs.Common.{◌≡◌, ℕ, ◌++◌, ◌-◌, List, map, sym, ap, ◌∙◌, arith}
use Rattle.std.proofs.lemmas.List.{map-append}
use Rattle.std.proofs.lemmas.Result.{IfOk-weaker}
use Rattle.body_form.specs.declared.types.VType.{VType}
use Rattle.jvm_model.specs.TypesRules.{renamed_one}
use Rattle.type_table.specs.Trees.{tree_of, IsTree}
use Rattle.type_table.proofs.Lacking.{all_constructed_lack, lacking_stays}
use Rattle.type_table.proofs.Branching.{trees_along, tree_stays, branch_stays, halves_are}
use Rattle.type_table.proofs.trees.+rename_locals.Goals as goal

pub returns-then-not-mark_of-clause-named : goal.returns-then-not-mark_of-clause-named
returns-then-not-mark_of-clause-named t c =
    let locals = tree_of c.args.trees.now c.args.depth c.args.root in
    record { has = c.requires; is = sym (lacking_stays c.args.from c.args.to locals (all_constructed_lack c.args.from locals (c.mark_of.ensures c.if-not-mark_of.true))) }

pub rename_locals-requires-in-Fork : goal.rename_locals-requires-in-Fork
rename_locals-requires-in-Fork t c = (
  omega (arith, c.in-Fork.ensures.deep),
  (tree_stays c.args.trees.now c.rename_locals.new.trees (c.args.depth - 1) c.in-Fork.branch.right c.in-Ok.ensures.grow c.in-Fork.ensures.right).has,
)

pub fork_again-requires-clause-branch : goal.fork_again-requires-clause-branch
fork_again-requires-clause-branch t c =
    let grow = trees_along c.args.trees.now c.rename_locals.new.trees c.rename_locals-in-Fork.new.trees c.in-Ok.ensures.grow c.in-Ok-rename_locals.ensures.grow in
    branch_stays c.args.trees.now c.rename_locals-in-Fork.new.trees c.args.depth c.args.root c.in-Fork.branch grow c.requires c.in-Fork.ensures

pub fork_again-requires-clause-has : goal.fork_again-requires-clause-has
fork_again-requires-clause-has t c =
    let grow = trees_along c.args.trees.now c.rename_locals.new.trees c.rename_locals-in-Fork.new.trees c.in-Ok.ensures.grow c.in-Ok-rename_locals.ensures.grow in
    (tree_stays c.args.trees.now c.rename_locals-in-Fork.new.trees c.args.depth c.args.root grow c.requires).has

pub fork_again-requires-clause-left : goal.fork_again-requires-clause-left
fork_again-requires-clause-left t c =
    (tree_stays c.rename_locals.new.trees c.rename_locals-in-Fork.new.trees (c.args.depth - 1) c.in-Ok.left c.in-Ok-rename_locals.ensures.grow c.in-Ok.ensures.named.has).has

pub returns-in-Ok-rename_locals-clause-named : goal.returns-in-Ok-rename_locals-clause-named
returns-in-Ok-rename_locals-clause-named t c =
    let f : VType → VType = renamed_one c.args.from c.args.to in
    let first = c.args.trees.now in
    let second = c.rename_locals.new.trees in
    let third = c.rename_locals-in-Fork.new.trees in
    let low = c.args.depth - 1 in
    let branch = c.in-Fork.branch in
    let is = c.in-Fork.ensures in
    let right = tree_stays first second low branch.right c.in-Ok.ensures.grow is.right in
    let halves = halves_are second third low c.in-Ok.left c.in-Ok-rename_locals.right _ _ c.in-Ok-rename_locals.ensures.grow c.in-Ok.ensures.named c.in-Ok-rename_locals.ensures.named in
    let all : tree_of third low c.in-Ok.left ++ tree_of third low c.in-Ok-rename_locals.right ≡ map f (tree_of first c.args.depth c.args.root) =
    halves
    ∙ ap (λ (list : List VType). map f (tree_of first low branch.left) ++ map f list) right.is
    ∙ sym (ap (map f) is.locals ∙ map-append f (tree_of first low branch.left) (tree_of first low branch.right))
    in
    IfOk-weaker c.fork_again.result (λ (after : ℕ). IsTree c.fork_again.new.trees c.args.depth after (tree_of third low c.in-Ok.left ++ tree_of third low c.in-Ok-rename_locals.right))
    (λ (after : ℕ). IsTree c.fork_again.new.trees c.args.depth after (map f (tree_of first c.args.depth c.args.root))) (λ after made. record { has = made.has; is = made.is ∙ all }) c.fork_again.ensures.fork
