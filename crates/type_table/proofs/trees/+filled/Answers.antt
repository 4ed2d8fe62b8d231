-- The two halves are filled with the first locals and with the others.
use Rattle.std.proofs.Common.{◌≡◌, ℕ, ◌+◌, ◌-◌, ◌^◌, ◌++◌, List, length, replicate, take, sym, ap, ◌∙◌, arith}
use Rattle.std.proofs.lemmas.Result.{IfOk-weaker}
use Rattle.body_form.specs.declared.types.VType.{VType}
use Rattle.body_form.specs.declared.types.VType.TheVariants as known
use Rattle.type_table.specs.Trees.{IsTree, tree_of}
use Rattle.type_table.proofs.Branching.{tree_stays, halves_are}
use Rattle.type_table.proofs.Filling.{two_halves, halves_filled}
use Rattle.type_table.proofs.trees.+filled.Goals as goal

pub filled-requires-2 : goal.filled-requires-2
filled-requires-2 t c =
    let halves = two_halves c.args.depth (omega arith) in
    (omega arith, (omega arith, omega (arith, halves, c.split_at.ensures.back_len, c.min.ensures, c.width.ensures, c.requires.within)))

pub fork-requires-clause-left : goal.fork-requires-clause-left
fork-requires-clause-left t c = (tree_stays c.filled.new.trees c.filled-2.new.trees (c.args.depth - 1) c.in-Ok.left c.in-Ok-filled.ensures.grow c.in-Ok.ensures.filled.has).has

pub returns-clause-filled : goal.returns-clause-filled
returns-clause-filled t c =
    let values = c.args.values.now in
    let low = c.args.depth - 1 in
    let half = 2 ^ low in
    let second = c.filled.new.trees in
    let third = c.filled-2.new.trees in
    let widths : 2 ^ c.args.depth ≡ half + half = two_halves c.args.depth (omega arith) in
    let cut = c.min.result in
    let padded : List VType → List VType = λ list. list ++ replicate (half - length list) known.Top in
    let made = halves_are second third low c.in-Ok.left c.in-Ok-filled.right _ _ c.in-Ok-filled.ensures.grow c.in-Ok.ensures.filled c.in-Ok-filled.ensures.filled in
    let all : tree_of third low c.in-Ok.left ++ tree_of third low c.in-Ok-filled.right ≡ values ++ replicate (2 ^ c.args.depth - length values) known.Top =
    made
    ∙ ap (λ (list : List VType). padded list ++ padded c.split_at.result.1.now) c.split_at.ensures.front
    ∙ ap (λ (list : List VType). padded (take cut values) ++ padded list) c.split_at.ensures.back
    ∙ halves_filled values known.Top half cut (omega (arith, c.min.ensures, c.width.ensures)) (omega (arith, widths, c.requires.within))
    ∙ ap (λ n. values ++ replicate (n - length values) known.Top) (sym widths)
    in
    IfOk-weaker c.fork.result (λ (root : ℕ). IsTree c.fork.new.trees c.args.depth root (tree_of third low c.in-Ok.left ++ tree_of third low c.in-Ok-filled.right))
    (λ (root : ℕ). IsTree c.fork.new.trees c.args.depth root (values ++ replicate (2 ^ c.args.depth - length values) known.Top)) (λ root is. record { has = is.has; is = is.is ∙ all }) c.fork.ensures.fork
