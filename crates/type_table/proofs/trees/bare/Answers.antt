-- A tree over the same tree twice is one level deeper.
use Rattle.std.proofs.Common.{◌≡◌, ◌+◌, ◌-◌, ◌^◌, ◌++◌, List, replicate, sym, ap, ◌∙◌, arith}
use Rattle.std.proofs.lemmas.List.{replicate-append-replicate}
use Rattle.body_form.specs.declared.types.VType.{VType}
use Rattle.body_form.specs.declared.types.VType.TheVariants as known
use Rattle.type_table.specs.Trees.{tree_of}
use Rattle.type_table.proofs.Branching.{trees_along}
use Rattle.type_table.proofs.Filling.{two_halves}
use Rattle.type_table.proofs.trees.bare.Goals as goal

pub loop-below-preserved : goal.loop-below-preserved
loop-below-preserved c =
    let trees = c.loop-below.trees in
    let level = c.loop-below.below in
    let root = c.loop-below.root in
    let low : level + 1 - 1 ≡ level = omega arith in
    let half = tree_of trees (level + 1 - 1) root in
    let is : half ≡ replicate (2 ^ level) known.Top = ap (λ n. tree_of trees n root) low ∙ c.loop-below.invariant.bare.is in
    let width : 2 ^ level + 2 ^ level ≡ 2 ^ (level + 1) = sym (two_halves (level + 1) (omega arith) ∙ ap (λ n. 2 ^ n + 2 ^ n) low) in
    record {
      grow = trees_along c.args.trees.now trees c.fork.new.trees c.loop-below.invariant.grow c.in-Ok-fork.ensures.grow;
      bare = record {
        has = c.in-Ok-fork.ensures.fork.has;
        is =
            c.in-Ok-fork.ensures.fork.is ∙ ap (λ (list : List VType). list ++ half) is ∙ ap (λ (list : List VType). replicate (2 ^ level) known.Top ++ list) is
            ∙ replicate-append-replicate (2 ^ level) (2 ^ level) known.Top ∙ ap (λ n. replicate n known.Top) width;
      };
    }
