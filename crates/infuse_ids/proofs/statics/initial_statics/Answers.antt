use Rattle.std.proofs.Common.{◌+◌, ℕ, List, ◌++◌, get_or, ap, ◌∙◌}
use Rattle.std.specs.List.{flat_map}
use Rattle.std.proofs.lemmas.List.{get_or_default, take_all}
use Rattle.jvm_model.specs.ImageNumbering.{class_fields}
use Rattle.infuse_ids.specs.Statics.{references_among, cells_among}
use Rattle.infuse_ids.proofs.StaticFields.{references_more, cells_more}
use Rattle.infuse_ids.proofs.statics.initial_statics.Goals as goal

pub loop-class-preserved : goal.loop-class-preserved
loop-class-preserved c =
    let files = c.args.set.now in
    let order = c.args.order.now in
    let i = c.loop-class.class-index in
    let class = get_or order i 0 in
    let lt = c.loop-class-test.true in
    let here = get_or_default order i 0 class lt in
    record {
      refs =
          c.in-Ok.ensures.refs ∙ ap (λ (n : ℕ). n + references_among (class_fields files class)) c.loop-class.invariant.refs
          ∙ references_more files order i class lt here;
      cells =
          c.in-Ok.ensures.cells ∙ ap (λ (cells : List ℕ). cells ++ cells_among files (class_fields files class)) c.loop-class.invariant.cells
          ∙ cells_more files order i class lt here;
    }

pub returns-clause-refs : goal.returns-clause-refs
returns-clause-refs c =
    let files = c.args.set.now in
    c.loop-class.invariant.refs
    ∙ ap (λ (classes : List ℕ). references_among (flat_map (class_fields files) classes)) (take_all c.loop-class.class-index c.args.order.now c.loop-class-test.false ∙ c.requires)

pub returns-clause-cells : goal.returns-clause-cells
returns-clause-cells c =
    let files = c.args.set.now in
    c.loop-class.invariant.cells
    ∙ ap (λ (classes : List ℕ). cells_among files (flat_map (class_fields files) classes)) (take_all c.loop-class.class-index c.args.order.now c.loop-class-test.false ∙ c.requires)
