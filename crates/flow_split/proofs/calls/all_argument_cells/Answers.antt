-- All arguments were counted.
use Rattle.std.proofs.Common.{◌+◌, List, sym, ap, ◌∙◌}
use Rattle.std.specs.List.{sum_by, count_by}
use Rattle.std.proofs.lemmas.List.{take_all}
use Rattle.std.proofs.lemmas.List.Sums.{length-filter}
use Rattle.class_pool.specs.declared.descriptor.Kind.{Kind}
use Rattle.jvm_model.specs.Initialisers.{is_reference_kind}
use Rattle.jvm_model.specs.WidthsSlots.{passed_cells}
use Rattle.flow_split.proofs.calls.all_argument_cells.Goals as goal

pub returns-clause-is : goal.returns-clause-is
returns-clause-is c =
    let kinds = c.args.kinds.now in
    c.loop-kind.invariant.is
    ∙ ap (λ (list : List Kind). count_by is_reference_kind list + sum_by passed_cells list) (take_all c.loop-kind.kind-index kinds c.loop-kind-test.false)
    ∙ ap (λ n. n + sum_by passed_cells kinds) (sym (length-filter is_reference_kind kinds))
