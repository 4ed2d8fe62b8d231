use Rattle.std.proofs.Common.{◌+◌, ℕ, List, ◌++◌, sym, ap, ◌∙◌}
use Rattle.std.specs.List.{flat_map, sum_by}
use Rattle.infuse_ids.specs.Statics.{reference_of, cells_of}
use Rattle.infuse_ids.proofs.StaticFields.{references_in_class, cells_in_class}
use Rattle.infuse_ids.proofs.statics.add_class.Goals as goal

pub returns-in-Ok-add_fields-clause-refs : goal.returns-in-Ok-add_fields-clause-refs
returns-in-Ok-add_fields-clause-refs c =
    let file = c.in-Some.file.now in
    c.in-Ok-add_fields.ensures.refs
    ∙ ap (λ (n : ℕ). c.args.statics.now.refs + n)
    (ap (sum_by (reference_of file)) c.as_slice-fields.ensures ∙ sym (references_in_class c.args.set.now c.args.class file (sym c.in-Some.ensures)))

pub returns-in-Ok-add_fields-clause-cells : goal.returns-in-Ok-add_fields-clause-cells
returns-in-Ok-add_fields-clause-cells c =
    let file = c.in-Some.file.now in
    c.in-Ok-add_fields.ensures.cells
    ∙ ap (λ (cells : List ℕ). c.args.statics.now.cells.items ++ cells)
    (ap (flat_map (cells_of file)) c.as_slice-fields.ensures ∙ sym (cells_in_class c.args.set.now c.args.class file (sym c.in-Some.ensures)))
