-- The merge of two types is by their components, where both are arrays.
use Rattle.std.proofs.Common.{is_some, refl, sym, ap, ◌∙◌}
use Rattle.class_tree.specs.Subtypes.{array_of}
use Rattle.flow_kinds.proofs.KindCases.{merge_refs_arrays, merge_primitives, merge_others, merge_class_array, merge_array_class}
use Rattle.flow_kinds.proofs.merging.+merge_refs.Goals as goal

pub returns-then-are_references-clause-merged : goal.returns-then-are_references-clause-merged
returns-then-are_references-clause-merged t c =
    let k = c.in-Some-Some in
    c.array_of.ensures ∙ ap array_of c.merge_refs.ensures.merged
    ∙ sym (merge_refs_arrays c.args.set.now c.args.a c.args.b k.first k.second (record { dims_a = k.ensures.some.0; base_a = k.ensures.some.1; dims_b = k.ensures'.some.0; base_b = k.ensures'.some.1 }) (sym c.are_references.ensures ∙ c.if-are_references.true))

pub returns-then-are_primitive-clause-merged : goal.returns-then-are_primitive-clause-merged
returns-then-are_primitive-clause-merged t c =
    let k = c.in-Some-Some in
    sym (merge_primitives c.args.set.now c.args.a c.args.b k.first k.second (record { dims_a = k.ensures.some.0; base_a = k.ensures.some.1; dims_b = k.ensures'.some.0; base_b = k.ensures'.some.1 }) (sym c.are_references.ensures ∙ c.if-are_references.false) (sym c.are_primitive.ensures ∙ c.if-are_primitive.true))

pub returns-else-are_primitive-clause-merged : goal.returns-else-are_primitive-clause-merged
returns-else-are_primitive-clause-merged t c =
    let k = c.in-Some-Some in
    sym (merge_others c.args.set.now c.args.a c.args.b k.first k.second (record { dims_a = k.ensures.some.0; base_a = k.ensures.some.1; dims_b = k.ensures'.some.0; base_b = k.ensures'.some.1 }) (sym c.are_references.ensures ∙ c.if-are_references.false) (sym c.are_primitive.ensures ∙ c.if-are_primitive.false))

pub returns-in_default-clause-merged : goal.returns-in_default-clause-merged
returns-in_default-clause-merged t c =
    let k = c.in_default in
    sym (merge_array_class c.args.set.now c.args.b.dims k.field-0-0.dims c.args.a.dims c.args.a.base c.args.b.base k.ensures.some.0 (k.ensures'.none refl))

pub returns-in_default-2-clause-merged : goal.returns-in_default-2-clause-merged
returns-in_default-2-clause-merged t c =
    let k = c.in_default in
    sym (merge_class_array c.args.set.now c.args.a.dims k.field-0-1.dims c.args.b.dims c.args.a.base c.args.b.base (c.component_of.ensures.none (ap is_some k.is-0)) k.ensures.some.0)
