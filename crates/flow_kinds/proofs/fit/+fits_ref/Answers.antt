-- A type fits another one by their components, where both are arrays.
use Rattle.std.proofs.Common.{refl, sym, ◌∙◌}
use Rattle.flow_kinds.proofs.KindCases.{fits_no_array, fits_arrays, fits_others}
use Rattle.flow_kinds.proofs.fit.+fits_ref.Goals as goal

pub returns-in-None-Some : goal.returns-in-None-Some
returns-in-None-Some t c =
    let k = c.in-None-Some in
    sym (fits_no_array c.args.set.now c.args.a.base c.args.a.dims c.args.b.dims k.field-0-1.dims c.args.b.base (k.ensures'.none refl) k.ensures.some.0)

pub returns-then-are_references : goal.returns-then-are_references
returns-then-are_references t c =
    let k = c.in-Some-Some in
    c.fits_ref.ensures
    ∙ sym (fits_arrays c.args.set.now c.args.a c.args.b k.first k.second (record { dims_a = k.ensures'.some.0; base_a = k.ensures'.some.1; dims_b = k.ensures.some.0; base_b = k.ensures.some.1 }) (sym c.are_references.ensures ∙ c.if-are_references.true))

pub returns-else-are_references : goal.returns-else-are_references
returns-else-are_references t c =
    let k = c.in-Some-Some in
    c.are_primitive.ensures
    ∙ sym (fits_others c.args.set.now c.args.a c.args.b k.first k.second (record { dims_a = k.ensures'.some.0; base_a = k.ensures'.some.1; dims_b = k.ensures.some.0; base_b = k.ensures.some.1 }) (sym c.are_references.ensures ∙ c.if-are_references.false))
