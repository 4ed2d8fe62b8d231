-- The parts of the plan are those that are measured.
use Rattle.std.proofs.Common.{ap, ◌∙◌, arith}
use Rattle.jvm_model.specs.WidthsShapes.{widths_of}
use Rattle.flow_split.specs.Shares.{total_in}
use Rattle.flow_split.proofs.SlotsPlaced.{slots_counted}
use Rattle.flow_split.proofs.CellsPlaced.{cells_counted}
use Rattle.flow_split.proofs.Laying.{same_plan}
use Rattle.flow_split.proofs.frame.laid_out.Goals as goal

pub returns : goal.returns
returns c = λ table is.
    let body = c.args.body.now in
    let widths = widths_of c.args.narrow.now table body.ops in
    let slots = c.total-ref_locals.ensures ∙ ap total_in (c.deref-4.ensures.value ∙ is.slots) ∙ slots_counted body in
    let cells = c.total-cell_locals.ensures ∙ ap total_in (c.deref-5.ensures.value ∙ is.cells) ∙ cells_counted body widths in
    let most = is.most in
    same_plan c.in_ok-narrow.ensures
    (c.from_vec.ensures ∙ c.in_ok-refs.ensures body (c.deref.ensures.value ∙ is.slots))
    (c.from_vec-2.ensures ∙ c.in_ok-places.ensures body widths (c.deref-2.ensures.value ∙ is.cells))
    (c.from_vec-3.ensures ∙ c.in_ok-fills.ensures widths (c.deref-3.ensures.value ∙ is.cells))
    slots cells (omega (arith, slots, cells, most))
