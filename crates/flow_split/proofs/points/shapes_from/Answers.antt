-- Each turn appends the shape of one more operand.
use Rattle.std.proofs.Common.{◌≡◌, ℕ, ◌++◌, ◌∷◌, List, [], Bool, true, take, get_or, ap, ◌∙◌}
use Rattle.image_instr.specs.declared.insn.Kind.{Kind}
use Rattle.body_form.specs.declared.types.VType.TheVariants as known
use Rattle.jvm_model.specs.WidthsShapes.{is_narrow, width_where, shape_of}
use Rattle.flow_split.specs.Totals.{shapes_before}
use Rattle.flow_split.proofs.Shaping.{shape_more}
use Rattle.flow_split.proofs.points.shapes_from.Goals as goal

pub loop-position-preserved : goal.loop-position-preserved
loop-position-preserved c = λ rest high.
    let narrow = c.args.narrow.now in
    let values = c.args.values.now in
    let at = c.loop-position.position in
    let width = λ (place : ℕ). width_where (is_narrow narrow c.args.pc true place) in
    let place = c.saturating_sub-place.result in
    let shape : c.shape.result ≡ shape_of (width place) (get_or values at known.Top) =
    c.shape.ensures ∙ ap (λ (one : Bool). shape_of (width_where one) (get_or values at known.Top)) c.has_entry.ensures
    in
    c.in_ok-push.ensures.items
    ∙ ap (λ (list : List Kind). list ++ c.shape.result ∷ []) (c.loop-position.invariant rest high)
    ∙ ap (λ (one : Kind). take at (shapes_before narrow c.args.pc (values ++ rest)) ++ one ∷ []) shape
    ∙ shape_more width values rest at c.args.height place c.loop-position-test.true high c.saturating_sub-place.ensures
