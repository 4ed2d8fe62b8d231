-- The shapes of the top operands are the first shapes of all.
use Rattle.std.proofs.Common.{◌≡◌, ◌++◌, ℕ, List, [], true, length, take, drop, option_map, Option, unwrap_or, ap, sym, ◌∙◌}
use Rattle.std.specs.Option.{option_map_or}
use Rattle.std.proofs.lemmas.List.{take-append-drop}
use Rattle.std.proofs.lemmas.Result.{IfOk-weaker}
use Rattle.body_form.specs.declared.types.VType.{VType}
use Rattle.body_form.specs.declared.types.VFrame.{VFrame}
use Rattle.jvm_model.specs.WidthsShapes.{is_narrow, width_where}
use Rattle.flow_split.specs.Totals.{shapes_before}
use Rattle.flow_split.proofs.Shaping.{top_taken}
use Rattle.flow_split.proofs.points.top_shapes.Goals as goal

pub returns : goal.returns
returns c = IfOk-weaker c.shapes_from.result _ _ (λ shapes is frame found.
    let count = c.args.count in
    let stack = frame.stack in
    let shaped = λ (types : List VType). shapes_before c.args.narrow.now c.args.pc types in
    let values : c.as_slice.result.now ≡ take count stack =
    c.as_slice.ensures ∙ c.in_ok-values.ensures ∙ ap (λ (row : Option (ℕ × VFrame)). option_map_or (λ (r : ℕ × VFrame). take count r.1.stack) row []) found in
    let height : c.unwrap_or-height.result ≡ length stack =
    c.unwrap_or-height.ensures ∙ ap (λ (o : Option ℕ). unwrap_or o 0) (c.height_at.ensures ∙ ap (option_map (λ (row : ℕ × VFrame). length row.1.stack)) found) in
    let whole : c.as_slice.result.now ++ drop count stack ≡ stack = ap (λ (list : List VType). list ++ drop count stack) values ∙ take-append-drop count stack in
    is (drop count stack) (ap length whole ∙ sym height)
    ∙ ap (λ (list : List VType). take (length c.as_slice.result.now) (shaped list)) whole
    ∙ ap (λ (list : List VType). take (length list) (shaped stack)) values
    ∙ top_taken (λ (place : ℕ). width_where (is_narrow c.args.narrow.now c.args.pc true place)) stack count) c.shapes_from.ensures
