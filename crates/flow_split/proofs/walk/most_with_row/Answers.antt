-- What is known of the row is all that the instruction sees.
use Rattle.std.proofs.Common.{◌≡◌, ℕ, [], take, get_or, sym, ap, ◌∙◌}
use Rattle.std.specs.Prelude.{Some, slice_get}
use Rattle.std.specs.Option.{option_map_or}
use Rattle.std.proofs.lemmas.Option.{same_Some}
use Rattle.body_form.specs.declared.op.Op.{Op}
use Rattle.body_form.specs.Flow.{Ops, pc_at}
use Rattle.jvm_model.specs.WidthsShapes.{local_width, widths_of, pc_after}
use Rattle.jvm_model.specs.WidthsFrame.{most_at}
use Rattle.jvm_model.specs.ImageExpansion.{top_of}
use Rattle.type_table.specs.Types.{table_of}
use Rattle.flow_split.specs.Totals.{shapes_before}
use Rattle.flow_split.specs.Walks.{shapes_where}
use Rattle.flow_split.proofs.Following.{got, pc_got}
use Rattle.flow_split.proofs.MostKnown.{most_known, named_at}
use Rattle.flow_split.proofs.walk.most_with_row.Goals as goal

pub returns-in-Some-most_of : goal.returns-in-Some-most_of
returns-in-Some-most_of c = λ x found.
    let body = c.args.body.now in
    let ops = body.ops in
    let narrow = c.args.narrow.now in
    let table = table_of c.args.types.now in
    let at = c.args.at.position in
    let z = c.index-ops-at.result in
    let frame = c.requires.row.frame in
    let whole : z ≡ get_or ops at z = c.index-ops-at.is ∙ ap (λ (list : Ops). get_or list at z) c.as_slice-ops.ensures.all in
    let there : slice_get ops at ≡ Some z = got ops at z c.requires.position ∙ ap (λ (y : ℕ × Op). Some y) (sym whole) in
    let pc : z.0 ≡ pc_at ops at = ap (λ (y : ℕ × Op). y.0) whole ∙ pc_got ops at z c.requires.position in
    let known = ap table pc ∙ c.requires.row.known in
    let row : slice_get c.args.types.now c.args.at.index ≡ Some (z.0, frame) = c.requires.row.found ∙ ap (λ (n : ℕ). Some (n, frame)) (sym pc) in
    let before = c.deref.ensures.value ∙ c.in-Ok.ensures frame row ∙ ap (λ (n : ℕ). take n (shapes_before narrow z.0 frame.stack)) c.looked_at.ensures in
    let after =
    c.in-Ok-top_after.ensures ∙ ap (λ (list : Ops). top_of (option_map_or (shapes_where narrow table) (pc_after list (pc_at list at)) [])) c.as_slice-ops.ensures.all
    ∙ ap (λ (n : ℕ). top_of (option_map_or (shapes_where narrow table) (pc_after ops n) [])) (sym pc)
    in
    let width = c.named_width.ensures (local_width narrow table ops) body.max_locals c.requires.widths (named_at table body.max_locals ops c.requires.named at z frame there known) in
    most_known body narrow table z.0 z.1 frame c.in-Some.height c.in-Some-most_of.most c.named_width.result c.deref.result.now c.in-Ok-top_after.after known (c.in-Some.ensures frame row) width before after c.in-Some-most_of.ensures
    ∙ ap (most_at body (widths_of narrow table ops) table) (same_Some z x (sym there ∙ found))
