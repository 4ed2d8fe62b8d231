-- Each row's frame is in the store.
use Rattle.std.proofs.Common.{◌≡◌, List, ℕ, sym, ap, subst, ◌∙◌}
use Rattle.std.specs.List.{AllByRecursion, filter_map, zip}
use Rattle.body_form.specs.Flow.{Ops}
use Rattle.type_table.specs.Frames.{IsFrame}
use Rattle.type_table.specs.declared.store.FrameId.{FrameId}
use Rattle.flow_verify.specs.KnownFrames.{Entries}
use Rattle.flow_verify.specs.KnownRows.{row_of}
use Rattle.flow_verify.proofs.waves.RowTables.{rows_there}
use Rattle.flow_verify.proofs.rows.types_of.Goals as goal

pub of-requires : goal.of-requires
of-requires c =
    let store = c.args.frames.store in
    let ops = c.args.body.now.ops in
    let entries = c.args.frames.known.items in
    let same : c.in_ok-rows.rows.items ≡ filter_map row_of (zip ops entries) =
    c.in_ok-rows.ensures
    ∙ ap (λ (list : Ops). filter_map row_of (zip list c.as_slice-2.result.now)) c.as_slice.ensures.all
    ∙ ap (λ (list : Entries). filter_map row_of (zip ops list)) c.as_slice-2.ensures.value
    in
    subst (λ (rows : List (ℕ × FrameId)). AllByRecursion (λ row. IsFrame store row.1) rows) (sym same) (rows_there store ops entries c.requires)
