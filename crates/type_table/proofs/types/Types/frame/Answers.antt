-- The frame of a pc is that of the index of the pc.
use Rattle.std.proofs.Common.{◌≡◌, ℕ, List, Option, option_map, slice_get, sym, ap, subst, ◌∙◌}
use Rattle.std.proofs.lemmas.Result.{IfOk-weaker}
use Rattle.body_form.specs.declared.types.VFrame.{VFrame}
use Rattle.code_reach.specs.Reached.{RisesFrom}
use Rattle.code_reach.specs.Visits.{pcs_of, index_of}
use Rattle.type_table.specs.declared.store.FrameId.{FrameId}
use Rattle.type_table.specs.Types.{Rows, table_of}
use Rattle.type_table.proofs.TypeRows.{row_frame, ids_rise, frame_by_index}
use Rattle.type_table.proofs.types.Types.frame.Goals as goal

pub index_of-index-requires : goal.index_of-index-requires
index_of-index-requires c =
    let inside = c.self.inside in
    let rise = subst (λ (rows : Rows). RisesFrom 0 rows) (sym c.self.view_is) c.requires in
    subst (λ (list : List (ℕ × FrameId)). RisesFrom 0 list) (sym c.as_slice.ensures.value) (ids_rise inside.store 0 inside.rows.items rise)

pub returns : goal.returns
returns c =
    let inside = c.self.inside in
    let pc = c.args.pc in
    let by_index : Rows → ℕ → Option VFrame = λ rows index. option_map (λ (row : ℕ × VFrame). row.1) (slice_get rows index) in
    let index : c.index_of-index.result ≡ index_of (pcs_of inside.rows.items) pc = c.index_of-index.ensures ∙ ap (λ (list : List (ℕ × FrameId)). index_of (pcs_of list) pc) c.as_slice.ensures.value in
    let same : by_index c.args.self.now c.index_of-index.result ≡ table_of c.args.self.now pc =
    ap (by_index c.args.self.now) index
    ∙ subst (λ (rows : Rows). by_index rows (index_of (pcs_of inside.rows.items) pc) ≡ table_of rows pc) c.self.view_is
    (row_frame inside.store inside.rows.items (index_of (pcs_of inside.rows.items) pc) ∙ sym (frame_by_index inside.store inside.rows.items pc))
    in
    IfOk-weaker c.frame_at.result (λ (found : Option VFrame). found ≡ by_index c.args.self.now c.index_of-index.result) (λ (found : Option VFrame). found ≡ table_of c.args.self.now pc)
    (λ found is. is ∙ same) c.frame_at.ensures
