use Rattle.std.proofs.Common.{ℕ, List, slice_get, ap, ◌∙◌}
use Rattle.std.specs.Option.{option_map_or}
use Rattle.code_reach.specs.Visits.{pcs_of, index_of}
use Rattle.infuse_emit.proofs.RowHeights.{height_found}
use Rattle.infuse_emit.proofs.shapes.height_at.Goals as goal

pub returns : goal.returns
returns c = λ rows is.
    c.height_in.ensures
    ∙ ap (λ i. option_map_or (λ (row : ℕ × ℕ). row.1) (slice_get c.args.heights.now i) 0) c.row_of.ensures
    ∙ ap (λ (list : List (ℕ × ℕ)). option_map_or (λ (row : ℕ × ℕ). row.1) (slice_get list (index_of (pcs_of list) c.args.pc)) 0) is
    ∙ height_found rows c.args.pc
