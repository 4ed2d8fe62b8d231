use Rattle.std.proofs.Common.{ℕ, List, Option, ◌++◌, take, sym, ap, ◌∙◌}
use Rattle.std.specs.Option.{option_to_list}
use Rattle.infuse_emit.specs.Parts.{heights_in}
use Rattle.infuse_emit.proofs.RowHeights.{height_more}
use Rattle.infuse_emit.proofs.shapes.heights_of.Goals as goal

pub loop-index-preserved : goal.loop-index-preserved
loop-index-preserved c =
    c.in_ok-push_row.ensures
    ∙ ap (λ (list : List (ℕ × ℕ)). list ++ option_to_list c.row_at.result) c.loop-index.invariant
    ∙ ap (λ (found : Option (ℕ × ℕ)). heights_in (take c.loop-index.index c.args.types.now) ++ option_to_list found) c.row_at.ensures
    ∙ sym (height_more c.args.types.now c.loop-index.index)
