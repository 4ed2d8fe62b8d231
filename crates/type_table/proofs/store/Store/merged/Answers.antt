-- The merge of the frames, from those of their operands and of their locals.
use Rattle.std.proofs.Common.{ℕ, take, sym, subst}
use Rattle.jvm_model.specs.TypesFrames.{may_be_operand, merge_frames, merge_lists}
use Rattle.type_table.specs.declared.operands.Chain.{Chain}
use Rattle.type_table.specs.declared.store.FrameId.{FrameId}
use Rattle.type_table.specs.Frames.{Stored, IsFrame, frame_of}
use Rattle.type_table.specs.Chains.{chain_at, chain_of}
use Rattle.type_table.specs.Trees.{tree_of}
use Rattle.type_table.specs.Merges.{merged_types, IsMerged, IsMergedChain, IsMergedTree}
use Rattle.type_table.proofs.MergedFrames.{frames_merge, stored_of}
use Rattle.type_table.proofs.store.Store.merged.Goals as goal

pub returns-clause-merged : goal.returns-clause-merged
returns-clause-merged c =
    let files = c.args.set.now in
    let inside = c.self.inside in
    let upper = c.args.upper in
    let lower = c.args.lower in
    let cells = inside.cells.items in
    let new_cells = c.merged_operands.new.cells.items in
    let new_trees = c.merged_tree.new.trees in
    let old : Stored = stored_of cells inside.trees inside.depth inside.locals in
    let new : Stored = stored_of new_cells new_trees inside.depth inside.locals in
    let Chains : Chain → Chain → Type 0 = λ a b. IsMergedChain new_cells (chain_of cells a) (merge_lists files may_be_operand (chain_of cells a) (chain_of cells b)) c.in_ok-operands.operands in
    let chains = subst (λ (a : Chain). Chains a (chain_at lower)) c.chain.ensures (subst (λ (b : Chain). Chains c.chain.result b) c.chain-2.ensures c.in_ok-operands.ensures.merged) in
    let Locals : ℕ → Type 0 = λ count. IsMergedTree new_trees inside.depth count (take count (tree_of inside.trees inside.depth upper.locals)) (merged_types files (take count (tree_of inside.trees inside.depth upper.locals)) (take count (tree_of inside.trees inside.depth lower.locals))) c.in_ok-locals.locals in
    let locals = subst Locals c.from.ensures c.in_ok-locals.ensures.merged in
    let Frames : FrameId → Stored → Type 0 = λ id stored. IsFrame stored id in
    let has : (id : FrameId) → IsFrame c.args.self.now id → IsFrame old id = λ id frame. subst (Frames id) (sym c.self.view_is) frame in
    subst (λ (stored : Stored). IsMerged new (frame_of stored upper) (merge_frames files (frame_of stored upper) (frame_of stored lower)) c.grown.result) c.self.view_is
    (frames_merge files cells new_cells inside.trees new_trees inside.depth inside.locals upper lower c.self.invariant.0 (has upper c.requires.upper) (has lower c.requires.lower) c.in_ok-operands.ensures.begins c.in_ok-locals.ensures.grow c.in_ok-operands.operands c.in_ok-locals.locals c.grown.result chains locals c.grown.ensures)
