-- The merge of two frames, by those of their operands and of their locals.
use Rattle.std.proofs.Common.{◌≡◌, ℕ, ◌≤◌, ◌^◌, Bool, ◌||◌, List, length, Option, Some, option_map, option_and_then, unwrap_or, inl, inr, refl, sym, ap, subst, ◌∙◌}
use Rattle.class_file.specs.declared.record.ClassFile.{ClassFile}
use Rattle.body_form.specs.declared.types.VFrame.{VFrame}
use Rattle.body_form.specs.declared.types.VType.{VType}
use Rattle.jvm_model.specs.TypesFrames.{may_be_operand, merge_frames, merge_lists}
use Rattle.type_table.specs.declared.merged.Merged.{Merged}
use Rattle.type_table.specs.declared.merged.Merged.TheVariants as merged
use Rattle.type_table.specs.declared.merged_operands.MergedChain.{MergedChain}
use Rattle.type_table.specs.declared.merged_operands.MergedChain.TheVariants as chains
use Rattle.type_table.specs.declared.store.Cell.{Cell}
use Rattle.type_table.specs.declared.store.FrameId.{FrameId}
use Rattle.type_table.specs.declared.trees.Trees.{Trees}
use Rattle.type_table.specs.Frames.{Stored, Begins, HasOperands, IsFrame, frame_of, operands_of}
use Rattle.type_table.specs.Chains.{chain_of}
use Rattle.type_table.specs.Trees.{TreesGrow}
use Rattle.type_table.specs.Merges.{grown_frame, merged_types, IsGrown, IsMerged, IsMergedChain, IsMergedTree}
use Rattle.type_table.proofs.Growing.{operands_stay}
use Rattle.type_table.proofs.Lengths.{frame_is_wide}
use Rattle.type_table.proofs.MergedTrees.{locals_merge, IsHalf, is_half}

-- a store by its parts
abbrev pub stored_of : List Cell → Trees → ℕ → ℕ → Stored
stored_of cells trees depth locals = record { cells = cells; leaves = trees.leaves.items; branches = trees.branches.items; depth = depth; locals = locals }

abbrev frame_by : List VType → Bool → List VType → VFrame
frame_by locals pending stack = record { locals = locals; stack = stack; pending = pending }

module _ (files : List ClassFile) (cells new_cells : List Cell) (trees new_trees : Trees) (depth count : ℕ) (upper lower : FrameId) (deep : count ≤ 2 ^ depth)
    (has_upper : IsFrame (stored_of cells trees depth count) upper) (has_lower : IsFrame (stored_of cells trees depth count) lower)
    (cells_grow : Begins cells new_cells) (trees_grow : TreesGrow trees new_trees) where
  abbrev old : Stored
  old = stored_of cells trees depth count

  abbrev new : Stored
  new = stored_of new_cells new_trees depth count

  abbrev first : VFrame
  first = frame_of old upper

  abbrev second : VFrame
  second = frame_of old lower

  abbrev locals : List VType
  locals = merged_types files first.locals second.locals

  abbrev stack : Option (List VType)
  stack = merge_lists files may_be_operand first.stack second.stack

  abbrev mark : Bool
  mark = upper.pending || lower.pending

  -- locals merge whatever they are
  by_operands : merge_frames files first second ≡ option_map (frame_by locals mark) stack
  by_operands =
      let long : length first.locals ≡ length second.locals = frame_is_wide old upper deep has_upper ∙ sym (frame_is_wide old lower deep has_lower) in
      ap (option_and_then (λ list. option_map (frame_by list mark) stack)) (locals_merge files first.locals second.locals long)

  stack_stays : operands_of new_cells upper.height upper.operands ≡ first.stack
  stack_stays = (operands_stay cells new_cells upper.height upper.operands cells_grow has_upper.operands).same

  -- the frame with other locals
  new_locals : (other : Option ℕ) → IsMergedTree new_trees depth count first.locals locals other → IsHalf new_trees depth (unwrap_or other upper.locals) count first.locals locals other
  new_locals other is = is_half trees new_trees depth count upper.locals locals other trees_grow has_upper.locals is

  grown_is : (height operands : ℕ) (other : Option ℕ) (types : List VType) → HasOperands new_cells height operands → operands_of new_cells height operands ≡ types → stack ≡ Some types
      → IsHalf new_trees depth (unwrap_or other upper.locals) count first.locals locals other
      → (frame_by locals mark types ≡ first → ⊥)
      → IsMerged new first (merge_frames files first second) (merged.Grown (grown_frame upper height operands other mark))
  grown_is height operands other types has is found half differs =
      let id = grown_frame upper height operands other mark in
      let there : IsFrame new id = record { operands = has; locals = half.has } in
      let frame : frame_of new id ≡ frame_by locals mark types =
      ap (λ (list : List VType). frame_by list mark (operands_of new_cells height operands)) half.is ∙ ap (frame_by locals mark) is
      in
      (there, by_operands ∙ ap (option_map (frame_by locals mark)) found ∙ ap (λ (f : VFrame). Some f) (sym frame), λ same. differs (sym frame ∙ same))

  same_parts : (types : List VType) → frame_by locals mark types ≡ first → (locals ≡ first.locals) × (types ≡ first.stack) × (mark ≡ upper.pending)
  same_parts types same = (ap (λ (f : VFrame). f.locals) same, ap (λ (f : VFrame). f.stack) same, ap (λ (f : VFrame). f.pending) same)

  pub frames_merge : (operands : MergedChain) (other : Option ℕ) (found : Merged) → IsMergedChain new_cells first.stack stack operands
      → IsMergedTree new_trees depth count first.locals locals other → IsGrown upper other mark found operands → IsMerged new first (merge_frames files first second) found
  frames_merge chains.Clash other found is_chain is_tree is =
      subst (IsMerged new first (merge_frames files first second)) (sym is) (by_operands ∙ ap (option_map (frame_by locals mark)) is_chain)
  frames_merge chains.Same other found is_chain is_tree (inl is) =
      let half = new_locals other is_tree in
      let whole : merge_frames files first second ≡ Some first =
      by_operands ∙ ap (option_map (frame_by locals mark)) is_chain
      ∙ ap (λ (list : List VType). Some (frame_by list mark first.stack)) (half.kept is.1) ∙ ap (λ (b : Bool). Some (frame_by first.locals b first.stack)) is.2
      in
      subst (IsMerged new first (merge_frames files first second)) (sym is.0) whole
  frames_merge chains.Same other found is_chain is_tree (inr is) =
      let half = new_locals other is_tree in
      let stays = operands_stay cells new_cells upper.height upper.operands cells_grow has_upper.operands in
      subst (IsMerged new first (merge_frames files first second)) (sym is.0)
      (grown_is upper.height upper.operands other first.stack stays.has stays.same is_chain half
      (λ same. let parts = same_parts first.stack same in is.1 (half.same parts.0) parts.2))
  frames_merge (chains.Grown chain) other found is_chain is_tree is =
      subst (IsMerged new first (merge_frames files first second)) (sym is)
      (grown_is chain.height chain.top other (chain_of new_cells chain) is_chain.0 refl is_chain.1 (new_locals other is_tree)
      (λ same. is_chain.2 (same_parts (chain_of new_cells chain) same).1))
