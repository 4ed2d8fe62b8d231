-- What is found for the merge of two frames of a store.
use Rattle.std.specs.Prelude.{◌≡◌, ◌⊎◌, ℕ, Bool, true, ◌-◌, ◌<◌, List, [], ◌∷◌, ◌++◌, drop, take, length, Option, Some, None, unwrap_or}
use Rattle.std.specs.List.{AllByRecursion}
use Rattle.class_file.specs.declared.record.ClassFile.{ClassFile}
use Rattle.class_tree.specs.Merge.{merge}
use Rattle.body_form.specs.declared.types.VFrame.{VFrame}
use Rattle.body_form.specs.declared.types.VType.{VType}
use Rattle.jvm_model.specs.TypesFrames.{may_be_operand, merge_frames}
use Rattle.type_table.specs.declared.merged.Merged.{Merged}
use Rattle.type_table.specs.declared.merged.Merged.TheVariants as merged
use Rattle.type_table.specs.declared.merged_operands.MergedChain.{MergedChain}
use Rattle.type_table.specs.declared.merged_operands.MergedChain.TheVariants as chains
use Rattle.type_table.specs.declared.operands.Chain.{Chain}
use Rattle.type_table.specs.declared.store.Branch.{Branch}
use Rattle.type_table.specs.declared.store.Cell.{Cell}
use Rattle.type_table.specs.declared.store.FrameId.{FrameId}
use Rattle.type_table.specs.declared.trees.Trees.{Trees}
use Rattle.type_table.specs.Chains.{chain_of, HasChain, IsTop}
use Rattle.type_table.specs.Frames.{Stored, IsFrame, frame_of}
use Rattle.type_table.specs.Trees.{HasTree, IsTree, tree_of}

-- ---- frames

-- the merge, of which the upper frame is one side: there is none, it is the upper frame, or it is another one
abbrev pub IsMerged : Stored → VFrame → Option VFrame → Merged → Type 0
IsMerged stored upper merge merged.Clash = merge ≡ None
IsMerged stored upper merge merged.Same = merge ≡ Some upper
IsMerged stored upper merge (merged.Grown id) = IsFrame stored id × (merge ≡ Some (frame_of stored id)) × (frame_of stored id ≡ upper → ⊥)

abbrev pub IsMergeOf : List ClassFile → Stored → VFrame → VFrame → Merged → Type 0
IsMergeOf files stored upper lower found = IsMerged stored upper (merge_frames files upper lower) found

-- ---- operands

-- each of the types may be an operand
abbrev pub AreOperands : List VType → Type 0
AreOperands types = AllByRecursion (λ type. may_be_operand type ≡ true) types

-- the top operands of two chains, of which each one is the same or has an entry of its own
pub record IsTops (cells : List Cell) (upper lower : Chain) (a b : Cell × Chain) : Type 0 where
  pub upper_top : IsTop cells upper a.0 a.1
  pub lower_top : IsTop cells lower b.0 b.1

-- The types that take the place of the top operands: the merge is these and the others of the upper chain. There is
-- one at least where the merge is not the upper chain.
pub record AreMerged (upper : List VType) (merge : Option (List VType)) (values : List VType) : Type 0 where
  pub is : merge ≡ Some (values ++ drop (length values) upper)
  pub differs : 0 < length values → values ≡ take (length values) upper → ⊥

abbrev pub IsMergedChain : List Cell → List VType → Option (List VType) → MergedChain → Type 0
IsMergedChain cells upper merge chains.Clash = merge ≡ None
IsMergedChain cells upper merge chains.Same = merge ≡ Some upper
IsMergedChain cells upper merge (chains.Grown chain) = HasChain cells chain × (merge ≡ Some (chain_of cells chain)) × (chain_of cells chain ≡ upper → ⊥)

-- ---- locals

-- the types that merge one by one
unfoldable pub merged_types : List ClassFile → List VType → List VType → List VType
merged_types files [] seconds = []
merged_types files (a ∷ firsts) [] = []
merged_types files (a ∷ firsts) (b ∷ seconds) = merge files a b ∷ merged_types files firsts seconds

-- the first so many locals of two trees merge into those of the upper tree, or of another one
abbrev pub IsMergedTree : Trees → ℕ → ℕ → List VType → List VType → Option ℕ → Type 0
IsMergedTree trees depth count upper merge None = merge ≡ upper
IsMergedTree trees depth count upper merge (Some root) = HasTree trees depth root × (merge ≡ take count (tree_of trees depth root)) × (merge ≡ upper → ⊥)

-- the merge of two leaves is the upper one, or a new one
abbrev pub IsMergedLeaf : Trees → VType → VType → Option ℕ → Type 0
IsMergedLeaf trees upper merge None = merge ≡ upper
IsMergedLeaf trees upper merge (Some root) = IsTree trees 0 root (merge ∷ []) × (merge ≡ upper → ⊥)

-- the tree over two halves, each that of the branch where there is no other one; none where both are
abbrev pub IsForkOver : Trees → Trees → ℕ → Branch → Option ℕ → Option ℕ → Option ℕ → Type 0
IsForkOver old new depth branch left right None = (left ≡ None) × (right ≡ None)
IsForkOver old new depth branch left right (Some root) =
    IsTree new depth root (tree_of old (depth - 1) (unwrap_or left branch.left) ++ tree_of old (depth - 1) (unwrap_or right branch.right))
    × (left ≡ None → right ≡ None → ⊥)

-- the frame with these operands, with other locals where there are any, and with a mark
abbrev pub grown_frame : FrameId → ℕ → ℕ → Option ℕ → Bool → FrameId
grown_frame upper height operands locals pending = record { height = height; operands = operands; locals = unwrap_or locals upper.locals; pending = pending }

-- what the merge is by that of the operands
abbrev pub IsGrown : FrameId → Option ℕ → Bool → Merged → MergedChain → Type 0
IsGrown upper locals pending found chains.Clash = found ≡ merged.Clash
IsGrown upper locals pending found chains.Same =
    ((found ≡ merged.Same) × (locals ≡ None) × (pending ≡ upper.pending))
    ⊎ ((found ≡ merged.Grown (grown_frame upper upper.height upper.operands locals pending)) × (locals ≡ None → pending ≡ upper.pending → ⊥))
IsGrown upper locals pending found (chains.Grown chain) = found ≡ merged.Grown (grown_frame upper chain.height chain.top locals pending)
