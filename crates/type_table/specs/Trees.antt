-- Locals of a store as trees of branches and leaves.
use Rattle.std.specs.Prelude.{◌≡◌, ℕ, ◌-◌, ◌<◌, List, [], ◌∷◌, ◌++◌, take}
use Rattle.body_form.specs.declared.types.VType.{VType}
use Rattle.type_table.specs.declared.store.Branch.{Branch}
use Rattle.type_table.specs.declared.trees.Trees.{Trees}
use Rattle.type_table.specs.declared.trees.Node.{Node}
use Rattle.type_table.specs.declared.trees.Node.TheVariants as node
use Rattle.type_table.specs.Frames.{Begins, HasLocals, IsMarked, locals_of}

abbrev pub tree_of : Trees → ℕ → ℕ → List VType
tree_of trees depth root = locals_of trees.leaves.items trees.branches.items depth root

abbrev pub HasTree : Trees → ℕ → ℕ → Type 0
HasTree trees depth root = HasLocals trees.leaves.items trees.branches.items depth root

-- entries are added and none is changed
pub record TreesGrow (old new : Trees) : Type 0 where
  pub leaves : Begins old.leaves.items new.leaves.items
  pub branches : Begins old.branches.items new.branches.items

-- the branch is the root of a tree of this depth
pub record IsBranch (trees : Trees) (depth root : ℕ) (branch : Branch) : Type 0 where
  pub deep : 0 < depth
  pub left : HasTree trees (depth - 1) branch.left
  pub right : HasTree trees (depth - 1) branch.right
  pub locals : tree_of trees depth root ≡ tree_of trees (depth - 1) branch.left ++ tree_of trees (depth - 1) branch.right
  pub marked : IsMarked branch.unconstructed (tree_of trees depth root)

-- what is at the root of a tree of this depth
abbrev pub IsNode : Trees → ℕ → ℕ → Node → Type 0
IsNode trees depth root (node.Leaf value) = (depth ≡ 0) × (tree_of trees depth root ≡ value ∷ [])
IsNode trees depth root (node.Fork branch) = IsBranch trees depth root branch

-- a tree that stands for these locals
pub record IsTree (trees : Trees) (depth root : ℕ) (locals : List VType) : Type 0 where
  pub has : HasTree trees depth root
  pub is : tree_of trees depth root ≡ locals

-- a tree whose first so many locals are these
pub record IsPartly (trees : Trees) (depth root count : ℕ) (locals : List VType) : Type 0 where
  pub has : HasTree trees depth root
  pub is : take count (tree_of trees depth root) ≡ locals
