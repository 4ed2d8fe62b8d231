-- The tree of the rows: a binary tree whose leaves are pcs, with the root 1, and with nodes 2n and 2n + 1 below
-- node n. A handler waits at a few nodes, whose leaves are together the pcs that its row covers.
use Rattle.std.specs.Prelude.{◌≡◌, ℕ, zero, suc, ◌+◌, ◌*◌, ◌/◌, ◌^◌, ◌<◌, ◌≤◌, ◌⊎◌, List, [], length, map, get_or}
use Rattle.code_reach.specs.declared.row.Row.{Row}
use Rattle.code_reach.specs.declared.tree.Tree.{Tree}
use Rattle.code_reach.specs.declared.visits.Visits.{Visits}
use Rattle.code_reach.specs.Reached.{handlers_at}
use Rattle.code_reach.specs.Visits.{IsIn, IsMarked, index_of}

-- what waits at each node
abbrev pub Nodes : Type 0
Nodes = List (List ℕ)

-- what waits at one of them
abbrev pub at_node : Nodes → ℕ → List ℕ
at_node nodes node = get_or nodes node []

-- the index waits at the node or above it, at one of so many nodes in all
abbrev pub Waits : ℕ → Nodes → ℕ → ℕ → Type 0
Waits zero nodes node index = ⊥
Waits (suc count) nodes node index = IsIn (at_node nodes node) index ⊎ Waits count nodes (node / 2) index

-- ---- putting

-- The index waits besides for the nodes of one level of the tree from the one up to the other, and for no
-- other node of the level.
pub record IsPut (from to index : ℕ) (before after : Nodes) : Type 0 where
  pub beyond : (node : ℕ) → to ≤ node → at_node after node ≡ at_node before node
  pub keeps : (count node other : ℕ) → Waits count before node other → Waits count after node other
  pub has : (level node : ℕ) → 2 ^ level ≤ from → to ≤ 2 ^ suc level → from ≤ node → node < to → Waits (suc level) after node index
  pub only : (level node other : ℕ) → 2 ^ level ≤ from → to ≤ 2 ^ suc level → 2 ^ level ≤ node → node < 2 ^ suc level → Waits (suc level) after node other
      → Waits (suc level) before node other ⊎ ((other ≡ index) × (from ≤ node) × (node < to))

-- ---- taking

-- Nothing is new at any node, and what waits no longer is in the set, which has not lost any.
pub record IsTaken (before after : Nodes) (old new : Visits) : Type 0 where
  pub less : (node index : ℕ) → IsIn (at_node after node) index → IsIn (at_node before node) index
  pub rest : (node index : ℕ) → IsIn (at_node before node) index → IsIn (at_node after node) index ⊎ IsMarked new index
  pub grows : (index : ℕ) → IsMarked old index → IsMarked new index

-- ---- a tree of rows

-- the index is that of a handler of a row that covers the pc
abbrev pub IsHandler : List ℕ → List Row → ℕ → ℕ → Type 0
IsHandler pcs rows pc index = IsIn (map (index_of pcs) (handlers_at rows pc)) index

-- For each pc the handlers of its rows wait, and no others, but for those that are known. The leaf of a pc is
-- the number of leaves and the pc.
pub record HoldsRows (pcs : List ℕ) (rows : List Row) (leaves height : ℕ) (nodes : Nodes) (known : ℕ → Type 0) : Type 0 where
  pub only : (pc index : ℕ) → pc < leaves → Waits (suc height) nodes (leaves + pc) index → IsHandler pcs rows pc index
  pub has : (pc index : ℕ) → IsHandler pcs rows pc index → (pc < leaves) × (Waits (suc height) nodes (leaves + pc) index ⊎ known index)

-- the tree of rows, from which handlers that are in the set may be taken
pub record IsTreeOf (pcs : List ℕ) (rows : List Row) (tree : Tree) (visits : Visits) : Type 0 where
  pub height : ℕ
  pub leaves : tree.leaves ≡ 2 ^ height
  pub size : length tree.nodes.items ≡ 2 * tree.leaves
  pub holds : HoldsRows pcs rows tree.leaves height tree.nodes.items (IsMarked visits)
