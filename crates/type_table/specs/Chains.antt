-- Operands of a store as chains of cells.
use Rattle.std.specs.Prelude.{◌≡◌, ◌+◌, List, ◌∷◌}
use Rattle.body_form.specs.declared.types.VType.{VType}
use Rattle.type_table.specs.declared.store.Cell.{Cell}
use Rattle.type_table.specs.declared.store.FrameId.{FrameId}
use Rattle.type_table.specs.declared.operands.Chain.{Chain}
use Rattle.type_table.specs.Frames.{HasOperands, IsMarked, operands_of}

-- the operands of a frame
abbrev pub chain_at : FrameId → Chain
chain_at id = record { height = id.height; top = id.operands }

abbrev pub chain_of : List Cell → Chain → List VType
chain_of cells chain = operands_of cells chain.height chain.top

abbrev pub HasChain : List Cell → Chain → Type 0
HasChain cells chain = HasOperands cells chain.height chain.top

-- the cell is the top of the chain, and the other chain is below it
pub record IsTop (cells : List Cell) (chain : Chain) (cell : Cell) (below : Chain) : Type 0 where
  pub has : HasChain cells below
  pub height : chain.height ≡ below.height + 1
  pub operands : chain_of cells chain ≡ cell.value ∷ chain_of cells below
  pub marked : IsMarked cell.unconstructed (chain_of cells chain)

-- a chain that stands for these operands
pub record IsChain (cells : List Cell) (chain : Chain) (operands : List VType) : Type 0 where
  pub has : HasChain cells chain
  pub is : chain_of cells chain ≡ operands
