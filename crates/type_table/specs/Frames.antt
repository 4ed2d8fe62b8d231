-- How entries of a store stand for frames: operands as chains, each with the one below it, and locals as trees that
-- share their branches.
use Rattle.std.specs.Prelude.{◌≡◌, ℕ, zero, suc, ◌≤◌, ◌^◌, Bool, true, false, List, [], ◌∷◌, ◌++◌, take, Some, slice_get}
use Rattle.std.specs.Option.{option_map_or, option_to_list}
use Rattle.std.specs.List.{list_any}
use Rattle.body_form.specs.declared.types.VFrame.{VFrame}
use Rattle.body_form.specs.declared.types.VType.{VType}
use Rattle.body_form.specs.declared.types.VType.TheVariants as known
use Rattle.type_table.specs.declared.store.Branch.{Branch}
use Rattle.type_table.specs.declared.store.Cell.{Cell}
use Rattle.type_table.specs.declared.store.FrameId.{FrameId}

-- the entries of a store, how deep its trees are, and how many locals a frame has
pub record Stored : Type 0 where
  pub cells : List Cell
  pub leaves : List VType
  pub branches : List Branch
  pub depth : ℕ
  pub locals : ℕ

-- ---- marks

-- an object that is not yet constructed
abbrev pub is_unconstructed : VType → Bool
is_unconstructed (known.New pc) = true
is_unconstructed known.This = true
is_unconstructed type = false

-- where a mark is not set, no type is that of an object that is not yet constructed
abbrev pub IsMarked : Bool → List VType → Type 0
IsMarked mark types = mark ≡ false → list_any is_unconstructed types ≡ false

-- ---- operands

-- so many operands, from an entry downwards
unfoldable pub operands_of : List Cell → ℕ → ℕ → List VType
operands_of cells zero index = []
operands_of cells (suc height) index = option_map_or (λ cell. cell.value ∷ operands_of cells height cell.below) (slice_get cells index) []

-- the entries for so many operands are there, each with a mark for itself and those below it
unfoldable pub HasOperands : List Cell → ℕ → ℕ → Type 0
HasOperands cells zero index = Unit {0}
HasOperands cells (suc height) index =
    (cell : Cell) × (slice_get cells index ≡ Some cell) × IsMarked cell.unconstructed (cell.value ∷ operands_of cells height cell.below) × HasOperands cells height cell.below

-- ---- locals

-- the locals of a tree of this depth
unfoldable pub locals_of : List VType → List Branch → ℕ → ℕ → List VType
locals_of leaves branches zero index = option_to_list (slice_get leaves index)
locals_of leaves branches (suc depth) index =
    option_map_or (λ branch. locals_of leaves branches depth branch.left ++ locals_of leaves branches depth branch.right) (slice_get branches index) []

-- its entries are there, each branch with a mark for its locals
unfoldable pub HasLocals : List VType → List Branch → ℕ → ℕ → Type 0
HasLocals leaves branches zero index = (type : VType) × (slice_get leaves index ≡ Some type)
HasLocals leaves branches (suc depth) index =
    (branch : Branch) × (slice_get branches index ≡ Some branch)
    × IsMarked branch.unconstructed (locals_of leaves branches depth branch.left ++ locals_of leaves branches depth branch.right)
    × HasLocals leaves branches depth branch.left × HasLocals leaves branches depth branch.right

-- ---- frames

-- what a frame of a store stands for
abbrev pub frame_of : Stored → FrameId → VFrame
frame_of stored id =
    record {
      locals = take stored.locals (locals_of stored.leaves stored.branches stored.depth id.locals);
      stack = operands_of stored.cells id.height id.operands;
      pending = id.pending;
    }

-- its entries are there
pub record IsFrame (stored : Stored) (id : FrameId) : Type 0 where
  pub operands : HasOperands stored.cells id.height id.operands
  pub locals : HasLocals stored.leaves stored.branches stored.depth id.locals

-- the trees are deep enough for the locals
abbrev pub IsDeep : Stored → Type 0
IsDeep stored = stored.locals ≤ 2 ^ stored.depth

-- ---- growth

-- a list begins with another one
abbrev pub Begins : {X : Type 0} → List X → List X → Type 0
Begins {X} old new = (more : List X) × (new ≡ old ++ more)

-- entries are added and none is changed, so each frame stays what it was
pub record Grows (old new : Stored) : Type 0 where
  pub cells : Begins old.cells new.cells
  pub leaves : Begins old.leaves new.leaves
  pub branches : Begins old.branches new.branches
  pub depth : new.depth ≡ old.depth
  pub locals : new.locals ≡ old.locals
