-- What is kept while depths are followed: each depth in the table reaches its offset, and an offset
-- that is not in the work list was visited, and its successors have the depth after it.
use Rattle.std.specs.Prelude.{◌≡◌, ◌≢◌, ℕ, ◌+◌, ◌<◌, List, [], ◌∷◌, ◌++◌, length, drop, set, Some, None, IsTrue, get_or, ◌⊎◌}
use Rattle.std.specs.List.{AllByRecursion, Contains}
use Rattle.image_instr.specs.declared.insn.MInsn.{MInsn}
use Rattle.image_instr.specs.Reading.{insn_at}
use Rattle.image_form.specs.declared.record.Image.{Image}
use Rattle.image_form.specs.declared.record.Method.{Method}
use Rattle.image_check.specs.Code.{Insns, CodeIs, IsStart, JumpsToStarts}
use Rattle.image_check.specs.Visits.{Depth, empty, IsSent, IsRight, HasOperands, ReturnsResult, FitsBody, moved_by, suffix, goes_on, successors}
use Rattle.image_check.specs.Table.{Table, Has, stored, unset}

-- the code is instructions, which jump to starts alone
pub record JumpsWell (code : List ℕ) : Type 0 where
  pub insns : Insns
  pub is_code : CodeIs code insns
  pub jumps : AllByRecursion (JumpsToStarts code insns) insns

-- the code is instructions, and one is at the offset
pub record StartsAt (code : List ℕ) (pc : ℕ) : Type 0 where
  pub insns : Insns
  pub is_code : CodeIs code insns
  pub start : IsStart insns pc

-- the instruction of this size keeps its rule at the depth, and this is the depth after it
pub record IsVisited (image : Image) (method : Method) (pc : ℕ) (d : Depth) (insn : MInsn) (size : ℕ) (after : Depth) : Type 0 where
  pub operands : HasOperands (moved_by image insn) d
  pub result : ReturnsResult method insn
  pub fits : FitsBody method d
  pub fits_after : FitsBody method (suffix (moved_by image insn) d)
  pub inside : IsTrue (goes_on insn) → pc + size < length method.code
  pub after_is : after ≡ suffix (moved_by image insn) d

-- the instruction keeps its rule, and each successor has the depth after it
pub record IsDone (image : Image) (method : Method) (table : Table) (pc : ℕ) (d : Depth) : Type 0 where
  pub right : IsRight image method pc d
  pub sends : (insn : MInsn) (size : ℕ) → insn_at (drop pc method.code) ≡ Some (insn, size) → AllByRecursion (λ to. Has table to (suffix (moved_by image insn) d)) (successors method.code pc insn size)

-- each depth in the table reaches its offset, where an instruction stands, which is done or waits in the
-- work list; offset 0 has no operands
pub record IsFlow (image : Image) (method : Method) (table : Table) (work : List ℕ) : Type 0 where
  pub size : length table ≡ length method.code
  pub first : Has table 0 empty
  pub sent : (pc : ℕ) (d : Depth) → Has table pc d → IsSent image method.code pc d
  pub starts : (pc : ℕ) (d : Depth) → Has table pc d → StartsAt method.code pc
  pub done : (pc : ℕ) (d : Depth) → Has table pc d → Contains work pc ⊎ IsDone image method table pc d
  pub reached : (pc : ℕ) → Contains work pc → (d : Depth) × Has table pc d

-- the depth is at the offset: it was there, or it was entered, and the offset is in the work list
abbrev pub IsEntered : Table → List ℕ → ℕ → Depth → Table → List ℕ → Type 0
IsEntered table work to d table' work' =
    (Has table to d × (table' ≡ table) × (work' ≡ work)) ⊎ ((get_or table to None ≡ None) × (table' ≡ set table to (Some (stored d))) × (work' ≡ work ++ to ∷ []))

-- another depth is at the offset
abbrev pub HasOther : Table → ℕ → Depth → Type 0
HasOther table to d = (other : Depth) × Has table to other × (other ≢ d)

-- The depth was entered at some of the places: what was there stays, and what is new is the depth at a
-- place, which is in the work list. For each offset that got a depth, one is in the work list.
pub record IsSpread (targets : List ℕ) (d : Depth) (table : Table) (work : List ℕ) (table' : Table) (work' : List ℕ) : Type 0 where
  pub size : length table' ≡ length table
  pub keeps : (pc : ℕ) (e : Depth) → Has table pc e → Has table' pc e
  pub only : (pc : ℕ) (e : Depth) → Has table' pc e → Has table pc e ⊎ (Contains targets pc × Contains work' pc × (e ≡ d))
  pub pending : (pc : ℕ) → Contains work pc → Contains work' pc
  pub entered : (pc : ℕ) → Contains work' pc → Contains work pc ⊎ Has table' pc d
  pub count : unset table' + length work' ≡ unset table + length work

-- it is at each of the places
pub record IsSpreadAll (targets : List ℕ) (d : Depth) (table : Table) (work : List ℕ) (table' : Table) (work' : List ℕ) : Type 0 where
  pub spread : IsSpread targets d table work table' work'
  pub each : AllByRecursion (λ to. Has table' to d) targets

-- another depth is at one of the places
pub record HasOtherAmong (targets : List ℕ) (d : Depth) (table : Table) : Type 0 where
  pub to : ℕ
  pub place : Contains targets to
  pub other : HasOther table to d
