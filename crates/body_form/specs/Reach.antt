-- Which instructions of a body are reached from pc 0: by going on, by targets, and by the handlers of the rows
-- whose range holds a reached pc.
use Rattle.std.specs.Prelude.{◌≡◌, ℕ, ◌<◌, ◌↔◌, Bool, true, false, List, ◌++◌, map, filter, length, get_or}
use Rattle.std.specs.List.{AllByRecursion}
use Rattle.code_reach.specs.Reached.{Way, Ways, code_ways}
use Rattle.code_reach.specs.declared.row.Row.{Row}
use Rattle.body_form.specs.declared.op.Op.{Op}
use Rattle.body_form.specs.declared.body.Guard.{Guard}
use Rattle.body_form.specs.declared.body.Body.{Body}
use Rattle.body_form.specs.Flow.{IsStart, pc_at, goes_on, targets, covers, successors}

-- ---- what is reached

-- the pcs of the handlers of the rows whose range holds the pc
abbrev pub handler_targets : List Guard → ℕ → List ℕ
handler_targets guards at = map (λ guard. guard.target) (filter (covers at) guards)

-- A set of pcs, as a test, is closed where it has, with the pc of an instruction, its successors and the handlers
-- at it.
abbrev pub IsClosed : (ℕ → Bool) → Body → Type 0
IsClosed holds body =
    (at : ℕ) → IsStart body.ops at → holds at ≡ true → AllByRecursion (λ to. holds to ≡ true) (successors body.ops at ++ handler_targets body.handlers at)

-- the pc is reached from 0: each closed set that has 0 has it
abbrev pub IsReached : Body → ℕ → Type 0
IsReached body pc = (holds : ℕ → Bool) → holds 0 ≡ true → IsClosed holds body → holds pc ≡ true

-- one flag for each instruction, in order: true exactly where it is reached
pub record TellReached (body : Body) (flags : List Bool) : Type 0 where
  pub count : length flags ≡ length body.ops
  pub says : (position : ℕ) → position < length body.ops → (get_or flags position false ≡ true) ↔ IsReached body (pc_at body.ops position)

-- ---- as ways of code

-- where an instruction leads of itself
abbrev pub way_of : Op → Way
way_of op = record { goes_on = goes_on op; targets = targets op }

-- a row without the class that it catches
abbrev pub row_of : Guard → Row
row_of guard = record { start = guard.start; end = guard.end; target = guard.target }

-- where each instruction of a body leads, to handlers too
abbrev pub ways_of : Body → Ways
ways_of body = code_ways way_of (map row_of body.handlers) body.ops
