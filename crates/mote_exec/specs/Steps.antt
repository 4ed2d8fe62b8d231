-- What a plain step is asked and answers, and the youngest frame after it.
use Rattle.std.specs.Prelude.{◌≡◌, ℕ, ℤ, ◌+◌, Bool, true, false, nat_lt, if◌then◌else◌, List, drop, IsTrue}
use Rattle.image_instr.specs.declared.insn.MInsn.{MInsn}
use Rattle.image_instr.specs.declared.insn.SwitchRow.{SwitchRow}
use Rattle.image_instr.specs.declared.insn.Width.{Width}
use Rattle.image_instr.specs.Switch.{is_switch, default_of}
use Rattle.image_check.specs.Visits.{moved_by}
use Rattle.mote_stack.specs.Frames.{Stack, youngest_frame, with_youngest, without_last, last_items}
use Rattle.mote_model.specs.declared.memory.State.{State as Memory}
use Rattle.mote_model.specs.declared.ending.Ending.TheVariants.{Spent}
use Rattle.mote_model.specs.declared.turn.Turn.{Turn}
use Rattle.mote_model.specs.declared.turn.Turn.TheVariants.{On, Ends}
use Rattle.mote_model.specs.State.{Frame}
use Rattle.mote_model.specs.SplitMoves.{count_of, number_of, goes_on, push_number, with_cells}
use Rattle.mote_model.specs.SplitStep.{move, move_of, choose}
use Rattle.mote_model.specs.Turns.{PlainTurn, TakesTick}
use Rattle.split_safety.specs.Ready.{Shown, IsReady}

-- the memory is ready for the instruction, behind which the code goes on at a pc
pub record IsStep (shown : Shown) (memory : Memory) (insn : MInsn) (pc : ℕ) : Type 0 where
  pub ready : IsReady shown memory insn
  pub behind : let next = ready.next in pc ≡ next.frame.pc + next.size

-- the same, and this is the code of the youngest frame's method
pub record IsStepIn (shown : Shown) (memory : Memory) (code : List ℕ) (insn : MInsn) (pc : ℕ) : Type 0 where
  pub step : IsStep shown memory insn pc
  pub code_is : let ready = step.ready in let next = ready.next in let method = next.method in code ≡ method.code

-- the turn says so of the move from the state that is shown
abbrev pub StepsTo : Shown → (old new : Memory) (left after : ℕ) → Turn → Type 0
StepsTo shown old new left after turn = PlainTurn shown.image shown.naming shown.size (move shown.image shown.state) shown.state old new left after turn

-- the same where no tick is taken
abbrev pub GoesTo : Shown → (old new : Memory) → Turn → Type 0
GoesTo shown old new turn = (left : ℕ) → StepsTo shown old new left left turn

-- the youngest frame at a pc
abbrev pub with_pc : Stack → ℕ → Stack
with_pc stack pc = with_youngest stack (record (youngest_frame stack) { pc = pc })

-- the same with these lists
abbrev pub stepped : Stack → ℕ → List ℕ → List ℕ → Stack
stepped stack pc refs cells = with_youngest stack (record (youngest_frame stack) { pc = pc; refs = refs; cells = cells })

-- the memory is ready for an instruction that pushes this number
pub record IsConstant (shown : Shown) (memory : Memory) (pc : ℕ) (w : Width) (number : ℤ) : Type 0 where
  pub insn : MInsn
  pub step : IsStep shown memory insn pc
  pub pushes : (frame : Frame) (others : List Frame) (next : ℕ) (rows : List SwitchRow) → move_of shown.image shown.state frame others next insn rows ≡ goes_on shown.state (push_number w number frame) others next
  pub effect : moved_by shown.image insn ≡ record { ref_pop = 0; ref_push = 0; cell_pop = 0; cell_push = count_of w }

-- the memory with another stack
abbrev pub with_stack : Memory → Stack → Memory
with_stack memory stack = record memory { region = stack }

-- ---- numbers on top

-- the number of a width that has so many cells above it
abbrev pub number_below : Width → ℕ → List ℕ → ℤ
number_below w above cells = number_of (last_items (count_of w) (without_last above cells))

-- the frame without so many cells of its operands
abbrev pub with_taken : ℕ → Frame → Frame
with_taken taken frame = with_cells frame (drop taken frame.cells.operands)

-- ---- jumps

-- a jump from a pc to one that is not after it is a tick
abbrev pub is_tick : ℕ → ℕ → Bool
is_tick pc target = if nat_lt pc target then false else true

-- a tick is taken where the jump is one, unless none is left
abbrev pub IsTaken : (pc target left after : ℕ) → Bool → Type 0
IsTaken pc target left after true = TakesTick (is_tick pc target) left after
IsTaken pc target left after false = (is_tick pc target ≡ true) × (left ≡ 0) × (after ≡ left)

-- so many cells are taken off the top, and the code goes on at the target; or the jump is a tick, and none is left
pub data Jumps (old new : Memory) (taken target left after : ℕ) (turn : Turn) : Type 0 where
  Jumped : turn ≡ On → new ≡ with_stack old (let youngest = youngest_frame old.region in stepped old.region target youngest.refs (without_last taken youngest.cells))
      → (let youngest = youngest_frame old.region in TakesTick (is_tick youngest.pc target) left after) → Jumps old new taken target left after turn
  WasSpent : turn ≡ Ends Spent → new ≡ old → (let youngest = youngest_frame old.region in is_tick youngest.pc target ≡ true) → left ≡ 0 → after ≡ left → Jumps old new taken target left after turn

-- ---- switches

-- the memory is ready for a switch or a table of this code, that of the youngest frame's method, whose key is of this width
pub record IsChoice (shown : Shown) (memory : Memory) (code : List ℕ) (w : Width) : Type 0 where
  pub insn : MInsn
  pub ready : IsReady shown memory insn
  pub code_is : let next = ready.next in let method = next.method in code ≡ method.code
  pub switches : IsTrue (is_switch insn)
  pub chooses : (frame : Frame) (others : List Frame) (next : ℕ) (rows : List SwitchRow) → move_of shown.image shown.state frame others next insn rows ≡ choose shown.state frame others w rows (default_of insn)
  pub effect : moved_by shown.image insn ≡ record { ref_pop = 0; ref_push = 0; cell_pop = count_of w; cell_push = 0 }
