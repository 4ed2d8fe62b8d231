-- Code whose whole numbers each have two cells, states that match there, and what values stand for in both halves.
use Rattle.std.specs.Prelude.{◌≡◌, ℕ, true, List, [], ◌∷◌, ◌++◌, Some, FitsSigned}
use Rattle.std.specs.Int.{w32}
use Rattle.std.specs.List.{Contains}
use Rattle.cell_num.specs.Cells.{low_cell, high_cell}
use Rattle.body_form.specs.declared.body.Body.{Body}
use Rattle.body_form.specs.declared.op.Op.{Op}
use Rattle.body_form.specs.declared.types.VType.{VType}
use Rattle.jvm_model.specs.Bodies.{AreEach}
use Rattle.jvm_model.specs.State.{Value, Whole}
use Rattle.jvm_model.specs.TypesFrames.{may_be_operand}
use Rattle.jvm_model.specs.TypesRules.{op_at}
use Rattle.mote_model.specs.State.{Reference, Frame as SplitFrame}
use Rattle.mote_model.specs.SplitState.{State as SplitState}
use Rattle.typed_machine.specs.TypedState.{Frame, State}
use Rattle.match_states.specs.Followed.{StatesMatch}
use Rattle.match_states.specs.MatchedFrames.{reference_of, YoungestMatches, WaitingMatches}
use Rattle.match_states.specs.Setting.{Setting, IsCompiled, IsWide}
use Rattle.match_code.specs.Standing.{AreInsns}

-- ---- values in both halves

abbrev pub refs_of_value : Value → List Reference
refs_of_value (Whole number) = []
refs_of_value value = reference_of value ∷ []

-- the high cell is on top
abbrev pub cells_of_value : Value → List ℕ
cells_of_value (Whole number) = high_cell number ∷ low_cell number ∷ []
cells_of_value value = []

abbrev pub value_refs : List Value → List Reference
value_refs [] = []
value_refs (value ∷ values) = refs_of_value value ++ value_refs values

abbrev pub value_cells : List Value → List ℕ
value_cells [] = []
value_cells (value ∷ values) = cells_of_value value ++ value_cells values

-- a whole number is one of 32 bits
abbrev pub IsInt : Value → Type 0
IsInt (Whole number) = FitsSigned w32 number
IsInt value = Unit {0}

-- ---- code

-- of an operand something is known
abbrev pub MayBeOperand : VType → Type 0
MayBeOperand type = may_be_operand type ≡ true

-- Typed code with its image, whose bodies are wide and of machine instructions with fitting operands.
pub record IsWideCode (setting : Setting) : Type 0 where
  pub compiled : IsCompiled setting
  pub wide : (body : Body) → Contains setting.world.bodies body → IsWide setting body
  pub insns : (body : Body) → Contains setting.world.bodies body → AreInsns setting body

-- ---- where frames stand

-- the states match, and the youngest frame stands at an instruction
pub record StandsAt (setting : Setting) (state : State) (other : SplitState) (instruction : Op) : Type 0 where
  pub match : StatesMatch setting state other
  pub frame : Frame
  pub frames : List Frame
  pub split : SplitFrame
  pub others : List SplitFrame
  pub frames_are : state.frames ≡ frame ∷ frames
  pub others_are : other.frames ≡ split ∷ others
  pub youngest : YoungestMatches setting frame split
  pub waiting : AreEach (WaitingMatches setting) frames others
  pub at : op_at youngest.body.ops frame.pc ≡ Some instruction

-- a frame has these values as operands, and the method and the locals of another one
pub record HasOperands (frame last : SplitFrame) (values : List Value) : Type 0 where
  pub method : last.method ≡ frame.method
  pub ref_locals : last.refs.locals ≡ frame.refs.locals
  pub cell_locals : last.cells.locals ≡ frame.cells.locals
  pub refs : last.refs.operands ≡ value_refs values
  pub cells : last.cells.operands ≡ value_cells values
