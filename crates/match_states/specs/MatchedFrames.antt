-- Which frames of the split machine match frames of the typed one. References stand in one half and whole numbers in the
-- other; the code stands where the expansion of the typed pc begins, or at the call for which it waits.
use Rattle.std.specs.Prelude.{◌≡◌, ◌⊎◌, ℕ, ℤ, ◌+◌, suc, List, [], ◌∷◌, ◌++◌, map, reverse, length, drop, Option, Some, None, slice_get, option_and_then}
use Rattle.std.specs.Option.{option_map_or}
use Rattle.cell_num.specs.Cells.{low_cell, high_cell}
use Rattle.image_instr.specs.declared.insn.Kind.{Kind}
use Rattle.image_instr.specs.declared.insn.Kind.TheVariants as kind
use Rattle.image_instr.specs.declared.insn.Width.{Width}
use Rattle.body_form.specs.declared.body.Body.{Body}
use Rattle.body_form.specs.declared.op.MethodUse.{MethodUse}
use Rattle.body_form.specs.declared.op.Op.{Op}
use Rattle.body_form.specs.declared.op.Op.TheVariants as op
use Rattle.jvm_model.specs.Bodies.{AreEach}
use Rattle.jvm_model.specs.State.{Value, Whole, Null, Name}
use Rattle.jvm_model.specs.TypesRules.{op_at}
use Rattle.jvm_model.specs.WidthsShapes.{shapes_at, kind_of_width}
use Rattle.jvm_model.specs.WidthsSlots.{reference_locals, slot_of, cell_of, cell_count}
use Rattle.jvm_model.specs.ImageExpansion.{bytes_of, cut_arguments}
use Rattle.jvm_model.specs.ImageEmission.{offset_of}
use Rattle.mote_model.specs.State.{Reference, Half, Frame as SplitFrame}
use Rattle.mote_model.specs.SplitMoves.{cells_at, cells_of, count_of}
use Rattle.typed_machine.specs.TypedState.{Frame}
use Rattle.typed_machine.specs.TypedStep.{local_at}
pub use Rattle.typed_machine.specs.TypedView.{reference_of, local_reference}
use Rattle.typed_machine.specs.TypedWorld.{body_among}
use Rattle.type_safety.specs.Fitting.{IsWhole}
use Rattle.match_states.specs.Setting.{Setting, table_for, source_for, widths_for, id_for}

-- ---- values

-- the cells of a value of a shape, the low one first: of a number of one cell its low half
abbrev pub cells_of_shape : Kind → Value → List ℕ
cells_of_shape kind.Two (Whole number) = low_cell number ∷ high_cell number ∷ []
cells_of_shape kind.One (Whole number) = low_cell number ∷ []
cells_of_shape shape value = []

-- a reference, or a whole number
abbrev pub IsOfShape : Kind → Value → Type 0
IsOfShape kind.Ref value = (value ≡ Null) ⊎ ((name : ℕ) × (value ≡ Name name))
IsOfShape shape value = IsWhole value

-- ---- operands, the top first

unfoldable pub operand_refs : List Kind → List Value → List Reference
operand_refs (kind.Ref ∷ shapes) (value ∷ values) = reference_of value ∷ operand_refs shapes values
operand_refs (shape ∷ shapes) (value ∷ values) = operand_refs shapes values
operand_refs shapes values = []

unfoldable pub operand_cells : List Kind → List Value → List ℕ
operand_cells (shape ∷ shapes) (value ∷ values) = reverse (cells_of_shape shape value) ++ operand_cells shapes values
operand_cells shapes values = []

-- operands of these shapes stand in both halves
pub record OperandsMatch (shapes : List Kind) (values : List Value) (refs : List Reference) (cells : List ℕ) : Type 0 where
  pub shaped : AreEach IsOfShape shapes values
  pub refs_are : refs ≡ operand_refs shapes values
  pub cells_are : cells ≡ operand_cells shapes values

-- ---- locals

-- the cells of a local hold a number
pub record HoldsNumber (setting : Setting) (body : Body) (cells : List ℕ) (local : ℕ) (number : ℤ) : Type 0 where
  pub cell : ℕ
  pub has : cell_of body (widths_for setting body) local ≡ Some cell
  pub holds : cells_at cells cell (count_of ((widths_for setting body).local local)) ≡ Some (cells_of ((widths_for setting body).local local) number)

-- each slot holds the reference of its local, each local that is a reference has one, and the cells of each local that is
-- a whole number hold it
pub record LocalsMatch (setting : Setting) (body : Body) (frame : Frame) (refs : List Reference) (cells : List ℕ) : Type 0 where
  pub refs_are : refs ≡ map (local_reference frame) (reference_locals body)
  pub slotted : (local name : ℕ) → local_at frame local ≡ Some (Name name) → (slot : ℕ) × (slot_of body local ≡ Some slot)
  pub count : length cells ≡ cell_count body (widths_for setting body)
  pub numbers : (local : ℕ) (number : ℤ) → local_at frame local ≡ Some (Whole number) → HoldsNumber setting body cells local number

-- ---- frames

-- the frame is at the expansion of an instruction, with the operands before it
pub record YoungestMatches (setting : Setting) (frame : Frame) (other : SplitFrame) : Type 0 where
  pub body : Body
  pub found : body_among setting.world.bodies frame.method ≡ Some body
  pub method : other.method ≡ id_for setting frame.method
  pub pc : other.pc ≡ offset_of (source_for setting body) frame.pc
  pub locals : LocalsMatch setting body frame other.refs.locals other.cells.locals
  pub operands : OperandsMatch (shapes_at (widths_for setting body) (table_for setting body) frame.pc) frame.operands other.refs.operands other.cells.operands

-- a call, and how many operands it takes
abbrev pub call_at : Op → Option (MethodUse × ℕ)
call_at (op.CallStatic used) = Some (used, length used.descriptor.params)
call_at (op.CallVirtual used) = Some (used, suc (length used.descriptor.params))
call_at (op.CallSpecial used) = Some (used, suc (length used.descriptor.params))
call_at (op.CallInterface used) = Some (used, suc (length used.descriptor.params))
call_at instruction = None

-- the bytes that cut the arguments of a call, before it
abbrev pub cut_bytes : Setting → Body → ℕ → MethodUse → List ℕ
cut_bytes setting body pc used =
    bytes_of (cut_arguments 0 (reverse used.descriptor.params) (shapes_at (widths_for setting body) (table_for setting body) pc))

-- the frame waits at its call, behind what cuts the arguments, without the operands that the call took
pub record WaitingMatches (setting : Setting) (frame : Frame) (other : SplitFrame) : Type 0 where
  pub body : Body
  pub found : body_among setting.world.bodies frame.method ≡ Some body
  pub method : other.method ≡ id_for setting frame.method
  pub instruction : Op
  pub at : op_at body.ops frame.pc ≡ Some instruction
  pub used : MethodUse
  pub taken : ℕ
  pub call : call_at instruction ≡ Some (used, taken)
  pub pc : other.pc ≡ offset_of (source_for setting body) frame.pc + length (cut_bytes setting body frame.pc used)
  pub locals : LocalsMatch setting body frame other.refs.locals other.cells.locals
  pub operands : OperandsMatch (drop taken (shapes_at (widths_for setting body) (table_for setting body) frame.pc)) frame.operands other.refs.operands other.cells.operands

-- the youngest frame runs, and the others wait
abbrev pub FramesMatch : Setting → List Frame → List SplitFrame → Type 0
FramesMatch setting [] [] = Unit {0}
FramesMatch setting [] (other ∷ others) = ⊥
FramesMatch setting (frame ∷ frames) [] = ⊥
FramesMatch setting (frame ∷ frames) (other ∷ others) = YoungestMatches setting frame other × AreEach (WaitingMatches setting) frames others
