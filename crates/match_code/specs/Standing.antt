-- Where a frame of the split machine stands within the code of a compiled body.
use Rattle.std.specs.Prelude.{◌≡◌, ℕ, ◌+◌, List, ◌∷◌, ◌++◌, length, Some}
use Rattle.std.specs.List.{AllByRecursion, Contains, flat_map}
use Rattle.image_instr.specs.declared.insn.MInsn.{MInsn}
use Rattle.image_instr.specs.declared.insn.SwitchRow.{SwitchRow}
use Rattle.image_instr.specs.Insn.{HasRanges, HasRowRanges, IsInsn}
use Rattle.body_form.specs.declared.body.Body.{Body}
use Rattle.body_form.specs.declared.op.Op.{Op}
use Rattle.jvm_model.specs.ImageEmission.{expansion_at, offset_of}
use Rattle.jvm_model.specs.ImageExpansion.{Emitted, bytes_of}
use Rattle.jvm_model.specs.TypesRules.{op_at}
use Rattle.jvm_model.specs.WidthsFrame.{fill_insns}
use Rattle.mote_model.specs.State.{Frame}
use Rattle.type_safety.specs.Safety.{method_of}
use Rattle.match_states.specs.Setting.{Setting, source_for, id_for}

-- the machine instructions of the instruction at a pc
abbrev pub emitted_at : Setting → Body → ℕ → Op → List Emitted
emitted_at setting body pc instruction = expansion_at (source_for setting body) (offset_of (source_for setting body)) (pc, instruction)

-- those that extend the parameters of a body at entry
abbrev pub fills_for : Setting → Body → List Emitted
fills_for setting body = flat_map fill_insns (source_for setting body).plan.fills

-- The frame stands in the expansion of the instruction at a pc: behind the first of its machine instructions, at this one,
-- before the rest.
pub record StandsInExpansion (setting : Setting) (body : Body) (frame : Frame) (pc : ℕ) (instruction : Op) (first : List Emitted) (insn : MInsn) (rows : List SwitchRow) (rest : List Emitted) : Type 0 where
  pub of_set : Contains setting.world.bodies body
  pub method : frame.method ≡ id_for setting (method_of body)
  pub at : op_at body.ops pc ≡ Some instruction
  pub emitted : emitted_at setting body pc instruction ≡ first ++ (insn, rows) ∷ rest
  pub pc_is : frame.pc ≡ offset_of (source_for setting body) pc + length (bytes_of first)

-- the same where it stands behind the first ones and before the rest, which may be none
pub record StandsBetween (setting : Setting) (body : Body) (frame : Frame) (pc : ℕ) (instruction : Op) (first rest : List Emitted) : Type 0 where
  pub of_set : Contains setting.world.bodies body
  pub method : frame.method ≡ id_for setting (method_of body)
  pub at : op_at body.ops pc ≡ Some instruction
  pub emitted : emitted_at setting body pc instruction ≡ first ++ rest
  pub pc_is : frame.pc ≡ offset_of (source_for setting body) pc + length (bytes_of first)

-- the same at entry, among what extends parameters
pub record StandsInFills (setting : Setting) (body : Body) (frame : Frame) (first : List Emitted) (insn : MInsn) (rows : List SwitchRow) (rest : List Emitted) : Type 0 where
  pub of_set : Contains setting.world.bodies body
  pub method : frame.method ≡ id_for setting (method_of body)
  pub emitted : fills_for setting body ≡ first ++ (insn, rows) ∷ rest
  pub pc_is : frame.pc ≡ length (bytes_of first)

-- and there behind the first ones and before the rest
pub record StandsAmongFills (setting : Setting) (body : Body) (frame : Frame) (first rest : List Emitted) : Type 0 where
  pub of_set : Contains setting.world.bodies body
  pub method : frame.method ≡ id_for setting (method_of body)
  pub emitted : fills_for setting body ≡ first ++ rest
  pub pc_is : frame.pc ≡ length (bytes_of first)

-- a frame that went on over the instruction at which another one stands
pub record WentOver (frame other : Frame) (size : ℕ) : Type 0 where
  pub method : other.method ≡ frame.method
  pub pc : other.pc ≡ frame.pc + size

-- ---- the instructions of the code

abbrev pub IsEmittedInsn : Emitted → Type 0
IsEmittedInsn emitted = IsInsn emitted.0 emitted.1

-- the machine instructions of a body's code are such, with operands within their limits
pub record AreInsns (setting : Setting) (body : Body) : Type 0 where
  pub expansions : (pc : ℕ) (instruction : Op) → op_at body.ops pc ≡ Some instruction → AllByRecursion IsEmittedInsn (emitted_at setting body pc instruction)
  pub fills : AllByRecursion IsEmittedInsn (fills_for setting body)

-- the numbers of a machine instruction and of its rows are of their types
abbrev pub IsInRange : Emitted → Type 0
IsInRange emitted = HasRanges emitted.0 × AllByRecursion HasRowRanges emitted.1

-- those of a body's code are
pub record AreInRange (setting : Setting) (body : Body) : Type 0 where
  pub expansions : (pc : ℕ) (instruction : Op) → op_at body.ops pc ≡ Some instruction → AllByRecursion IsInRange (emitted_at setting body pc instruction)
  pub fills : AllByRecursion IsInRange (fills_for setting body)
