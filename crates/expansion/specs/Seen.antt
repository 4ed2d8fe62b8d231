-- On what of its surroundings an expansion hangs.
use Rattle.std.specs.Prelude.{◌≡◌, ℕ, Bool, true, false, List, [], map, take, length, get_or}
use Rattle.class_pool.specs.declared.types.TypeBase.TheVariants as base
use Rattle.insn_form.specs.declared.ValueKind.TheVariants as value_kind
use Rattle.image_instr.specs.declared.insn.MInsn.{MInsn}
use Rattle.image_instr.specs.declared.insn.SwitchRow as image_row
use Rattle.image_instr.specs.declared.insn.Width.TheVariants as width
use Rattle.image_instr.specs.Insn.{KeepsLimits, AreRowsOf}
use Rattle.body_form.specs.declared.op.MethodUse.{MethodUse}
use Rattle.body_form.specs.declared.op.Op.{Op}
use Rattle.body_form.specs.declared.op.Op.TheVariants as op
use Rattle.body_form.specs.declared.types.VType.TheVariants as known
use Rattle.jvm_model.specs.WidthsShapes.{Point}
use Rattle.jvm_model.specs.ImageExpansion.{Emitted, Locals, Ids, top_of, is_boolean_array, moved_row, switch_insn}
use Rattle.expansion.specs.declared.around.Around.{Around}
use Rattle.expansion.specs.declared.around.Numbers.{Numbers}

-- how many operands an instruction looks at
abbrev pub looked_at : Op → ℕ
looked_at (op.Stack form) = 4
looked_at (op.CallVirtual used) = length used.descriptor.params
looked_at (op.CallSpecial used) = length used.descriptor.params
looked_at (op.CallStatic used) = length used.descriptor.params
looked_at (op.CallInterface used) = length used.descriptor.params
looked_at instruction = 2

abbrev pub reads_element : Op → Bool
reads_element (op.ArrayLoad kind) = true
reads_element instruction = false

-- the instruction sees no more of the point than this
pub record IsAround (seen : Point) (around : Around) (instruction : Op) : Type 0 where
  pub before : take (looked_at instruction) seen.before ≡ take (looked_at instruction) around.before
  pub after : top_of seen.after ≡ around.after
  pub boolean : reads_element instruction ≡ true → is_boolean_array (get_or seen.types 1 known.Top) ≡ around.boolean

-- a call of a private method by its id, and of another one by the number of its selector
abbrev pub AreCalled : Ids → Numbers → MethodUse → Type 0
AreCalled ids numbers used = (used.private ≡ true → ids.method used.method ≡ numbers.method) × (used.private ≡ false → ids.selector used ≡ numbers.selector)

-- these are the numbers that the instruction asks for
abbrev pub AreNumbers : Locals → Ids → (ℕ → ℕ) → Numbers → Op → Type 0
AreNumbers locals ids offset numbers (op.Load value_kind.Ref local) = locals.slot local ≡ numbers.slot
AreNumbers locals ids offset numbers (op.Load value_kind.Int local) = (locals.cell local ≡ numbers.cell) × (locals.width local ≡ numbers.width)
AreNumbers locals ids offset numbers (op.Store value_kind.Ref local) = locals.slot local ≡ numbers.slot
AreNumbers locals ids offset numbers (op.Store value_kind.Int local) = (locals.slot local ≡ numbers.slot) × (locals.cell local ≡ numbers.cell) × (locals.width local ≡ numbers.width)
AreNumbers locals ids offset numbers (op.Inc local amount) = (locals.cell local ≡ numbers.cell) × (locals.width local ≡ numbers.width)
AreNumbers locals ids offset numbers (op.If cond target) = offset target ≡ numbers.target
AreNumbers locals ids offset numbers (op.IfCmp cond target) = offset target ≡ numbers.target
AreNumbers locals ids offset numbers (op.IfRef cond target) = offset target ≡ numbers.target
AreNumbers locals ids offset numbers (op.Goto target) = offset target ≡ numbers.target
AreNumbers locals ids offset numbers (op.Switch form default rows) = offset default ≡ numbers.target
AreNumbers locals ids offset numbers (op.GetStatic used) = ids.static used.field ≡ numbers.place
AreNumbers locals ids offset numbers (op.PutStatic used) = ids.static used.field ≡ numbers.place
AreNumbers locals ids offset numbers (op.GetField used) = ids.field used.field ≡ numbers.place
AreNumbers locals ids offset numbers (op.PutField used) = ids.field used.field ≡ numbers.place
AreNumbers locals ids offset numbers (op.CallVirtual used) = AreCalled ids numbers used
AreNumbers locals ids offset numbers (op.CallSpecial used) = ids.method used.method ≡ numbers.method
AreNumbers locals ids offset numbers (op.CallStatic used) = ids.method used.method ≡ numbers.method
AreNumbers locals ids offset numbers (op.CallInterface used) = AreCalled ids numbers used × (ids.type (record { dims = 0; base = base.Class used.class }) ≡ numbers.type_id)
AreNumbers locals ids offset numbers (op.New type) = ids.type type ≡ numbers.type_id
AreNumbers locals ids offset numbers (op.NewArray type) = ids.type type ≡ numbers.type_id
AreNumbers locals ids offset numbers (op.CheckCast type) = ids.type type ≡ numbers.type_id
AreNumbers locals ids offset numbers (op.InstanceOf type) = ids.type type ≡ numbers.type_id
AreNumbers locals ids offset numbers (op.MultiArray array dims) = ids.type array ≡ numbers.type_id
AreNumbers locals ids offset numbers instruction = Unit {0}

-- ---- rows

-- the rows that the machine instructions of an instruction have: those of a switch, each with an offset
abbrev pub rows_at : (ℕ → ℕ) → Op → List image_row.SwitchRow
rows_at offset (op.Switch form default rows) = map (moved_row offset) rows
rows_at offset instruction = []

abbrev pub with_rows : List image_row.SwitchRow → List MInsn → List Emitted
with_rows rows list = map (λ (insn : MInsn). (insn, rows)) list

-- ---- limits

-- the operands keep to the limits of the machine instruction, and the rows are those that it counts
abbrev pub Keeps : Emitted → Type 0
Keeps emitted = KeepsLimits emitted.0 × AreRowsOf emitted.0 emitted.1

-- the keys of a switch rise, and those of a table follow one another; a table has one
abbrev pub KeepsRows : Op → Type 0
KeepsRows (op.Switch form default rows) = Keeps (switch_insn form width.One 0 rows, map (moved_row (λ pc. 0)) rows)
KeepsRows instruction = Unit {0}
