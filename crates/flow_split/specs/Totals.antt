-- How many cells the operands before an instruction take, by how many of them have one cell.
use Rattle.std.specs.Prelude.{ℕ, Bool, true, ◌&&◌, ◌||◌, not, nat_eq, nat_lt, nat_le, List}
use Rattle.std.specs.List.{count_by}
use Rattle.image_instr.specs.declared.insn.Kind.{Kind}
use Rattle.body_form.specs.declared.types.VType.{VType}
use Rattle.jvm_model.specs.declared.entries.Entry.{Entry}
use Rattle.jvm_model.specs.WidthsShapes.{is_narrow, width_where, shapes_of}

-- the entry is that of an operand before the instruction at the pc
abbrev pub is_operand_at : ℕ → Entry → Bool
is_operand_at pc entry = nat_eq entry.pc pc && entry.operand

-- how many operands before it have one cell
abbrev pub narrow_operands : List Entry → ℕ → ℕ
narrow_operands narrow pc = count_by (is_operand_at pc) narrow

-- the entry is that of an instruction up to the one at the pc
abbrev pub has_come : ℕ → Entry → Bool
has_come pc entry = nat_le entry.pc pc

-- it comes before the operands at the pc
abbrev pub is_before_operands : ℕ → Entry → Bool
is_before_operands pc entry = nat_lt entry.pc pc || (nat_eq entry.pc pc && not entry.operand)

-- the shapes of these operands before the instruction at a pc, the top first
abbrev pub shapes_before : List Entry → ℕ → List VType → List Kind
shapes_before narrow pc stack = shapes_of (λ place. width_where (is_narrow narrow pc true place)) stack
