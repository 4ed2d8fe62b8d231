-- How many cells whole numbers have in a method, and what stands on its operand stack: references, and numbers of one
-- cell or two.
use Rattle.std.specs.Prelude.{ℕ, ◌-◌, Bool, true, false, ◌&&◌, ◌||◌, not, nat_eq, if◌then◌else◌, List, [], ◌∷◌, length, Option, Some, None, option_and_then}
use Rattle.std.specs.Option.{option_map_or}
use Rattle.std.specs.List.{list_any}
use Rattle.insn_form.specs.declared.ValueKind.TheVariants as value_kind
use Rattle.image_instr.specs.declared.insn.Kind.{Kind}
use Rattle.image_instr.specs.declared.insn.Kind.TheVariants as kind
use Rattle.image_instr.specs.declared.insn.Width.{Width}
use Rattle.image_instr.specs.declared.insn.Width.TheVariants as width
use Rattle.body_form.specs.declared.body.Body.{Body}
use Rattle.body_form.specs.declared.op.Op.{Op}
use Rattle.body_form.specs.declared.op.Op.TheVariants as op
use Rattle.body_form.specs.declared.types.VType.{VType}
use Rattle.body_form.specs.declared.types.VType.TheVariants as known
use Rattle.body_form.specs.declared.types.VFrame.{VFrame}
use Rattle.body_form.specs.Flow.{Ops}
use Rattle.jvm_model.specs.declared.entries.Entry.{Entry}
use Rattle.jvm_model.specs.TypesRight.{Table}

-- ---- widths

-- the entry is that of an operand, or of a local
abbrev pub is_of : Bool → Entry → Bool
is_of operand entry = if operand then entry.operand else not entry.operand

abbrev pub is_entry : ℕ → Bool → ℕ → Entry → Bool
is_entry pc operand place entry = nat_eq entry.pc pc && (is_of operand entry && nat_eq entry.place place)

-- the list has the entry of a local, or of an operand counted from the bottom, before the instruction at a pc
abbrev pub is_narrow : List Entry → ℕ → Bool → ℕ → Bool
is_narrow narrow pc operand place = list_any (is_entry pc operand place) narrow

abbrev pub width_where : Bool → Width
width_where one = if one then width.One else width.Two

-- how many operands stand before an instruction
abbrev pub height_at : Table → ℕ → ℕ
height_at table pc = option_map_or (λ frame. length frame.stack) (table pc) 0

-- an int of one cell is stored in the local
abbrev pub stores_one : List Entry → Table → ℕ → ℕ × Op → Bool
stores_one narrow table local (pc, op.Store value_kind.Int other) = nat_eq other local && is_narrow narrow pc true (height_at table pc - 1)
stores_one narrow table local (pc, instruction) = false

abbrev pub is_local_entry : ℕ → Entry → Bool
is_local_entry local entry = not entry.operand && nat_eq entry.place local

-- A local has one width: one cell where an entry of it is in the list, or what is stored in it.
abbrev pub local_width : List Entry → Table → Ops → ℕ → Width
local_width narrow table ops local = width_where (list_any (is_local_entry local) narrow || list_any (stores_one narrow table local) ops)

-- the widths of locals, and of operands before an instruction, counted from the bottom
pub record Widths : Type 0 where
  pub local : ℕ → Width
  pub operand : ℕ → ℕ → Width

abbrev pub widths_of : List Entry → Table → Ops → Widths
widths_of narrow table ops =
    record { local = local_width narrow table ops; operand = λ pc place. width_where (is_narrow narrow pc true place) }

-- ---- shapes

-- what holds a whole number of a width
abbrev pub kind_of_width : Width → Kind
kind_of_width width.One = kind.One
kind_of_width width.Two = kind.Two

-- an int is a number of its width; all else that may be an operand is a reference
abbrev pub shape_of : Width → VType → Kind
shape_of width known.Int = kind_of_width width
shape_of width type = kind.Ref

-- the shapes of operands, the top first
unfoldable pub shapes_of : (ℕ → Width) → List VType → List Kind
shapes_of width [] = []
shapes_of width (type ∷ below) = shape_of (width (length below)) type ∷ shapes_of width below

-- those before the instruction at a pc
abbrev pub shapes_at : Widths → Table → ℕ → List Kind
shapes_at widths table pc = option_map_or (λ frame. shapes_of (widths.operand pc) frame.stack) (table pc) []

-- the pc of the instruction after the one at a pc
unfoldable pub pc_after : Ops → ℕ → Option ℕ
pc_after [] at = None
pc_after (x ∷ []) at = None
pc_after (x ∷ next ∷ ops) at = if nat_eq x.0 at then Some next.0 else pc_after (next ∷ ops) at

-- What is around an instruction: the types of the operands before it, their shapes, and the shapes of those after it,
-- where it goes on to the next one. The top comes first in each.
pub record Point : Type 0 where
  pub types : List VType
  pub before : List Kind
  pub after : List Kind

abbrev pub types_at : Table → ℕ → List VType
types_at table pc = option_map_or (λ frame. frame.stack) (table pc) []

abbrev pub point_at : Ops → Widths → Table → ℕ → Point
point_at ops widths table pc =
    record { types = types_at table pc; before = shapes_at widths table pc; after = option_map_or (shapes_at widths table) (pc_after ops pc) [] }
