-- What is around an instruction in a frame.
use Rattle.std.specs.Prelude.{◌≡◌, ℕ, Bool, true, false, List, Option, Some, None, IfSome, get_or}
use Rattle.image_instr.specs.declared.insn.Kind.{Kind}
use Rattle.image_instr.specs.declared.insn.Width.{Width}
use Rattle.body_form.specs.declared.op.Op.{Op}
use Rattle.body_form.specs.declared.op.Op.TheVariants as op
use Rattle.body_form.specs.declared.types.VType.TheVariants as known
use Rattle.jvm_model.specs.WidthsShapes.{Point}
use Rattle.jvm_model.specs.ImageExpansion.{Locals, top_of, is_boolean_array}
use Rattle.expansion.specs.Seen as seen

-- the instruction calls a method
abbrev pub is_call : Op → Bool
is_call (op.CallStatic used) = true
is_call (op.CallVirtual used) = true
is_call (op.CallSpecial used) = true
is_call (op.CallInterface used) = true
is_call instruction = false

-- the local that the instruction names, if it names one
abbrev pub local_named : Op → Option ℕ
local_named (op.Load kind local) = Some local
local_named (op.Store kind local) = Some local
local_named (op.Inc local amount) = Some local
local_named instruction = None

-- this is the width of the local that the instruction names
abbrev pub HasWidth : (ℕ → Width) → Op → Width → Type 0
HasWidth widths instruction named = IfSome (local_named instruction) (λ local. widths local ≡ named)

-- the width of the local that the instruction names, the shapes of the operands before it, and that of the top one after
-- it
pub record IsAround (locals : Locals) (point : Point) (instruction : Op) (named : Width) (shapes : List Kind) (next : Kind) : Type 0 where
  pub width : HasWidth locals.width instruction named
  pub before : point.before ≡ shapes
  pub after : top_of point.after ≡ next

-- the same, of the operands before it as many as it looks at
pub record IsSeen (locals : Locals) (point : Point) (instruction : Op) (named : Width) (shapes : List Kind) (next : Kind) : Type 0 where
  pub width : HasWidth locals.width instruction named
  pub around : seen.IsAround point (record { before = shapes; after = next; boolean = is_boolean_array (get_or point.types 1 known.Top) }) instruction
