-- What an instruction does not look at does not count for its expansion.
use Rattle.std.proofs.Common.{◌≡◌, ℕ, List, Option, refl, sym, ap, ◌∙◌}
use Rattle.class_pool.specs.declared.descriptor.Kind.{Kind as DeclaredKind}
use Rattle.class_pool.specs.declared.types.TypeBase.TheVariants as base
use Rattle.insn_form.specs.declared.ValueKind.TheVariants as value_kind
use Rattle.image_instr.specs.declared.insn.Kind.{Kind}
use Rattle.image_instr.specs.declared.insn.MInsn.{MInsn}
use Rattle.image_instr.specs.declared.insn.Width.{Width}
use Rattle.image_instr.specs.declared.insn.Width.TheVariants as width
use Rattle.body_form.specs.declared.op.Op.{Op}
use Rattle.body_form.specs.declared.op.Op.TheVariants as op
use Rattle.body_form.specs.declared.types.VType.TheVariants as known
use Rattle.jvm_model.specs.WidthsShapes.{Point}
use Rattle.jvm_model.specs.ImageExpansion.{Locals, Ids, expanded, is_boolean_array}
use Rattle.expansion.specs.declared.around.Around.{Around}
use Rattle.expansion.specs.declared.around.Numbers.{Numbers}
use Rattle.expansion.specs.Expanding.{insns}
use Rattle.expansion.specs.Seen.{AreNumbers, AreCalled, rows_at, with_rows}
use Rattle.expansion.specs.Seen as seen
use Rattle.expansion.proofs.Alike.{alike}
use Rattle.expansion.proofs.Rows.{rows_told}
use Rattle.flow_split.specs.Around.{IsAround, IsSeen}
use Rattle.std.specs.Prelude.{None, get_or}

abbrev of_local : Option ℕ → ℕ → Width → Numbers
of_local slot cell w = record { slot = slot; cell = cell; width = w; place = 0; type_id = 0; method = 0; selector = 0; target = 0 }

abbrev of_names : ℕ → ℕ → ℕ → ℕ → ℕ → Numbers
of_names place type_id method selector target =
    record { slot = None; cell = 0; width = width.One; place = place; type_id = type_id; method = method; selector = selector; target = target }

-- the numbers that an instruction asks for
asked : (locals : Locals) (ids : Ids) (offset : ℕ → ℕ) (instruction : Op) → (numbers : Numbers) × AreNumbers locals ids offset numbers instruction
asked locals ids offset op.Nop = (of_names 0 0 0 0 0, tt)
asked locals ids offset (op.Const value) = (of_names 0 0 0 0 0, tt)
asked locals ids offset (op.Load value_kind.Ref local) = (of_local (locals.slot local) 0 width.One, refl)
asked locals ids offset (op.Load value_kind.Int local) = (of_local None (locals.cell local) (locals.width local), (refl, refl))
asked locals ids offset (op.Store value_kind.Ref local) = (of_local (locals.slot local) 0 width.One, refl)
asked locals ids offset (op.Store value_kind.Int local) = (of_local (locals.slot local) (locals.cell local) (locals.width local), (refl, refl, refl))
asked locals ids offset (op.Inc local amount) = (of_local None (locals.cell local) (locals.width local), (refl, refl))
asked locals ids offset (op.Stack f) = (of_names 0 0 0 0 0, tt)
asked locals ids offset (op.Bin o) = (of_names 0 0 0 0 0, tt)
asked locals ids offset (op.Unary o) = (of_names 0 0 0 0 0, tt)
asked locals ids offset (op.If c target) = (of_names 0 0 0 0 (offset target), refl)
asked locals ids offset (op.IfCmp c target) = (of_names 0 0 0 0 (offset target), refl)
asked locals ids offset (op.IfRef c target) = (of_names 0 0 0 0 (offset target), refl)
asked locals ids offset (op.Goto target) = (of_names 0 0 0 0 (offset target), refl)
asked locals ids offset (op.Switch f default rows) = (of_names 0 0 0 0 (offset default), refl)
asked locals ids offset (op.Return k) = (of_names 0 0 0 0 0, tt)
asked locals ids offset (op.GetStatic used) = (of_names (ids.static used.field) 0 0 0 0, refl)
asked locals ids offset (op.PutStatic used) = (of_names (ids.static used.field) 0 0 0 0, refl)
asked locals ids offset (op.GetField used) = (of_names (ids.field used.field) 0 0 0 0, refl)
asked locals ids offset (op.PutField used) = (of_names (ids.field used.field) 0 0 0 0, refl)
asked locals ids offset (op.CallVirtual used) = (of_names 0 0 (ids.method used.method) (ids.selector used) 0, (λ e. refl, λ e. refl))
asked locals ids offset (op.CallSpecial used) = (of_names 0 0 (ids.method used.method) 0 0, refl)
asked locals ids offset (op.CallStatic used) = (of_names 0 0 (ids.method used.method) 0 0, refl)
asked locals ids offset (op.CallInterface used) =
    (of_names 0 (ids.type (record { dims = 0; base = base.Class used.class })) (ids.method used.method) (ids.selector used) 0, ((λ e. refl, λ e. refl), refl))
asked locals ids offset (op.New type) = (of_names 0 (ids.type type) 0 0 0, refl)
asked locals ids offset (op.NewArray type) = (of_names 0 (ids.type type) 0 0 0, refl)
asked locals ids offset op.ArrayLength = (of_names 0 0 0 0 0, tt)
asked locals ids offset (op.ArrayLoad k) = (of_names 0 0 0 0 0, tt)
asked locals ids offset (op.ArrayStore k) = (of_names 0 0 0 0 0, tt)
asked locals ids offset op.Throw = (of_names 0 0 0 0 0, tt)
asked locals ids offset (op.CheckCast type) = (of_names 0 (ids.type type) 0 0 0, refl)
asked locals ids offset (op.InstanceOf type) = (of_names 0 (ids.type type) 0 0 0, refl)
asked locals ids offset (op.MultiArray array dims) = (of_names 0 (ids.type array) 0 0 0, refl)

-- what an instruction sees tells its expansion
pub same_seen : (locals : Locals) (ids : Ids) (offset : ℕ → ℕ) (point other : Point) (around : Around) (returned : Option DeclaredKind) (instruction : Op) → seen.IsAround point around instruction → seen.IsAround other around instruction
    → expanded locals ids offset returned point instruction ≡ expanded locals ids offset returned other instruction
same_seen locals ids offset point other around returned instruction first second =
    let numbers = asked locals ids offset instruction in
    let same : insns (expanded locals ids offset returned point instruction) ≡ insns (expanded locals ids offset returned other instruction) =
    alike locals ids offset numbers.0 point around returned instruction numbers.1 first ∙ sym (alike locals ids offset numbers.0 other around returned instruction numbers.1 second)
    in
    rows_told locals ids offset point returned instruction
    ∙ ap (λ (list : List MInsn). with_rows (rows_at offset instruction) list) same
    ∙ sym (rows_told locals ids offset other returned instruction)

-- the point whose operands are those that are handed in
abbrev pub shown : Point → List Kind → Point
shown point shapes = record { types = point.types; before = shapes; after = point.after }

pub as_seen : (locals : Locals) (ids : Ids) (offset : ℕ → ℕ) (point : Point) (returned : Option DeclaredKind) (instruction : Op) (named : Width) (shapes : List Kind) (next : Kind) → IsSeen locals point instruction named shapes next
    → expanded locals ids offset returned (shown point shapes) instruction ≡ expanded locals ids offset returned point instruction
as_seen locals ids offset point returned instruction named shapes next is =
    let around : Around = record { before = shapes; after = next; boolean = is_boolean_array (get_or point.types 1 known.Top) } in
    let all : seen.IsAround (shown point shapes) around instruction = record { before = refl; after = is.around.after; boolean = λ e. refl } in
    same_seen locals ids offset (shown point shapes) point around returned instruction all is.around

pub as_shown : (locals : Locals) (point : Point) (instruction : Op) (named : Width) (shapes : List Kind) (next : Kind) → IsSeen locals point instruction named shapes next → IsAround locals (shown point shapes) instruction named shapes next
as_shown locals point instruction named shapes next is = record { width = is.width; before = refl; after = is.around.after }
