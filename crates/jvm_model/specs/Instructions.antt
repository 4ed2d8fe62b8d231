-- The family of an instruction, with what it names resolved from the class in which it stands, or why it is
-- refused.
use Rattle.std.specs.Prelude.{ℕ, Bool, true, false, ◌&&◌, not, nat_eq, nat_lt, nat_le, if◌then◌else◌, List, Option, Some, None, Ok}
use Rattle.std.specs.Option.{ok_or}
use Rattle.class_pool.specs.declared.types.TypeBase.{TypeBase}
use Rattle.class_pool.specs.declared.types.TypeBase.TheVariants as base
use Rattle.class_pool.specs.declared.types.TypeRef.{TypeRef}
use Rattle.class_pool.specs.Pool.{Slots, integer_at}
use Rattle.class_file.specs.Rules.{is_interface, is_abstract}
use Rattle.class_file.specs.declared.record.ClassFile.{ClassFile}
use Rattle.class_code.specs.declared.insn.ArrayKind.{ArrayKind}
use Rattle.class_code.specs.declared.insn.ArrayKind.TheVariants as array
use Rattle.class_code.specs.declared.insn.Insn.{Insn}
use Rattle.class_code.specs.declared.insn.Insn.TheVariants as insns
use Rattle.class_tree.specs.Set.{flags_of}
use Rattle.class_tree.specs.Subtypes.{array_of}
use Rattle.class_tree.specs.AccessTests.{is_subclass}
use Rattle.body_form.specs.declared.op.Literal.TheVariants as literal
use Rattle.body_form.specs.declared.op.UnaryOp.TheVariants as unary
use Rattle.body_form.specs.declared.op.FieldUse.{FieldUse}
use Rattle.body_form.specs.declared.op.MethodUse.{MethodUse}
use Rattle.body_form.specs.declared.op.Op.{Op}
use Rattle.body_form.specs.declared.op.Op.TheVariants as op
use Rattle.jvm_model.specs.declared.refusal.Cause.TheVariants.{WrongKind}
use Rattle.jvm_model.specs.Resolution.{Resolved, and_then, type_with, type_used}
use Rattle.jvm_model.specs.FieldUses.{FieldAsked, field_used}
use Rattle.jvm_model.specs.MethodUses.{virtual_call, special_call, static_call, interface_call}

-- ---- types

-- objects of the base may be made: it is a class, and neither an interface nor abstract
abbrev pub may_be_made_of : List ClassFile → TypeBase → Bool
may_be_made_of files (base.Class class) = not (is_interface (flags_of files class)) && not (is_abstract (flags_of files class))
may_be_made_of files _ = false

-- objects of the type may be made, which is no array
abbrev pub may_be_made : List ClassFile → TypeRef → Bool
may_be_made files type = nat_eq type.dims 0 && may_be_made_of files type.base

-- a type has at most 255 dimensions, so an array's elements have fewer
abbrev pub may_be_element : TypeRef → Bool
may_be_element type = nat_lt type.dims 255

-- so many dimensions of the type are counted, one at least
abbrev pub has_counted : ℕ → TypeRef → Bool
has_counted dims type = nat_le 1 dims && nat_le dims type.dims

abbrev pub any_type : TypeRef → Bool
any_type type = true

-- the elements that newarray is asked for
abbrev pub element_of : ArrayKind → TypeBase
element_of array.Boolean = base.Boolean
element_of array.Char = base.Char
element_of array.Byte = base.Byte
element_of array.Short = base.Short
element_of array.Int = base.Int

-- ---- families

-- an instruction that names a type
abbrev pub with_type : (TypeRef → Op) → Resolved TypeRef → Resolved Op
with_type make type = and_then (λ type. Ok (make type)) type

-- one that names a field
abbrev pub with_field : (FieldUse → Op) → Resolved FieldUse → Resolved Op
with_field make found = and_then (λ found. Ok (make found)) found

-- one that names a method
abbrev pub with_method : (MethodUse → Op) → Resolved MethodUse → Resolved Op
with_method make found = and_then (λ found. Ok (make found)) found

abbrev pub read_of : Bool → FieldAsked
read_of static = record { writes = false; static = static }

abbrev pub write_of : Bool → FieldAsked
write_of static = record { writes = true; static = static }

-- the family of an instruction in a class with this pool (JVMS 6.5)
abbrev pub op_of : List ClassFile → ℕ → Slots → Insn → Resolved Op
op_of files from pool insns.Nop = Ok op.Nop
op_of files from pool insns.Null = Ok (op.Const literal.Null)
op_of files from pool (insns.Push number) = Ok (op.Const (literal.Int number))
op_of files from pool (insns.Ldc index) = and_then (λ number. Ok (op.Const (literal.Int number))) (ok_or (integer_at pool index) WrongKind)
op_of files from pool (insns.Load kind local) = Ok (op.Load kind local)
op_of files from pool (insns.Store kind local) = Ok (op.Store kind local)
op_of files from pool (insns.Inc local amount) = Ok (op.Inc local amount)
op_of files from pool (insns.Stack form) = Ok (op.Stack form)
op_of files from pool (insns.Bin operation) = Ok (op.Bin operation)
op_of files from pool insns.Neg = Ok (op.Unary unary.Neg)
op_of files from pool (insns.Convert conv) = Ok (op.Unary (unary.Convert conv))
op_of files from pool (insns.If cond target) = Ok (op.If cond target)
op_of files from pool (insns.IfCmp cond target) = Ok (op.IfCmp cond target)
op_of files from pool (insns.IfRef cond target) = Ok (op.IfRef cond target)
op_of files from pool (insns.Goto target) = Ok (op.Goto target)
op_of files from pool (insns.Switch form default rows) = Ok (op.Switch form default rows)
op_of files from pool (insns.Return kind) = Ok (op.Return kind)
op_of files from pool (insns.GetStatic index) = with_field op.GetStatic (field_used files from pool (read_of true) index)
op_of files from pool (insns.PutStatic index) = with_field op.PutStatic (field_used files from pool (write_of true) index)
op_of files from pool (insns.GetField index) = with_field op.GetField (field_used files from pool (read_of false) index)
op_of files from pool (insns.PutField index) = with_field op.PutField (field_used files from pool (write_of false) index)
op_of files from pool (insns.CallVirtual index) = with_method op.CallVirtual (virtual_call files from pool index)
op_of files from pool (insns.CallSpecial index) = with_method op.CallSpecial (special_call files from pool index)
op_of files from pool (insns.CallStatic index) = with_method op.CallStatic (static_call files from pool index)
op_of files from pool (insns.CallInterface index count) = with_method op.CallInterface (interface_call files from pool count index)
op_of files from pool (insns.New index) = with_type op.New (type_used files from pool (may_be_made files) index)
op_of files from pool (insns.NewArray kind) = Ok (op.NewArray (type_with 1 (element_of kind)))
op_of files from pool (insns.NewRefArray index) = with_type (λ type. op.NewArray (array_of type)) (type_used files from pool may_be_element index)
op_of files from pool insns.ArrayLength = Ok op.ArrayLength
op_of files from pool (insns.ArrayLoad kind) = Ok (op.ArrayLoad kind)
op_of files from pool (insns.ArrayStore kind) = Ok (op.ArrayStore kind)
op_of files from pool insns.Throw = Ok op.Throw
op_of files from pool (insns.CheckCast index) = with_type op.CheckCast (type_used files from pool any_type index)
op_of files from pool (insns.InstanceOf index) = with_type op.InstanceOf (type_used files from pool any_type index)
op_of files from pool (insns.MultiArray index dims) = with_type (λ type. op.MultiArray type dims) (type_used files from pool (has_counted dims) index)

-- ---- exception tables

-- the number of java/lang/Throwable
abbrev pub throwable : ℕ
throwable = 1

-- the base may be caught: it is java/lang/Throwable or a class below it
abbrev pub may_be_caught_of : List ClassFile → TypeBase → Bool
may_be_caught_of files (base.Class class) = is_subclass files class throwable
may_be_caught_of files _ = false

-- the type may be caught, which is no array
abbrev pub may_be_caught : List ClassFile → TypeRef → Bool
may_be_caught files type = nat_eq type.dims 0 && may_be_caught_of files type.base

-- the class of a type that is one
abbrev pub class_in : TypeBase → Option ℕ
class_in (base.Class class) = Some class
class_in _ = None

-- what a row of an exception table catches: a class, or anything
abbrev pub caught_by : List ClassFile → ℕ → Slots → ℕ → Resolved (Option ℕ)
caught_by files from pool index =
    if nat_eq index 0 then Ok None else and_then (λ type. Ok (class_in type.base)) (type_used files from pool (may_be_caught files) index)
