-- What instructions name, resolved from the class in which they stand: types, fields and methods, or why they
-- are refused. The tests come in one order: the entry of the pool and its tag, then whether what it names is
-- there, then whether it is of the kind that the instruction asks for, then whether the class may use it.
use Rattle.std.specs.Prelude.{ℕ, Bool, true, false, not, if◌then◌else◌, List, Option, None, option_map, option_and_then, Result, Ok, Err}
use Rattle.std.specs.Option.{ok_or}
use Rattle.class_pool.specs.declared.types.TypeBase.{TypeBase}
use Rattle.class_pool.specs.declared.types.TypeBase.TheVariants as base
use Rattle.class_pool.specs.declared.types.TypeRef.{TypeRef}
use Rattle.class_pool.specs.declared.descriptor.Base.{Base}
use Rattle.class_pool.specs.declared.descriptor.Base.TheVariants as named
use Rattle.class_pool.specs.declared.descriptor.Kind.{Kind}
use Rattle.class_pool.specs.declared.pool.Const.{Const}
use Rattle.class_pool.specs.declared.pool.Const.TheVariants as const
use Rattle.class_pool.specs.Pool.{Slots, entry_at, class_name_at}
use Rattle.class_pool.specs.Members.{MemberName, name_and_type_at}
use Rattle.class_pool.specs.Descriptors.{base_of, dims_of}
use Rattle.class_pool.specs.DescriptorReading.{field_of}
use Rattle.class_file.specs.Rules.{is_array_name}
use Rattle.class_file.specs.declared.record.ClassFile.{ClassFile}
use Rattle.class_tree.specs.Set.{number_of}
use Rattle.class_tree.specs.Access.{may_use_class}
use Rattle.jvm_model.specs.declared.refusal.Cause.{Cause}
use Rattle.jvm_model.specs.declared.refusal.Cause.TheVariants.{Unresolved, WrongKind, Denied}

-- what is resolved, or why it is not
abbrev pub Resolved : Type 0 → Type 0
Resolved X = Result X Cause

-- ---- one test after another

-- the next test, where the one before gave a value
abbrev pub and_then : {X Y : Type 0} → (X → Resolved Y) → Resolved X → Resolved Y
and_then next (Ok x) = next x
and_then next (Err why) = Err why

-- the value, where the test passes
abbrev pub where_passes : {X : Type 0} → Bool → Cause → X → Resolved X
where_passes passes why x = if passes then Ok x else Err why

-- it is so, where that is asked for, and not so, where it is not
abbrev pub is_as_asked : Bool → Bool → Bool
is_as_asked asked is = if asked then is else not is

-- ---- classes and types

-- the class of this name; a set has no class of an array's name
abbrev pub class_named : List ClassFile → List ℕ → Resolved ℕ
class_named files name = ok_or (number_of files name) Unresolved

-- what a descriptor's type is an array of; long, float and double have no values here
abbrev pub base_named : List ClassFile → Base → Resolved TypeBase
base_named files named.Byte = Ok base.Byte
base_named files named.Char = Ok base.Char
base_named files named.Short = Ok base.Short
base_named files named.Int = Ok base.Int
base_named files named.Boolean = Ok base.Boolean
base_named files (named.Class name) = and_then (λ class. Ok (base.Class class)) (class_named files name)
base_named files _ = Err WrongKind

-- so many dimensions of a base
abbrev pub type_with : ℕ → TypeBase → TypeRef
type_with dims of = record { dims = dims; base = of }

-- the type of a descriptor
abbrev pub kind_named : List ClassFile → Kind → Resolved TypeRef
kind_named files kind = and_then (λ of. Ok (type_with (dims_of kind) of)) (base_named files (base_of kind))

-- The type that the name of a class entry names: an array by its descriptor, or else a class (JVMS 4.4.1).
abbrev pub type_named : List ClassFile → List ℕ → Resolved TypeRef
type_named files name =
    if is_array_name name then and_then (kind_named files) (ok_or (field_of name) Unresolved)
    else and_then (λ class. Ok (type_with 0 (base.Class class))) (class_named files name)

-- a class may use the base of a type
abbrev pub may_use_base : List ClassFile → ℕ → TypeBase → Bool
may_use_base files from (base.Class class) = may_use_class files from class
may_use_base files from _ = true

-- the type that a class entry names, of which a test is asked, where the class may use it
abbrev pub type_used : List ClassFile → ℕ → Slots → (TypeRef → Bool) → ℕ → Resolved TypeRef
type_used files from pool test index =
    and_then (λ name. and_then (λ type. and_then (λ _. where_passes (may_use_base files from type.base) Denied type) (where_passes (test type) WrongKind type)) (type_named files name))
    (ok_or (class_name_at pool index) WrongKind)

-- ---- members by name

-- what the two parts of a reference to a member name
abbrev pub member_named : Slots → ℕ → ℕ → Option MemberName
member_named pool class name_and_type =
    option_and_then (λ name. option_map (λ member. record { class = name; name = member.0; descriptor = member.1 }) (name_and_type_at pool name_and_type)) (class_name_at pool class)

-- the member that the entry at an index names, where it is a field
abbrev pub field_name : Slots → Const → Option MemberName
field_name pool (const.Field class name_and_type) = member_named pool class name_and_type
field_name pool _ = None

abbrev pub field_name_at : Slots → ℕ → Option MemberName
field_name_at pool index = option_and_then (field_name pool) (entry_at pool index)

-- a method that an entry names, and whether the entry is that of an interface's method
pub record MethodName : Type 0 where
  pub member : MemberName
  pub of_interface : Bool

abbrev pub with_tag : Bool → Option MemberName → Option MethodName
with_tag of_interface member = option_map (λ m. record { member = m; of_interface = of_interface }) member

abbrev pub method_name : Slots → Const → Option MethodName
method_name pool (const.Method class name_and_type) = with_tag false (member_named pool class name_and_type)
method_name pool (const.InterfaceMethod class name_and_type) = with_tag true (member_named pool class name_and_type)
method_name pool _ = None

abbrev pub method_name_at : Slots → ℕ → Option MethodName
method_name_at pool index = option_and_then (method_name pool) (entry_at pool index)
