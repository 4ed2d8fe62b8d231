-- The initial values of static fields: constants of fields, and the initialiser of a class, which is a run of
-- pairs that set static fields of its own class to constants, and then a return.
use Rattle.std.specs.Prelude.{ℕ, ℤ, Bool, true, false, ◌&&◌, not, if◌then◌else◌, [], ◌∷◌, Option, Some, None, is_some, option_map, option_and_then}
use Rattle.std.specs.Option.{option_map_or}
use Rattle.std.specs.List.{list_any}
use Rattle.std.specs.Str.{bytes_eq}
use Rattle.class_pool.specs.declared.descriptor.Kind.{Kind}
use Rattle.class_pool.specs.declared.descriptor.Kind.TheVariants as kind
use Rattle.class_pool.specs.Pool.{Slots, integer_at, utf8_at}
use Rattle.class_pool.specs.Members.{MemberName}
use Rattle.class_pool.specs.DescriptorReading.{field_of}
use Rattle.class_file.specs.Rules.{is_static}
use Rattle.class_file.specs.declared.record.ClassFile.{ClassFile}
use Rattle.class_file.specs.declared.record.Member.{Member}
use Rattle.class_code.specs.declared.insn.Insn.{Insn}
use Rattle.class_code.specs.declared.insn.Insn.TheVariants as insns
use Rattle.class_code.specs.Code.{Insns}
use Rattle.class_tree.specs.Set.{own_name}
use Rattle.class_tree.specs.Members.{in_file, is_called}
use Rattle.jvm_model.specs.Resolution.{field_name_at}

-- ---- constants of fields

-- int or a small type: byte, short, char and boolean
abbrev pub is_whole_kind : Kind → Bool
is_whole_kind kind.Byte = true
is_whole_kind kind.Char = true
is_whole_kind kind.Short = true
is_whole_kind kind.Int = true
is_whole_kind kind.Boolean = true
is_whole_kind _ = false

-- a class or an array
abbrev pub is_reference_kind : Kind → Bool
is_reference_kind (kind.Class name) = true
is_reference_kind (kind.Array dims of) = true
is_reference_kind _ = false

-- the type that a field's descriptor at an index names passes a test
abbrev pub has_kind : (Kind → Bool) → Slots → ℕ → Bool
has_kind test pool descriptor = option_map_or test (option_and_then field_of (utf8_at pool descriptor)) false

-- the entry is an Integer, and the field is of a whole number
abbrev pub is_constant_of : Slots → Member → ℕ → Bool
is_constant_of pool field index = has_kind is_whole_kind pool field.descriptor && is_some (integer_at pool index)

-- the field is static and has a constant that is none of its type; a constant of another field says nothing
abbrev pub has_bad_constant : Slots → Member → Bool
has_bad_constant pool field = is_static field.flags && option_map_or (λ index. not (is_constant_of pool field index)) field.constant false

-- ---- the initialiser of a class

-- what an initialiser has pushed
pub data Pushed : Type 0 where
  Number : (value : ℤ) → Pushed
  Null : Pushed

-- what an instruction pushes, where it is a push of a constant
abbrev pub pushed_by : Slots → Insn → Option Pushed
pushed_by pool (insns.Push number) = Some (Number number)
pushed_by pool (insns.Ldc index) = option_map (λ number. Number number) (integer_at pool index)
pushed_by pool insns.Null = Some Null
pushed_by pool _ = None

-- the types of fields that take what is pushed
abbrev pub takes : Pushed → Kind → Bool
takes (Number value) kind = is_whole_kind kind
takes Null kind = is_reference_kind kind

-- the field is static, is called so, and takes what is pushed
abbrev pub is_target : Slots → Pushed → MemberName → Member → Bool
is_target pool pushed named field =
    is_static field.flags && (is_called named.name named.descriptor (in_file pool field) && has_kind (takes pushed) pool field.descriptor)

-- the entry names a field of this class, which the class declares and which takes what is pushed
abbrev pub names_target : ClassFile → Pushed → MemberName → Bool
names_target file pushed named = bytes_eq named.class (own_name file) && list_any (is_target file.pool pushed named) file.fields

-- the instruction writes what is pushed to such a field
abbrev pub sets : ClassFile → Pushed → Insn → Bool
sets file pushed (insns.PutStatic index) = option_map_or (names_target file pushed) (field_name_at file.pool index) false
sets file pushed _ = false

abbrev pub is_plain_return : Insn → Bool
is_plain_return (insns.Return None) = true
is_plain_return _ = false

-- The lowest pc at which no run of pairs and then a return goes on, where there is one. Code that ends before
-- it fails at its end.
abbrev pub fails_after_return : Insns → Option ℕ
fails_after_return [] = None
fails_after_return (x ∷ insns) = Some x.0

-- `held` is what the pair's first instruction pushed, where its second one comes next
unfoldable pub fails_from : ClassFile → ℕ → Option Pushed → Insns → Option ℕ
fails_from file end held [] = Some end
fails_from file end (Some pushed) (x ∷ insns) = if sets file pushed x.1 then fails_from file end None insns else Some x.0
fails_from file end None (x ∷ insns) =
    if is_plain_return x.1 then fails_after_return insns
    else option_map_or (λ pushed. fails_from file end (Some pushed) insns) (pushed_by file.pool x.1) (Some x.0)
