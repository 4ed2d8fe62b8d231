-- The values of static fields before main starts, as a function of the set: a field's constant, where it has one,
-- and then what the initialiser of its class sets, both narrowed as a write to the field narrows.
use Rattle.std.specs.Prelude.{◌≡◌, ◌⊎◌, ℕ, ℤ, pos, suc, ◌%◌, Bool, true, false, if◌then◌else◌, List, [], ◌∷◌, ◌++◌, Option, Some, None, option_map, option_and_then, unwrap_or}
use Rattle.std.specs.Int.{w32, cast_unsigned}
use Rattle.std.specs.Option.{option_or, option_map_or}
use Rattle.cell_num.specs.declared.conversions.Conv.TheVariants.{Byte, Char, Short}
use Rattle.cell_num.specs.Conversions.{converted}
use Rattle.library.specs.Classes.{first_own}
use Rattle.class_pool.specs.declared.types.MemberId.{MemberId}
use Rattle.class_pool.specs.declared.descriptor.Kind.{Kind}
use Rattle.class_pool.specs.declared.descriptor.Kind.TheVariants as kind
use Rattle.class_pool.specs.Pool.{Slots, integer_at, utf8_at}
use Rattle.class_pool.specs.Members.{MemberName}
use Rattle.class_pool.specs.DescriptorReading.{field_of}
use Rattle.class_file.specs.Rules.{is_static}
use Rattle.class_file.specs.declared.record.ClassFile.{ClassFile}
use Rattle.class_file.specs.declared.record.CodeAttr.{CodeAttr}
use Rattle.class_file.specs.declared.record.Member.{Member}
use Rattle.class_code.specs.declared.insn.Insn.{Insn}
use Rattle.class_code.specs.declared.insn.Insn.TheVariants as insns
use Rattle.class_code.specs.Code.{Insns, decoded}
use Rattle.class_tree.specs.Members.{Declaration, in_file, is_called, member_at}
use Rattle.jvm_model.specs.State.{Value, Whole, Null}
use Rattle.jvm_model.specs.CodeInsns.{insns_in}
use Rattle.jvm_model.specs.Resolution.{field_name_at}
use Rattle.jvm_model.specs.Initialisers.{Pushed, Number, is_whole_kind, pushed_by, is_plain_return}
use Rattle.jvm_model.specs.Linking.{is_initialiser}

-- ---- narrowing

abbrev pub lowest_bit : ℤ → ℤ
lowest_bit number = pos (cast_unsigned w32 number % 2)

-- what a write to a field or an element of a type keeps of a number: as i2b, i2c and i2s do, of a boolean the lowest bit
abbrev pub narrowed : Kind → ℤ → ℤ
narrowed kind.Byte number = converted Byte number
narrowed kind.Char number = converted Char number
narrowed kind.Short number = converted Short number
narrowed kind.Boolean number = lowest_bit number
narrowed _ number = number

-- ---- what an initialiser sets

-- what is pushed is written to the field that the instruction names
abbrev pub written_by : Slots → Pushed → Insn → List (MemberName × Pushed)
written_by pool pushed (insns.PutStatic index) = option_map_or (λ named. (named, pushed) ∷ []) (field_name_at pool index) []
written_by pool pushed _ = []

-- the writes of pairs up to the return, in order; `held` is what the pair's first instruction pushed, where its second
-- one comes next
unfoldable pub writes_from : Slots → Option Pushed → Insns → List (MemberName × Pushed)
writes_from pool held [] = []
writes_from pool (Some pushed) (x ∷ insns) = written_by pool pushed x.1 ++ writes_from pool None insns
writes_from pool None (x ∷ insns) = if is_plain_return x.1 then [] else writes_from pool (pushed_by pool x.1) insns

abbrev pub writes_in : Slots → Option CodeAttr → List (MemberName × Pushed)
writes_in pool code = option_map_or (writes_from pool None) (option_and_then (λ c. insns_in (decoded c.code)) code) []

-- the writes of the initialisers among these methods; a class has at most one
unfoldable pub writes_of : Slots → List Member → List (MemberName × Pushed)
writes_of pool [] = []
writes_of pool (m ∷ methods) = (if is_initialiser pool m then writes_in pool m.code else []) ++ writes_of pool methods

-- the last of these writes that is to the field
unfoldable pub last_write : Declaration → List (MemberName × Pushed) → Option Pushed
last_write field [] = None
last_write field (write ∷ writes) =
    option_or (last_write field writes) (if is_called write.0.name write.0.descriptor field then Some write.1 else None)

-- ---- the values

-- a number, as what an initialiser pushes
abbrev pub constant_of : Slots → Member → Option Pushed
constant_of pool field = option_map (λ number. Number number) (option_and_then (integer_at pool) field.constant)

-- a whole number is kept as a write to a field of this type keeps it, and is 0 where none is set; a reference is null
abbrev pub kept : Kind → Option Pushed → Value
kept kind (Some (Number number)) = if is_whole_kind kind then Whole (narrowed kind number) else Null
kept kind _ = if is_whole_kind kind then Whole (pos 0) else Null

-- what a field is set to last: by the initialiser, or else by its constant
abbrev pub set_last : ClassFile → Member → Option Pushed
set_last file field = option_or (last_write (in_file file.pool field) (writes_of file.pool file.methods)) (constant_of file.pool field)

-- the type of a field; each class file's fields have one
abbrev pub kind_of : Slots → Member → Kind
kind_of pool field = unwrap_or (option_and_then field_of (utf8_at pool field.descriptor)) kind.Int

abbrev pub initial_value : ClassFile → Member → Value
initial_value file field = kept (kind_of file.pool field) (set_last file field)

-- ---- the statics of a set

-- a field that is static, with its value
abbrev pub static_at : ℕ → ClassFile → ℕ → Member → List (MemberId × Value)
static_at class file position field = if is_static field.flags then (member_at class position, initial_value file field) ∷ [] else []

-- the static fields among these, which count from this position
unfoldable pub statics_in : ℕ → ClassFile → ℕ → List Member → List (MemberId × Value)
statics_in class file position [] = []
statics_in class file position (field ∷ fields) = static_at class file position field ++ statics_in class file (suc position) fields

-- those of classes, which count from this number
unfoldable pub statics_from : ℕ → List ClassFile → List (MemberId × Value)
statics_from class [] = []
statics_from class (file ∷ files) = statics_in class file 0 file.fields ++ statics_from (suc class) files

-- the static fields of a set with their values, over classes in order and in each in the order of its fields
abbrev pub initial_statics : List ClassFile → List (MemberId × Value)
initial_statics files = statics_from first_own files

-- ---- laws

-- a static of a whole number holds 0, or what a write of some number keeps, and one of a reference is null
abbrev pub IsKeptAs : Bool → Kind → Value → Type 0
IsKeptAs true kind value = (value ≡ Whole (pos 0)) ⊎ ((number : ℤ) × (value ≡ Whole (narrowed kind number)))
IsKeptAs false kind value = value ≡ Null

abbrev pub IsKept : Kind → Value → Type 0
IsKept kind value = IsKeptAs (is_whole_kind kind) kind value

abbrev pub StaticsAreKept : Type 0
StaticsAreKept = (file : ClassFile) (field : Member) → IsKept (kind_of file.pool field) (initial_value file field)

-- the last write to a field counts, and writes to other fields do not
abbrev pub LastWriteCounts : Type 0
LastWriteCounts = (field : Declaration) (writes : List (MemberName × Pushed)) (named : MemberName) (pushed : Pushed)
    → last_write field (writes ++ (named, pushed) ∷ []) ≡ (if is_called named.name named.descriptor field then Some pushed else last_write field writes)
