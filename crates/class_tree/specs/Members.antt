-- The fields and the methods of a class, by their positions in it.
use Rattle.std.specs.Prelude.{ℕ, ◌<◌, Bool, ◌&&◌, nat_lt, if◌then◌else◌, List, [], length, map, Option, Some, None, option_map, option_and_then, slice_get, unwrap_or, position}
use Rattle.std.specs.Option.{option_map_or}
use Rattle.std.specs.Str.{bytes_eq}
use Rattle.library.specs.Classes.{first_own}
use Rattle.library.specs.declared.natives.Native.{Native}
use Rattle.library.specs.Members.{methods_of as natives_of, name_of as native_name, descriptor_of as native_descriptor, flags_of as native_flags}
use Rattle.class_pool.specs.declared.types.MemberId.{MemberId}
use Rattle.class_pool.specs.Pool.{Slots, utf8_at}
use Rattle.class_file.specs.declared.record.ClassFile.{ClassFile}
use Rattle.class_file.specs.declared.record.Member.{Member}
use Rattle.class_tree.specs.Set.{file_of, IsClass}

-- what a class declares of a field or a method: its name, its descriptor and its flags
pub record Declaration : Type 0 where
  pub name : List ℕ
  pub descriptor : List ℕ
  pub flags : ℕ

-- ---- what a class declares

-- a member of a file, whose name and descriptor are texts of its pool
abbrev pub in_file : Slots → Member → Declaration
in_file pool member = record { name = unwrap_or (utf8_at pool member.name) []; descriptor = unwrap_or (utf8_at pool member.descriptor) []; flags = member.flags }

-- a method of the library
abbrev pub in_library : Native → Declaration
in_library native = record { name = native_name native; descriptor = native_descriptor native; flags = native_flags native }

-- the fields of a class in their order; a class of the library has none
abbrev pub fields_of : List ClassFile → ℕ → List Declaration
fields_of files class = option_map_or (λ file. map (in_file file.pool) file.fields) (file_of files class) []

-- the methods of a class in their order
abbrev pub methods_of : List ClassFile → ℕ → List Declaration
methods_of files class =
    if nat_lt class first_own then map in_library (natives_of class)
    else option_map_or (λ file. map (in_file file.pool) file.methods) (file_of files class) []

-- its fields, or its methods
abbrev pub members_of : List ClassFile → Bool → ℕ → List Declaration
members_of files field class = if field then fields_of files class else methods_of files class

-- ---- a member by its position

-- the flags of a member, and 0 where there is none
abbrev pub flags_at : List Declaration → ℕ → ℕ
flags_at members position = option_map_or (λ member. member.flags) (slice_get members position) 0

-- the flags of a method, and of a field or a method
abbrev pub method_flags : List ClassFile → MemberId → ℕ
method_flags files id = flags_at (methods_of files id.class) id.member

abbrev pub member_flags : List ClassFile → Bool → MemberId → ℕ
member_flags files field id = flags_at (members_of files field id.class) id.member

-- the member is one of a class of the set
pub record IsMember (files : List ClassFile) (field : Bool) (id : MemberId) : Type 0 where
  pub class : IsClass files id.class
  pub member : id.member < length (members_of files field id.class)

-- ---- a member by its name and descriptor

-- it is declared with this name and this descriptor
abbrev pub is_called : List ℕ → List ℕ → Declaration → Bool
is_called name descriptor member = bytes_eq name member.name && bytes_eq descriptor member.descriptor

-- the member of a class at a position
abbrev pub member_at : ℕ → ℕ → MemberId
member_at class position = record { class = class; member = position }

-- the field that a class declares with this name and this descriptor; a class file has at most one (JVMS 4.5)
abbrev pub field_in : List ClassFile → List ℕ → List ℕ → ℕ → Option MemberId
field_in files name descriptor class = option_map (member_at class) (position (is_called name descriptor) (fields_of files class))

-- the method that a class declares with this name and this descriptor; a class file has at most one (JVMS 4.6)
abbrev pub method_in : List ClassFile → List ℕ → List ℕ → ℕ → Option MemberId
method_in files name descriptor class = option_map (member_at class) (position (is_called name descriptor) (methods_of files class))

-- that method, where its flags pass a test
abbrev pub method_passing : (ℕ → Bool) → List ClassFile → List ℕ → List ℕ → ℕ → Option MemberId
method_passing test files name descriptor class =
    option_and_then (λ id. if test (method_flags files id) then Some id else None) (method_in files name descriptor class)
