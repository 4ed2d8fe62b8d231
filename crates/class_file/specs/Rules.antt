-- The shape rules of a class file as tests (JVMS 4.1, 4.5 to 4.7): what its flags, names and numbers may be.
use Rattle.std.specs.Prelude.{ℕ, ◌+◌, ◌/◌, ◌%◌, Bool, false, ◌&&◌, ◌||◌, not, ◌==◌, nat_eq, nat_lt, nat_le, if◌then◌else◌, List, Option, Some, None, is_none, sum_by, codes}
use Rattle.std.specs.List.{starts_with}
use Rattle.std.specs.Str.{bytes_eq}
use Rattle.class_pool.specs.declared.descriptor.Kind.{Kind}
use Rattle.class_pool.specs.declared.descriptor.Kind.TheVariants.{Long, Double}
use Rattle.class_pool.specs.declared.descriptor.Descriptor.{Descriptor}
use Rattle.class_pool.specs.Pool.{Slots, utf8_at, class_name_at, is_class_at}
use Rattle.class_file.specs.declared.head.Head.{Head}
use Rattle.class_file.specs.declared.record.HandlerRow.{HandlerRow}

-- ---- flags (JVMS tables 4.1-A, 4.5-A, 4.6-A)

abbrev pub has_flag : ℕ → ℕ → Bool
has_flag flag flags = flags / flag % 2 == 1

abbrev pub acc_public : ℕ
acc_public = 1

abbrev pub acc_private : ℕ
acc_private = 2

abbrev pub acc_protected : ℕ
acc_protected = 4

abbrev pub acc_static : ℕ
acc_static = 8

abbrev pub acc_final : ℕ
acc_final = 16

abbrev pub acc_native : ℕ
acc_native = 256

abbrev pub acc_interface : ℕ
acc_interface = 512

abbrev pub acc_abstract : ℕ
acc_abstract = 1024

abbrev pub is_public : ℕ → Bool
is_public flags = has_flag acc_public flags

abbrev pub is_private : ℕ → Bool
is_private flags = has_flag acc_private flags

abbrev pub is_protected : ℕ → Bool
is_protected flags = has_flag acc_protected flags

abbrev pub is_static : ℕ → Bool
is_static flags = has_flag acc_static flags

abbrev pub is_final : ℕ → Bool
is_final flags = has_flag acc_final flags

abbrev pub is_native : ℕ → Bool
is_native flags = has_flag acc_native flags

abbrev pub is_interface : ℕ → Bool
is_interface flags = has_flag acc_interface flags

abbrev pub is_abstract : ℕ → Bool
is_abstract flags = has_flag acc_abstract flags

-- ---- the class (JVMS 4.1)

-- the text is this one
abbrev pub is_named : List ℕ → Option (List ℕ) → Bool
is_named name None = false
is_named name (Some other) = bytes_eq other name

-- the name does not begin with a bracket
abbrev pub is_array_name : List ℕ → Bool
is_array_name name = starts_with nat_eq name (codes "[")

-- the name of a class that is no array
abbrev pub is_plain_name : Option (List ℕ) → Bool
is_plain_name None = false
is_plain_name (Some name) = not (is_array_name name)

-- the entry is a class and no array: this_class, super_class and the interfaces
abbrev pub names_class : Slots → ℕ → Bool
names_class pool index = is_plain_name (class_name_at pool index)

-- an interface is abstract, and a final class is not
abbrev pub are_class_flags : ℕ → Bool
are_class_flags flags = (is_abstract flags || not (is_interface flags)) && not (is_final flags && is_abstract flags)

-- ---- fields and methods (JVMS 4.5, 4.6)

-- at most one of public, private and protected
abbrev pub has_one_access : ℕ → Bool
has_one_access flags = not (is_public flags && is_private flags) && (not (is_public flags && is_protected flags) && not (is_private flags && is_protected flags))

-- a field of an interface is public, static and final
abbrev pub fits_interface_field : ℕ → ℕ → Bool
fits_interface_field class_flags flags = not (is_interface class_flags) || (is_public flags && (is_static flags && is_final flags))

-- two texts of the pool are the same
abbrev pub is_same_text : Option (List ℕ) → Option (List ℕ) → Bool
is_same_text None second = false
is_same_text (Some first) second = is_named first second

-- two members have the same name and the same descriptor
abbrev pub is_same_member : Slots → Head → Head → Bool
is_same_member pool first second =
    is_same_text (utf8_at pool first.name) (utf8_at pool second.name) && is_same_text (utf8_at pool first.descriptor) (utf8_at pool second.descriptor)

abbrev pub is_constructor : Slots → Head → Bool
is_constructor pool head = is_named (codes "<init>") (utf8_at pool head.name)

abbrev pub is_initialiser : Slots → Head → Bool
is_initialiser pool head = is_named (codes "<clinit>") (utf8_at pool head.name)

-- a method of an interface is public and abstract, unless it is its initialiser
abbrev pub fits_interface_method : ℕ → Slots → Head → Bool
fits_interface_method class_flags pool head = not (is_interface class_flags) || (is_initialiser pool head || (is_public head.flags && is_abstract head.flags))

-- an initialiser counts as static
abbrev pub is_static_method : Slots → Head → Bool
is_static_method pool head = is_static head.flags || is_initialiser pool head

-- an abstract method is not private, static or final
abbrev pub fits_abstract : Slots → Head → Bool
fits_abstract pool head = not (is_abstract head.flags) || not (is_private head.flags || (is_static_method pool head || is_final head.flags))

-- the name begins as only those of constructors and initialisers do
abbrev pub is_special_name : Option (List ℕ) → Bool
is_special_name None = false
is_special_name (Some name) = starts_with nat_eq name (codes "<")

-- a name that begins so is one of the two (JVMS 2.9)
abbrev pub fits_special_name : Slots → Head → Bool
fits_special_name pool head = not (is_special_name (utf8_at pool head.name)) || (is_constructor pool head || is_initialiser pool head)

-- a constructor is not static or abstract, and has no result
abbrev pub fits_constructor : Slots → Head → Descriptor → Bool
fits_constructor pool head type = not (is_constructor pool head) || (not (is_static head.flags) && (not (is_abstract head.flags) && is_none type.result))

-- an initialiser has no parameters and no result
abbrev pub fits_initialiser : Slots → Head → Bool
fits_initialiser pool head = not (is_initialiser pool head) || is_named (codes "()V") (utf8_at pool head.descriptor)

-- a long or a double takes two argument places (JVMS 4.3.3)
abbrev pub slots_of : Kind → ℕ
slots_of Long = 2
slots_of Double = 2
slots_of _ = 1

-- the argument places of a method, `this` counted
abbrev pub argument_slots : Bool → Descriptor → ℕ
argument_slots static type = (if static then 0 else 1) + sum_by slots_of type.params

abbrev pub fits_slots : Slots → Head → Descriptor → Bool
fits_slots pool head type = nat_le (argument_slots (is_static_method pool head) type) 255

-- ---- code (JVMS 4.7.3)

-- code has 1 to 65,535 bytes
abbrev pub is_code_size : ℕ → Bool
is_code_size size = nat_lt 0 size && nat_lt size 65536

-- 0, or the index of a class
abbrev pub is_catch_type : Slots → ℕ → Bool
is_catch_type pool index = index == 0 || is_class_at pool index

-- a row of the exception table covers some of the code, and leads into it
abbrev pub is_handler : Slots → ℕ → HandlerRow → Bool
is_handler pool size row = (nat_lt row.start row.end && nat_le row.end size) && (nat_lt row.target size && is_catch_type pool row.catch_type)
