-- What the references of the constant pool name: a class, a member of it and the member's descriptor.
use Rattle.std.specs.Prelude.{ℕ, Bool, false, ◌&&◌, List, Option, Some, None, option_map, option_and_then}
use Rattle.std.specs.Str.{bytes_eq}
use Rattle.class_pool.specs.Pool.{Slots, entry_at, method_of, name_and_type_of, utf8_at, class_name_at}

-- a class's name, a member's name and its descriptor
pub record MemberName : Type 0 where
  pub class : List ℕ
  pub name : List ℕ
  pub descriptor : List ℕ

-- what a name and type at an index says (JVMS 4.4.6)
abbrev pub name_and_type_at : Slots → ℕ → Option (List ℕ × List ℕ)
name_and_type_at pool index =
    option_and_then (λ parts. option_and_then (λ name. option_map (λ descriptor. (name, descriptor)) (utf8_at pool parts.1)) (utf8_at pool parts.0))
    (option_and_then name_and_type_of (entry_at pool index))

-- what a method reference at an index names (JVMS 4.4.2)
abbrev pub method_name_at : Slots → ℕ → Option MemberName
method_name_at pool index =
    option_and_then (λ parts. option_and_then (λ class. option_map (λ member. record { class = class; name = member.0; descriptor = member.1 }) (name_and_type_at pool parts.1)) (class_name_at pool parts.0))
    (option_and_then method_of (entry_at pool index))

-- what is named is this member
abbrev pub is_member : MemberName → Option MemberName → Bool
is_member m None = false
is_member m (Some other) = bytes_eq other.class m.class && (bytes_eq other.name m.name && bytes_eq other.descriptor m.descriptor)
