-- The field that an instruction names, resolved from the class in which it stands (JVMS 5.4.3.2, 6.5).
use Rattle.std.specs.Prelude.{ℕ, Bool, true, ◌&&◌, not, nat_eq, List, Ok}
use Rattle.std.specs.Option.{ok_or}
use Rattle.class_pool.specs.declared.types.MemberId.{MemberId}
use Rattle.class_pool.specs.Pool.{Slots}
use Rattle.class_pool.specs.Members.{MemberName}
use Rattle.class_pool.specs.DescriptorReading.{field_of}
use Rattle.class_file.specs.Rules.{is_static, is_final}
use Rattle.class_file.specs.declared.record.ClassFile.{ClassFile}
use Rattle.class_tree.specs.Members.{member_flags}
use Rattle.class_tree.specs.FieldLookup.{find_field}
use Rattle.class_tree.specs.Access.{may_use_class}
use Rattle.class_tree.specs.AccessTests.{is_allowed}
use Rattle.body_form.specs.declared.op.FieldUse.{FieldUse}
use Rattle.jvm_model.specs.declared.refusal.Cause.TheVariants.{Unresolved, WrongKind, Denied}
use Rattle.jvm_model.specs.Resolution.{Resolved, and_then, where_passes, is_as_asked, class_named, field_name_at}

-- what an instruction does with a field: it writes or only reads it, and asks for a static one or not
pub record FieldAsked : Type 0 where
  pub writes : Bool
  pub static : Bool

-- the class may use the field so: it may use the class that is named and the field, and it writes no final
-- field of another class
abbrev pub may_use_field : List ClassFile → ℕ → FieldAsked → ℕ → MemberId → Bool
may_use_field files from asked class id =
    may_use_class files from class && (is_allowed files from true id && not (asked.writes && (is_final (member_flags files true id) && not (nat_eq from id.class))))

-- the field of this name, descriptor and class, with its type
abbrev pub field_found : List ClassFile → MemberName → ℕ → Resolved FieldUse
field_found files member class =
    and_then (λ kind. and_then (λ id. Ok (record { field = id; kind = kind; class = class })) (ok_or (find_field files member.name member.descriptor class) Unresolved))
    (ok_or (field_of member.descriptor) Unresolved)

-- it is static where a static one is asked for, and the class may use it
abbrev pub field_tested : List ClassFile → ℕ → FieldAsked → FieldUse → Resolved FieldUse
field_tested files from asked found =
    and_then (λ checked. where_passes (may_use_field files from asked checked.class checked.field) Denied checked)
    (where_passes (is_as_asked asked.static (is_static (member_flags files true found.field))) WrongKind found)

-- the field that the entry at an index names
abbrev pub field_used : List ClassFile → ℕ → Slots → FieldAsked → ℕ → Resolved FieldUse
field_used files from pool asked index =
    and_then (λ member. and_then (λ class. and_then (field_tested files from asked) (field_found files member class)) (class_named files member.class))
    (ok_or (field_name_at pool index) WrongKind)
