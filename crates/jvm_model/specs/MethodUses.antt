-- The method that a call names, resolved from the class in which the call stands (JVMS 5.4.3.3, 5.4.3.4, 6.5).
use Rattle.std.specs.Prelude.{ℕ, ◌+◌, Bool, true, false, ◌&&◌, ◌||◌, not, nat_eq, nat_lt, if◌then◌else◌, List, length, Option, Some, is_some, slice_get, option_and_then, codes, Ok}
use Rattle.std.specs.Option.{ok_or, option_map_or}
use Rattle.std.specs.Str.{bytes_eq}
use Rattle.library.specs.Classes.{first_own}
use Rattle.class_pool.specs.declared.types.MemberId.{MemberId}
use Rattle.class_pool.specs.declared.descriptor.Descriptor.{Descriptor}
use Rattle.class_pool.specs.Pool.{Slots}
use Rattle.class_pool.specs.Members.{MemberName}
use Rattle.class_pool.specs.DescriptorReading.{method_of}
use Rattle.class_file.specs.Rules.{is_static, is_private, is_interface}
use Rattle.class_file.specs.declared.record.ClassFile.{ClassFile}
use Rattle.class_tree.specs.Set.{file_of, flags_of}
use Rattle.class_tree.specs.Members.{method_flags}
use Rattle.class_tree.specs.DirectSupers.{superclass_of}
use Rattle.class_tree.specs.MethodLookup.{find_method}
use Rattle.class_tree.specs.InterfaceLookup.{find_interface_method}
use Rattle.class_tree.specs.Selection.{select}
use Rattle.class_tree.specs.Access.{may_use_class}
use Rattle.class_tree.specs.AccessTests.{is_subclass, is_allowed}
use Rattle.body_form.specs.declared.op.MethodUse.{MethodUse}
use Rattle.jvm_model.specs.declared.refusal.Cause.TheVariants.{Unresolved, WrongKind, Denied}
use Rattle.jvm_model.specs.Resolution.{Resolved, and_then, where_passes, is_as_asked, class_named, MethodName, method_name_at}

-- ---- what is there

-- a call of the class or interface that it names, and the method that its lookup gives
pub record Call : Type 0 where
  pub named : MethodName
  pub class : ℕ
  pub found : MemberId
  pub type : Descriptor

abbrev pub constructor_name : List ℕ
constructor_name = codes "<init>"

abbrev pub initialiser_name : List ℕ
initialiser_name = codes "<clinit>"

-- the lookup from an interface is that of interface methods, and from any other class that of methods
abbrev pub method_from : List ClassFile → MemberName → ℕ → Option MemberId
method_from files member class =
    if is_interface (flags_of files class) then find_interface_method files member.name member.descriptor class
    else find_method files member.name member.descriptor class

-- the method of this name, descriptor and class, with its type
abbrev pub call_found : List ClassFile → MethodName → ℕ → Resolved Call
call_found files named class =
    and_then (λ type. and_then (λ found. Ok (record { named = named; class = class; found = found; type = type })) (ok_or (method_from files named.member class) Unresolved))
    (ok_or (method_of named.member.descriptor) Unresolved)

-- ---- of the right kind

-- the method has code, or is a native of the library
abbrev pub has_code : List ClassFile → MemberId → Bool
has_code files id = nat_lt id.class first_own || option_map_or (λ file. option_map_or (λ m. is_some m.code) (slice_get file.methods id.member) false) (file_of files id.class) false

-- an interface is named by the entry of an interface's method, and a class by that of a method
abbrev pub fits_tag : List ClassFile → Call → Bool
fits_tag files call = is_as_asked (is_interface (flags_of files call.class)) call.named.of_interface

abbrev pub is_constructor : Call → Bool
is_constructor call = bytes_eq call.named.member.name constructor_name

abbrev pub is_initialiser : Call → Bool
is_initialiser call = bytes_eq call.named.member.name initialiser_name

-- The call fits its tag, names no initialiser of a class, and the method is static where a static one is asked
-- for.
abbrev pub fits_call : List ClassFile → Bool → Call → Bool
fits_call files static call = fits_tag files call && (not (is_initialiser call) && is_as_asked static (is_static (method_flags files call.found)))

-- The method that invokespecial calls: a constructor, a private method and one of the current class itself;
-- for one of a superclass that which the direct superclass selects.
abbrev pub special_target : List ClassFile → ℕ → Call → Option MemberId
special_target files from call =
    if is_constructor call || (is_private (method_flags files call.found) || nat_eq call.found.class from) then Some call.found
    else option_and_then (select files call.named.member.name call.named.member.descriptor) (superclass_of files from)

-- it is there and has code
abbrev pub has_target : List ClassFile → Option MemberId → Bool
has_target files target = option_map_or (has_code files) target false

-- an invokespecial names a constructor, or a method of the current class or of one above it; what it names
-- and what it calls have code
abbrev pub fits_special : List ClassFile → ℕ → Call → Bool
fits_special files from call =
    (is_constructor call || is_subclass files from call.class) && (has_code files call.found && has_target files (special_target files from call))

-- ---- the calls

-- the use of a method that a call names, which calls this one
abbrev pub use_of : List ClassFile → Call → MemberId → MethodUse
use_of files call target =
    record {
      method = target;
      name = call.named.member.name;
      descriptor = call.type;
      class = call.class;
      private = is_private (method_flags files call.found);
    }

-- the class may use the class that is named, and the method
abbrev pub may_use_method : List ClassFile → ℕ → Call → Bool
may_use_method files from call = may_use_class files from call.class && is_allowed files from false call.found

-- the call that the entry at an index makes, of which tests are asked: of its tag, and of what is found
abbrev pub call_used : List ClassFile → ℕ → Slots → (MethodName → Bool) → (Call → Bool) → ℕ → Resolved Call
call_used files from pool tag test index =
    and_then (λ call. where_passes (may_use_method files from call) Denied call)
    (and_then (λ call. where_passes (test call) WrongKind call)
    (and_then (λ named. and_then (call_found files named) (class_named files named.member.class))
    (and_then (λ named. where_passes (tag named) WrongKind named) (ok_or (method_name_at pool index) WrongKind))))

-- the entry is that of a class's method, that of an interface's method, or any of the two
abbrev pub names_class_method : MethodName → Bool
names_class_method named = not named.of_interface

abbrev pub names_interface_method : MethodName → Bool
names_interface_method named = named.of_interface

abbrev pub names_method : MethodName → Bool
names_method named = true

-- invokevirtual
abbrev pub virtual_call : List ClassFile → ℕ → Slots → ℕ → Resolved MethodUse
virtual_call files from pool index =
    and_then (λ call. Ok (use_of files call call.found))
    (call_used files from pool names_class_method (λ call. fits_call files false call && not (is_constructor call)) index)

-- invokestatic
abbrev pub static_call : List ClassFile → ℕ → Slots → ℕ → Resolved MethodUse
static_call files from pool index =
    and_then (λ call. Ok (use_of files call call.found)) (call_used files from pool names_method (λ call. fits_call files true call && not (is_constructor call)) index)

-- the argument places of an instance method, the receiver's with them
abbrev pub argument_places : Descriptor → ℕ
argument_places type = 1 + length type.params

-- invokeinterface, with its count of argument places
abbrev pub interface_call : List ClassFile → ℕ → Slots → ℕ → ℕ → Resolved MethodUse
interface_call files from pool count index =
    and_then (λ call. Ok (use_of files call call.found))
    (call_used files from pool names_interface_method (λ call. fits_call files false call && (not (is_constructor call) && nat_eq count (argument_places call.type))) index)

-- what invokespecial calls
abbrev pub special_use : List ClassFile → ℕ → Call → Resolved MethodUse
special_use files from call = and_then (λ target. Ok (use_of files call target)) (ok_or (special_target files from call) WrongKind)

-- invokespecial
abbrev pub special_call : List ClassFile → ℕ → Slots → ℕ → Resolved MethodUse
special_call files from pool index =
    and_then (special_use files from) (call_used files from pool names_method (λ call. fits_call files false call && fits_special files from call) index)
