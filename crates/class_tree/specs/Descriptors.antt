-- What the declared descriptors of fields and methods name (JVMS 4.3).
use Rattle.std.specs.Prelude.{ℕ, Bool, true, false, if◌then◌else◌, List, [], ◌∷◌, ◌++◌, Option, Some, None, is_none, option_map, option_and_then, slice_get}
use Rattle.std.specs.Option.{option_or, option_to_list}
use Rattle.std.specs.List.{list_any}
use Rattle.class_pool.specs.declared.descriptor.Base.{Base}
use Rattle.class_pool.specs.declared.descriptor.Base.TheVariants.{Long, Float, Double, Class}
use Rattle.class_pool.specs.declared.descriptor.Kind.{Kind}
use Rattle.class_pool.specs.declared.descriptor.Descriptor.{Descriptor}
use Rattle.class_pool.specs.Pool.{Slots, utf8_at}
use Rattle.class_pool.specs.Descriptors.{base_of}
use Rattle.class_pool.specs.DescriptorReading.{field_of, method_of}
use Rattle.class_file.specs.declared.record.ClassFile.{ClassFile}
use Rattle.class_file.specs.declared.record.Member.{Member}
use Rattle.class_tree.specs.declared.refusal.TreeRefusal.{TreeRefusal}
use Rattle.class_tree.specs.declared.refusal.TreeRefusal.TheVariants.{MissingClass, WideType}
use Rattle.class_tree.specs.declared.descriptors.Fault.{Fault}
use Rattle.class_tree.specs.declared.descriptors.Fault.TheVariants.{Missing, Wide}
use Rattle.class_tree.specs.Scan.{first_refusal, saturated}
use Rattle.class_tree.specs.Set.{number_among}

-- ---- types

-- the type is a class, or an array of one, that the set lacks
abbrev pub lacks_base : List (List ℕ) → Base → Bool
lacks_base names (Class name) = is_none (number_among names name)
lacks_base names _ = false

-- the type is long, float or double, or an array of one
abbrev pub is_wide_base : Base → Bool
is_wide_base Long = true
is_wide_base Float = true
is_wide_base Double = true
is_wide_base _ = false

-- what is wrong with these types: a class is absent, or else a type is wide
abbrev pub kinds_fault : List (List ℕ) → List Kind → Option Fault
kinds_fault names kinds =
    if list_any (λ kind. lacks_base names (base_of kind)) kinds then Some Missing
    else (if list_any (λ kind. is_wide_base (base_of kind)) kinds then Some Wide else None)

-- ---- descriptors

-- the types of a method's descriptor
abbrev pub kinds_of : Descriptor → List Kind
kinds_of type = type.params ++ option_to_list type.result

-- what is wrong with a text as a field's descriptor, and as a method's
abbrev pub field_text_fault : List (List ℕ) → List ℕ → Option Fault
field_text_fault names text = option_and_then (λ kind. kinds_fault names (kind ∷ [])) (field_of text)

abbrev pub method_text_fault : List (List ℕ) → List ℕ → Option Fault
method_text_fault names text = option_and_then (λ type. kinds_fault names (kinds_of type)) (method_of text)

-- what is wrong with the text at an index
abbrev pub field_fault : List (List ℕ) → Slots → ℕ → Option Fault
field_fault names pool index = option_and_then (field_text_fault names) (utf8_at pool index)

abbrev pub method_fault : List (List ℕ) → Slots → ℕ → Option Fault
method_fault names pool index = option_and_then (method_text_fault names) (utf8_at pool index)

-- ---- members

-- what a list says is wrong with the text at an index
abbrev pub fault_at : List (Option Fault) → ℕ → Option Fault
fault_at faults index = option_and_then (λ fault. fault) (slice_get faults index)

-- the refusal of a member: the value is 1 for a field and 2 for a method
abbrev pub fault_refusal : ℕ → ℕ → ℕ → Fault → TreeRefusal
fault_refusal file value member Missing = MissingClass file member value
fault_refusal file value member Wide = WideType file member value

-- what a member is refused for, by what is wrong with its descriptor
abbrev pub member_refusal : (ℕ → Option Fault) → ℕ → ℕ → ℕ → Member → Option TreeRefusal
member_refusal fault file value member m = option_map (fault_refusal file value (saturated member)) (fault m.descriptor)

-- what the first field, or else the first method, of a file is refused for
abbrev pub file_refusal : List (List ℕ) → ℕ → ClassFile → Option TreeRefusal
file_refusal names position file =
    option_or (first_refusal (member_refusal (field_fault names file.pool) position 1) 0 file.fields)
    (first_refusal (member_refusal (method_fault names file.pool) position 2) 0 file.methods)

-- what the first such file is refused for
abbrev pub declared_refusal : List (List ℕ) → List ClassFile → Option TreeRefusal
declared_refusal names files = first_refusal (file_refusal names) 0 files
