-- Which method a name and a descriptor are of, from a class on (JVMS 5.4.3.3).
use Rattle.std.specs.Prelude.{◌≡◌, ℕ, if◌then◌else◌, List, Option, codes}
use Rattle.std.specs.Option.{option_or}
use Rattle.std.specs.Str.{bytes_eq}
use Rattle.class_pool.specs.declared.types.MemberId.{MemberId}
use Rattle.class_file.specs.declared.record.ClassFile.{ClassFile}
use Rattle.class_tree.specs.DirectSupers.{class_count, superclasses_of, superinterfaces_of}
use Rattle.class_tree.specs.Members.{method_in}
use Rattle.class_tree.specs.Upwards.{first_answer, first_upwards}
use Rattle.class_tree.specs.InterfaceLookup.{find_interface_method}

-- the first answer that a class and its superclasses give, from the class upwards
abbrev pub first_in_superclasses : List ClassFile → (ℕ → Option MemberId) → ℕ → Option MemberId
first_in_superclasses files own class = first_upwards (superclasses_of files) own (class_count files) class

-- the first method from the direct superinterfaces of a class in their order on, each by the rule for an
-- interface method
abbrev pub method_of_superinterfaces : List ClassFile → List ℕ → List ℕ → ℕ → Option MemberId
method_of_superinterfaces files name descriptor class = first_answer (find_interface_method files name descriptor) (superinterfaces_of files class)

-- The method of the class or else of the nearest superclass; or else that of the direct superinterfaces,
-- class by class in the same order. A constructor is that of the class itself.
abbrev pub find_method : List ClassFile → List ℕ → List ℕ → ℕ → Option MemberId
find_method files name descriptor class =
    if bytes_eq name (codes "<init>") then method_in files name descriptor class
    else option_or (first_in_superclasses files (method_in files name descriptor) class) (first_in_superclasses files (method_of_superinterfaces files name descriptor) class)

-- the rule of a walk from a class to its superclasses as an equation
abbrev pub KeepsSuperclassRule : List ClassFile → (ℕ → Option MemberId) → (ℕ → Option MemberId) → Type 0
KeepsSuperclassRule files own lookup = (class : ℕ) → lookup class ≡ option_or (own class) (first_answer lookup (superclasses_of files class))
