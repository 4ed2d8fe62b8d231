-- Which field a name and a descriptor are of, from a class on (JVMS 5.4.3.2).
use Rattle.std.specs.Prelude.{◌≡◌, ℕ, List, Option}
use Rattle.std.specs.Option.{option_or}
use Rattle.class_pool.specs.declared.types.MemberId.{MemberId}
use Rattle.class_file.specs.declared.record.ClassFile.{ClassFile}
use Rattle.class_tree.specs.DirectSupers.{class_count, superclasses_of, superinterfaces_of, all_supers_of}
use Rattle.class_tree.specs.Members.{field_in}
use Rattle.class_tree.specs.Upwards.{first_answer, first_upwards}

-- the field of the class itself, or else the first from its direct superinterfaces in their order on, each by
-- this rule, or else that from its superclass on, by this rule
abbrev pub find_field : List ClassFile → List ℕ → List ℕ → ℕ → Option MemberId
find_field files name descriptor class = first_upwards (all_supers_of files) (field_in files name descriptor) (class_count files) class

-- the rule as an equation, which a lookup of these files keeps
abbrev pub KeepsFieldRule : List ClassFile → List ℕ → List ℕ → (ℕ → Option MemberId) → Type 0
KeepsFieldRule files name descriptor lookup = (class : ℕ) →
    lookup class ≡ option_or (field_in files name descriptor class) (option_or (first_answer lookup (superinterfaces_of files class)) (first_answer lookup (superclasses_of files class)))
