-- What holds of the lookups in a set that the phases accept: each keeps its rule, and only it does.
use Rattle.std.specs.Prelude.{◌≡◌, ℕ, List, Option, None}
use Rattle.class_pool.specs.declared.types.MemberId.{MemberId}
use Rattle.class_file.specs.declared.record.ClassFile.{ClassFile}
use Rattle.class_tree.specs.Tree.{Gathers}
use Rattle.class_tree.specs.FieldLookup.{find_field, KeepsFieldRule}
use Rattle.class_tree.specs.InterfaceLookup.{find_interface_method, KeepsInterfaceRule}
use Rattle.class_tree.specs.MethodLookup.{first_in_superclasses, KeepsSuperclassRule}

-- the lookup keeps a rule, and any lookup that keeps it answers alike
pub record IsOnly (Keeps : (ℕ → Option MemberId) → Type 0) (lookup : ℕ → Option MemberId) : Type 0 where
  pub keeps : Keeps lookup
  pub only : (other : ℕ → Option MemberId) → Keeps other → (class : ℕ) → other class ≡ lookup class

abbrev pub FieldsAreRuled : Type 0
FieldsAreRuled = (files : List ClassFile) → Gathers files None → (name descriptor : List ℕ) → IsOnly (KeepsFieldRule files name descriptor) (find_field files name descriptor)

abbrev pub InterfaceMethodsAreRuled : Type 0
InterfaceMethodsAreRuled = (files : List ClassFile) → Gathers files None → (name descriptor : List ℕ) → IsOnly (KeepsInterfaceRule files name descriptor) (find_interface_method files name descriptor)

abbrev pub SuperclassesAreRuled : Type 0
SuperclassesAreRuled = (files : List ClassFile) → Gathers files None → (own : ℕ → Option MemberId) → IsOnly (KeepsSuperclassRule files own) (first_in_superclasses files own)
