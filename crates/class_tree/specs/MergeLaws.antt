-- What holds of merges in a set that the phases accept.
use Rattle.std.specs.Prelude.{◌≡◌, ◌↔◌, ℕ, ◌&&◌, ◌||◌, true, false, nat_eq, List, Some, None}
use Rattle.std.specs.Option.{option_map_or}
use Rattle.class_pool.specs.declared.types.TypeRef.{TypeRef}
use Rattle.class_file.specs.declared.record.ClassFile.{ClassFile}
use Rattle.body_form.specs.declared.types.VType.{VType}
use Rattle.body_form.specs.declared.types.VType.TheVariants as known
use Rattle.class_tree.specs.Subtypes.{IsType, IsSubtype, class_type}
use Rattle.class_tree.specs.Tree.{Gathers}
use Rattle.class_file.specs.Rules.{is_interface}
use Rattle.class_tree.specs.InterfaceLookup.{object}
use Rattle.class_tree.specs.Set.{IsClass, flags_of}
use Rattle.class_tree.specs.DirectSupers.{superclass_of}
use Rattle.class_tree.specs.Merge.{is_class_or_super, common_super, merge}
use Rattle.class_tree.specs.Fits.{fits}

-- the type names a type of the set, if any
abbrev pub IsKnown : List ClassFile → VType → Type 0
IsKnown files (known.Ref type) = IsType files type
IsKnown files a = Unit {0}

-- ---- classes

-- a class is its own, and that of its superclass on are those of the class too
abbrev pub SupersAreRuled : Type 0
SupersAreRuled = (files : List ClassFile) → Gathers files None → (class upper : ℕ)
    → is_class_or_super files class upper ≡ (nat_eq upper class || option_map_or (λ by. is_class_or_super files by upper) (superclass_of files class) false)

-- a class is above both of two, and each other that is is above it
pub record IsLeastAbove (files : List ClassFile) (a b least : ℕ) : Type 0 where
  pub left : is_class_or_super files a least ≡ true
  pub right : is_class_or_super files b least ≡ true
  pub below : (other : ℕ) → is_class_or_super files a other ≡ true → is_class_or_super files b other ≡ true → is_class_or_super files least other ≡ true

abbrev pub CommonIsLeast : Type 0
CommonIsLeast = (files : List ClassFile) → Gathers files None → (a b : ℕ) → IsClass files a → IsClass files b → IsLeastAbove files a b (common_super files a b)

-- ---- types

-- it does not matter which comes first
abbrev pub MergeCommutes : Type 0
MergeCommutes = (files : List ClassFile) → Gathers files None → (a b : VType) → IsKnown files a → IsKnown files b → merge files a b ≡ merge files b a

-- it does not matter which two of three merge first
abbrev pub MergeAssociates : Type 0
MergeAssociates = (files : List ClassFile) → Gathers files None → (a b c : VType) → IsKnown files a → IsKnown files b → IsKnown files c
    → merge files (merge files a b) c ≡ merge files a (merge files b c)

-- equal types stay
abbrev pub EqualTypesStay : Type 0
EqualTypesStay = (files : List ClassFile) → Gathers files None → (a : VType) → IsKnown files a → merge files a a ≡ a

-- the merge fits what both fit, and nothing else
abbrev pub MergeFits : Type 0
MergeFits = (files : List ClassFile) → Gathers files None → (a b : VType) → IsKnown files a → IsKnown files b → (type : TypeRef) → fits files (merge files a b) type ≡ (fits files a type && fits files b type)

-- ---- what fits a class

-- the superclass of an interface is java/lang/Object
abbrev pub InterfacesAreBelowObject : Type 0
InterfacesAreBelowObject = (files : List ClassFile) → Gathers files None → (class : ℕ) → IsClass files class → is_interface (flags_of files class) ≡ true → superclass_of files class ≡ Some object

-- a reference fits a class that is no interface exactly where it is below it
abbrev pub FitsWhereBelow : Type 0
FitsWhereBelow = (files : List ClassFile) → Gathers files None → (type : TypeRef) (class : ℕ) → IsType files type → is_interface (flags_of files class) ≡ false
    → (fits files (known.Ref type) (class_type class) ≡ true) ↔ IsSubtype files type (class_type class)
