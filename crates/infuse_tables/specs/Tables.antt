-- What is asked of the numbers of a set before the tables of its image are made.
use Rattle.std.specs.Prelude.{◌≡◌, ℕ, ◌<◌, ◌≤◌, length, List, Some, slice_get, IfSome}
use Rattle.class_pool.specs.DescriptorReading.{method_of}
use Rattle.class_file.specs.declared.record.ClassFile.{ClassFile}
use Rattle.class_tree.specs.Set.{IsClass}
use Rattle.class_tree.specs.Subtypes.{class_type}
use Rattle.jvm_model.specs.declared.numbers.Selector.{Selector}
use Rattle.jvm_model.specs.ImageNumbering.{Numbering, layout_of}

-- a type that is a class of the set has the layout at its position
abbrev pub HasLayout : List ClassFile → Numbering → Type 0
HasLayout files numbering = (position class : ℕ) → slice_get numbering.types position ≡ Some (class_type class) → slice_get numbering.layouts position ≡ Some (layout_of files class)

-- the classes among the types are classes of the set
abbrev pub AreClasses : List ClassFile → Numbering → Type 0
AreClasses files numbering = (position class : ℕ) → slice_get numbering.types position ≡ Some (class_type class) → IsClass files class

-- the ids of types and methods and the numbers of selectors fit two bytes, and each class has its layout
pub record FitTables (files : List ClassFile) (numbering : Numbering) : Type 0 where
  pub types : length numbering.types < 65504
  pub methods : length numbering.methods < 65504
  pub selectors : length numbering.selectors < 65536
  pub classes : AreClasses files numbering
  pub layouts : HasLayout files numbering

-- the method type of a selector has at most 254 parameters, beside the object that it is called on
abbrev pub IsShort : Selector → Type 0
IsShort selector = IfSome (method_of selector.descriptor) (λ type. length type.params ≤ 254)
