-- Which types are below which (JVMS 4.10.1.2, by the rules of the profile): the least relation that holds
-- from each type to itself, and goes up step by step.
use Rattle.std.specs.Prelude.{◌≡◌, ℕ, ◌+◌, ◌<◌, ◌≤◌, ◌⊎◌, true, List, map}
use Rattle.class_pool.specs.declared.types.TypeRef.{TypeRef}
use Rattle.class_pool.specs.declared.types.TypeBase.{TypeBase}
use Rattle.class_pool.specs.declared.types.TypeBase.TheVariants.{Class}
use Rattle.class_file.specs.declared.record.ClassFile.{ClassFile}
use Rattle.class_tree.specs.Closure.{Edges, Leads}
use Rattle.class_tree.specs.Set.{own_name, is_directly_below, IsClass}

-- what stands directly above what in the set
abbrev pub directly_below : List ClassFile → Edges
directly_below files = is_directly_below (map own_name files) files

-- one class is another one, or is below it
abbrev pub IsSubclass : List ClassFile → ℕ → ℕ → Type 0
IsSubclass files lower upper = (lower ≡ upper) ⊎ Leads (directly_below files) lower upper

-- ---- types

-- an array of a type, and the type of a class
abbrev pub array_of : TypeRef → TypeRef
array_of type = record { dims = type.dims + 1; base = type.base }

abbrev pub class_type : ℕ → TypeRef
class_type class = record { dims = 0; base = Class class }

-- a class or an array
abbrev pub IsReference : TypeRef → Type 0
IsReference type = (1 ≤ type.dims) ⊎ ((class : ℕ) × (type.base ≡ Class class))

-- One type is below another or the same: a class is below its superclass and its superinterfaces, an array
-- below java/lang/Object, and an array of a reference below that of a reference above its component.
pub data IsSubtype (files : List ClassFile) : TypeRef → TypeRef → Type 0 where
  Same : {type : TypeRef} → IsSubtype files type type
  Over : {lower upper : TypeRef} (by : TypeRef) → IsSubtype files lower by → IsSubtype files by upper → IsSubtype files lower upper
  Super : (lower upper : ℕ) → directly_below files lower upper ≡ true → IsSubtype files (class_type lower) (class_type upper)
  Array : (type : TypeRef) → 1 ≤ type.dims → IsSubtype files type (class_type 0)
  Component : {lower upper : TypeRef} → IsReference lower → IsReference upper → IsSubtype files lower upper → IsSubtype files (array_of lower) (array_of upper)

-- ---- by dimensions and bases

-- a class is below a class, and any other base below itself alone
abbrev pub IsBaseBelow : List ClassFile → TypeBase → TypeBase → Type 0
IsBaseBelow files (Class lower) (Class upper) = IsSubclass files lower upper
IsBaseBelow files lower upper = lower ≡ upper

-- types of as many dimensions are by their bases; one of more dimensions is below arrays of java/lang/Object
-- of fewer, and below java/lang/Object
abbrev pub IsBelow : List ClassFile → TypeRef → TypeRef → Type 0
IsBelow files lower upper = ((lower.dims ≡ upper.dims) × IsBaseBelow files lower.base upper.base) ⊎ ((upper.dims < lower.dims) × (upper.base ≡ Class 0))

-- ---- types of a set

-- a class of the set, or a primitive type
abbrev pub IsBaseType : List ClassFile → TypeBase → Type 0
IsBaseType files (Class class) = IsClass files class
IsBaseType files base = Unit {0}

-- a primitive type stands in arrays alone
abbrev pub HasDimensions : ℕ → TypeBase → Type 0
HasDimensions dims (Class class) = Unit {0}
HasDimensions dims base = 1 ≤ dims

abbrev pub IsType : List ClassFile → TypeRef → Type 0
IsType files type = IsBaseType files type.base × HasDimensions type.dims type.base
