-- Descriptors (JVMS 4.3): the types that they name, and their one text.
use Rattle.std.specs.Prelude.{◌≡◌, ◌≢◌, ℕ, ◌≤◌, Bool, IsTrue, ◌&&◌, not, ◌==◌, List, [], ◌∷◌, ◌++◌, replicate, Option, Some, None}
use Rattle.std.specs.List.{flat_map, AllByRecursion}
use Rattle.class_pool.specs.declared.descriptor.Base.{Base}
use Rattle.class_pool.specs.declared.descriptor.Base.TheVariants.{Byte as BaseByte, Char as BaseChar, Double as BaseDouble, Float as BaseFloat, Int as BaseInt, Long as BaseLong, Short as BaseShort, Boolean as BaseBoolean, Class as BaseClass}
use Rattle.class_pool.specs.declared.descriptor.Kind.{Kind}
use Rattle.class_pool.specs.declared.descriptor.Kind.TheVariants.{Byte, Char, Double, Float, Int, Long, Short, Boolean, Class, Array}
use Rattle.class_pool.specs.declared.descriptor.Descriptor.{Descriptor}

-- ---- class names (JVMS 4.2.1)

-- any byte but `.`, `/`, `;` and `[`
abbrev pub is_part_byte : ℕ → Bool
is_part_byte byte = not (byte == 46) && (not (byte == 47) && (not (byte == 59) && not (byte == 91)))

abbrev pub IsPart : List ℕ → Type 0
IsPart part = (part ≢ []) × AllByRecursion (λ byte. IsTrue (is_part_byte byte)) part

-- the parts of a name after the first, each with its `/`
abbrev pub other_parts : List (List ℕ) → List ℕ
other_parts parts = flat_map (λ part. 47 ∷ part) parts

-- parts with `/` between them
pub record IsClassName (name : List ℕ) : Type 0 where
  pub first : List ℕ
  pub others : List (List ℕ)
  pub first_is : IsPart first
  pub others_are : AllByRecursion IsPart others
  pub encoded : name ≡ first ++ other_parts others

-- ---- types

-- what a type is an array of, or the type itself
abbrev pub base_of : Kind → Base
base_of Byte = BaseByte
base_of Char = BaseChar
base_of Double = BaseDouble
base_of Float = BaseFloat
base_of Int = BaseInt
base_of Long = BaseLong
base_of Short = BaseShort
base_of Boolean = BaseBoolean
base_of (Class name) = BaseClass name
base_of (Array dims of) = of

-- how many dimensions a type has
abbrev pub dims_of : Kind → ℕ
dims_of (Array dims of) = dims
dims_of _ = 0

-- a letter, or `L`, a name and `;` (JVMS table 4.3-A)
abbrev pub base_text : Base → List ℕ
base_text BaseByte = 66 ∷ []
base_text BaseChar = 67 ∷ []
base_text BaseDouble = 68 ∷ []
base_text BaseFloat = 70 ∷ []
base_text BaseInt = 73 ∷ []
base_text BaseLong = 74 ∷ []
base_text BaseShort = 83 ∷ []
base_text BaseBoolean = 90 ∷ []
base_text (BaseClass name) = 76 ∷ (name ++ 59 ∷ [])

-- a `[` for each dimension, and the base
abbrev pub kind_text : Kind → List ℕ
kind_text kind = replicate (dims_of kind) 91 ++ base_text (base_of kind)

abbrev pub IsBase : Base → Type 0
IsBase (BaseClass name) = IsClassName name
IsBase _ = Unit {0}

-- an array has 1 to 255 dimensions
abbrev pub HasDims : Kind → Type 0
HasDims (Array dims of) = (1 ≤ dims) × (dims ≤ 255)
HasDims _ = Unit {0}

-- the type is one of JVMS 4.3.2
abbrev pub IsKind : Kind → Type 0
IsKind kind = HasDims kind × IsBase (base_of kind)

-- the text is the descriptor of a field of this type
abbrev pub IsFieldText : List ℕ → Kind → Type 0
IsFieldText text kind = IsKind kind × (text ≡ kind_text kind)

-- ---- methods (JVMS 4.3.3)

-- `V` where there is none
abbrev pub result_text : Option Kind → List ℕ
result_text None = 86 ∷ []
result_text (Some kind) = kind_text kind

abbrev pub IsResult : Option Kind → Type 0
IsResult None = Unit {0}
IsResult (Some kind) = IsKind kind

-- the parameters in `(` and `)`, and the result
abbrev pub descriptor_text : Descriptor → List ℕ
descriptor_text d = 40 ∷ (flat_map kind_text d.params ++ 41 ∷ result_text d.result)

pub record IsDescriptor (d : Descriptor) : Type 0 where
  pub params : AllByRecursion IsKind d.params
  pub result : IsResult d.result

-- the text is this descriptor of a method
abbrev pub IsMethodText : List ℕ → Descriptor → Type 0
IsMethodText text d = IsDescriptor d × (text ≡ descriptor_text d)
