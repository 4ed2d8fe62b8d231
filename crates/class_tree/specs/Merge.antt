-- What is known of a value that comes from two places: the merge of two types.
use Rattle.std.specs.Prelude.{ℕ, zero, suc, Bool, true, false, ◌&&◌, ◌==◌, nat_eq, if◌then◌else◌, List, Option, Some, None, is_some, unwrap_or}
use Rattle.class_pool.specs.declared.types.TypeRef.{TypeRef}
use Rattle.class_pool.specs.declared.types.TypeBase.{TypeBase}
use Rattle.class_pool.specs.declared.types.TypeBase.TheVariants.{Class, Byte, Char, Short, Int, Boolean}
use Rattle.class_file.specs.declared.record.ClassFile.{ClassFile}
use Rattle.body_form.specs.declared.types.VType.{VType}
use Rattle.body_form.specs.declared.types.VType.TheVariants as known
use Rattle.class_tree.specs.Subtypes.{array_of, class_type}
use Rattle.class_tree.specs.DirectSupers.{class_count, superclasses_of}
use Rattle.class_tree.specs.Upwards.{first_upwards}
use Rattle.class_tree.specs.InterfaceLookup.{object}

-- ---- classes

-- the first that passes the test, of a class and its superclasses, from the class upwards
abbrev pub first_passing : List ClassFile → (ℕ → Bool) → ℕ → Option ℕ
first_passing files test class = first_upwards (superclasses_of files) (λ other. if test other then Some other else None) (class_count files) class

-- the class is the upper one, or the upper one is among its superclasses; the superclass of an interface is
-- java/lang/Object
abbrev pub is_class_or_super : List ClassFile → ℕ → ℕ → Bool
is_class_or_super files class upper = is_some (first_passing files (nat_eq upper) class)

-- the first common superclass of two classes, where each counts as one of its own
abbrev pub common_super : List ClassFile → ℕ → ℕ → ℕ
common_super files a b = unwrap_or (first_passing files (is_class_or_super files b) a) object

-- ---- references, by their dimensions and bases

-- a class or an array
abbrev pub is_reference : ℕ → TypeBase → Bool
is_reference zero (Class class) = true
is_reference zero base = false
is_reference (suc dims) base = true

-- the base is the same; a class is no primitive type
abbrev pub is_same_primitive : TypeBase → TypeBase → Bool
is_same_primitive Byte Byte = true
is_same_primitive Char Char = true
is_same_primitive Short Short = true
is_same_primitive Int Int = true
is_same_primitive Boolean Boolean = true
is_same_primitive s t = false

-- the types are the same primitive type
abbrev pub are_primitive : ℕ → TypeBase → ℕ → TypeBase → Bool
are_primitive m s n t = m == 0 && (n == 0 && is_same_primitive s t)

abbrev pub type_of : ℕ → TypeBase → TypeRef
type_of dims base = record { dims = dims; base = base }

-- Two classes give their first common superclass, two arrays of references the array of their merged components,
-- and two arrays of one primitive type that array; others give java/lang/Object.
unfoldable pub merge_refs : List ClassFile → ℕ → TypeBase → ℕ → TypeBase → TypeRef
merge_refs files zero (Class a) zero (Class b) = class_type (common_super files a b)
merge_refs files (suc m) s (suc n) t =
    if is_reference m s && is_reference n t then array_of (merge_refs files m s n t)
    else (if are_primitive m s n t then type_of 1 s else class_type object)
merge_refs files m s n t = class_type object

-- ---- types of values

-- Equal types stay. Null and a reference give the reference, and two references merge. All else gives Top.
abbrev pub merge : List ClassFile → VType → VType → VType
merge files known.Int known.Int = known.Int
merge files known.Null known.Null = known.Null
merge files known.Null (known.Ref t) = known.Ref t
merge files (known.Ref s) known.Null = known.Ref s
merge files (known.Ref s) (known.Ref t) = known.Ref (merge_refs files s.dims s.base t.dims t.base)
merge files (known.New p) (known.New q) = if nat_eq p q then known.New p else known.Top
merge files known.This known.This = known.This
merge files a b = known.Top
