-- Which types of values may stand where a type is declared.
use Rattle.std.specs.Prelude.{ℕ, zero, suc, Bool, true, false, ◌&&◌, ◌||◌, nat_eq, if◌then◌else◌, List}
use Rattle.class_pool.specs.declared.types.TypeRef.{TypeRef}
use Rattle.class_pool.specs.declared.types.TypeBase.{TypeBase}
use Rattle.class_pool.specs.declared.types.TypeBase.TheVariants.{Class}
use Rattle.class_file.specs.declared.record.ClassFile.{ClassFile}
use Rattle.class_file.specs.Rules.{is_interface}
use Rattle.body_form.specs.declared.types.VType.{VType}
use Rattle.body_form.specs.declared.types.VType.TheVariants as known
use Rattle.class_tree.specs.Set.{flags_of}
use Rattle.class_tree.specs.InterfaceLookup.{object}
use Rattle.class_tree.specs.Merge.{is_class_or_super, is_reference, are_primitive}

-- a reference fits a class: a class fits itself and its superclasses, an array java/lang/Object
abbrev pub fits_class : List ClassFile → ℕ → TypeBase → ℕ → Bool
fits_class files zero (Class class) upper = is_class_or_super files class upper
fits_class files zero base upper = false
fits_class files (suc dims) base upper = nat_eq upper object

-- Every reference fits an interface. An array of references fits an array whose component its component fits, and
-- an array of a primitive type the same one.
unfoldable pub fits_ref : List ClassFile → ℕ → TypeBase → ℕ → TypeBase → Bool
fits_ref files m s zero (Class upper) = is_interface (flags_of files upper) || fits_class files m s upper
fits_ref files (suc m) s (suc n) t = if is_reference m s && is_reference n t then fits_ref files m s n t else are_primitive m s n t
fits_ref files m s n t = false

-- Null fits every type. What is no reference, or is not yet constructed, fits none.
abbrev pub fits : List ClassFile → VType → TypeRef → Bool
fits files known.Null type = true
fits files (known.Ref s) type = fits_ref files s.dims s.base type.dims type.base
fits files a type = false
