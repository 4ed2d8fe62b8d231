-- What a class may declare beside the methods above it: which methods may stand below which, and which
-- classes lack a body for a method (JVMS 5.4.5 and the rules of the profile).
use Rattle.std.specs.Prelude.{ℕ, Bool, false, ◌&&◌, ◌||◌, not, List, filter}
use Rattle.std.specs.Option.{option_map_or}
use Rattle.std.specs.List.{list_any, range_with_len}
use Rattle.std.specs.Str.{bytes_eq}
use Rattle.class_file.specs.Rules.{is_public, is_abstract, is_interface}
use Rattle.class_file.specs.declared.record.ClassFile.{ClassFile}
use Rattle.class_tree.specs.Set.{flags_of}
use Rattle.class_tree.specs.Members.{Declaration, methods_of, method_flags, member_at}
use Rattle.class_tree.specs.DirectSupers.{class_count}
use Rattle.class_tree.specs.Selection.{select}
use Rattle.class_tree.specs.Overriding.{overridden, is_bad_override}
use Rattle.class_tree.specs.AccessTests.{is_subclass}
use Rattle.jvm_model.specs.MethodUses.{constructor_name, initialiser_name, has_code}

-- ---- which methods may stand below which

-- a constructor or a class's initialiser; these override nothing
abbrev pub is_special_name : List ℕ → Bool
is_special_name name = bytes_eq name constructor_name || bytes_eq name initialiser_name

-- the method at a position of a class stands below one below which it may not stand
abbrev pub overrides_badly : List ClassFile → ℕ → ℕ → Declaration → Bool
overrides_badly files class position method =
    not (is_special_name method.name) && option_map_or (is_bad_override files (member_at class position)) (overridden files method.name method.descriptor class) false

-- ---- what a class selects for the methods above it

-- a class and all that stands above it: its superclasses and superinterfaces, in whatever order
abbrev pub at_or_above : List ClassFile → ℕ → List ℕ
at_or_above files class = filter (is_subclass files class) (range_with_len 0 (class_count files))

-- the method of an interface, for which the class selects one that is not public
abbrev pub hides_method : List ClassFile → ℕ → Declaration → Bool
hides_method files class method =
    not (is_special_name method.name) && option_map_or (λ id. not (is_public (method_flags files id))) (select files method.name method.descriptor class) false

-- the class implements an interface with such a method
abbrev pub hides_methods_of : List ClassFile → ℕ → ℕ → Bool
hides_methods_of files class interface = is_interface (flags_of files interface) && list_any (hides_method files class) (methods_of files interface)

abbrev pub hides_interface : List ClassFile → ℕ → Bool
hides_interface files class = list_any (hides_methods_of files class) (at_or_above files class)

-- ---- bodies

-- the method is abstract, and the class selects none with code for it
abbrev pub lacks_body : List ClassFile → ℕ → Declaration → Bool
lacks_body files class method = is_abstract method.flags && not (option_map_or (has_code files) (select files method.name method.descriptor class) false)

-- a class that is not abstract lacks the body of a method that it or a class or interface above it declares
abbrev pub lacks_bodies : List ClassFile → ℕ → Bool
lacks_bodies files class =
    not (is_abstract (flags_of files class)) && list_any (λ upper. list_any (lacks_body files class) (methods_of files upper)) (at_or_above files class)
