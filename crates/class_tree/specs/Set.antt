-- A set of classes: those of the library, and those of the files. The class of a file has the number after
-- the library's numbers at the file's position.
use Rattle.std.specs.Prelude.{ℕ, ◌+◌, ◌-◌, ◌<◌, ◌≤◌, ◌⊎◌, Bool, false, nat_lt, nat_eq, if◌then◌else◌, List, [], ◌∷◌, length, map, get_or, slice_get, Option, Some, None, option_map, option_and_then, unwrap_or, position}
use Rattle.std.specs.Option.{option_or, option_map_or}
use Rattle.std.specs.List.{list_any}
use Rattle.std.specs.Str.{bytes_eq}
use Rattle.library.specs.Classes.{first_own, class_names, superclasses}
use Rattle.class_pool.specs.Pool.{class_name_at}
use Rattle.class_file.specs.declared.record.ClassFile.{ClassFile}

-- ---- names and numbers

-- the name of the class of a file
abbrev pub own_name : ClassFile → List ℕ
own_name file = unwrap_or (class_name_at file.pool file.this_class) []

-- the number of the first of these classes that has the name, in a set of these names
abbrev pub number_among : List (List ℕ) → List ℕ → Option ℕ
number_among names name =
    option_or (position (bytes_eq name) class_names) (option_map (λ file. first_own + file) (position (bytes_eq name) names))

-- the number of a class by its name
abbrev pub number_of : List ClassFile → List ℕ → Option ℕ
number_of files name = number_among (map own_name files) name

-- the file of a class, where it has one
abbrev pub file_of : List ClassFile → ℕ → Option ClassFile
file_of files class = if nat_lt class first_own then None else slice_get files (class - first_own)

-- the name of a class by its number
abbrev pub name_of : List ClassFile → ℕ → List ℕ
name_of files class = if nat_lt class first_own then get_or class_names class [] else option_map_or own_name (slice_get files (class - first_own)) []

-- the number is that of a class of the library, or of a file's class
abbrev pub IsClass : List ClassFile → ℕ → Type 0
IsClass files class = (class < 15) ⊎ ((first_own ≤ class) × (class - first_own < length files))

-- ---- what stands directly above a class

-- the class that an entry of a file's pool names, in a set of these names, where the set has it
abbrev pub named_among : List (List ℕ) → ClassFile → ℕ → Option ℕ
named_among names file index = option_and_then (number_among names) (class_name_at file.pool index)

-- the number is this one
abbrev pub is_number : ℕ → Option ℕ → Bool
is_number number None = false
is_number number (Some other) = nat_eq number other

-- the superclass of a class of the library, where it has one
abbrev pub library_superclass : ℕ → Option ℕ
library_superclass class = option_and_then (λ above. above) (slice_get superclasses class)

-- an entry of the file for its superclass or a superinterface names the class
abbrev pub names_super : List (List ℕ) → ℕ → ClassFile → Bool
names_super names upper file = list_any (λ index. is_number upper (named_among names file index)) (file.super_class ∷ file.interfaces)

-- one class stands directly below another, in a set of these names and files
abbrev pub is_directly_below : List (List ℕ) → List ClassFile → ℕ → ℕ → Bool
is_directly_below names files lower upper =
    if nat_lt lower first_own then is_number upper (library_superclass lower)
    else option_map_or (names_super names upper) (slice_get files (lower - first_own)) false

-- ---- the kinds of classes

-- the flags of a class; those of the library are public classes, neither final nor interfaces
abbrev pub flags_of : List ClassFile → ℕ → ℕ
flags_of files class = option_map_or (λ file. file.flags) (file_of files class) 1
