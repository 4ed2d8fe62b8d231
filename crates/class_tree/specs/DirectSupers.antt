-- What stands directly above a class, by its superclass and in the order of its superinterfaces.
use Rattle.std.specs.Prelude.{ℕ, ◌+◌, nat_lt, if◌then◌else◌, List, [], ◌++◌, length, map, Option, option_and_then}
use Rattle.std.specs.Option.{option_map_or, option_to_list}
use Rattle.std.specs.List.{filter_map}
use Rattle.library.specs.Classes.{first_own}
use Rattle.class_file.specs.declared.record.ClassFile.{ClassFile}
use Rattle.class_tree.specs.declared.route.Route.{Route}
use Rattle.class_tree.specs.declared.route.Route.TheVariants.{Superclass, Superinterfaces, Both}
use Rattle.class_tree.specs.Set.{own_name, file_of, named_among, library_superclass}

-- the numbers of classes are below this one
abbrev pub class_count : List ClassFile → ℕ
class_count files = first_own + length files

-- the superclass of a class, in a set of these names and files, where it has one
abbrev pub superclass_among : List (List ℕ) → List ClassFile → ℕ → Option ℕ
superclass_among names files class =
    if nat_lt class first_own then library_superclass class
    else option_and_then (λ file. named_among names file file.super_class) (file_of files class)

-- the superinterfaces of a class in their order; a class of the library has none
abbrev pub superinterfaces_among : List (List ℕ) → List ClassFile → ℕ → List ℕ
superinterfaces_among names files class =
    option_map_or (λ file. filter_map (named_among names file) file.interfaces) (file_of files class) []

-- ---- in a set of files

abbrev pub superclass_of : List ClassFile → ℕ → Option ℕ
superclass_of files class = superclass_among (map own_name files) files class

-- the superclass as a list of one, or none
abbrev pub superclasses_of : List ClassFile → ℕ → List ℕ
superclasses_of files class = option_to_list (superclass_of files class)

abbrev pub superinterfaces_of : List ClassFile → ℕ → List ℕ
superinterfaces_of files class = superinterfaces_among (map own_name files) files class

-- the superinterfaces in their order, and then the superclass
abbrev pub all_supers_of : List ClassFile → ℕ → List ℕ
all_supers_of files class = superinterfaces_of files class ++ superclasses_of files class

-- ---- which of them a lookup goes up to

-- by a way up
abbrev pub above_by : Route → List (List ℕ) → List ClassFile → ℕ → List ℕ
above_by Superclass names files class = option_to_list (superclass_among names files class)
above_by Superinterfaces names files class = superinterfaces_among names files class
above_by Both names files class = superinterfaces_among names files class ++ option_to_list (superclass_among names files class)
