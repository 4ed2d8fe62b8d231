-- Which names the classes of files may have.
use Rattle.std.specs.Prelude.{ℕ, Bool, ◌||◌, nat_eq, if◌then◌else◌, List, take, map, Option, Some, None, codes}
use Rattle.std.specs.List.{list_any, starts_with}
use Rattle.std.specs.Str.{bytes_eq}
use Rattle.class_file.specs.declared.record.ClassFile.{ClassFile}
use Rattle.class_tree.specs.declared.refusal.TreeRefusal.{TreeRefusal}
use Rattle.class_tree.specs.declared.refusal.TreeRefusal.TheVariants.{Duplicate, Reserved}
use Rattle.class_tree.specs.Scan.{first_refusal}
use Rattle.class_tree.specs.Set.{own_name}

-- the name begins as those of the library do
abbrev pub is_reserved : List ℕ → Bool
is_reserved name = starts_with nat_eq name (codes "java/") || starts_with nat_eq name (codes "mote/")

-- what a name is refused for after these names: it is one of them, or it is reserved
abbrev pub fault_after : List (List ℕ) → ℕ → List ℕ → Option TreeRefusal
fault_after names file name =
    if list_any (bytes_eq name) names then Some (Duplicate file) else (if is_reserved name then Some (Reserved file) else None)

-- what the class of a file is refused for by its name
abbrev pub name_fault : List ClassFile → ℕ → ClassFile → Option TreeRefusal
name_fault files file class = fault_after (map own_name (take file files)) file (own_name class)

-- what the first file is refused for whose class has such a name
abbrev pub names_refusal : List ClassFile → Option TreeRefusal
names_refusal files = first_refusal (name_fault files) 0 files
