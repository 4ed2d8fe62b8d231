-- The name of a class that has a file.
use Rattle.std.proofs.Common.{◌≡◌, ℕ, ◌-◌, ◌≤◌, cond, List, [], get_or, slice_get, Option, Some, sym, ◌∙◌, ap}
use Rattle.std.specs.Option.{option_map_or}
use Rattle.std.proofs.lemmas.Bool.{le-ltb}
use Rattle.library.specs.Classes.{first_own, class_names}
use Rattle.class_file.specs.declared.record.ClassFile.{ClassFile}
use Rattle.class_tree.specs.Set.{own_name, name_of}

pub name_there : (files : List ClassFile) (class : ℕ) (file : ClassFile) → first_own ≤ class → slice_get files (class - first_own) ≡ Some file → own_name file ≡ name_of files class
name_there files class file ge is =
    sym (ap (λ b. cond b (get_or class_names class []) (option_map_or own_name (slice_get files (class - first_own)) [])) (le-ltb class first_own ge)
    ∙ ap (λ (o : Option ClassFile). option_map_or own_name o []) is)
