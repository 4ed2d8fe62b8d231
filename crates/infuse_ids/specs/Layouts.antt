-- The fields of objects, from those of a superclass.
use Rattle.std.specs.Prelude.{◌≡◌, ℕ, not, List, [], ◌++◌, filter, None}
use Rattle.std.specs.Option.{option_map_or}
use Rattle.class_file.specs.declared.record.ClassFile.{ClassFile}
use Rattle.class_tree.specs.DirectSupers.{superclass_of}
use Rattle.class_tree.specs.Tree.{Gathers}
use Rattle.jvm_model.specs.ImageNumbering.{Field, class_fields, fields_of_object}

-- the fields of objects that a class declares
abbrev pub own_fields : List ClassFile → ℕ → List Field
own_fields files class = filter (λ (field : Field). not field.static) (class_fields files class)

-- in a closed set an object has the fields of an object of its superclass, and then those that its class declares
abbrev pub FieldsBySuperclass : Type 0
FieldsBySuperclass = (files : List ClassFile) → Gathers files None → (class : ℕ)
    → fields_of_object files class ≡ option_map_or (fields_of_object files) (superclass_of files class) [] ++ own_fields files class
