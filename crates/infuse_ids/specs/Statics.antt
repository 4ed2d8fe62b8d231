-- What static fields hold, field by field.
use Rattle.std.specs.Prelude.{◌≡◌, ℕ, ◌&&◌, if◌then◌else◌, List, [], filter, length}
use Rattle.std.specs.List.{flat_map}
use Rattle.class_file.specs.Rules.{is_static}
use Rattle.class_file.specs.declared.record.ClassFile.{ClassFile}
use Rattle.class_file.specs.declared.record.Member.{Member}
use Rattle.class_tree.specs.Members.{Declaration}
use Rattle.jvm_model.specs.Initialisers.{is_whole_kind, is_reference_kind}
use Rattle.jvm_model.specs.InitialStatics.{kind_of, initial_value, last_write, writes_of}
use Rattle.jvm_model.specs.ImageNumbering.{Field, cells_of_value, initial_cells, is_number_field, is_reference_field}
use Rattle.infuse_ids.specs.declared.writes.LastWrites.{LastWrites}
use Rattle.infuse_ids.specs.Places.{statics_among}
use Rattle.infuse_ids.specs.Writes.{last_set}

-- these are the last writes of the initialiser of a class
abbrev pub AreWritesOf : ClassFile → LastWrites → Type 0
AreWritesOf file writes = (field : Declaration) → last_set writes field.name field.descriptor ≡ last_write field (writes_of file.pool file.methods)

-- 1 for a static reference
abbrev pub reference_of : ClassFile → Member → ℕ
reference_of file field = if is_static field.flags && is_reference_kind (kind_of file.pool field) then 1 else 0

-- the cells of a static whole number
abbrev pub cells_of : ClassFile → Member → List ℕ
cells_of file field = if is_static field.flags && is_whole_kind (kind_of file.pool field) then cells_of_value (kind_of file.pool field) (initial_value file field) else []

-- how many static references there are among fields
abbrev pub references_among : List Field → ℕ
references_among fields = length (filter is_reference_field (statics_among fields))

-- the cells of the static whole numbers among fields
abbrev pub cells_among : List ClassFile → List Field → List ℕ
cells_among files fields = flat_map (initial_cells files) (filter is_number_field (statics_among fields))
