-- The fields of the class so far have their places, and those of its objects are counted.
use Rattle.std.proofs.Common.{◌≡◌, ◌++◌, List, Some, take}
use Rattle.class_file.specs.declared.record.ClassFile.{ClassFile}
use Rattle.class_tree.specs.Set.{file_of}
use Rattle.jvm_model.specs.ImageNumbering.{Field, class_fields}
use Rattle.infuse_ids.specs.Places.{layout_in, fields_above, of_objects, StandsAmong, ArePlaced}
use Rattle.infuse_ids.proofs.places.add_fields.Given as goal

abbrev pub invariant-loop-position : goal.invariant-loop-position
invariant-loop-position l = (files : List ClassFile) (before after : List Field) → file_of files l.class ≡ Some l.file → StandsAmong files l.class before after
    → l.fn.counts.object ≡ layout_in (fields_above files l.class) → ArePlaced files before l.fn.counts.statics l.fn.places
    → ArePlaced files (before ++ take l.position (class_fields files l.class)) l.counts.statics l.places
    × (l.counts.object ≡ layout_in (fields_above files l.class ++ of_objects (take l.position (class_fields files l.class))))
