-- The order of the classes of a set by their numbers.
use Rattle.std.specs.Prelude.{List, None}
use Rattle.class_file.specs.declared.record.ClassFile.{ClassFile}
use Rattle.class_tree.specs.Tree.{Gathers}
use Rattle.jvm_model.specs.ImageNumbering.{class_order, IsClassOrder}

-- in a closed set each class of a file has one number, behind those of the files' classes that stand directly above it
abbrev pub ClassOrderIsRight : Type 0
ClassOrderIsRight = (files : List ClassFile) → Gathers files None → IsClassOrder files (class_order files)
