-- What holds of the tables of types that are asked for.
use Rattle.std.specs.Prelude.{List}
use Rattle.class_file.specs.declared.record.ClassFile.{ClassFile}
use Rattle.code_reach.specs.Reached.{RisesFrom}
use Rattle.body_form.specs.declared.body.Body.{Body}
use Rattle.jvm_model.specs.TypesRight.{IsRight}
use Rattle.type_table.specs.Types.{Rows, table_of}
use Rattle.flow_split.specs.Splits.{AreNamed}

-- where a table of types is right, each local that is named is one of the method's
abbrev pub RightTypesName : Type 0
RightTypesName = (files : List ClassFile) (body : Body) (rows : Rows) → RisesFrom 0 body.ops → IsRight files body (table_of rows) → AreNamed body rows
