-- The bodies of a set with their types, as the code has them, and what is asked of them.
use Rattle.std.specs.Prelude.{◌≡◌, List, map}
use Rattle.std.specs.List.{AllByRecursion}
use Rattle.code_reach.specs.Reached.{RisesFrom}
use Rattle.class_file.specs.declared.record.ClassFile.{ClassFile}
use Rattle.type_table.specs.Types.{table_of}
use Rattle.flow_verify.specs.Verified.{AreReached}
use Rattle.infuse_emit.specs.Parts.{KeepLimits, HasFewParameters}
use Rattle.infuse_tables.specs.Tables.{IsShort}
use Rattle.set_image.specs.Linked.{Linked, IsLinked, Typed, numbering_in}
use Rattle.infuse_sets.specs.declared.typed.TypedBody.{TypedBody}

-- a body with its table
abbrev pub typed_of : TypedBody → Typed
typed_of typed = record { body = typed.body.now; table = table_of typed.types }

-- the pcs of the body rise, the rows of the types are those that are reached, and the body keeps to the limits of machine
-- instructions
pub record IsFit (typed : TypedBody) : Type 0 where
  pub rise : let body = typed.body.now in RisesFrom 0 body.ops
  pub reached : AreReached typed.body.now typed.types
  pub limits : KeepLimits typed.body.now
  pub few : HasFewParameters typed.body.now

-- these are the classes and the typed bodies of a linked set
pub record AreOf (linked : Linked) (classes : List ClassFile) (typed : List TypedBody) : Type 0 where
  pub is_linked : IsLinked linked
  pub classes_are : linked.classes ≡ classes
  pub code_is : linked.code ≡ map typed_of typed
  pub fit : AllByRecursion IsFit typed
  pub short : AllByRecursion IsShort (numbering_in linked).selectors
