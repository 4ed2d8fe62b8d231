-- Bodies whose instructions name what a set has: its classes, and types over them.
use Rattle.std.specs.Prelude.{List, IfSome}
use Rattle.std.specs.List.{AllByRecursion}
use Rattle.class_file.specs.declared.record.ClassFile.{ClassFile}
use Rattle.class_tree.specs.Set.{IsClass}
use Rattle.class_tree.specs.Subtypes.{IsType}
use Rattle.code_reach.specs.Reached.{RisesFrom}
use Rattle.body_form.specs.declared.body.Body.{Body}
use Rattle.body_form.specs.declared.op.Op.{Op}
use Rattle.body_form.specs.declared.op.Op.TheVariants as op

-- the classes and types that the instruction names are those of the set
abbrev pub NamesKnown : List ClassFile → Op → Type 0
NamesKnown files (op.GetStatic used) = IsClass files used.class
NamesKnown files (op.PutStatic used) = IsClass files used.class
NamesKnown files (op.GetField used) = IsClass files used.class
NamesKnown files (op.PutField used) = IsClass files used.class
NamesKnown files (op.CallVirtual used) = IsClass files used.class
NamesKnown files (op.CallSpecial used) = IsClass files used.class
NamesKnown files (op.CallStatic used) = IsClass files used.class
NamesKnown files (op.CallInterface used) = IsClass files used.class
NamesKnown files (op.New type) = IsType files type
NamesKnown files (op.NewArray type) = IsType files type
NamesKnown files (op.CheckCast type) = IsType files type
NamesKnown files (op.InstanceOf type) = IsType files type
NamesKnown files (op.MultiArray array dims) = IsType files array
NamesKnown files instruction = Unit {0}

-- a body of a method of the set
pub record IsOfSet (files : List ClassFile) (body : Body) : Type 0 where
  pub rise : RisesFrom 0 body.ops
  pub class : IsClass files body.class
  pub ops : AllByRecursion (λ x. NamesKnown files x.1) body.ops
  pub handlers : AllByRecursion (λ guard. IfSome guard.class (IsClass files)) body.handlers
