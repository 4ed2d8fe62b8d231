-- A closed set of classes with the bodies and the types of its methods, and its image.
use Rattle.std.specs.Prelude.{◌≡◌, ℕ, Bool, nat_eq, List, [], map, filter, Some, None}
use Rattle.std.specs.List.{AllByRecursion, flat_map}
use Rattle.class_pool.specs.declared.types.MemberId.{MemberId}
use Rattle.class_file.specs.declared.record.ClassFile.{ClassFile}
use Rattle.class_tree.specs.Tree.{Gathers}
use Rattle.image_form.specs.declared.record.Image.{Image}
use Rattle.image_form.specs.declared.record.Method.{Method}
use Rattle.body_form.specs.declared.body.Body.{Body}
use Rattle.jvm_model.specs.declared.plan.Plan.{Plan}
use Rattle.jvm_model.specs.Bodies.{AreBodies}
use Rattle.jvm_model.specs.ClosedSet.{records_of}
use Rattle.jvm_model.specs.Entry.{entry_of}
use Rattle.jvm_model.specs.Linking.{Linking}
use Rattle.jvm_model.specs.Phases.{MethodCode}
use Rattle.jvm_model.specs.TypesRight.{Table, IsLeast}
use Rattle.jvm_model.specs.WidthsFrame.{plan_of}
use Rattle.jvm_model.specs.ImageNumbering.{Numbering, class_order, ids_of, numbering_of}
use Rattle.jvm_model.specs.ImageEmission.{Source, source_of, method_of}
use Rattle.jvm_model.specs.ImageTables.{image_with}

-- the body of a method, with what is known before each of its instructions
pub record Typed : Type 0 where
  pub body : Body
  pub table : Table

abbrev pub body_of : Typed → Body
body_of typed = typed.body

-- the types of a body are the least right ones
abbrev pub IsTyped : List ClassFile → Typed → Type 0
IsTyped classes typed = IsLeast classes typed.body typed.table

-- the classes, the bodies of their methods in the order of files and methods, each with its types, and the main
pub record Linked : Type 0 where
  pub classes : List ClassFile
  pub code : List Typed
  pub main : MemberId

abbrev pub bodies_of : Linked → List Body
bodies_of linked = map body_of linked.code

-- the set is closed, and these are its bodies, their least types, and its main
pub record IsLinked (linked : Linked) : Type 0 where
  pub closed : Gathers linked.classes None
  pub are_bodies : AreBodies linked.classes (bodies_of linked)
  pub are_typed : AllByRecursion (IsTyped linked.classes) linked.code
  pub is_main : entry_of linked.classes ≡ Some linked.main

-- these are the classes of files, whose code is good and which stand together
pub record IsOfFiles (files : List (List ℕ)) (linked : Linked) : Type 0 where
  pub records : records_of files ≡ Some linked.classes
  pub codes : MethodCode files None
  pub links : Linking linked.classes None
  pub is_linked : IsLinked linked

-- ---- its parts

-- how the frame of a body is laid out: each whole number has two cells
abbrev pub plan_for : Typed → Plan
plan_for typed = plan_of typed.body typed.table []

abbrev pub numbering_in : Linked → Numbering
numbering_in linked = numbering_of linked.classes (bodies_of linked) linked.main

-- what a body is expanded by
abbrev pub source_by : Numbering → Typed → Source
source_by numbering typed = source_of typed.body typed.table (plan_for typed) (ids_of numbering)

abbrev pub source_in : Linked → Typed → Source
source_in linked = source_by (numbering_in linked)

abbrev pub method_in : Linked → Typed → Method
method_in linked typed = method_of (source_in linked typed)

-- ---- its image

abbrev pub is_of_class : ℕ → Typed → Bool
is_of_class class typed = let body = typed.body in nat_eq class body.class

-- the bodies in the order of the ids of their methods: class by class, in the order of the ids of classes
abbrev pub in_order : List ClassFile → List Typed → List Typed
in_order classes code = flat_map (λ class. filter (is_of_class class) code) (class_order classes)

abbrev pub image_in : Linked → Image
image_in linked = image_with linked.classes (numbering_in linked) (map (method_in linked) (in_order linked.classes linked.code))
