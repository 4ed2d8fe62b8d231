-- How far a set of files has come: it is closed, it is linked, and its bodies have types.
use Rattle.std.specs.Prelude.{◌≡◌, ℕ, List, map, None, unwrap_or}
use Rattle.class_pool.specs.declared.types.MemberId.{MemberId}
use Rattle.class_file.specs.declared.record.ClassFile.{ClassFile}
use Rattle.class_tree.specs.Tree.{Gathers}
use Rattle.body_form.specs.declared.body.Body.{Body}
use Rattle.jvm_model.specs.Bodies.{AreBodies}
use Rattle.jvm_model.specs.Entry.{entry_of, entry_refusal}
use Rattle.jvm_model.specs.Linking.{Linking}
use Rattle.jvm_model.specs.Phases.{SetSize, first_refusal, class_refusal}
use Rattle.jvm_model.specs.Verdict.{AreBytes}
use Rattle.flow_verify.specs.Verified.{AreReached}
use Rattle.set_image.specs.Linked.{Linked, IsTyped}
use Rattle.infuse_sets.specs.declared.typed.TypedBody.{TypedBody}
use Rattle.infuse_sets.specs.TypedBodies.{typed_of}
use Rattle.infuse_link.specs.Sets.{AreRead}

-- these are the classes of files that pass the phases up to that of a closed set
pub record IsClosedSet (files : List (List ℕ)) (classes : List ClassFile) : Type 0 where
  pub bytes : AreBytes files
  pub size : SetSize files None
  pub read : AreRead files classes
  pub codes : first_refusal class_refusal 0 classes ≡ None
  pub closed : Gathers classes None

-- they stand together and have an entry, and these are the bodies of their methods
pub record IsLinkedSet (files : List (List ℕ)) (classes : List ClassFile) (bodies : List Body) : Type 0 where
  pub is_closed : IsClosedSet files classes
  pub links : Linking classes None
  pub enters : entry_refusal classes ≡ None
  pub are_bodies : AreBodies classes bodies

-- the types of the body are the least right ones, and their rows are those that are reached
pub record IsVerified (classes : List ClassFile) (typed : TypedBody) : Type 0 where
  pub least : IsTyped classes (typed_of typed)
  pub reached : AreReached typed.body.now typed.types

-- the entry of classes that have one
abbrev pub main_of : List ClassFile → MemberId
main_of classes = unwrap_or (entry_of classes) (record { class = 0; member = 0 })

-- the classes with these typed bodies
abbrev pub linked_of : List ClassFile → List TypedBody → Linked
linked_of classes typed = record { classes = classes; code = map typed_of typed; main = main_of classes }
