-- The bodies of a set name what is in the set.
use Rattle.std.proofs.Common.{◌≡◌, List, [], ◌∷◌, Option, None, Some, IfSome, subst}
use Rattle.std.specs.List.{AllByRecursion}
use Rattle.std.proofs.lemmas.Option.{none-some, same_Some}
use Rattle.class_file.specs.declared.record.ClassFile.{ClassFile}
use Rattle.body_form.specs.declared.body.Body.{Body}
use Rattle.jvm_model.specs.Bodies.{AreEach, Coded, IsBody, AreBodies, coded_methods}
use Rattle.jvm_model.specs.TypesNames.{IsOfSet}
use Rattle.jvm_model.proofs.bodies.BodyNames.{of_set}
use Rattle.set_laws.proofs.CodedMethods.{StandsIn, methods_stand}

each_of_set : (files : List ClassFile) (coded : List Coded) (bodies : List Body) → AreEach (IsBody files) coded bodies → AllByRecursion (StandsIn files) coded → AllByRecursion (IsOfSet files) bodies
each_of_set files [] [] are stand = tt
each_of_set files [] (body ∷ bodies) are stand = absurd are
each_of_set files (x ∷ coded) [] are stand = absurd are
each_of_set files (x ∷ coded) (body ∷ bodies) are stand = (of_set files x body stand.0.class stand.0.rise are.0, each_of_set files coded bodies are.1 stand.1)

pub all_of_set : (files : List ClassFile) (bodies : List Body) → AreBodies files bodies → AllByRecursion (IsOfSet files) bodies
all_of_set files bodies are = each_of_set files (coded_methods files) bodies are (methods_stand files)

pub if_some : {X : Type 0} (P : X → Type 0) (o : Option X) (x : X) → o ≡ Some x → IfSome o P → P x
if_some P None x e is = absurd (none-some x e)
if_some P (Some y) x e is = subst P (same_Some y x e) is
