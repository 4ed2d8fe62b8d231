-- Bodies are verified one by one: what is found for those that are left is found for all.
use Rattle.std.proofs.Common.{inl, inr, ℕ, suc, List, [], ◌∷◌, Option, Some, None}
use Rattle.std.specs.List.{AllByRecursion}
use Rattle.class_file.specs.declared.record.ClassFile.{ClassFile}
use Rattle.class_tree.specs.Tree.{Gathers}
use Rattle.body_form.specs.declared.body.Body.{Body}
use Rattle.jvm_model.specs.declared.refusal.Refusal.{Refusal}
use Rattle.jvm_model.specs.FirstOf.{FirstOf}
use Rattle.jvm_model.specs.Bodies.{AreEach, Coded, IsBody, AreBodies, coded_methods}
use Rattle.jvm_model.specs.TypesNames.{IsOfSet}
use Rattle.jvm_model.specs.Verification.{BodyTypes, MethodTypes, HasBody, Typing, IsClosed}
use Rattle.jvm_model.proofs.bodies.BodyNames.{of_set}
use Rattle.set_laws.proofs.CodedMethods.{StandsIn, methods_stand}

-- the first of these methods that is refused
abbrev pub First : List ClassFile → ℕ → List Coded → Option Refusal → Type 0
First files place coded found = FirstOf (λ position. MethodTypes files) place coded found

-- the methods of the bodies that are left, from a position on
pub record Remain (files : List ClassFile) (bodies : List Body) : Type 0 where
  pub coded : List Coded
  pub place : ℕ
  pub are : AreEach (IsBody files) coded bodies
  pub stand : AllByRecursion (StandsIn files) coded
  pub more : (found : Option Refusal) → First files place coded found → First files 0 (coded_methods files) found

pub at_first : (files : List ClassFile) (bodies : List Body) → AreBodies files bodies → Remain files bodies
at_first files bodies are = record { coded = coded_methods files; place = 0; are = are; stand = methods_stand files; more = λ found first. first }

-- the first of those that are left
record Head (files : List ClassFile) (body : Body) (bodies : List Body) : Type 0 where
  coded : Coded
  place : ℕ
  is : IsBody files coded body
  stands : StandsIn files coded
  rest : List Coded
  are : AreEach (IsBody files) rest bodies
  stand : AllByRecursion (StandsIn files) rest
  more : (found : Option Refusal) → First files place (coded ∷ rest) found → First files 0 (coded_methods files) found

head_of : (files : List ClassFile) (body : Body) (bodies : List Body) → Remain files (body ∷ bodies) → Head files body bodies
head_of files body bodies left = by_list left.coded left.are left.stand left.more
  where
    by_list : (coded : List Coded) → AreEach (IsBody files) coded (body ∷ bodies) → AllByRecursion (StandsIn files) coded
        → ((found : Option Refusal) → First files left.place coded found → First files 0 (coded_methods files) found) → Head files body bodies
    by_list [] are stand more = absurd are
    by_list (x ∷ rest) are stand more =
        record {
          coded = x;
          place = left.place;
          is = are.0;
          stands = stand.0;
          rest = rest;
          are = are.1;
          stand = stand.1;
          more = more;
        }

pub body_of_set : (files : List ClassFile) (body : Body) (bodies : List Body) → Remain files (body ∷ bodies) → IsOfSet files body
body_of_set files body bodies left = let head = head_of files body bodies left in of_set files head.coded body head.stands.class head.stands.rise head.is

pub one_more : (files : List ClassFile) (body : Body) (bodies : List Body) → Remain files (body ∷ bodies) → BodyTypes files body None → Remain files bodies
one_more files body bodies left typed =
    let head = head_of files body bodies left in
    record { coded = head.rest; place = suc head.place; are = head.are; stand = head.stand; more = goes_on head }
  where
    goes_on : (head : Head files body bodies) (found : Option Refusal) → First files (suc head.place) head.rest found → First files 0 (coded_methods files) found
    goes_on head None first = head.more None (HasBody body head.is typed, first)
    goes_on head (Some why) first = head.more (Some why) (inr (HasBody body head.is typed, first))

pub refused_here : (files : List ClassFile) (body : Body) (bodies : List Body) (why : Refusal) → Gathers files None → Remain files (body ∷ bodies) → BodyTypes files body (Some why) → Typing files (Some why)
refused_here files body bodies why closed left untyped =
    let head = head_of files body bodies left in IsClosed closed (head.more (Some why) (inl (HasBody body head.is untyped)))

pub none_left : (files : List ClassFile) → Gathers files None → Remain files [] → Typing files None
none_left files closed left = IsClosed closed (by_list left.coded left.are left.more)
  where
    by_list : (coded : List Coded) → AreEach (IsBody files) coded [] → ((found : Option Refusal) → First files left.place coded found → First files 0 (coded_methods files) found) → First files 0 (coded_methods files) None
    by_list [] are more = more None tt
    by_list (x ∷ rest) are more = absurd are
