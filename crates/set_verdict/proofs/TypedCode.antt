-- The phase of types passes a closed set whose methods have bodies just where each of them has least types.
use Rattle.std.proofs.Common.{◌⊎◌, inl, inr, ℕ, suc, List, [], ◌∷◌, map, None}
use Rattle.std.specs.List.{AllByRecursion}
use Rattle.class_file.specs.declared.record.ClassFile.{ClassFile}
use Rattle.class_tree.specs.Tree.{Gathers}
use Rattle.body_form.specs.declared.body.Body.{Body}
use Rattle.jvm_model.specs.FirstOf.{FirstOf}
use Rattle.jvm_model.specs.Bodies.{AreEach, IsBody, Coded, coded_methods}
use Rattle.jvm_model.specs.TypesNames.{IsOfSet}
use Rattle.jvm_model.specs.TypesRight.{Table, IsRight, IsLeast}
use Rattle.jvm_model.specs.TypesRounds.{IsFailing, table_before}
use Rattle.jvm_model.specs.Verification.{MethodTypes, HasBody, HasNone, Typing, IsClosed, IsOpen}
use Rattle.jvm_model.proofs.bodies.BodyNames.{of_set}
use Rattle.type_rounds.specs.RoundLaws.{at_instructions, IsQuiet}
use Rattle.type_rounds.proofs.Rounds.{quiet_is_least, failing_has_no_right, rounds_end}
use Rattle.set_laws.proofs.CodedMethods.{StandsIn}
use Rattle.set_image.specs.Linked.{Typed, body_of, IsTyped}
use Rattle.set_verdict.proofs.MethodBodies.{HasOwnBody}

module _ (classes : List ClassFile) where
  -- these are the bodies of methods, each with its types
  abbrev pub IsCodeOf : List Coded → List Typed → Type 0
  IsCodeOf coded code = AreEach (IsBody classes) coded (map body_of code) × AllByRecursion (IsTyped classes) code

  abbrev pub AreTyped : ℕ → List Coded → Type 0
  AreTyped place coded = FirstOf (λ position. MethodTypes classes) place coded None

  module _ (closed : Gathers classes None) where
    -- where there is a right table there is a least one
    least_there : (body : Body) → IsOfSet classes body → (table : Table) × IsRight classes body table → (table : Table) × IsLeast classes body table
    least_there body is right = by_end (rounds_end classes closed body is)
      where
        by_end : ((pc : ℕ) × IsFailing classes body pc) ⊎ ((round : ℕ) × IsQuiet classes body round) → (table : Table) × IsLeast classes body table
        by_end (inl (pc, fails)) = absurd (failing_has_no_right classes closed body is pc fails right.0 right.1)
        by_end (inr (round, rests)) = (at_instructions body (table_before classes body round), quiet_is_least classes closed body is round rests)

    pub code_there : (place : ℕ) (coded : List Coded) → AllByRecursion (StandsIn classes) coded → AllByRecursion (HasOwnBody classes) coded → AreTyped place coded → (code : List Typed) × IsCodeOf coded code
    code_there place [] stand bodies types = ([], (tt, tt))
    code_there place (c ∷ coded) stand bodies types = by_head types.0 (code_there (suc place) coded stand.1 bodies.1 types.1)
      where
        by_head : MethodTypes classes c None → (code : List Typed) × IsCodeOf coded code → (code : List Typed) × IsCodeOf (c ∷ coded) code
        by_head (HasNone none e) more = absurd (none bodies.0.0 bodies.0.1)
        by_head (HasBody body is right) more =
            let least = least_there body (of_set classes c body stand.0.class stand.0.rise is) right in
            (record { body = body; table = least.0 } ∷ more.0, ((is, more.1.0), (least.1, more.1.1)))

  pub code_typed : (place : ℕ) (coded : List Coded) (code : List Typed) → AreEach (IsBody classes) coded (map body_of code) → AllByRecursion (IsTyped classes) code → AreTyped place coded
  code_typed place [] code are typed = tt
  code_typed place (c ∷ coded) [] are typed = absurd are
  code_typed place (c ∷ coded) (x ∷ code) are typed = (HasBody x.body are.0 (x.table, typed.0.right), code_typed (suc place) coded code are.1 typed.1)

  pub typing_of : Gathers classes None → Typing classes None → AreTyped 0 (coded_methods classes)
  typing_of closed (IsClosed also types) = types
  typing_of closed (IsOpen none e) = absurd (none closed)
