-- Each body of a set stands in a class of it, and its control stays within it.
use Rattle.std.proofs.Common.{◌≡◌, inr, ℕ, ◌-◌, ◌<◌, List, length, Option, Some, None, Result, Ok, Err, refl, ap, subst}
use Rattle.std.specs.List.{AllByRecursion}
use Rattle.std.proofs.lemmas.Option.{slice_get_within}
use Rattle.class_file.specs.declared.record.ClassFile.{ClassFile}
use Rattle.class_code.specs.declared.refusal.CodeRefusal.{CodeRefusal}
use Rattle.class_code.specs.Code.{Insns, IsCode, HandlerFits, RiseFrom, first_astray, unless_astray, insns_of, with_targets, decoded}
use Rattle.class_code.specs.Flow.{code_ways}
use Rattle.class_code.proofs.Laws.{reads-rise, code-found}
use Rattle.class_tree.specs.Set.{IsClass}
use Rattle.body_form.specs.declared.body.Body.{Body}
use Rattle.jvm_model.specs.Bodies.{Coded, IsBody}
use Rattle.jvm_model.specs.CodeInsns.{insns_in}
use Rattle.jvm_model.specs.TypesNames.{IsOfSet}
use Rattle.jvm_model.proofs.bodies.BodyNames.{of_set}
use Rattle.type_safety.proofs.fitting.SetLists.{none_some, same_some, all_at}
use Rattle.type_safety.proofs.facts.ReadRules.{MethodRules}
use Rattle.type_safety.proofs.facts.CodeRead.{FitsMethod, IsRead}
use Rattle.type_safety.proofs.facts.CodedBodies.{StandsAs}
use Rattle.type_safety.proofs.facts.Control.{GoesWithin, goes_within}

-- ---- instructions

-- what was decoded
pub in_some : (read : Result Insns CodeRefusal) (list : Insns) → insns_in read ≡ Some list → read ≡ Ok list
in_some (Ok found) list e = ap (λ (l : Insns). Ok l) (same_some found list e)
in_some (Err why) list e = none_some list e

rises : (code : List ℕ) (read : Result Insns CodeRefusal) (list : Insns) → insns_of 0 code ≡ read → with_targets read ≡ Ok list → RiseFrom 0 list
rises code (Err why) list is e = absurd (let bad : Err why ≡ Ok list = e in cc)
rises code (Ok found) list is e = by_targets (first_astray found) e
  where
    by_targets : (astray : Option ℕ) → unless_astray found astray ≡ Ok list → RiseFrom 0 list
    by_targets None same = let equal : found ≡ list = cc in subst (RiseFrom 0) equal (reads-rise code found is)
    by_targets (Some pc) same = absurd (let bad : _ = same in cc)

-- ---- bodies

module _ (files : List ClassFile) (read : AllByRecursion IsRead files) where
  -- the code of a method that stands
  pub record CodeOf (coded : Coded) : Type 0 where
    pub is : IsCode coded.code.code coded.insns
    pub rise : RiseFrom 0 coded.insns
    pub some : 0 < length coded.code.code
    pub few : length coded.code.code < 65536
    pub rows : AllByRecursion (HandlerFits coded.insns (length coded.code.code)) coded.code.handlers

  same_list : (a b : Insns) (r : Result Insns CodeRefusal) → r ≡ Ok a → r ≡ Ok b → a ≡ b
  same_list a b r e f = cc

  pub code_of : (coded : Coded) → StandsAs files coded → CodeOf coded
  code_of coded stands =
      let file = all_at IsRead files read (coded.class - 32) coded.file stands.file in
      let fits = all_at FitsMethod coded.file.methods file.codes coded.position coded.method stands.method coded.code stands.code in
      let rules = all_at (MethodRules coded.file.flags coded.file.pool) coded.file.methods file.rules.methods coded.position coded.method stands.method in
      let is : decoded coded.code.code ≡ Ok coded.insns = in_some (decoded coded.code.code) coded.insns stands.insns in
      record {
        is = code-found coded.code.code coded.insns is;
        rise = rises coded.code.code (insns_of 0 coded.code.code) coded.insns refl is;
        some = (rules.has_bytes coded.code stands.code).0;
        few = (rules.has_bytes coded.code stands.code).1;
        rows = subst (λ (l : Insns). AllByRecursion (HandlerFits l (length coded.code.code)) coded.code.handlers) (same_list fits.insns coded.insns (decoded coded.code.code) fits.is is) fits.rows;
      }

  pub class_there : (coded : Coded) → StandsAs files coded → IsClass files coded.class
  class_there coded stands = inr (stands.own, slice_get_within files (coded.class - 32) coded.file stands.file)

  pub stands_of_set : (coded : Coded) (body : Body) → StandsAs files coded → IsBody files coded body → IsOfSet files body
  stands_of_set coded body stands is = of_set files coded body (class_there coded stands) (code_of coded stands).rise is

  pub stays_within : (coded : Coded) (body : Body) → StandsAs files coded → IsBody files coded body → GoesWithin body
  stays_within coded body stands is =
      let code = code_of coded stands in
      goes_within files coded.class coded.file.pool (code_ways coded.code.handlers coded.insns) coded.code coded.insns body code.some code.is code.rows is.ops is.handlers
