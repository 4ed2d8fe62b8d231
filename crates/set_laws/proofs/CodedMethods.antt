-- Methods with code stand in classes of the set, and their instructions in order.
use Rattle.std.proofs.Common.{◌≡◌, inr, ℕ, suc, ◌+◌, ◌≤◌, Bool, true, false, List, [], ◌∷◌, ◌++◌, length, Option, Some, None, option_map, option_and_then, refl, subst, arith}
use Rattle.std.specs.Prelude.{Result, Ok, Err, if◌then◌else◌}
use Rattle.std.specs.List.{AllByRecursion}
use Rattle.std.specs.Option.{option_to_list}
use Rattle.std.proofs.lemmas.Option.{none-some, same_Some}
use Rattle.class_file.specs.declared.record.ClassFile.{ClassFile}
use Rattle.class_file.specs.declared.record.CodeAttr.{CodeAttr}
use Rattle.class_file.specs.declared.record.Member.{Member}
use Rattle.class_code.specs.declared.refusal.CodeRefusal.{CodeRefusal}
use Rattle.class_code.specs.Code.{Insns, RiseFrom, first_astray, unless_astray, with_targets, insns_of, decoded}
use Rattle.class_code.proofs.Laws.{reads-rise}
use Rattle.class_tree.specs.Set.{IsClass}
use Rattle.jvm_model.specs.CodeInsns.{insns_in}
use Rattle.jvm_model.specs.Linking.{is_initialiser}
use Rattle.jvm_model.specs.Bodies.{Coded, coded_of, coded_from, coded_in, coded_methods}

-- a method with code, as it stands
pub record StandsIn (files : List ClassFile) (coded : Coded) : Type 0 where
  pub class : IsClass files coded.class
  pub rise : RiseFrom 0 coded.insns

all_append : {X : Type 0} (P : X → Type 0) (xs ys : List X) → AllByRecursion P xs → AllByRecursion P ys → AllByRecursion P (xs ++ ys)
all_append P [] ys p q = q
all_append P (x ∷ xs) ys p q = (p.0, all_append P xs ys p.1 q)

-- ---- instructions rise

found_rise : (code : List ℕ) (read : Result Insns CodeRefusal) → insns_of 0 code ≡ read → (insns : Insns) → insns_in (with_targets read) ≡ Some insns → RiseFrom 0 insns
found_rise code (Err why) e insns is = absurd (none-some insns is)
found_rise code (Ok list) e insns is = by_targets (first_astray list) is
  where
    by_targets : (astray : Option ℕ) → insns_in (unless_astray list astray) ≡ Some insns → RiseFrom 0 insns
    by_targets None same = subst (RiseFrom 0) (same_Some list insns same) (reads-rise code list e)
    by_targets (Some pc) same = absurd (none-some insns same)

module _ (files : List ClassFile) where
  -- a method of a class of the set
  one_stands : (class : ℕ) → IsClass files class → (file : ClassFile) (position : ℕ) (m : Member) → AllByRecursion (StandsIn files) (option_to_list (coded_of class file position m))
  one_stands class is file position m = by_name (is_initialiser file.pool m) m.code
    where
      made : CodeAttr → Insns → Coded
      made code insns = record { class = class; file = file; position = position; method = m; code = code; insns = insns }

      by_insns : (code : CodeAttr) (found : Option Insns) → insns_in (decoded code.code) ≡ found → AllByRecursion (StandsIn files) (option_to_list (option_map (made code) found))
      by_insns code None e = tt
      by_insns code (Some insns) e = (record { class = is; rise = found_rise code.code (insns_of 0 code.code) refl insns e }, tt)

      by_name : (skipped : Bool) (code : Option CodeAttr)
          → AllByRecursion (StandsIn files) (option_to_list (if skipped then None else option_and_then (λ c. option_map (made c) (insns_in (decoded c.code))) code))
      by_name true code = tt
      by_name false None = tt
      by_name false (Some code) = by_insns code (insns_in (decoded code.code)) refl

  from_stand : (class : ℕ) → IsClass files class → (file : ClassFile) (position : ℕ) (methods : List Member) → AllByRecursion (StandsIn files) (coded_from class file position methods)
  unfolding coded_from
  from_stand class is file position [] = tt
  from_stand class is file position (m ∷ methods) =
      all_append (StandsIn files) (option_to_list (coded_of class file position m)) (coded_from class file (suc position) methods) (one_stands class is file position m) (from_stand class is file (suc position) methods)

  in_stand : (class : ℕ) (rest : List ClassFile) → 32 ≤ class → class + length rest ≡ 32 + length files → AllByRecursion (StandsIn files) (coded_in class rest)
  unfolding coded_in
  in_stand class [] le e = tt
  in_stand class (file ∷ rest) le e =
      all_append (StandsIn files) (coded_from class file 0 file.methods) (coded_in (suc class) rest)
      (from_stand class (inr (le, omega (arith, le, e))) file 0 file.methods) (in_stand (suc class) rest (omega (arith, le)) (omega (arith, e)))

  pub methods_stand : AllByRecursion (StandsIn files) (coded_methods files)
  methods_stand = in_stand 32 files (omega arith) refl
