-- What is above a class by each way up, and where lookups that go up end.
use Rattle.std.proofs.Common.{◌≡◌, inl, inr, ℕ, zero, suc, true, false, List, [], ◌∷◌, map, Option, Some, None, refl, sym, ap, subst, ◌∙◌, arith}
use Rattle.std.specs.List.{AllByRecursion, Contains}
use Rattle.std.specs.Option.{option_or, option_to_list}
use Rattle.class_pool.specs.declared.types.MemberId.{MemberId}
use Rattle.class_file.specs.declared.record.ClassFile.{ClassFile}
use Rattle.class_file.specs.Rules.{is_interface}
use Rattle.class_tree.specs.Set.{own_name, flags_of, IsClass}
use Rattle.class_tree.specs.Closure.{AtOnce}
use Rattle.class_tree.specs.Subtypes.{directly_below, IsSubclass}
use Rattle.class_tree.specs.AccessTests.{is_subclass}
use Rattle.class_tree.specs.Tree.{Gathers}
use Rattle.class_tree.specs.InterfaceLookup.{object}
use Rattle.class_tree.specs.DirectSupers.{superclass_of, superclasses_of, superinterfaces_of, all_supers_of}
use Rattle.class_tree.specs.Upwards.{first_answer, first_upwards}
use Rattle.class_tree.specs.MethodLookup.{first_in_superclasses}
use Rattle.class_tree.proofs.lookups.Climbing.{answer_one, all_append}
use Rattle.class_tree.proofs.ancestors.Forest.{Same, Over, step, last}
use Rattle.class_tree.proofs.ancestors.Leading.{follows}
use Rattle.class_tree.proofs.lookups.TestedAccess.{subclass_says}
use Rattle.class_tree.proofs.ancestors.Superclasses.{IsRanked}
use Rattle.class_tree.proofs.ancestors.SupersAbove.{superclasses_above, superinterfaces_above}
use Rattle.class_tree.proofs.ancestors.CommonSuper.{Above}
use Rattle.class_tree.proofs.merging.SubtypeFits.{interface_super, by_supers}
use Rattle.class_tree.proofs.lookups.LookupRules.{superclasses_ruled}
use Rattle.type_safety.proofs.fitting.SetLists.{none_some, all_contained, in_head, in_tail, false_is_true}

-- ---- ways up

-- a class leads to another one by classes above each
pub data Way (above : ℕ → List ℕ) : ℕ → ℕ → Type 0 where
  Here : {class : ℕ} → Way above class class
  Higher : {class at : ℕ} (by : ℕ) → Contains (above class) by → Way above by at → Way above class at

-- what answers along a list, or on the way up
pub record AnswersIn {X : Type 0} (own : ℕ → Option X) (classes : List ℕ) (x : X) : Type 0 where
  pub at : ℕ
  pub there : Contains classes at
  pub is : own at ≡ Some x

pub record AnswersUp {X : Type 0} (above : ℕ → List ℕ) (own : ℕ → Option X) (class : ℕ) (x : X) : Type 0 where
  pub at : ℕ
  pub way : Way above class at
  pub is : own at ≡ Some x

pub or_some : {X C : Type 0} (first second : Option X) (x : X) → option_or first second ≡ Some x → (first ≡ Some x → C) → (second ≡ Some x → C) → C
or_some None second x e one other = other e
or_some (Some y) second x e one other = one e

module _ {X : Type 0} where
  pub in_list : (own : ℕ → Option X) (classes : List ℕ) (x : X) → first_answer own classes ≡ Some x → AnswersIn own classes x
  unfolding first_answer
  in_list own [] x e = none_some x e
  in_list own (class ∷ classes) x e =
      or_some (own class) (first_answer own classes) x e (λ is. record { at = class; there = in_head class classes; is = is })
      (λ later. let rest = in_list own classes x later in record { at = rest.at; there = in_tail class rest.at classes rest.there; is = rest.is })

  pub up_found : (above : ℕ → List ℕ) (own : ℕ → Option X) (levels class : ℕ) (x : X) → first_upwards above own levels class ≡ Some x → AnswersUp above own class x
  unfolding first_upwards
  up_found above own zero class x e = none_some x e
  up_found above own (suc levels) class x e =
      or_some (own class) (first_answer (first_upwards above own levels) (above class)) x e (λ is. record { at = class; way = Here; is = is })
      (λ later.
      let first = in_list (first_upwards above own levels) (above class) x later in
      let rest = up_found above own levels first.at x first.is in
      record { at = rest.at; way = Higher first.at first.there rest.way; is = rest.is })

module _ (files : List ClassFile) where
  names : List (List ℕ)
  names = map own_name files

  pub class_over : (lower by upper : ℕ) → IsSubclass files lower by → IsSubclass files by upper → IsSubclass files lower upper
  class_over lower by upper (inl same) second = subst (λ (c : ℕ). IsSubclass files c upper) (sym same) second
  class_over lower by upper (inr first) (inl same) = subst (λ (c : ℕ). IsSubclass files lower c) same (inr first)
  class_over lower by upper (inr first) (inr second) = inr (follows (directly_below files) lower by upper first second)

  -- a way by classes directly above leads to what is above
  abbrev LiesAbove : (ℕ → List ℕ) → Type 0
  LiesAbove above = (class : ℕ) → AllByRecursion (λ upper. directly_below files class upper ≡ true) (above class)

  pub way_leads : (above : ℕ → List ℕ) → LiesAbove above → (class at : ℕ) → Way above class at → IsSubclass files class at
  way_leads above lies class at Here = inl refl
  way_leads above lies class at (Higher by there rest) =
      let first : directly_below files class by ≡ true = all_contained (λ upper. directly_below files class upper ≡ true) (above class) (lies class) by there in
      class_over class by at (inr (AtOnce first)) (way_leads above lies by at rest)

  pub supers_lie : LiesAbove (superclasses_of files)
  unfolding names
  supers_lie class = superclasses_above (map own_name files) files class

  pub interfaces_lie : LiesAbove (superinterfaces_of files)
  interfaces_lie class = superinterfaces_above (map own_name files) files class

  pub all_lie : LiesAbove (all_supers_of files)
  all_lie class = all_append (λ upper. directly_below files class upper ≡ true) (superinterfaces_of files class) (superclasses_of files class) (interfaces_lie class) (supers_lie class)

  -- by superclasses
  super_of : (o : Option ℕ) (by : ℕ) → Contains (option_to_list o) by → o ≡ Some by
  super_of None by (k, within, is) = absurd (omega (arith, within))
  super_of (Some n) by (zero, within, is) = ap (λ (m : ℕ). Some m) is
  super_of (Some n) by (suc k, within, is) = absurd (omega (arith, within))

  pub way_above : (class at : ℕ) → Way (superclasses_of files) class at → Above files class at
  way_above class at Here = Same
  way_above class at (Higher by there rest) = Over by (super_of (superclass_of files class) by there) (way_above by at rest)

  -- ---- tests

  pub subclass_test : (lower upper : ℕ) → IsSubclass files lower upper → is_subclass files lower upper ≡ true
  subclass_test lower upper h = (subclass_says files lower upper).1 h

  pub subclass_is : (lower upper : ℕ) → is_subclass files lower upper ≡ true → IsSubclass files lower upper
  subclass_is lower upper e = (subclass_says files lower upper).0 e

  module _ (gathers : Gathers files None) (rank : ℕ → ℕ) (is : IsRanked files rank) where
    -- what is above a class and no interface is a superclass
    pub no_interface_above : (class upper : ℕ) → IsClass files class → IsSubclass files class upper → is_interface (flags_of files upper) ≡ false → Above files class upper
    no_interface_above class upper inside (inl same) never = subst (Above files class) same Same
    no_interface_above class upper inside (inr leads) never = by_supers files gathers rank is class upper inside leads never

    -- nothing but java/lang/Object is above an interface and no interface
    pub over_interface : (class upper : ℕ) → IsClass files class → IsSubclass files class upper → is_interface (flags_of files upper) ≡ false → is_interface (flags_of files class) ≡ true → upper ≡ 0
    over_interface class upper inside below never interface =
        elim (step (superclass_of files) class object upper (interface_super files gathers class inside interface) (no_interface_above class upper inside below never)) [
          | inl same ↦ false_is_true (is_interface (flags_of files class)) interface (ap (λ (c : ℕ). is_interface (flags_of files c)) same ∙ never)
          | inr way ↦ sym (last (superclass_of files) object upper refl way)
        ]

    -- what a superclass answers is answered from a class on
    pub answered : (own : ℕ → Option MemberId) (class at : ℕ) (id : MemberId) → Above files class at → own at ≡ Some id → (found : MemberId) × (first_in_superclasses files own class ≡ Some found)
    answered own class at id Same has = (id, (superclasses_ruled files gathers own).keeps class ∙ ap (λ o. option_or o (first_answer (first_in_superclasses files own) (superclasses_of files class))) has)
    answered own class at id (Over by super rest) has =
        let above = answered own by at id rest has in
        let rule : first_in_superclasses files own class ≡ option_or (own class) (first_in_superclasses files own by) =
        (superclasses_ruled files gathers own).keeps class ∙ ap (λ (o : Option ℕ). option_or (own class) (first_answer (first_in_superclasses files own) (option_to_list o))) super ∙ ap (option_or (own class)) (answer_one (first_in_superclasses files own) by) in
        either (own class) (first_in_superclasses files own by) (first_in_superclasses files own class) rule above.0 above.1
      where
        either : (first second whole : Option MemberId) → whole ≡ option_or first second → (found : MemberId) → second ≡ Some found → (other : MemberId) × (whole ≡ Some other)
        either None second whole rule found there = (found, rule ∙ there)
        either (Some other) second whole rule found there = (other, rule)
