-- A call of a constructor that is typed names a class that is no interface.
use Rattle.std.proofs.Common.{◌≡◌, ◌⊎◌, inl, inr, ℕ, ◌+◌, ◌-◌, ◌≤◌, Bool, true, false, ◌&&◌, ◌||◌, not, nat_eq, List, [], ◌∷◌, length, map, drop, slice_get, Option, Some, None, option_and_then, refl, sym, ap, subst, ◌∙◌, arith, eqb-true}
use Rattle.std.specs.Prelude.{if◌then◌else◌}
use Rattle.std.specs.Str.{bytes_eq}
use Rattle.std.proofs.lemmas.Bool.{and_parts}
use Rattle.class_pool.specs.declared.types.TypeRef.{TypeRef}
use Rattle.class_pool.specs.declared.types.TypeBase.{TypeBase}
use Rattle.class_pool.specs.declared.types.TypeBase.TheVariants as base
use Rattle.class_file.specs.declared.record.ClassFile.{ClassFile}
use Rattle.class_file.specs.Rules.{is_interface}
use Rattle.body_form.specs.declared.body.Body.{Body}
use Rattle.body_form.specs.declared.op.MethodUse.{MethodUse}
use Rattle.body_form.specs.declared.op.Op.{Op}
use Rattle.body_form.specs.declared.op.Op.TheVariants as op
use Rattle.body_form.specs.declared.types.VFrame.{VFrame}
use Rattle.body_form.specs.declared.types.VType.{VType}
use Rattle.body_form.specs.declared.types.VType.TheVariants as known
use Rattle.class_tree.specs.declared.refusal.TreeRefusal.{TreeRefusal}
use Rattle.class_tree.specs.declared.refusal.TreeRefusal.TheVariants.{MissingClass, BadSuper}
use Rattle.class_tree.specs.Set.{own_name, flags_of, named_among}
use Rattle.class_tree.specs.Supers.{lacks_super, has_bad_super, is_bad_superclass, super_fault, supers_refusal}
use Rattle.class_tree.specs.Tree.{Gathers}
use Rattle.class_tree.specs.DirectSupers.{superclass_of}
use Rattle.class_tree.proofs.ancestors.Superclasses.{super_by_file, passed}
use Rattle.jvm_model.specs.MethodUses.{constructor_name}
use Rattle.jvm_model.specs.TypesRules.{Change, op_at, is_last, makes_class, is_base_class, is_own_or_super, construct_on, construct, takes, argument_tests, change_of, changed, frame_after, is_within, where_within}
use Rattle.type_safety.proofs.fitting.SetLists.{none_some, same_some}

-- ---- a superclass is no interface

module _ (files : List ClassFile) (gathers : Gathers files None) where
  abbrev names : List (List ℕ)
  names = map own_name files

  then_none : (b : Bool) (why : TreeRefusal) (other : Option TreeRefusal) → (if b then Some why else other) ≡ None → other ≡ None
  then_none false why other e = e
  then_none true why other e = absurd (let bad : Some why ≡ None = e in cc)

  no_fault : (b : Bool) (why : TreeRefusal) → (if b then Some why else None) ≡ None → b ≡ false
  no_fault false why e = refl
  no_fault true why e = absurd (let bad : Some why ≡ None = e in cc)

  first_false : (a b : Bool) → (a || b) ≡ false → a ≡ false
  first_false true b e = e
  first_false false b e = refl

  good_super : (file : ClassFile) (o : Option ℕ) (upper : ℕ) → o ≡ Some upper → is_bad_superclass files file o ≡ false → is_interface (flags_of files upper) ≡ false
  good_super file None upper e bad = none_some upper e
  good_super file (Some n) upper e bad = subst (λ (m : ℕ). is_interface (flags_of files m) ≡ false) (same_some n upper e) (first_false (is_interface (flags_of files n)) _ bad)

  pub super_no_interface : (class upper : ℕ) → 32 ≤ class → (file : ClassFile) → slice_get files (class - 32) ≡ Some file → superclass_of files class ≡ Some upper → is_interface (flags_of files upper) ≡ false
  super_no_interface class upper own file is e =
      let position = class - 32 in
      let start : 0 + position ≡ position = omega arith in
      let none : supers_refusal names files ≡ None = sym gathers.1.1.0 in
      let accepted : super_fault names files position file ≡ None = ap (λ n. super_fault names files n file) (sym start) ∙ passed (super_fault names files) 0 files none position file is in
      let good : has_bad_super names files file ≡ false = no_fault (has_bad_super names files file) (BadSuper position) (then_none (lacks_super names file) (MissingClass position 0 0) _ accepted) in
      let super : named_among names file file.super_class ≡ Some upper = sym (ap (option_and_then (λ (f : ClassFile). named_among names f f.super_class)) is) ∙ sym (super_by_file files class own) ∙ e in
      good_super file (named_among names file file.super_class) upper super (first_false (is_bad_superclass files file (named_among names file file.super_class)) _ good)

-- ---- the rule of invokespecial

where_true : {X : Type 0} (b : Bool) (o : Option X) (x : X) → (if b then o else None) ≡ Some x → o ≡ Some x
where_true true o x e = e
where_true false o x e = none_some x e

first_there : {X Y : Type 0} (next : X → Option Y) (o : Option X) (y : Y) → option_and_then next o ≡ Some y → (x : X) × (o ≡ Some x)
first_there next None y e = none_some y e
first_there next (Some x) y e = (x, refl)

test_true : {X : Type 0} (b : Bool) (o : Option X) (x : X) → (if b then o else None) ≡ Some x → b ≡ true
test_true true o x e = refl
test_true false o x e = none_some x e

branch_true : {X : Type 0} (b : Bool) (x y : Option X) (z : X) → b ≡ true → (if b then x else y) ≡ Some z → x ≡ Some z
branch_true true x y z h e = e
branch_true false x y z h e = absurd (let bad : false ≡ true = h in cc)

-- what is constructed is an object that is made as one of the class, or this object
abbrev pub Constructs : List ClassFile → Body → MethodUse → Type 0
Constructs files body used = ((pc : ℕ) × (makes_class used.class (op_at body.ops pc) ≡ true)) ⊎ (is_own_or_super files body.class used.class ≡ true)

on_stack : (files : List ClassFile) (body : Body) (frame : VFrame) (used : MethodUse) (stack : List VType) (change : Change) → construct_on files body frame used stack ≡ Some change → Constructs files body used
on_stack files body frame used [] change e = none_some change e
on_stack files body frame used (known.Top ∷ stack) change e = none_some change e
on_stack files body frame used (known.Int ∷ stack) change e = none_some change e
on_stack files body frame used (known.Null ∷ stack) change e = none_some change e
on_stack files body frame used (known.Ref type ∷ stack) change e = none_some change e
on_stack files body frame used (known.New pc ∷ stack) change e = inl (pc, test_true (makes_class used.class (op_at body.ops pc)) _ change e)
on_stack files body frame used (known.This ∷ stack) change e = inr (test_true (is_own_or_super files body.class used.class) _ change e)

pub constructs : (files : List ClassFile) (body : Body) (pc : ℕ) (used : MethodUse) (frame after : VFrame) → bytes_eq used.name constructor_name ≡ true → frame_after files body pc (op.CallSpecial used) frame ≡ Some after → Constructs files body used
constructs files body pc used frame after named e =
    let changes = first_there (λ change. where_within body (changed change frame)) (change_of files body pc (op.CallSpecial used) frame) after (where_true (is_within body frame && not (true && is_last body.ops pc)) _ after e) in
    let made : construct files body frame used ≡ Some changes.0 = branch_true (bytes_eq used.name constructor_name) (construct files body frame used) _ changes.0 named changes.1 in
    on_stack files body frame used (drop (length used.descriptor.params) frame.stack) changes.0 (where_true (takes (argument_tests files used) frame.stack) _ changes.0 made)

-- the class of an instruction that makes an object
pub made_class : (class : ℕ) (o : Option Op) → makes_class class o ≡ true → (type : TypeRef) × (o ≡ Some (op.New type)) × (type.base ≡ base.Class class)
made_class class None e = absurd (let bad : false ≡ true = e in cc)
made_class class (Some (op.New type)) e = (type, refl, of_base type.base (and_parts (nat_eq type.dims 0) (is_base_class class type.base) e).1)
  where
    of_base : (of : TypeBase) → is_base_class class of ≡ true → of ≡ base.Class class
    of_base (base.Class other) h = ap base.Class (sym (eqb-true class other h))
    of_base _ h = absurd (let bad : false ≡ true = h in cc)
made_class class (Some _) e = absurd (let bad : false ≡ true = e in cc)
