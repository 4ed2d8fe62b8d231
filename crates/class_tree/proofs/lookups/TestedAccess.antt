-- The tests of subclasses and of access answer what the relations say.
use Rattle.std.proofs.Common.{◌≡◌, ◌↔◌, ℕ, ◌+◌, ◌<◌, Bool, true, ◌&&◌, ◌||◌, nat_eq, inl, inr, List, length, map, refl, sym, ◌∙◌, arith, eq-eqb, eqb-true}
use Rattle.std.proofs.lemmas.List.{length-map}
use Rattle.class_pool.specs.declared.types.MemberId.{MemberId}
use Rattle.class_file.specs.declared.record.ClassFile.{ClassFile}
use Rattle.class_file.specs.Rules.{is_public, is_private, is_protected}
use Rattle.class_tree.specs.Closure.{StaysBelow, leads_over}
use Rattle.class_tree.specs.Set.{own_name}
use Rattle.class_tree.specs.Subtypes.{directly_below, IsSubclass}
use Rattle.class_tree.specs.DirectSupers.{class_count}
use Rattle.class_tree.specs.Members.{member_flags}
use Rattle.class_tree.specs.Access.{is_package_private, is_same_package, MayUse, Public, Inherited, InPackage, Own, IsAllowed}
use Rattle.class_tree.specs.AccessTests.{is_subclass, may_use, is_allowed}
use Rattle.class_tree.proofs.ancestors.Leading.{or_cases, or_left, or_right, and_both, and_cases, sound, complete}
use Rattle.class_tree.proofs.tables.Within.{stays_below}

-- ---- subclasses

stays : (files : List ClassFile) → StaysBelow (class_count files) (directly_below files)
stays files from to e = let lt : to < 32 + length (map own_name files) = stays_below (map own_name files) files from to e in omega (arith, lt, length-map files own_name)

subclass_true : (files : List ClassFile) (lower upper : ℕ) → is_subclass files lower upper ≡ true → IsSubclass files lower upper
subclass_true files lower upper e =
    elim (or_cases (nat_eq lower upper) (leads_over (directly_below files) (class_count files) lower upper) e) [
      | inl same ↦ inl (eqb-true lower upper same)
      | inr leads ↦ inr (sound (directly_below files) (class_count files) lower upper leads)
    ]

is_subclass_true : (files : List ClassFile) (lower upper : ℕ) → IsSubclass files lower upper → is_subclass files lower upper ≡ true
is_subclass_true files lower upper (inl same) = or_left (nat_eq lower upper) (leads_over (directly_below files) (class_count files) lower upper) (eq-eqb lower upper same)
is_subclass_true files lower upper (inr leads) =
    or_right (nat_eq lower upper) (leads_over (directly_below files) (class_count files) lower upper) (complete (directly_below files) (class_count files) lower upper (stays files) leads)

pub subclass_says : (files : List ClassFile) (lower upper : ℕ) → (is_subclass files lower upper ≡ true) ↔ IsSubclass files lower upper
subclass_says files lower upper = (subclass_true files lower upper, is_subclass_true files lower upper)

-- ---- access

module _ (files : List ClassFile) (from class flags : ℕ) where
  inherited : Bool
  inherited = is_protected flags && is_subclass files from class

  in_package : Bool
  in_package = (is_protected flags || is_package_private flags) && is_same_package files from class

  own : Bool
  own = is_private flags && nat_eq from class

  by_own : own ≡ true → MayUse files from class flags
  unfolding own
  by_own e = let both = and_cases (is_private flags) (nat_eq from class) e in Own both.0 (eqb-true from class both.1)

  by_package : in_package ≡ true → MayUse files from class flags
  unfolding in_package
  by_package e = let both = and_cases (is_protected flags || is_package_private flags) (is_same_package files from class) e in InPackage both.0 both.1

  by_class : inherited ≡ true → MayUse files from class flags
  unfolding inherited
  by_class e = let both = and_cases (is_protected flags) (is_subclass files from class) e in Inherited both.0 (subclass_true files from class both.1)

  is_one_of : may_use files from class flags ≡ (is_public flags || (inherited || (in_package || own)))
  unfolding inherited in_package own
  is_one_of = refl

  use_true : may_use files from class flags ≡ true → MayUse files from class flags
  use_true e =
      elim (or_cases (is_public flags) (inherited || (in_package || own)) (sym is_one_of ∙ e)) [
        | inl public ↦ Public public
        | inr rest ↦ elim (or_cases inherited (in_package || own) rest) [
          | inl here ↦ by_class here
          | inr last ↦ elim (or_cases in_package own last) [ inl here ↦ by_package here | inr here ↦ by_own here ]
        ]
      ]

  may_use_true : MayUse files from class flags → may_use files from class flags ≡ true
  unfolding inherited in_package own
  may_use_true (Public e) = or_left (is_public flags) (inherited || (in_package || own)) e
  may_use_true (Inherited e below) =
      or_right (is_public flags) (inherited || (in_package || own)) (or_left inherited (in_package || own) (and_both (is_protected flags) (is_subclass files from class) e (is_subclass_true files from class below)))
  may_use_true (InPackage e same) =
      or_right (is_public flags) (inherited || (in_package || own))
      (or_right inherited (in_package || own) (or_left in_package own (and_both (is_protected flags || is_package_private flags) (is_same_package files from class) e same)))
  may_use_true (Own e same) =
      or_right (is_public flags) (inherited || (in_package || own))
      (or_right inherited (in_package || own) (or_right in_package own (and_both (is_private flags) (nat_eq from class) e (eq-eqb from class same))))

pub allowed_says : (files : List ClassFile) (from : ℕ) (id : MemberId) (field : Bool) → (is_allowed files from field id ≡ true) ↔ IsAllowed files from id field
allowed_says files from id field = (use_true files from id.class (member_flags files field id), may_use_true files from id.class (member_flags files field id))
