-- Tests of subclasses and of access, as the definitions of the uses of members ask for them.
use Rattle.std.proofs.Common.{◌≡◌, ◌↔◌, ℕ, Bool, true, false, refl, sym, List}
use Rattle.std.specs.Prelude.{MatchBool}
use Rattle.class_pool.specs.declared.types.MemberId.{MemberId}
use Rattle.class_file.specs.declared.record.ClassFile.{ClassFile}
use Rattle.class_tree.specs.Subtypes.{IsSubclass}
use Rattle.class_tree.specs.Access.{IsAllowed}
use Rattle.class_tree.specs.AccessTests.{is_subclass, is_allowed}
use Rattle.class_tree.proofs.lookups.TestedAccess.{subclass_says, allowed_says}

-- what is true exactly where the relation holds is the test
same_test : {P : Type 0} (found test : Bool) → MatchBool found P (P → ⊥) → (test ≡ true) ↔ P → found ≡ test
same_test true test is says = sym (says.1 is)
same_test false true not says = absurd (not (says.0 refl))
same_test false false not says = refl

pub tested_subclass : (files : List ClassFile) (lower upper : ℕ) (found : Bool) → MatchBool found (IsSubclass files lower upper) (IsSubclass files lower upper → ⊥) → found ≡ is_subclass files lower upper
tested_subclass files lower upper found match = same_test found (is_subclass files lower upper) match (subclass_says files lower upper)

pub tested_allowed : (files : List ClassFile) (from : ℕ) (id : MemberId) (field found : Bool) → MatchBool found (IsAllowed files from id field) (IsAllowed files from id field → ⊥) → found ≡ is_allowed files from field id
tested_allowed files from id field found match = same_test found (is_allowed files from field id) match (allowed_says files from id field)
