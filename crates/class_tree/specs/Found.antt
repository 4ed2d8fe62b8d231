-- What lookups find are members of the set.
use Rattle.std.specs.Prelude.{◌≡◌, ℕ, true, false, List, Some}
use Rattle.class_pool.specs.declared.types.MemberId.{MemberId}
use Rattle.class_file.specs.declared.record.ClassFile.{ClassFile}
use Rattle.class_tree.specs.Members.{IsMember}
use Rattle.class_tree.specs.FieldLookup.{find_field}
use Rattle.class_tree.specs.MethodLookup.{find_method}
use Rattle.class_tree.specs.InterfaceLookup.{find_interface_method}
use Rattle.class_tree.specs.Selection.{select}
use Rattle.class_tree.specs.Overriding.{overridden}

-- the fields, and the methods, that are found for a name and a descriptor from a class on
pub record AreMembers (files : List ClassFile) (name descriptor : List ℕ) (class : ℕ) (id : MemberId) : Type 0 where
  pub field : find_field files name descriptor class ≡ Some id → IsMember files true id
  pub method : find_method files name descriptor class ≡ Some id → IsMember files false id
  pub interface_method : find_interface_method files name descriptor class ≡ Some id → IsMember files false id
  pub selected : select files name descriptor class ≡ Some id → IsMember files false id
  pub overridden_one : overridden files name descriptor class ≡ Some id → IsMember files false id
