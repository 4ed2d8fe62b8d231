-- What a set keeps beside its files: their names, the table of which classes are above which, the ways that
-- lookups go, and the indexes of fields and of methods.
use Rattle.std.specs.Prelude.{◌≡◌, ℕ, ◌+◌, ◌≤◌, Bool, List, length, map}
use Rattle.class_file.specs.declared.record.ClassFile.{ClassFile}
use Rattle.class_tree.specs.Set.{own_name, is_directly_below}
use Rattle.class_tree.specs.Closure.{IsClosure}
use Rattle.class_tree.specs.Members.{fields_of, methods_of}
use Rattle.class_tree.specs.LookupWays.{AreLookupWays}
use Rattle.class_tree.specs.declared.member_index.MemberIndex.{MemberIndex}
use Rattle.class_tree.specs.MemberIndex.{own_fields, own_methods, AreIndexes}

-- the positions of members fit their field
pub record ArePositions (files : List ClassFile) : Type 0 where
  pub fields : (class : ℕ) → length (fields_of files class) ≤ 65535
  pub methods : (class : ℕ) → length (methods_of files class) ≤ 65535

pub record IsKept (files : List ClassFile) (names : List (List ℕ)) (above : List (List Bool)) (both superclasses superinterfaces beside : List (List ℕ)) (fields methods : List MemberIndex) : Type 0 where
  pub count : length files ≤ 512
  pub named : names ≡ map own_name files
  pub table : IsClosure (is_directly_below names files) (32 + length names) above
  pub ways : AreLookupWays files both superclasses superinterfaces beside
  pub positions : ArePositions files
  pub field_indexes : AreIndexes own_fields files fields
  pub method_indexes : AreIndexes own_methods files methods
