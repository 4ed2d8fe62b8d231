-- Subclasses and access as tests, which answer what the relations say.
use Rattle.std.specs.Prelude.{ℕ, Bool, ◌&&◌, ◌||◌, nat_eq, List}
use Rattle.class_pool.specs.declared.types.MemberId.{MemberId}
use Rattle.class_file.specs.declared.record.ClassFile.{ClassFile}
use Rattle.class_file.specs.Rules.{is_public, is_private, is_protected}
use Rattle.class_tree.specs.Closure.{leads_over}
use Rattle.class_tree.specs.Subtypes.{directly_below}
use Rattle.class_tree.specs.DirectSupers.{class_count}
use Rattle.class_tree.specs.Members.{member_flags}
use Rattle.class_tree.specs.Access.{is_package_private, is_same_package}

-- one class is another one, or is below it
abbrev pub is_subclass : List ClassFile → ℕ → ℕ → Bool
is_subclass files lower upper = nat_eq lower upper || leads_over (directly_below files) (class_count files) lower upper

-- a class may use a member with these flags of a class
abbrev pub may_use : List ClassFile → ℕ → ℕ → ℕ → Bool
may_use files from class flags =
    is_public flags || ((is_protected flags && is_subclass files from class) || (((is_protected flags || is_package_private flags) && is_same_package files from class) || (is_private flags && nat_eq from class)))

-- a class may use a field, or a method
abbrev pub is_allowed : List ClassFile → ℕ → Bool → MemberId → Bool
is_allowed files from field id = may_use files from id.class (member_flags files field id)
