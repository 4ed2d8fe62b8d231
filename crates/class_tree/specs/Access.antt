-- Which classes and members a class may use (JVMS 5.4.4). A protected member needs no receiver of the class.
use Rattle.std.specs.Prelude.{◌≡◌, ℕ, Bool, true, ◌&&◌, ◌||◌, not, nat_eq, if◌then◌else◌, List, [], ◌∷◌}
use Rattle.std.specs.List.{list_any}
use Rattle.std.specs.Str.{bytes_eq}
use Rattle.class_pool.specs.declared.types.MemberId.{MemberId}
use Rattle.class_file.specs.declared.record.ClassFile.{ClassFile}
use Rattle.class_file.specs.Rules.{is_public, is_private, is_protected}
use Rattle.class_tree.specs.Set.{name_of, flags_of}
use Rattle.class_tree.specs.Subtypes.{IsSubclass}
use Rattle.class_tree.specs.Members.{member_flags}

-- ---- packages

-- the byte is the `/` between the parts of a name
abbrev pub is_slash : ℕ → Bool
is_slash byte = nat_eq byte 47

-- the package of a name: what stands before its last `/`, and nothing where it has none
unfoldable pub package_of : List ℕ → List ℕ
package_of [] = []
package_of (byte ∷ name) = if list_any is_slash name then byte ∷ package_of name else []

-- two classes are of the same package
abbrev pub is_same_package : List ClassFile → ℕ → ℕ → Bool
is_same_package files first second = bytes_eq (package_of (name_of files first)) (package_of (name_of files second))

-- ---- classes

-- one class may use another one: that is public or in the same package
abbrev pub may_use_class : List ClassFile → ℕ → ℕ → Bool
may_use_class files from class = is_public (flags_of files class) || is_same_package files from class

-- ---- members

-- flags of a member that only its package may use
abbrev pub is_package_private : ℕ → Bool
is_package_private flags = not (is_public flags) && (not (is_protected flags) && not (is_private flags))

-- a class may use a member with these flags of a class
pub data MayUse (files : List ClassFile) (from class flags : ℕ) : Type 0 where
  Public : is_public flags ≡ true → MayUse files from class flags
  Inherited : is_protected flags ≡ true → IsSubclass files from class → MayUse files from class flags
  InPackage : (is_protected flags || is_package_private flags) ≡ true → is_same_package files from class ≡ true → MayUse files from class flags
  Own : is_private flags ≡ true → from ≡ class → MayUse files from class flags

-- a class may use a field, or a method
abbrev pub IsAllowed : List ClassFile → ℕ → MemberId → Bool → Type 0
IsAllowed files from id field = MayUse files from id.class (member_flags files field id)
