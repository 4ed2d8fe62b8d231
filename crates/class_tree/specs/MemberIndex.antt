-- The members of a class by their names and descriptors.
use Rattle.std.specs.Prelude.{◌≡◌, ℕ, true, List, map}
use Rattle.std.specs.List.{list_any, position_or_len, AllByRecursion, AllZip}
use Rattle.std.specs.Str.{bytes_eq}
use Rattle.class_tree.specs.declared.member_index.Key.{Key}
use Rattle.class_file.specs.declared.record.ClassFile.{ClassFile}
use Rattle.class_tree.specs.declared.member_index.MemberIndex.{MemberIndex}
use Rattle.class_tree.specs.Members.{Declaration, in_file}

-- the name and the descriptor of a member are among these texts
abbrev pub IsAmong : List (List ℕ) → Declaration → Type 0
IsAmong texts member = (list_any (bytes_eq member.name) texts ≡ true) × (list_any (bytes_eq member.descriptor) texts ≡ true)

-- a name and a descriptor by their positions among texts
abbrev pub key_of : List (List ℕ) → List ℕ → List ℕ → Key
key_of texts name descriptor = record { name = position_or_len (bytes_eq name) texts; descriptor = position_or_len (bytes_eq descriptor) texts }

abbrev pub member_key : List (List ℕ) → Declaration → Key
member_key texts member = key_of texts member.name member.descriptor

-- the texts and the keys are those of the members, each key at its member's position
pub record IsIndexOf (members : List Declaration) (texts : List (List ℕ)) (keys : List Key) : Type 0 where
  pub among : AllByRecursion (IsAmong texts) members
  pub keyed : keys ≡ map (member_key texts) members

-- ---- the indexes of all files

-- what a file declares
abbrev pub own_fields : ClassFile → List Declaration
own_fields file = map (in_file file.pool) file.fields

abbrev pub own_methods : ClassFile → List Declaration
own_methods file = map (in_file file.pool) file.methods

-- there is an index for each file, of these members of it
abbrev pub AreIndexes : (ClassFile → List Declaration) → List ClassFile → List MemberIndex → Type 0
AreIndexes members files indexes = AllZip (λ file index. IsIndexOf (members file) index.texts index.keys.keys) files indexes
