-- What the ids of types and methods name: those of the library, and the entries of an image, which have the
-- ids after the library's.
use Rattle.std.specs.Prelude.{ℕ, ◌-◌, ◌%◌, ◌==◌, Bool, true, false, not, nat_lt, if◌then◌else◌, List, [], ◌∷◌, length, get_or, slice_get, Option, Some, None, option_map}
use Rattle.library.specs.Classes.{first_own, class_names, is_library_class}
use Rattle.image_instr.specs.declared.signature.Sig.{Sig}
use Rattle.image_form.specs.declared.record.Image.{Image}
use Rattle.image_form.specs.declared.record.Method.{Method}
use Rattle.image_form.specs.declared.record.ClassEntry.{ClassEntry}
use Rattle.image_form.specs.declared.record.TypeEntry.{TypeEntry}
use Rattle.image_form.specs.declared.record.TypeEntry.TheVariants.{Class, RefArray, NumArray}

-- ---- the library's methods

-- a signature: references and cells as arguments, and the code of the result
abbrev pub signature : (refs cells result : ℕ) → Sig
signature refs cells result = record { refs = refs; cells = cells; result = result }

-- the methods of the library: 0 the constructor, 1 write, 2 read, 3 print; 4 to 31 name no method
abbrev pub library_signatures : List Sig
library_signatures = signature 1 0 0 ∷ signature 0 2 0 ∷ signature 0 0 3 ∷ signature 0 2 0 ∷ []

-- ---- what the id of a type names, among these entries

-- an interface has flags 1 or 3
abbrev pub is_interface : ClassEntry → Bool
is_interface class = class.flags % 2 == 1

-- the entry is a class or an interface
abbrev pub is_class_entry : Option TypeEntry → Bool
is_class_entry (Some (Class class)) = true
is_class_entry (Some (RefArray element)) = false
is_class_entry (Some (NumArray kind)) = false
is_class_entry None = false

-- the entry is a class and no interface
abbrev pub is_parent_entry : Option TypeEntry → Bool
is_parent_entry (Some (Class class)) = not (is_interface class)
is_parent_entry (Some (RefArray element)) = false
is_parent_entry (Some (NumArray kind)) = false
is_parent_entry None = false

-- the entry is an interface
abbrev pub is_interface_entry : Option TypeEntry → Bool
is_interface_entry (Some (Class class)) = is_interface class
is_interface_entry (Some (RefArray element)) = false
is_interface_entry (Some (NumArray kind)) = false
is_interface_entry None = false

-- the id names a type
abbrev pub names_type : List TypeEntry → ℕ → Bool
names_type types id = if nat_lt id first_own then is_library_class id else nat_lt (id - first_own) (length types)

-- the id names a class or an interface
abbrev pub names_class : List TypeEntry → ℕ → Bool
names_class types id = if nat_lt id first_own then is_library_class id else is_class_entry (slice_get types (id - first_own))

-- the id names a class and no interface
abbrev pub names_parent : List TypeEntry → ℕ → Bool
names_parent types id = if nat_lt id first_own then is_library_class id else is_parent_entry (slice_get types (id - first_own))

-- the id names an interface
abbrev pub names_interface : List TypeEntry → ℕ → Bool
names_interface types id = if nat_lt id first_own then false else is_interface_entry (slice_get types (id - first_own))

-- the reference fields of an object of this entry
abbrev pub entry_refs : Option TypeEntry → ℕ
entry_refs (Some (Class class)) = class.refs
entry_refs (Some (RefArray element)) = 0
entry_refs (Some (NumArray kind)) = 0
entry_refs None = 0

-- the other cells of an object of this entry
abbrev pub entry_nums : Option TypeEntry → ℕ
entry_nums (Some (Class class)) = class.nums
entry_nums (Some (RefArray element)) = 0
entry_nums (Some (NumArray kind)) = 0
entry_nums None = 0

-- the reference fields of an object of this type; those of the library have none
abbrev pub refs_of : List TypeEntry → ℕ → ℕ
refs_of types id = if nat_lt id first_own then 0 else entry_refs (slice_get types (id - first_own))

-- the other cells of an object of this type; those of the library have none
abbrev pub nums_of : List TypeEntry → ℕ → ℕ
nums_of types id = if nat_lt id first_own then 0 else entry_nums (slice_get types (id - first_own))

-- ---- what the id of a method names

-- the signature of a method of the library or of an image with these methods
abbrev pub signature_in : List Method → ℕ → Option Sig
signature_in methods id = if nat_lt id first_own then slice_get library_signatures id else option_map (λ method. method.sig) (slice_get methods (id - first_own))

-- ---- names

-- the name of a type entry; an array has none
abbrev pub entry_name : Option TypeEntry → List ℕ
entry_name (Some (Class class)) = class.name
entry_name (Some (RefArray element)) = []
entry_name (Some (NumArray kind)) = []
entry_name None = []

-- the name of the type of this id, empty where the id has none
abbrev pub name_of : Image → ℕ → List ℕ
name_of image id =
    if nat_lt id first_own then get_or class_names id [] else entry_name (slice_get image.types (id - first_own))
