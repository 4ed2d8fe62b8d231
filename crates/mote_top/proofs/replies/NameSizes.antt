-- The name of each type of an image fits a room of 65,535 bytes.
use Rattle.std.proofs.Common.{◌≡◌, ℕ, zero, suc, ◌-◌, ◌≤◌, Bool, true, false, ◌&&◌, nat_lt, nat_le, if◌then◌else◌, List, [], ◌∷◌, ◌++◌, length, get_or, slice_get, Some, refl, arith}
use Rattle.std.specs.List.{list_all}
use Rattle.std.proofs.lemmas.Bool.{and_parts, leb-true}
use Rattle.library.specs.Classes.{class_names, first_own}
use Rattle.image_form.specs.declared.record.Image.{Image}
use Rattle.image_form.specs.declared.record.TypeEntry.{TypeEntry}
use Rattle.image_form.specs.declared.record.TypeEntry.TheVariants.{Class, RefArray, NumArray}
use Rattle.image_form.specs.Grammar.{EachAfter, IsImage, IsType}
use Rattle.image_form.specs.Library.{entry_name, name_of}

abbrev is_small : List ℕ → Bool
is_small name = nat_le (length name) 65535

one_small : (before : List TypeEntry) (type : TypeEntry) → IsType before type → length (entry_name (Some type)) ≤ 65535
one_small before (Class class) is = omega (arith, is.name_fits)
one_small before (RefArray element) is = omega arith
one_small before (NumArray kind) is = omega arith

entries_small : (before types : List TypeEntry) → EachAfter IsType before types → (k : ℕ) → length (entry_name (slice_get types k)) ≤ 65535
entries_small before [] each k = omega arith
entries_small before (type ∷ types) each zero = one_small before type each.0
entries_small before (type ∷ types) each (suc k) = entries_small (before ++ type ∷ []) types each.1 k

listed_small : (names : List (List ℕ)) → list_all is_small names ≡ true → (k : ℕ) → length (get_or names k []) ≤ 65535
listed_small [] all k = omega arith
listed_small (name ∷ names) all zero = leb-true (length name) 65535 (and_parts (is_small name) (list_all is_small names) all).0
listed_small (name ∷ names) all (suc k) = listed_small names (and_parts (is_small name) (list_all is_small names) all).1 k

pub names_small : (image : Image) → IsImage image → (id : ℕ) → length (name_of image id) ≤ 65535
names_small image is id = by (nat_lt id first_own)
  where
    by : (library : Bool) → length (if library then get_or class_names id [] else entry_name (slice_get image.types (id - first_own))) ≤ 65535
    by true = listed_small class_names refl id
    by false = entries_small [] image.types is.types_are (id - first_own)
