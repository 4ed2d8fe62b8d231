-- The constant pool (JVMS 4.4): its places from index 1 on, None at the second place of a long or a double.
use Rattle.std.specs.Prelude.{◌≡◌, ◌⊎◌, ℕ, ℤ, FitsSigned, zero, suc, ◌+◌, ◌^◌, ◌<◌, ◌≤◌, Bool, true, false, IsTrue, ◌&&◌, if◌then◌else◌, nat_le, drop, List, [], ◌∷◌, ◌++◌, length, Option, Some, None, option_and_then, is_some, slice_get}
use Rattle.std.specs.List.{flat_map}
use Rattle.std.specs.Int.{w32, cast_unsigned}
use Rattle.byteorder.specs.Endian.{big_bytes}
use Rattle.class_pool.specs.declared.pool.Const.{Const}
use Rattle.class_pool.specs.declared.pool.Const.TheVariants.{Utf8, Integer, Float, Long, Double, Class, String, Field, Method, InterfaceMethod, NameAndType, MethodHandle, MethodType, InvokeDynamic}
use Rattle.class_pool.specs.Utf8.{IsModifiedUtf8}

abbrev pub Slots : Type 0
Slots = List (Option Const)

-- the entry at an index: none at 0, and none past the end
abbrev pub entry_at : Slots → ℕ → Option Const
entry_at pool zero = None
entry_at pool (suc slot) = option_and_then (λ entry. entry) (slice_get pool slot)

-- what an entry of each kind names, where it is of that kind
abbrev pub text_of : Const → Option (List ℕ)
text_of (Utf8 text) = Some text
text_of _ = None

abbrev pub integer_of : Const → Option ℤ
integer_of (Integer value) = Some value
integer_of _ = None

abbrev pub class_of : Const → Option ℕ
class_of (Class name) = Some name
class_of _ = None

abbrev pub method_of : Const → Option (ℕ × ℕ)
method_of (Method class name_and_type) = Some (class, name_and_type)
method_of _ = None

abbrev pub name_and_type_of : Const → Option (ℕ × ℕ)
name_and_type_of (NameAndType name descriptor) = Some (name, descriptor)
name_and_type_of _ = None

-- the text, the whole number and the name of the class at an index
abbrev pub utf8_at : Slots → ℕ → Option (List ℕ)
utf8_at pool index = option_and_then text_of (entry_at pool index)

abbrev pub integer_at : Slots → ℕ → Option ℤ
integer_at pool index = option_and_then integer_of (entry_at pool index)

abbrev pub class_name_at : Slots → ℕ → Option (List ℕ)
class_name_at pool index = option_and_then (utf8_at pool) (option_and_then class_of (entry_at pool index))

-- the entry at an index is of this kind
abbrev pub is_utf8_at : Slots → ℕ → Bool
is_utf8_at pool index = is_some (utf8_at pool index)

abbrev pub is_class_at : Slots → ℕ → Bool
is_class_at pool index = is_some (option_and_then class_of (entry_at pool index))

abbrev pub is_name_and_type_at : Slots → ℕ → Bool
is_name_and_type_at pool index = is_some (option_and_then name_and_type_of (entry_at pool index))

-- the entries that an entry names are there and of their kinds (JVMS 4.4.1 to 4.4.10)
abbrev pub is_linked : Slots → Const → Bool
is_linked pool (Utf8 text) = true
is_linked pool (Integer value) = true
is_linked pool (Float bits) = true
is_linked pool (Long bits) = true
is_linked pool (Double bits) = true
is_linked pool (Class name) = is_utf8_at pool name
is_linked pool (String text) = is_utf8_at pool text
is_linked pool (Field class name_and_type) = is_class_at pool class && is_name_and_type_at pool name_and_type
is_linked pool (Method class name_and_type) = is_class_at pool class && is_name_and_type_at pool name_and_type
is_linked pool (InterfaceMethod class name_and_type) = is_class_at pool class && is_name_and_type_at pool name_and_type
is_linked pool (NameAndType name descriptor) = is_utf8_at pool name && is_utf8_at pool descriptor
is_linked pool (MethodHandle kind index) = nat_le 1 kind && (nat_le kind 9 && is_some (entry_at pool index))
is_linked pool (MethodType descriptor) = is_utf8_at pool descriptor
is_linked pool (InvokeDynamic bootstrap name_and_type) = is_name_and_type_at pool name_and_type

-- the parts of an entry fit their fields
abbrev pub FitsFields : Const → Type 0
FitsFields (Utf8 text) = length text < 2 ^ 16
FitsFields (Integer value) = FitsSigned w32 value
FitsFields (Float bits) = bits < 2 ^ 32
FitsFields (Long bits) = bits < 2 ^ 64
FitsFields (Double bits) = bits < 2 ^ 64
FitsFields (Class name) = name < 2 ^ 16
FitsFields (String text) = text < 2 ^ 16
FitsFields (Field class name_and_type) = (class < 2 ^ 16) × (name_and_type < 2 ^ 16)
FitsFields (Method class name_and_type) = (class < 2 ^ 16) × (name_and_type < 2 ^ 16)
FitsFields (InterfaceMethod class name_and_type) = (class < 2 ^ 16) × (name_and_type < 2 ^ 16)
FitsFields (NameAndType name descriptor) = (name < 2 ^ 16) × (descriptor < 2 ^ 16)
FitsFields (MethodHandle kind index) = (kind < 2 ^ 8) × (index < 2 ^ 16)
FitsFields (MethodType descriptor) = descriptor < 2 ^ 16
FitsFields (InvokeDynamic bootstrap name_and_type) = (bootstrap < 2 ^ 16) × (name_and_type < 2 ^ 16)

-- the text of an entry, where it is one, is modified UTF-8
abbrev pub IsTextEntry : Const → Type 0
IsTextEntry (Utf8 text) = IsModifiedUtf8 text
IsTextEntry _ = Unit {0}

-- the parts of an entry fit their fields, and a text is one
abbrev pub FitsEntry : Const → Type 0
FitsEntry entry = FitsFields entry × IsTextEntry entry

-- the bytes of an entry: its tag and its parts
abbrev pub entry_bytes : Const → List ℕ
entry_bytes (Utf8 text) = 1 ∷ (big_bytes 2 (length text) ++ text)
entry_bytes (Integer value) = 3 ∷ big_bytes 4 (cast_unsigned w32 value)
entry_bytes (Float bits) = 4 ∷ big_bytes 4 bits
entry_bytes (Long bits) = 5 ∷ big_bytes 8 bits
entry_bytes (Double bits) = 6 ∷ big_bytes 8 bits
entry_bytes (Class name) = 7 ∷ big_bytes 2 name
entry_bytes (String text) = 8 ∷ big_bytes 2 text
entry_bytes (Field class name_and_type) = 9 ∷ (big_bytes 2 class ++ big_bytes 2 name_and_type)
entry_bytes (Method class name_and_type) = 10 ∷ (big_bytes 2 class ++ big_bytes 2 name_and_type)
entry_bytes (InterfaceMethod class name_and_type) = 11 ∷ (big_bytes 2 class ++ big_bytes 2 name_and_type)
entry_bytes (NameAndType name descriptor) = 12 ∷ (big_bytes 2 name ++ big_bytes 2 descriptor)
entry_bytes (MethodHandle kind index) = 15 ∷ kind ∷ big_bytes 2 index
entry_bytes (MethodType descriptor) = 16 ∷ big_bytes 2 descriptor
entry_bytes (InvokeDynamic bootstrap name_and_type) = 18 ∷ (big_bytes 2 bootstrap ++ big_bytes 2 name_and_type)

-- a place without an entry encodes nothing
abbrev pub slot_bytes : Option Const → List ℕ
slot_bytes None = []
slot_bytes (Some entry) = entry_bytes entry

-- a long and a double take two places (JVMS 4.4.5)
abbrev pub is_wide : Const → Bool
is_wide (Long bits) = true
is_wide (Double bits) = true
is_wide _ = false

-- how many places an entry takes
abbrev pub width : Const → ℕ
width entry = if is_wide entry then 2 else 1

-- the places after one that is, or is not, the first of two
abbrev pub AreSpacedAfter : Bool → Slots → Type 0
AreSpacedAfter false [] = Unit {0}
AreSpacedAfter false (None ∷ slots) = ⊥
AreSpacedAfter false (Some entry ∷ slots) = AreSpacedAfter (is_wide entry) slots
AreSpacedAfter true [] = ⊥
AreSpacedAfter true (None ∷ slots) = AreSpacedAfter false slots
AreSpacedAfter true (Some entry ∷ slots) = ⊥

-- each place without an entry is the second of a long or a double, and no other is
abbrev pub AreSpaced : Slots → Type 0
AreSpaced slots = AreSpacedAfter false slots

-- places as a pool keeps them
pub record AreKept (slots : Slots) : Type 0 where
  pub count : length slots < 65535
  pub spaced : AreSpaced slots

-- the index after that of a long or a double
abbrev pub IsSecond : Slots → ℕ → Type 0
IsSecond slots zero = ⊥
IsSecond slots (suc index) = (entry : Const) × (entry_at slots index ≡ Some entry) × (is_wide entry ≡ true)

-- an index that has no entry: it is 0, or is not below the count, or is the second of a long or a double
abbrev pub LacksEntry : Slots → ℕ → Type 0
LacksEntry slots index = (index ≡ 0) ⊎ ((length slots + 1 ≤ index) ⊎ IsSecond slots index)

-- the fact of each entry
abbrev pub EachEntry : (Const → Type 0) → Slots → Type 0
EachEntry P [] = Unit {0}
EachEntry P (None ∷ slots) = EachEntry P slots
EachEntry P (Some entry ∷ slots) = P entry × EachEntry P slots

-- ---- the pool

-- the count, which is one more than the number of places, and the entries (JVMS 4.1)
abbrev pub pool_bytes : Slots → List ℕ
pool_bytes pool = big_bytes 2 (length pool + 1) ++ flat_map slot_bytes pool

-- the places are those of a constant pool
pub record IsPool (pool : Slots) : Type 0 where
  pub count : length pool < 65535
  pub fits : EachEntry FitsEntry pool
  pub spaced : AreSpaced pool
  pub linked : EachEntry (λ entry. IsTrue (is_linked pool entry)) pool

-- a pool is encoded at a place of the bytes, up to the place after it
pub record IsPoolAt (bytes : List ℕ) (at : ℕ) (pool : Slots) (suffix : ℕ) : Type 0 where
  pub is_pool : IsPool pool
  pub encoded : drop at bytes ≡ pool_bytes pool ++ drop suffix bytes
  pub ends : suffix ≡ at + length (pool_bytes pool)
