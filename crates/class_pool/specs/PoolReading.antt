-- Reading a constant pool as a function on lists: a part is a value and the bytes after it, or a
-- refusal.
use Rattle.std.specs.Prelude.{ℕ, zero, suc, ◌-◌, Bool, true, false, ◌&&◌, ◌||◌, ◌==◌, nat_lt, nat_le, if◌then◌else◌, List, [], ◌∷◌, length, drop, slice_index, Option, Some, None, Result, Ok, Err}
use Rattle.std.specs.Int.{w32, cast_signed}
use Rattle.byteorder.specs.Endian.{big_number}
use Rattle.byte_read.specs.Reading.{◌>>=◌, number_at, slice_at as bytes_at}
use Rattle.class_pool.specs.declared.pool.Const.{Const}
use Rattle.class_pool.specs.declared.pool.Const.TheVariants.{Utf8, Integer, Float, Long, Double, Class, String, Field, Method, InterfaceMethod, NameAndType, MethodHandle, MethodType, InvokeDynamic}
use Rattle.class_pool.specs.declared.tag.Tag.{Tag}
use Rattle.class_pool.specs.declared.tag.Tag.TheVariants.{Utf8 as TagUtf8, Integer as TagInteger, Float as TagFloat, Long as TagLong, Double as TagDouble, Class as TagClass, String as TagString, Fieldref, Methodref, InterfaceMethodref, NameAndType as TagNameAndType, MethodHandle as TagMethodHandle, MethodType as TagMethodType, InvokeDynamic as TagInvokeDynamic}
use Rattle.class_pool.specs.declared.refusal.PoolRefusal.{PoolRefusal}
use Rattle.class_pool.specs.declared.refusal.PoolRefusal.TheVariants.{Truncated, BadTag, BadIndex, BadUtf8}
use Rattle.class_pool.specs.Pool.{Slots, is_linked, is_wide}

-- ---- modified UTF-8 (JVMS 4.4.7)

-- a unit in one, two or three bytes: 0 has two, and no other unit has more than it needs
abbrev pub is_single : ℕ → Bool
is_single a = nat_lt 0 a && nat_lt a 128

abbrev pub is_last : ℕ → Bool
is_last b = nat_le 128 b && nat_lt b 192

abbrev pub is_double : ℕ → ℕ → Bool
is_double a b = (a == 192 && b == 128) || ((nat_le 194 a && nat_lt a 224) && is_last b)

abbrev pub is_triple : ℕ → ℕ → ℕ → Bool
is_triple a b c = ((a == 224 && nat_le 160 b) || (nat_lt 224 a && nat_lt a 240)) && (is_last b && is_last c)

-- the bytes are a text
unfoldable pub is_modified_utf8 : List ℕ → Bool
is_modified_utf8 [] = true
is_modified_utf8 (a ∷ []) = is_single a
is_modified_utf8 (a ∷ b ∷ []) = if is_single a then is_single b else is_double a b
is_modified_utf8 (a ∷ b ∷ c ∷ bytes) =
    if is_single a then is_modified_utf8 (b ∷ c ∷ bytes)
    else (if is_double a b then is_modified_utf8 (c ∷ bytes) else is_triple a b c && is_modified_utf8 bytes)

-- the bytes after the unit at the prefix
unfoldable pub after_unit : List ℕ → Option (List ℕ)
after_unit [] = None
after_unit (a ∷ []) = if is_single a then Some [] else None
after_unit (a ∷ b ∷ []) = if is_single a then Some (b ∷ []) else (if is_double a b then Some [] else None)
after_unit (a ∷ b ∷ c ∷ bytes) =
    if is_single a then Some (b ∷ c ∷ bytes)
    else (if is_double a b then Some (c ∷ bytes) else (if is_triple a b c then Some bytes else None))

-- ---- tags (JVMS table 4.4-A)

abbrev pub tag_byte : Tag → ℕ
tag_byte TagUtf8 = 1
tag_byte TagInteger = 3
tag_byte TagFloat = 4
tag_byte TagLong = 5
tag_byte TagDouble = 6
tag_byte TagClass = 7
tag_byte TagString = 8
tag_byte Fieldref = 9
tag_byte Methodref = 10
tag_byte InterfaceMethodref = 11
tag_byte TagNameAndType = 12
tag_byte TagMethodHandle = 15
tag_byte TagMethodType = 16
tag_byte TagInvokeDynamic = 18

abbrev pub all_tags : List Tag
all_tags =
    TagUtf8 ∷ TagInteger ∷ TagFloat ∷ TagLong ∷ TagDouble ∷ TagClass ∷ TagString ∷ Fieldref ∷ Methodref ∷ InterfaceMethodref
    ∷ TagNameAndType ∷ TagMethodHandle ∷ TagMethodType ∷ TagInvokeDynamic ∷ []

-- the first tag of these with this byte
abbrev pub tag_among : List Tag → ℕ → Option Tag
tag_among [] byte = None
tag_among (tag ∷ tags) byte = if byte == tag_byte tag then Some tag else tag_among tags byte

-- the tag with this byte
abbrev pub tag_of_byte : ℕ → Option Tag
tag_of_byte byte = tag_among all_tags byte

-- how many places an entry with this tag takes
abbrev pub tag_width : Tag → ℕ
tag_width TagLong = 2
tag_width TagDouble = 2
tag_width _ = 1

-- how many bytes the parts of an entry have; those of a text have a length of their own
abbrev pub parts_size : Tag → ℕ
parts_size TagUtf8 = 0
parts_size TagInteger = 4
parts_size TagFloat = 4
parts_size TagLong = 8
parts_size TagDouble = 8
parts_size TagClass = 2
parts_size TagString = 2
parts_size Fieldref = 4
parts_size Methodref = 4
parts_size InterfaceMethodref = 4
parts_size TagNameAndType = 4
parts_size TagMethodHandle = 3
parts_size TagMethodType = 2
parts_size TagInvokeDynamic = 4

-- ---- entries

-- a number of two bytes
abbrev pub u2_at : List ℕ → Result (ℕ × List ℕ) PoolRefusal
u2_at bytes = number_at Truncated 2 bytes

-- so many bytes
abbrev pub slice_at : ℕ → List ℕ → Result (List ℕ × List ℕ) PoolRefusal
slice_at size bytes = bytes_at Truncated size bytes

-- how many bytes the parts have, and the bytes after that
unfoldable pub size_at : Tag → List ℕ → Result (ℕ × List ℕ) PoolRefusal
size_at TagUtf8 bytes = u2_at bytes
size_at tag bytes = Ok (parts_size tag, bytes)

-- the text of these bytes, at an index
abbrev pub text_of : ℕ → List ℕ → Result (List ℕ) PoolRefusal
text_of index bytes = if is_modified_utf8 bytes then Ok bytes else Err (BadUtf8 index)

-- the two numbers of two bytes each
abbrev pub pair_of : List ℕ → ℕ × ℕ
pair_of parts = (big_number 2 parts, big_number 2 (drop 2 parts))

-- the entry at an index with this tag and these parts
unfoldable pub entry_of : ℕ → Tag → List ℕ → Result Const PoolRefusal
entry_of index TagUtf8 parts = text_of index parts >>= λ text. Ok (Utf8 text)
entry_of index TagInteger parts = Ok (Integer (cast_signed w32 (big_number 4 parts)))
entry_of index TagFloat parts = Ok (Float (big_number 4 parts))
entry_of index TagLong parts = Ok (Long (big_number 8 parts))
entry_of index TagDouble parts = Ok (Double (big_number 8 parts))
entry_of index TagClass parts = Ok (Class (big_number 2 parts))
entry_of index TagString parts = Ok (String (big_number 2 parts))
entry_of index Fieldref parts = Ok (Field (pair_of parts).0 (pair_of parts).1)
entry_of index Methodref parts = Ok (Method (pair_of parts).0 (pair_of parts).1)
entry_of index InterfaceMethodref parts = Ok (InterfaceMethod (pair_of parts).0 (pair_of parts).1)
entry_of index TagNameAndType parts = Ok (NameAndType (pair_of parts).0 (pair_of parts).1)
entry_of index TagMethodHandle parts = Ok (MethodHandle (slice_index parts 0) (big_number 2 (drop 1 parts)))
entry_of index TagMethodType parts = Ok (MethodType (big_number 2 parts))
entry_of index TagInvokeDynamic parts = Ok (InvokeDynamic (pair_of parts).0 (pair_of parts).1)

-- what follows the tag of an entry
unfoldable pub body_at : ℕ → Tag → List ℕ → Result (Const × List ℕ) PoolRefusal
body_at index tag bytes = do
  size ← size_at tag bytes
  parts ← slice_at size.0 size.1
  entry ← entry_of index tag parts.0
  Ok (entry, parts.1)

-- an entry of this tag, with room for so many places
abbrev pub tagged_at : ℕ → ℕ → Option Tag → List ℕ → Result (Const × List ℕ) PoolRefusal
tagged_at index room None bytes = Err (BadTag index)
tagged_at index room (Some tag) bytes = if nat_lt room (tag_width tag) then Err (BadTag index) else body_at index tag bytes

-- an entry: its tag, and what follows it
unfoldable pub entry_at : ℕ → ℕ → List ℕ → Result (Const × List ℕ) PoolRefusal
entry_at index room [] = Err Truncated
entry_at index room (byte ∷ bytes) = tagged_at index room (tag_of_byte byte) bytes

-- ---- places

-- a place, where the one before it is, or is not, the first of two
unfoldable pub slot_at : Bool → ℕ → ℕ → List ℕ → Result (Option Const × List ℕ) PoolRefusal
slot_at true index room bytes = Ok (None, bytes)
slot_at false index room bytes = entry_at index room bytes >>= λ entry. Ok (Some entry.0, entry.1)

-- the place is the first of two
abbrev pub is_first_of_two : Option Const → Bool
is_first_of_two None = false
is_first_of_two (Some entry) = is_wide entry

-- so many places, from an index on
unfoldable pub slots_at : Bool → ℕ → ℕ → List ℕ → Result (Slots × List ℕ) PoolRefusal
slots_at second index zero bytes = Ok ([], bytes)
slots_at second index (suc room) bytes = do
  first ← slot_at second index (suc room) bytes
  others ← slots_at (is_first_of_two first.0) (suc index) room first.1
  Ok (first.0 ∷ others.0, others.1)

-- ---- what the entries name

-- the entry at a place is linked in the pool
abbrev pub is_slot_linked : Slots → Option Const → Bool
is_slot_linked pool None = true
is_slot_linked pool (Some entry) = is_linked pool entry

-- the index of the first place, from an index on, that is not linked
unfoldable pub first_unlinked : Slots → ℕ → Slots → Option ℕ
first_unlinked pool index [] = None
first_unlinked pool index (slot ∷ slots) = if is_slot_linked pool slot then first_unlinked pool (suc index) slots else Some index

-- ---- the pool

-- the count, which is not 0
unfoldable pub count_at : List ℕ → Result (ℕ × List ℕ) PoolRefusal
count_at bytes = do
  count ← u2_at bytes
  if count.0 == 0 then Err (BadIndex 0) else Ok count

-- the count and, where it is above 1, the first place: what is read before any memory is asked for
unfoldable pub start_at : List ℕ → Result (Unit {0}) PoolRefusal
start_at bytes = do
  count ← count_at bytes
  if nat_lt 1 count.0 then (slot_at false 1 (count.0 - 1) count.1 >>= λ slot. Ok tt) else Ok tt

abbrev pub checked : Slots × List ℕ → Option ℕ → Result (Slots × List ℕ) PoolRefusal
checked slots None = Ok slots
checked slots (Some index) = Err (BadIndex index)

-- the count, the places, and the first of them that is not linked
unfoldable pub pool_at : List ℕ → Result (Slots × List ℕ) PoolRefusal
pool_at bytes = do
  count ← u2_at bytes
  slots ← (if count.0 == 0 then Err (BadIndex 0) else slots_at false 1 (count.0 - 1) count.1)
  checked slots (first_unlinked slots.0 1 slots.0)

-- the pool at a place, and the place after it
unfoldable pub pool_from : List ℕ → ℕ → Result (Slots × ℕ) PoolRefusal
pool_from bytes at = pool_at (drop at bytes) >>= λ pool. Ok (pool.0, length bytes - length pool.1)
