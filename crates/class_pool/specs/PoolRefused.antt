-- Why bytes are no constant pool: entry by entry what stands there, and then what the entries name.
use Rattle.std.specs.Prelude.{◌≡◌, ◌≢◌, ◌⊎◌, ℕ, ◌+◌, ◌-◌, ◌^◌, ◌<◌, ◌≤◌, IsTrue, IsOk, false, List, [], ◌∷◌, ◌++◌, length, Some, Result, Ok, Err}
use Rattle.std.specs.List.{flat_map}
use Rattle.byteorder.specs.Endian.{big_bytes}
use Rattle.class_pool.specs.declared.pool.Const.{Const}
use Rattle.class_pool.specs.declared.pool.Const.TheVariants.{Utf8}
use Rattle.class_pool.specs.declared.refusal.PoolRefusal.{PoolRefusal}
use Rattle.class_pool.specs.declared.refusal.PoolRefusal.TheVariants.{Truncated, BadTag, BadIndex, BadUtf8, Memory}
use Rattle.class_pool.specs.Utf8.{IsModifiedUtf8}
use Rattle.class_pool.specs.Pool.{Slots, is_linked, FitsFields, FitsEntry, entry_bytes, slot_bytes, width, AreSpaced, EachEntry, pool_bytes}

-- ---- one entry, with room for so many places up to the count

-- the bytes end within an entry that has room; a text may be any bytes
pub record IsCut (room : ℕ) (bytes : List ℕ) : Type 0 where
  pub entry : Const
  pub suffix : List ℕ
  pub fits : FitsFields entry
  pub has_room : width entry ≤ room
  pub encoded : bytes ++ suffix ≡ entry_bytes entry
  pub proper : suffix ≢ []

-- no entry that has room begins with the first byte
pub record IsBadTag (room : ℕ) (bytes : List ℕ) : Type 0 where
  pub tag : ℕ
  pub more : List ℕ
  pub begins : bytes ≡ tag ∷ more
  pub no_entry : (entry : Const) (parts : List ℕ) → entry_bytes entry ≡ tag ∷ parts → room < width entry

-- a text stands there whole, and is not modified UTF-8
pub record IsBadText (bytes : List ℕ) : Type 0 where
  pub text : List ℕ
  pub more : List ℕ
  pub begins : bytes ≡ entry_bytes (Utf8 text) ++ more
  pub fits : FitsFields (Utf8 text)
  pub not_text : IsModifiedUtf8 text → ⊥

-- the entry at an index is refused so
abbrev pub IsEntryRefused : ℕ → ℕ → List ℕ → PoolRefusal → Type 0
IsEntryRefused index room bytes Truncated = IsCut room bytes
IsEntryRefused index room bytes (BadTag bad) = (bad ≡ index) × IsBadTag room bytes
IsEntryRefused index room bytes (BadUtf8 bad) = (bad ≡ index) × IsBadText bytes
IsEntryRefused index room bytes (BadIndex bad) = ⊥
IsEntryRefused index room bytes Memory = ⊥

-- ---- the first entry that is refused

-- after the count there are so many entries that are fine, and the next one is refused so
pub record IsRefusedEntry (bytes : List ℕ) (why : PoolRefusal) : Type 0 where
  pub count : ℕ
  pub slots : Slots
  pub rest : List ℕ
  pub count_fits : count < 2 ^ 16
  pub encoded : bytes ≡ big_bytes 2 count ++ (flat_map slot_bytes slots ++ rest)
  pub fits : EachEntry FitsEntry slots
  pub spaced : AreSpaced slots
  pub before_count : length slots + 1 < count
  pub refused : IsEntryRefused (length slots + 1) (count - (length slots + 1)) rest why

-- ---- the first entry that names what is not there

-- all entries are fine by themselves, and the one at this index is the first that is not linked
pub record IsFirstUnlinked (bytes : List ℕ) (index : ℕ) : Type 0 where
  pub before : Slots
  pub entry : Const
  pub after : Slots
  pub rest : List ℕ
  pub count : length (before ++ Some entry ∷ after) < 65535
  pub encoded : bytes ≡ pool_bytes (before ++ Some entry ∷ after) ++ rest
  pub fits : EachEntry FitsEntry (before ++ Some entry ∷ after)
  pub spaced : AreSpaced (before ++ Some entry ∷ after)
  pub linked : EachEntry (λ other. IsTrue (is_linked (before ++ Some entry ∷ after) other)) before
  pub unlinked : is_linked (before ++ Some entry ∷ after) entry ≡ false
  pub index_is : index ≡ length before + 1

-- ---- the whole

-- the bytes begin with a count of 0
abbrev pub HasNoCount : List ℕ → Type 0
HasNoCount bytes = (rest : List ℕ) × (bytes ≡ big_bytes 2 0 ++ rest)

-- the count is refused so: it is cut off, or it is 0
abbrev pub IsCountRefused : List ℕ → PoolRefusal → Type 0
IsCountRefused bytes Truncated = length bytes < 2
IsCountRefused bytes (BadIndex index) = (index ≡ 0) × HasNoCount bytes
IsCountRefused bytes (BadTag index) = ⊥
IsCountRefused bytes (BadUtf8 index) = ⊥
IsCountRefused bytes Memory = ⊥

-- after a count above 1 the first entry is refused so
pub record IsFirstRefused (bytes : List ℕ) (why : PoolRefusal) : Type 0 where
  pub count : ℕ
  pub rest : List ℕ
  pub count_fits : count < 2 ^ 16
  pub some : 1 < count
  pub encoded : bytes ≡ big_bytes 2 count ++ rest
  pub refused : IsEntryRefused 1 (count - 1) rest why

-- the count or the first entry is refused so, before any memory is asked for
abbrev pub IsRefusedAtOnce : List ℕ → PoolRefusal → Type 0
IsRefusedAtOnce bytes why = IsCountRefused bytes why ⊎ IsFirstRefused bytes why

-- the bytes are refused as a pool so
abbrev pub IsRefused : List ℕ → PoolRefusal → Type 0
IsRefused bytes Truncated = (length bytes < 2) ⊎ IsRefusedEntry bytes Truncated
IsRefused bytes (BadTag index) = IsRefusedEntry bytes (BadTag index)
IsRefused bytes (BadUtf8 index) = IsRefusedEntry bytes (BadUtf8 index)
IsRefused bytes (BadIndex index) = ((index ≡ 0) × HasNoCount bytes) ⊎ IsFirstUnlinked bytes index
IsRefused bytes Memory = ⊥

-- what a function returned, seen by view, is what reading gives, unless memory ran out
abbrev pub Shows : {X Y : Type 0} → (X → Y) → Result X PoolRefusal → Result Y PoolRefusal → Type 0
Shows view (Ok x) read = read ≡ Ok (view x)
Shows view (Err Memory) read = Unit {0}
Shows view (Err Truncated) read = read ≡ Err Truncated
Shows view (Err (BadTag index)) read = read ≡ Err (BadTag index)
Shows view (Err (BadIndex index)) read = read ≡ Err (BadIndex index)
Shows view (Err (BadUtf8 index)) read = read ≡ Err (BadUtf8 index)

-- the same, where memory is asked only for what is good
abbrev pub ShowsGood : {X Y : Type 0} → (X → Y) → Result X PoolRefusal → Result Y PoolRefusal → Type 0
ShowsGood view (Ok x) read = read ≡ Ok (view x)
ShowsGood view (Err Memory) read = IsOk read
ShowsGood view (Err Truncated) read = read ≡ Err Truncated
ShowsGood view (Err (BadTag index)) read = read ≡ Err (BadTag index)
ShowsGood view (Err (BadIndex index)) read = read ≡ Err (BadIndex index)
ShowsGood view (Err (BadUtf8 index)) read = read ≡ Err (BadUtf8 index)

-- a function returned this answer, unless memory ran out
abbrev pub Gives : {X : Type 0} → Result X PoolRefusal → Result X PoolRefusal → Type 0
Gives result answer = Shows (λ x. x) result answer
