-- Reading a class file (JVMS 4.1): the first fault in the order of the bytes, or the record.
use Rattle.std.specs.Prelude.{ℕ, ◌&&◌, ◌==◌, nat_lt, nat_le, min, if◌then◌else◌, List, length, take, drop, Result, Ok, Err}
use Rattle.std.specs.Str.{bytes_eq}
use Rattle.class_pool.specs.declared.refusal.PoolRefusal.{PoolRefusal}
use Rattle.class_pool.specs.declared.refusal.PoolRefusal.TheVariants.{Truncated as PoolTruncated, BadTag, BadIndex, BadUtf8, Memory as PoolMemory}
use Rattle.class_pool.specs.Pool.{Slots}
use Rattle.class_pool.specs.PoolReading.{pool_from}
use Rattle.class_file.specs.declared.record.ClassFile.{ClassFile}
use Rattle.class_file.specs.declared.record.Member.{Member}
use Rattle.class_file.specs.declared.class.ClassHead.{ClassHead}
use Rattle.class_file.specs.declared.refusal.ReadRefusal.{ReadRefusal}
use Rattle.class_file.specs.declared.refusal.ReadRefusal.TheVariants.{NotClass, Version, Truncated, TrailingBytes, BadPool, BadShape, TooLarge, Memory}
use Rattle.class_file.specs.Layout.{magic}
use Rattle.class_file.specs.Rules.{are_class_flags, names_class}
use Rattle.class_file.specs.Relation.{largest}
use Rattle.byte_read.specs.Reading.{◌>>=◌}
use Rattle.class_file.specs.Reading.{u2_at, list_at}
use Rattle.class_file.specs.ReadingMembers.{fields_at, methods_at, skip_all_at}

-- a length in its field, or the field's greatest number
abbrev pub capped : ℕ → ℕ
capped length = min length 4294967295

-- minor and major: 45 to 52
unfoldable pub version_at : List ℕ → Result ((ℕ × ℕ) × List ℕ) ReadRefusal
version_at bytes = do
  minor ← u2_at bytes
  major ← u2_at minor.1
  if nat_le 45 major.0 && nat_le major.0 52 then Ok ((minor.0, major.0), major.1) else Err (Version major.0)

-- why a pool is none, as the whole class says it
abbrev pub of_pool : PoolRefusal → ReadRefusal
of_pool PoolTruncated = Truncated
of_pool (BadTag index) = BadPool index
of_pool (BadIndex index) = BadPool index
of_pool (BadUtf8 index) = BadPool index
of_pool PoolMemory = Memory

-- the pool, and the bytes after its place
abbrev pub after_pool : List ℕ → Result (Slots × ℕ) PoolRefusal → Result (Slots × List ℕ) ReadRefusal
after_pool bytes (Ok pool) = Ok (pool.0, drop pool.1 bytes)
after_pool bytes (Err why) = Err (of_pool why)

unfoldable pub pool_at : List ℕ → Result (Slots × List ℕ) ReadRefusal
pool_at bytes = after_pool bytes (pool_from bytes 0)

unfoldable pub class_flags_at : List ℕ → Result (ℕ × List ℕ) ReadRefusal
class_flags_at bytes = do
  flags ← u2_at bytes
  if are_class_flags flags.0 then Ok flags else Err BadShape

-- the index of a class that is no array
unfoldable pub class_index_at : Slots → List ℕ → Result (ℕ × List ℕ) ReadRefusal
class_index_at pool bytes = do
  index ← u2_at bytes
  if names_class pool index.0 then Ok index else Err BadShape

unfoldable pub interfaces_at : Slots → List ℕ → Result (List ℕ × List ℕ) ReadRefusal
interfaces_at pool bytes = list_at (λ earlier rest. class_index_at pool rest) bytes

-- from the flags to the interfaces
unfoldable pub class_head_at : Slots → List ℕ → Result (ClassHead × List ℕ) ReadRefusal
class_head_at pool bytes = do
  flags ← class_flags_at bytes
  this_class ← class_index_at pool flags.1
  super_class ← class_index_at pool this_class.1
  interfaces ← interfaces_at pool super_class.1
  Ok (record { flags = flags.0; this_class = this_class.0; super_class = super_class.0; interfaces = interfaces.0 }, interfaces.1)

-- fields and methods, and the attributes, which are skipped
unfoldable pub members_at : ℕ → Slots → List ℕ → Result ((List Member × List Member) × List ℕ) ReadRefusal
members_at class_flags pool bytes = do
  fields ← fields_at class_flags pool bytes
  methods ← methods_at class_flags pool fields.1
  rest ← skip_all_at pool methods.1
  Ok ((fields.0, methods.0), rest)

-- the length, the magic and the version
unfoldable pub start_of : List ℕ → Result ((ℕ × ℕ) × List ℕ) ReadRefusal
start_of bytes =
    if nat_lt largest (length bytes) then Err (TooLarge (capped (length bytes)))
    else (if bytes_eq (take 4 bytes) magic then version_at (drop 4 bytes) else Err NotClass)

-- what follows the magic
unfoldable pub body_of : List ℕ → Result ClassFile ReadRefusal
body_of bytes = do
  version ← version_at bytes
  pool ← pool_at version.1
  head ← class_head_at pool.0 pool.1
  members ← members_at head.0.flags pool.0 head.1
  if length members.1 == 0 then Ok (
      record {
        minor = version.0.0;
        major = version.0.1;
        pool = pool.0;
        flags = head.0.flags;
        this_class = head.0.this_class;
        super_class = head.0.super_class;
        interfaces = head.0.interfaces;
        fields = members.0.0;
        methods = members.0.1;
      }) else Err (TrailingBytes (capped (length members.1)))

-- the record of a class file, or the first fault
unfoldable pub class_of : List ℕ → Result ClassFile ReadRefusal
class_of bytes =
    if nat_lt largest (length bytes) then Err (TooLarge (capped (length bytes)))
    else (if bytes_eq (take 4 bytes) magic then body_of (drop 4 bytes) else Err NotClass)
