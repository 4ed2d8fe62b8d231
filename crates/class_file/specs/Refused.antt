-- Why bytes are no class file: what is wrong first, in the order of the bytes.
use Rattle.std.specs.Prelude.{◌≡◌, ◌≢◌, ◌⊎◌, ℕ, ◌<◌, ◌≤◌, List, ◌++◌, length, take, Err}
use Rattle.class_file.specs.declared.record.ClassFile.{ClassFile}
use Rattle.class_file.specs.declared.refusal.ReadRefusal.{ReadRefusal}
use Rattle.class_file.specs.declared.refusal.ReadRefusal.TheVariants.{NotClass, Version, Truncated, TrailingBytes, BadPool, BadShape, BadDescriptor, TooLarge, Memory}
use Rattle.class_file.specs.Layout.{u2, magic}
use Rattle.class_file.specs.Relation.{FitsU2, largest, IsClassFile}
use Rattle.class_file.specs.ReadingClass.{capped, class_of}

-- the version that the bytes begin with is not one of 45 to 52
pub record HasOtherVersion (bytes : List ℕ) (major : ℕ) : Type 0 where
  pub minor : ℕ
  pub more : List ℕ
  pub minor_fits : FitsU2 minor
  pub major_fits : FitsU2 major
  pub encoded : bytes ≡ magic ++ (u2 minor ++ (u2 major ++ more))
  pub other : (major < 45) ⊎ (52 < major)

-- a class file, and so many bytes after it
pub record HasTail (bytes : List ℕ) (count : ℕ) : Type 0 where
  pub class : List ℕ
  pub tail : List ℕ
  pub file : ClassFile
  pub encoded : bytes ≡ class ++ tail
  pub class_file : IsClassFile class file
  pub size : length tail ≡ count
  pub some : 0 < count

-- the length, the magic or the version is refused so, before any memory is asked for
abbrev pub IsStartRefused : List ℕ → ReadRefusal → Type 0
IsStartRefused bytes (TooLarge size) = (largest < length bytes) × (size ≡ capped (length bytes))
IsStartRefused bytes NotClass = (length bytes ≤ largest) × (take 4 bytes ≢ magic)
IsStartRefused bytes (Version major) = (length bytes ≤ largest) × HasOtherVersion bytes major
IsStartRefused bytes Truncated = (length bytes < 8) × (take 4 bytes ≡ magic)
IsStartRefused bytes (TrailingBytes count) = ⊥
IsStartRefused bytes (BadPool index) = ⊥
IsStartRefused bytes BadShape = ⊥
IsStartRefused bytes (BadDescriptor index) = ⊥
IsStartRefused bytes Memory = ⊥

-- the bytes are refused so; the first fault in a part is that of reading it
abbrev pub IsRefused : List ℕ → ReadRefusal → Type 0
IsRefused bytes (TooLarge size) = (largest < length bytes) × (size ≡ capped (length bytes))
IsRefused bytes NotClass = (length bytes ≤ largest) × (take 4 bytes ≢ magic)
IsRefused bytes (Version major) = (length bytes ≤ largest) × HasOtherVersion bytes major
IsRefused bytes (TrailingBytes count) = (length bytes ≤ largest) × HasTail bytes count
IsRefused bytes Truncated = class_of bytes ≡ Err Truncated
IsRefused bytes (BadPool index) = class_of bytes ≡ Err (BadPool index)
IsRefused bytes BadShape = class_of bytes ≡ Err BadShape
IsRefused bytes (BadDescriptor index) = class_of bytes ≡ Err (BadDescriptor index)
IsRefused bytes Memory = ⊥
