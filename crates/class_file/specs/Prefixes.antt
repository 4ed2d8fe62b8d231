-- Laws of reading: what "the first fault in the order of the bytes" means.
use Rattle.std.specs.Prelude.{◌⊎◌, ℕ, ◌<◌, ◌≤◌, List, ◌++◌, length}
use Rattle.class_file.specs.declared.record.ClassFile.{ClassFile}
use Rattle.class_file.specs.declared.refusal.ReadRefusal.{ReadRefusal}
use Rattle.class_file.specs.declared.refusal.ReadRefusal.TheVariants.{NotClass, Version, Truncated, TrailingBytes, BadPool, BadShape, BadDescriptor, TooLarge, Memory}
use Rattle.class_file.specs.Relation.{largest, IsClassFile}
use Rattle.class_file.specs.Refused.{IsRefused}

-- the bytes that are there break a rule: of the version, the pool, the shape or a descriptor
abbrev pub IsFault : ReadRefusal → Type 0
IsFault (Version major) = Unit {0}
IsFault (BadPool index) = Unit {0}
IsFault BadShape = Unit {0}
IsFault (BadDescriptor index) = Unit {0}
IsFault NotClass = ⊥
IsFault Truncated = ⊥
IsFault (TrailingBytes count) = ⊥
IsFault (TooLarge size) = ⊥
IsFault Memory = ⊥

-- a class file that is cut off anywhere after the magic is truncated
abbrev pub PrefixesAreTruncated : Type 0
PrefixesAreTruncated = (prefix rest : List ℕ) (file : ClassFile) → IsClassFile (prefix ++ rest) file → 4 ≤ length prefix → 0 < length rest → IsRefused prefix Truncated

-- a fault stands whatever follows the bytes
abbrev pub FaultsHold : Type 0
FaultsHold = (bytes more : List ℕ) (why : ReadRefusal) → IsFault why → IsRefused bytes why → length (bytes ++ more) ≤ largest → IsRefused (bytes ++ more) why

-- no class file begins with bytes that have a fault
abbrev pub NoneBeginsWithFaults : Type 0
NoneBeginsWithFaults = (bytes more : List ℕ) (why : ReadRefusal) (file : ClassFile) → IsFault why → IsRefused bytes why → IsClassFile (bytes ++ more) file → ⊥

-- before the first fault there is no other: a prefix of the bytes has this fault, or is truncated
abbrev pub PrefixesOfFaults : Type 0
PrefixesOfFaults = (prefix rest : List ℕ) (why : ReadRefusal) → IsFault why → IsRefused (prefix ++ rest) why → 4 ≤ length prefix → IsRefused prefix Truncated ⊎ IsRefused prefix why

-- a prefix of truncated bytes is truncated
abbrev pub PrefixesOfTruncated : Type 0
PrefixesOfTruncated = (prefix rest : List ℕ) → IsRefused (prefix ++ rest) Truncated → 4 ≤ length prefix → IsRefused prefix Truncated
