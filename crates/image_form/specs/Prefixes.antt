-- Laws of reading: what "the first rule that fails in the order of the bytes" means.
use Rattle.std.specs.Prelude.{◌⊎◌, ℕ, ◌<◌, ◌≤◌, List, ◌++◌, length}
use Rattle.image_form.specs.declared.record.Image.{Image}
use Rattle.image_form.specs.declared.refusal.FormRefusal.{FormRefusal}
use Rattle.image_form.specs.declared.refusal.FormRefusal.TheVariants.{NotInfusion, FormVersion, Truncated, TrailingBytes, BadTable, Memory}
use Rattle.image_form.specs.Grammar.{IsEncoded}
use Rattle.image_form.specs.Refused.{IsRefused}

-- the bytes that are there break a rule: of the version, or of a table
abbrev pub IsFault : FormRefusal → Type 0
IsFault (FormVersion version) = Unit {0}
IsFault (BadTable table index) = Unit {0}
IsFault NotInfusion = ⊥
IsFault Truncated = ⊥
IsFault TrailingBytes = ⊥
IsFault Memory = ⊥

-- an infusion that is cut off anywhere after the magic is truncated
abbrev pub PrefixesAreTruncated : Type 0
PrefixesAreTruncated = (prefix rest : List ℕ) (image : Image) → IsEncoded (prefix ++ rest) image → 4 ≤ length prefix → 0 < length rest → IsRefused prefix Truncated

-- a fault stands whatever follows the bytes
abbrev pub FaultsHold : Type 0
FaultsHold = (bytes more : List ℕ) (why : FormRefusal) → IsFault why → IsRefused bytes why → IsRefused (bytes ++ more) why

-- no infusion begins with bytes that have a fault
abbrev pub NoneBeginsWithFaults : Type 0
NoneBeginsWithFaults = (bytes more : List ℕ) (why : FormRefusal) (image : Image) → IsFault why → IsRefused bytes why → IsEncoded (bytes ++ more) image → ⊥

-- before the first fault there is no other: a prefix of the bytes has this fault, or is truncated
abbrev pub PrefixesOfFaults : Type 0
PrefixesOfFaults = (prefix rest : List ℕ) (why : FormRefusal) → IsFault why → IsRefused (prefix ++ rest) why → 4 ≤ length prefix → IsRefused prefix Truncated ⊎ IsRefused prefix why

-- a prefix of truncated bytes is truncated
abbrev pub PrefixesOfTruncated : Type 0
PrefixesOfTruncated = (prefix rest : List ℕ) → IsRefused (prefix ++ rest) Truncated → 4 ≤ length prefix → IsRefused prefix Truncated
