-- What whole reads and writes do to streams.
use Rattle.std.specs.Prelude.{ℕ, ◌<◌, List, Option, length, take}
use Rattle.std.specs.Io.KnownBytes.{Appends}
use Rattle.host_face.specs.declared.shelf.ShelfFail.{ShelfFail}
use Rattle.host_face.specs.declared.shelf.ShelfFail.TheVariants as fail
use Rattle.host_face.specs.declared.streams.ReadFailed.{ReadFailed}
use Rattle.host_face.specs.declared.streams.ReadFailed.TheVariants.{Stream, TooLarge, Memory}

-- want of memory is want of memory, all else is a failure
abbrev pub shelf_fail : ReadFailed → ShelfFail
shelf_fail Stream = fail.Failed
shelf_fail TooLarge = fail.Failed
shelf_fail Memory = fail.Memory

-- some of the bytes were appended, from their start on, and not all
abbrev pub AppendsPrefix : Option (List ℕ) → Option (List ℕ) → List ℕ → Type 0
AppendsPrefix old new bytes = (count : ℕ) × (count < length bytes) × Appends old new (take count bytes)
