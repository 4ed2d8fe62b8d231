-- what left the reader is in the bytes, of which there are not too many
use Rattle.std.proofs.Common.{◌≤◌, ◌-◌, vec_len}
use Rattle.std.specs.Io.KnownBytes.{Consumes}
use Rattle.host_face.specs.declared.streams.TheConstants.{MOST_BYTES}
use Rattle.host_face.proofs.streams.read_whole.Given as goal

abbrev pub invariant-pieces : goal.invariant-pieces
invariant-pieces g l = record {
  few : vec_len l.bytes ≤ MOST_BYTES;
  moved : Consumes (g.R.Read.remaining l.initial.reader) (g.R.Read.remaining l.reader) l.bytes.items;
}

abbrev pub decreases-pieces : goal.decreases-pieces
decreases-pieces g l = MOST_BYTES - vec_len l.bytes
