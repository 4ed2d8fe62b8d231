use Rattle.std.proofs.Common.{map, take}
use Rattle.std.specs.String.{string_bytes}
use Rattle.mote_top.specs.Parts.{IsPart}
use Rattle.mote_top.proofs.words.read_words.Given as goal

-- the words so far are the part
abbrev pub invariant-loop-place : goal.invariant-loop-place
invariant-loop-place l = IsPart (take l.place (map string_bytes l.words)) l.part
