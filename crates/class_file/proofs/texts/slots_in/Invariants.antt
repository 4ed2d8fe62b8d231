use Rattle.std.proofs.Common.{◌≡◌, min, take}
use Rattle.std.specs.Prelude.{sum_by}
use Rattle.class_file.specs.Rules.{slots_of}
use Rattle.class_file.proofs.texts.slots_in.Given as goal

-- the places of the parameters so far
abbrev pub invariant-loop-kind : goal.invariant-loop-kind
invariant-loop-kind l = l.slots ≡ min 256 (sum_by slots_of (take l.kind-index l.kinds))
