-- The needs of the parameters from the last one down are there.
use Rattle.std.proofs.Common.{◌≡◌, ◌≤◌, map, reverse, drop, length}
use Rattle.jvm_model.specs.TypesFrames.{fits_kind}
use Rattle.flow_verify.specs.Needs.{tests_of}
use Rattle.flow_verify.proofs.calls.needs_of.Given as goal

abbrev pub invariant-loop-left : goal.invariant-loop-left
invariant-loop-left l = record { within : l.left ≤ length l.params; needs : tests_of l.set l.needs.items ≡ reverse (map (fits_kind l.set) (drop l.left l.params)) }

abbrev pub decreases-loop-left : goal.decreases-loop-left
decreases-loop-left l = l.left
