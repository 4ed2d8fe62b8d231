use Rattle.std.proofs.Common.{◌≡◌, ◌++◌, map, take}
use Rattle.jvm_model.specs.TypesFrames.{parameter_of, receiver_of}
use Rattle.flow_verify.proofs.start.arguments.Given as goal

abbrev pub invariant-loop-kind : goal.invariant-loop-kind
invariant-loop-kind l = l.types.items ≡ receiver_of l.set l.body ++ map (parameter_of l.set) (take l.kind-index l.kind-items)
