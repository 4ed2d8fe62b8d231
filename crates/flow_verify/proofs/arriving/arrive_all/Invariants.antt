use Rattle.std.proofs.Common.{map, take}
use Rattle.flow_verify.specs.Waves.{meaning_of}
use Rattle.flow_verify.specs.Merging.{HaveArrived}
use Rattle.flow_verify.proofs.arriving.arrive_all.Given as goal

abbrev pub invariant-loop-one : goal.invariant-loop-one
invariant-loop-one l = HaveArrived l.set l.body.ops l.round (map (meaning_of l.body.ops l.fn.frames.store) (take l.one-index l.arriving)) l.fn.frames l.frames l.wave.items l.failing
