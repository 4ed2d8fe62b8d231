use Rattle.std.proofs.Common.{◌≡◌, ◌++◌, map, replicate, take}
use Rattle.library.specs.Classes.{first_own}
use Rattle.image_form.specs.declared.record.Method.{Method}
use Rattle.mote_core.proofs.start.bodies_of.Given as goal

abbrev pub invariant-loop-method : goal.invariant-loop-method
invariant-loop-method l = l.bodies.items ≡ replicate first_own 0 ++ map (λ (method : Method). method.body) (take l.method-index l.method-items)
