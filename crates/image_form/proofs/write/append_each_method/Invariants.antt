use Rattle.std.proofs.Common.{◌≡◌, ◌++◌, take}
use Rattle.std.specs.List.{flat_map}
use Rattle.image_form.specs.Format.{method_bytes}
use Rattle.image_form.proofs.write.append_each_method.Given as goal

-- so many are written
abbrev pub invariant-loop-method : goal.invariant-loop-method
invariant-loop-method l = l.out.items ≡ l.fn.out.items ++ flat_map method_bytes (take l.method-index l.methods)
