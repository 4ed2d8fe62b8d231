use Rattle.std.proofs.Common.{◌≡◌, ◌++◌, take}
use Rattle.std.specs.List.{flat_map}
use Rattle.image_form.specs.Format.{type_bytes}
use Rattle.image_form.proofs.write.append_each_type.Given as goal

-- so many are written
abbrev pub invariant-loop-entry : goal.invariant-loop-entry
invariant-loop-entry l = l.out.items ≡ l.fn.out.items ++ flat_map type_bytes (take l.entry-index l.types)
