use Rattle.std.proofs.Common.{◌≡◌, ◌++◌, take}
use Rattle.std.specs.List.{flat_map}
use Rattle.image_form.specs.Format.{sig_bytes}
use Rattle.image_form.proofs.write.append_each_selector.Given as goal

-- so many are written
abbrev pub invariant-loop-selector : goal.invariant-loop-selector
invariant-loop-selector l = l.out.items ≡ l.fn.out.items ++ flat_map sig_bytes (take l.selector-index l.selectors)
