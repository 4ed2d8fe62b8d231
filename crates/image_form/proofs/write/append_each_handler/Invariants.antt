use Rattle.std.proofs.Common.{◌≡◌, ◌++◌, take}
use Rattle.std.specs.List.{flat_map}
use Rattle.image_form.specs.Format.{handler_bytes}
use Rattle.image_form.proofs.write.append_each_handler.Given as goal

-- so many are written
abbrev pub invariant-loop-handler : goal.invariant-loop-handler
invariant-loop-handler l = l.out.items ≡ l.fn.out.items ++ flat_map handler_bytes (take l.handler-index l.handlers)
