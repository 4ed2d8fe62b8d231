-- The types of the instructions so far are there.
use Rattle.std.proofs.Common.{◌≡◌, take}
use Rattle.std.specs.List.{fold}
use Rattle.jvm_model.specs.ImageNumbering.{with_shown}
use Rattle.infuse_ids.proofs.types.add_body.Given as goal

abbrev pub invariant-loop-x : goal.invariant-loop-x
invariant-loop-x l = l.types ≡ fold with_shown l.fn.types (take l.x-index l.x-items)
