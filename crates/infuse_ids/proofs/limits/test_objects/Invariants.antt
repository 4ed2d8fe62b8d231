-- The first object that is too large is one of those from here on.
use Rattle.std.proofs.Common.{◌≡◌, ◌+◌, ◌-◌, map, length}
use Rattle.std.specs.List.{range_with_len}
use Rattle.library.specs.Classes.{first_own}
use Rattle.jvm_model.specs.ImageLimits.{first_large, file_layouts}
use Rattle.jvm_model.specs.ImageNumbering.{layout_of}
use Rattle.infuse_ids.proofs.limits.test_objects.Given as goal

abbrev pub invariant-loop-position : goal.invariant-loop-position
invariant-loop-position l = first_large (map (layout_of l.set) (range_with_len (first_own + l.position) (length l.set - l.position))) ≡ first_large (file_layouts l.set)
