-- The arrays of as many dimensions are there.
use Rattle.std.proofs.Common.{◌≡◌}
use Rattle.jvm_model.specs.ImageNumbering.{with_arrays}
use Rattle.infuse_ids.proofs.types.add_arrays.Given as goal

abbrev pub invariant-loop-lower : goal.invariant-loop-lower
invariant-loop-lower l = l.types ≡ with_arrays l.base l.lower l.fn.types
