use Rattle.std.proofs.Common.{◌≡◌, length}
use Rattle.class_pool.specs.PoolReading.{is_modified_utf8}
use Rattle.class_pool.proofs.utf8.is_modified_utf8.Given as goal

abbrev pub invariant-loop-rest : goal.invariant-loop-rest
invariant-loop-rest l = is_modified_utf8 l.rest ≡ is_modified_utf8 l.bytes

abbrev pub decreases-loop-rest : goal.decreases-loop-rest
decreases-loop-rest l = length l.rest
