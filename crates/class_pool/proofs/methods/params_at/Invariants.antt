use Rattle.std.proofs.Common.{◌≡◌, ◌-◌, length}
use Rattle.class_pool.specs.DescriptorReading.{params_at}
use Rattle.class_pool.proofs.descriptors.Parameters.{with_prefix}
use Rattle.class_pool.proofs.methods.params_at.Given as goal

-- what was read so far, and what the rest gives, is the whole
abbrev pub invariant-loop : goal.invariant-loop
invariant-loop l = with_prefix l.params.items (params_at (length l.text - l.counter) l.rest) ≡ params_at (length l.text) l.text
