use Rattle.std.proofs.Common.{◌≡◌, ◌-◌, length}
use Rattle.class_pool.specs.DescriptorReading.{suffix_of, params_at}
use Rattle.class_pool.proofs.scan.skip_params.Given as goal

-- what follows the parameters that are left follows them all
abbrev pub invariant-loop : goal.invariant-loop
invariant-loop l = suffix_of (params_at (length l.text - l.counter) l.rest) ≡ suffix_of (params_at (length l.text) l.text)
