use Rattle.std.proofs.Common.{ℕ, ◌≤◌, ◌-◌, ◌^◌}
use Rattle.type_table.proofs.store.depth_for.Given as goal

abbrev pub decreases-loop-depth : goal.decreases-loop-depth
decreases-loop-depth l = 16 - l.depth

abbrev pub invariant-loop-depth : goal.invariant-loop-depth
invariant-loop-depth l = record { most : l.depth ≤ 16; least : (depth : ℕ) → l.locals ≤ 2 ^ depth → l.depth ≤ depth }
