use Rattle.std.proofs.Common.{◌≡◌, ℕ, ◌<◌, length}
use Rattle.class_tree.specs.Descriptors.{fault_at, field_fault}
use Rattle.class_tree.proofs.descriptors.field_faults.Given as goal

abbrev pub invariant-loop-index : goal.invariant-loop-index
invariant-loop-index l = record {
  many : length l.faults.items ≡ l.index;
  done : (index : ℕ) → index < l.index → fault_at l.faults.items index ≡ field_fault l.names l.pool index;
}
