use Rattle.std.proofs.Common.{◌≡◌, ◌≤◌, length, filter, take}
use Rattle.jvm_model.specs.Initialisers.{is_reference_kind}
use Rattle.infuse_emit.proofs.signatures.references.Given as goal

abbrev pub invariant-loop-kind : goal.invariant-loop-kind
invariant-loop-kind l = record {
  is : l.count ≡ length (filter is_reference_kind (take l.kind-index l.kinds));
  most : l.count ≤ l.kind-index;
}
