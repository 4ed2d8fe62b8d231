use Rattle.std.proofs.Common.{◌≡◌, drop, true}
use Rattle.class_pool.specs.DescriptorReading.{name_size}
use Rattle.class_pool.proofs.descriptors.Scans.{ahead}
use Rattle.class_pool.proofs.scan.name_size.Given as goal

-- the bytes so far are of the name, and the rest decides
abbrev pub invariant-loop-byte : goal.invariant-loop-byte
invariant-loop-byte l = record {
  size_is : l.size ≡ l.byte-index;
  so_far : ahead l.size (name_size l.begins (drop l.byte-index l.text)) ≡ name_size true l.text;
}
