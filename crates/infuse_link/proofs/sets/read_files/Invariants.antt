use Rattle.std.proofs.Common.{◌≡◌, drop, take, map}
use Rattle.std.specs.List.{AllByRecursion}
use Rattle.byte_read.specs.Bytes.{AreBytes}
use Rattle.jvm_model.specs.Phases.{first_refusal, reading_refusal}
use Rattle.infuse_link.specs.Sets.{AreRead}
use Rattle.infuse_link.proofs.sets.read_files.Given as goal

-- the files so far are read, and those that are left decide
abbrev pub invariant-loop-place : goal.invariant-loop-place
invariant-loop-place l = record {
  so_far : AreRead (take l.place (map (λ v. v.items) l.files)) l.classes.items;
  bytes : AllByRecursion AreBytes (take l.place (map (λ v. v.items) l.files));
  left : first_refusal reading_refusal l.place (drop l.place (map (λ v. v.items) l.files)) ≡ first_refusal reading_refusal 0 (map (λ v. v.items) l.files);
}
