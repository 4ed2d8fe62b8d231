use Rattle.std.proofs.Common.{◌≡◌, ℕ, ◌<◌, None, Some, slice_get}
use Rattle.class_file.specs.declared.record.ClassFile.{ClassFile}
use Rattle.jvm_model.specs.Entry.{main_in}
use Rattle.body_make.proofs.entry.entry.Given as goal

abbrev pub invariant-loop-position : goal.invariant-loop-position
invariant-loop-position l = (k : ℕ) (file : ClassFile) → k < l.position → slice_get l.set k ≡ Some file → main_in file ≡ None
