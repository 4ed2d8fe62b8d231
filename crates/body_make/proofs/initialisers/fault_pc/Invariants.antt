use Rattle.std.proofs.Common.{◌≡◌, drop, None, option_map}
use Rattle.jvm_model.specs.Initialisers.{fails_from}
use Rattle.body_make.specs.Pushes.{pushed_of}
use Rattle.body_make.proofs.initialisers.fault_pc.Given as goal

abbrev pub invariant-loop-index : goal.invariant-loop-index
invariant-loop-index l = fails_from l.file l.end (option_map pushed_of l.held) (drop l.index l.insns) ≡ fails_from l.file l.end None l.insns
