use Rattle.std.proofs.Common.{◌-◌, [], drop}
use Rattle.class_code.specs.Flow.{code_ways}
use Rattle.jvm_model.specs.Linking.{NamesOf}
use Rattle.jvm_model.specs.Bodies.{IsFamily}
use Rattle.body_make.proofs.Adding.{Completes}
use Rattle.jvm_model.proofs.phases.Scans.{Decides}
use Rattle.body_make.proofs.code.ops_of.Given as goal

-- what is found in the instructions that are left is found in all, and their families complete those that are
-- had
abbrev pub invariant-loop-index : goal.invariant-loop-index
invariant-loop-index l = record {
  decides : Decides (λ index x. NamesOf l.set (l.class - 32) l.file l.member (code_ways l.handlers l.insns) x) l.insns l.index;
  completes : Completes (IsFamily l.set l.class l.file.pool (code_ways l.handlers l.insns)) l.insns (drop l.index l.insns) [] l.ops.items;
}
