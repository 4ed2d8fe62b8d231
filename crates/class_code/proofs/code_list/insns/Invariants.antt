use Rattle.std.proofs.Common.{◌≡◌, ◌+◌, length}
use Rattle.class_code.specs.Code.{with_prefix, insns_of}
use Rattle.class_code.proofs.code_list.insns.Given as goal

-- the instructions so far, and those that are still read, are those of the whole
abbrev pub invariant-loop-rest : goal.invariant-loop-rest
invariant-loop-rest l = record { destination : l.pc + length l.rest ≡ length l.code; told : with_prefix l.insns.items (insns_of l.pc l.rest) ≡ insns_of 0 l.code }

abbrev pub decreases-loop-rest : goal.decreases-loop-rest
decreases-loop-rest l = length l.rest
