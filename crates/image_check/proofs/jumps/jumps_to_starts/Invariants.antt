use Rattle.std.proofs.Common.{◌≡◌, drop}
use Rattle.std.specs.List.{list_all}
use Rattle.image_check.specs.Code.{targets_at}
use Rattle.image_check.specs.Listing.{is_start}
use Rattle.image_check.proofs.jumps.jumps_to_starts.Given as goal

-- the targets that are left decide
abbrev pub invariant-loop-index : goal.invariant-loop-index
invariant-loop-index l = list_all (is_start l.insns) (drop l.index (targets_at l.code (l.pc, l.insn))) ≡ list_all (is_start l.insns) (targets_at l.code (l.pc, l.insn))
