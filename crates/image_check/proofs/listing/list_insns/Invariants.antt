use Rattle.std.proofs.Common.{length, drop, ◌-◌, ◌≤◌}
use Rattle.image_check.specs.Code.{AreIn}
use Rattle.image_check.specs.Listing.{RiseWithin}
use Rattle.image_check.proofs.listing.list_insns.Given as goal

-- the instructions so far stand before the offset
abbrev pub invariant-loop-pc : goal.invariant-loop-pc
invariant-loop-pc l =
    record { stand : AreIn 0 l.code l.insns.items l.pc (drop l.pc l.code); rise : RiseWithin 0 l.insns.items l.pc; within : l.pc ≤ length l.code }

abbrev pub decreases-loop-pc : goal.decreases-loop-pc
decreases-loop-pc l = length l.code - l.pc
