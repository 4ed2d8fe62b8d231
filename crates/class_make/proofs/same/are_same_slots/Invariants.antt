use Rattle.std.proofs.Common.{◌≡◌, take}
use Rattle.class_make.proofs.same.are_same_slots.Given as goal

-- the items so far are the same
abbrev pub invariant-loop-i : goal.invariant-loop-i
invariant-loop-i l = take l.i l.a ≡ take l.i l.b
