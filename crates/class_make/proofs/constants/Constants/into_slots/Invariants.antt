use Rattle.std.proofs.Common.{◌≡◌, ◌++◌}
use Rattle.class_make.specs.Numbered.{slots_of_all}
use Rattle.class_make.proofs.constants.Constants.into_slots.Given as goal

-- the places so far, and those of the constants that are left
abbrev pub invariant-loop-constant : goal.invariant-loop-constant
invariant-loop-constant l = l.slots.items ++ slots_of_all l.constant-iterator ≡ l.fn.self
