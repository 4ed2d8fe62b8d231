use Rattle.std.proofs.Common.{◌≡◌, ℕ, ◌||◌, ◌&&◌, false, nat_lt, length, get_or}
use Rattle.class_tree.proofs.closure.step.Given as goal

abbrev pub invariant-loop-i : goal.invariant-loop-i
invariant-loop-i l = record { same_length : length l.row.items ≡ length l.fn.row.items; says : (to : ℕ) → get_or l.row.items to false ≡ (get_or l.fn.row.items to false || (nat_lt to l.i && get_or l.pivot to false)) }
