use Rattle.std.proofs.Common.{◌≡◌, ℕ, ◌<◌, false, get_or, List, Bor}
use Rattle.std.specs.Str.{bytes_eq}
use Rattle.library.proofs.classes.position_of.Given as goal

abbrev pub invariant-loop-position : goal.invariant-loop-position
invariant-loop-position l = (d : Bor (List ℕ)) (k : ℕ) → k < l.position → bytes_eq l.name (get_or l.names k d).now ≡ false
