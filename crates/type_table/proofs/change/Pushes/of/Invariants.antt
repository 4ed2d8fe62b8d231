use Rattle.std.proofs.Common.{◌≡◌, length, take}
use Rattle.type_table.proofs.change.Pushes.of.Given as goal

abbrev pub invariant-loop-position : goal.invariant-loop-position
invariant-loop-position l = record { long : length l.pushed ≡ 6; same : take l.position l.pushed ≡ take l.position l.types }
