-- the entries of the types so far
use Rattle.std.proofs.Common.{◌≡◌, take}
use Rattle.std.specs.List.{flat_map}
use Rattle.jvm_model.specs.ImageTables.{entry_of}
use Rattle.jvm_model.specs.NumberedIds.{numbers_of}
use Rattle.infuse_tables.proofs.entries.type_entries.Given as goal

abbrev pub invariant-loop-position : goal.invariant-loop-position
invariant-loop-position l = l.entries.items ≡ flat_map (entry_of l.set (numbers_of l.ids)) (take l.position l.ids.types)
