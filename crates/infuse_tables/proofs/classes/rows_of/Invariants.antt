-- the rows for the selectors so far
use Rattle.std.proofs.Common.{◌≡◌, take}
use Rattle.std.specs.List.{filter_map}
use Rattle.jvm_model.specs.ImageTables.{numbered, row_for}
use Rattle.jvm_model.specs.NumberedIds.{numbers_of}
use Rattle.infuse_tables.proofs.classes.rows_of.Given as goal

abbrev pub invariant-loop-number : goal.invariant-loop-number
invariant-loop-number l = l.rows.items ≡ filter_map (row_for l.set (numbers_of l.ids) l.class) (take l.number (numbered 0 l.ids.selectors))
