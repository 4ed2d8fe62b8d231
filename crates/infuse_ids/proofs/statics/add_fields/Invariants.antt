-- The static fields so far are there.
use Rattle.std.proofs.Common.{◌≡◌, ◌+◌, ◌++◌, take}
use Rattle.std.specs.List.{flat_map, sum_by}
use Rattle.infuse_ids.specs.Statics.{reference_of, cells_of}
use Rattle.infuse_ids.proofs.statics.add_fields.Given as goal

abbrev pub invariant-loop-field : goal.invariant-loop-field
invariant-loop-field l = record {
  refs : l.statics.refs ≡ l.fn.statics.refs + sum_by (reference_of l.file) (take l.field-index l.fields);
  cells : l.statics.cells.items ≡ l.fn.statics.cells.items ++ flat_map (cells_of l.file) (take l.field-index l.fields);
}
