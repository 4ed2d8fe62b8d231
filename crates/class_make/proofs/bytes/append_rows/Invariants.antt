use Rattle.std.proofs.Common.{◌≡◌, ◌++◌, take}
use Rattle.std.specs.List.{flat_map}
use Rattle.class_file.specs.Layout.{handler_bytes}
use Rattle.class_make.proofs.bytes.append_rows.Given as goal

-- the bytes of the items so far
abbrev pub invariant-loop-row : goal.invariant-loop-row
invariant-loop-row l = l.out.items ≡ l.initial.out.items ++ flat_map handler_bytes (take l.row-index l.rows)
