use Rattle.std.proofs.Common.{◌≡◌, ◌++◌, take}
use Rattle.std.specs.List.{flat_map}
use Rattle.image_form.specs.Format.{row_bytes}
use Rattle.image_form.proofs.write.append_each_row.Given as goal

-- so many are written
abbrev pub invariant-loop-row : goal.invariant-loop-row
invariant-loop-row l = l.out.items ≡ l.fn.out.items ++ flat_map row_bytes (take l.row-index l.rows)
