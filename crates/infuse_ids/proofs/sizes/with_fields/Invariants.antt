-- The fields so far are counted.
use Rattle.std.proofs.Common.{◌≡◌, take}
use Rattle.std.specs.List.{fold}
use Rattle.infuse_ids.specs.Sizes.{sized, with_member}
use Rattle.infuse_ids.proofs.sizes.with_fields.Given as goal

abbrev pub invariant-loop-field : goal.invariant-loop-field
invariant-loop-field l = sized l.all ≡ fold (with_member l.pool) (sized l.fn.sizes) (take l.field-index l.fields)
