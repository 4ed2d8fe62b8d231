-- The types so far are there.
use Rattle.std.proofs.Common.{◌≡◌, ◌++◌, take}
use Rattle.std.specs.List.{flat_map}
use Rattle.class_pool.specs.Descriptors.{kind_text}
use Rattle.infuse_ids.proofs.descriptor.push_kinds.Given as goal

abbrev pub invariant-loop-kind : goal.invariant-loop-kind
invariant-loop-kind l = l.text.items ≡ l.fn.text.items ++ flat_map kind_text (take l.kind-index l.kinds)
