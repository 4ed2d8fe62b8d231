-- the signatures of the selectors so far
use Rattle.std.proofs.Common.{◌≡◌, map, take}
use Rattle.jvm_model.specs.ImageTables.{selector_signature}
use Rattle.infuse_tables.proofs.selectors.selector_signatures.Given as goal

abbrev pub invariant-loop-selector : goal.invariant-loop-selector
invariant-loop-selector l = l.list.items ≡ map selector_signature (take l.selector-index l.ids.selectors)
