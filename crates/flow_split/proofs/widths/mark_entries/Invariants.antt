use Rattle.std.proofs.Common.{◌||◌, ℕ, Bool, take}
use Rattle.std.specs.List.{list_any}
use Rattle.jvm_model.specs.WidthsShapes.{is_local_entry}
use Rattle.flow_split.specs.Shares.{AreMarks}
use Rattle.flow_split.proofs.widths.mark_entries.Given as goal

abbrev pub invariant-loop-entry : goal.invariant-loop-entry
invariant-loop-entry l = (count : ℕ) (test : ℕ → Bool) → AreMarks count test l.fn.marks.items → AreMarks count (λ local. test local || list_any (is_local_entry local) (take l.entry-index l.narrow)) l.marks.items
