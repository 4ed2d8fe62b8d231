use Rattle.std.proofs.Common.{◌||◌, ℕ, Bool, take}
use Rattle.std.specs.List.{list_any}
use Rattle.jvm_model.specs.WidthsSlots.{is_store}
use Rattle.flow_split.specs.Shares.{AreMarks}
use Rattle.flow_split.proofs.marks.mark_stores.Given as goal

abbrev pub invariant-loop-x : goal.invariant-loop-x
invariant-loop-x l = (count : ℕ) (test : ℕ → Bool) → AreMarks count test l.fn.marks.items → AreMarks count (λ local. test local || list_any (is_store l.kind local) (take l.x-index l.ops)) l.marks.items
