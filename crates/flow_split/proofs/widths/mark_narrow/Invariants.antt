use Rattle.std.proofs.Common.{◌≡◌, ◌||◌, ℕ, Bool, map, take}
use Rattle.std.specs.List.{list_any}
use Rattle.jvm_model.specs.TypesRight.{Table}
use Rattle.jvm_model.specs.WidthsShapes.{height_at, stores_one}
use Rattle.flow_split.specs.Shares.{AreMarks}
use Rattle.flow_split.proofs.widths.mark_narrow.Given as goal

abbrev pub invariant-loop-index : goal.invariant-loop-index
invariant-loop-index l = (table : Table) (count : ℕ) (test : ℕ → Bool) → l.heights ≡ map (λ x. height_at table x.0) l.ops → AreMarks count test l.fn.marks.items
    → AreMarks count (λ local. test local || list_any (stores_one l.narrow table local) (take l.index l.ops)) l.marks.items
