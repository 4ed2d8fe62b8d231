-- A local past the marks marks none.
use Rattle.std.proofs.Common.{◌||◌, nat_eq, Bool, false, ℕ, List, Option, set, true, subst, sym, arith}
use Rattle.std.specs.Option.{option_map_or}
use Rattle.flow_split.specs.Shares.{AreMarks}
use Rattle.flow_split.proofs.Marking.{marked, marked_past, unmarked}
use Rattle.flow_split.proofs.marks.mark.Goals as goal

abbrev Marked : ℕ → (ℕ → Bool) → Option ℕ → List Bool → Type 0
Marked count test local marks = AreMarks count (λ k. test k || option_map_or (λ one. nat_eq one k) local false) marks

pub returns-in-None : goal.returns-in-None
returns-in-None c = λ count test are. subst (λ (local : Option ℕ). Marked count test local c.args.marks.now.items) (sym c.in-None.is) (unmarked count test c.args.marks.now.items are)

pub returns-then-index-len : goal.returns-then-index-len
returns-then-index-len c = λ count test are.
    subst (λ (local : Option ℕ). Marked count test local (set c.args.marks.now.items c.from-index.result true)) (sym c.in-Some.is)
    (subst (λ (i : ℕ). AreMarks count (λ k. test k || nat_eq c.in-Some.local k) (set c.args.marks.now.items i true)) (sym c.from-index.ensures)
    (marked count test c.args.marks.now.items are c.in-Some.local (omega arith)))

pub returns-else-index-len : goal.returns-else-index-len
returns-else-index-len c = λ count test are.
    subst (λ (local : Option ℕ). Marked count test local c.args.marks.now.items) (sym c.in-Some.is)
    (marked_past count test c.args.marks.now.items are c.in-Some.local (omega arith))
