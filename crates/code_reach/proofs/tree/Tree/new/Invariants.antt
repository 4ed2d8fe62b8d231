use Rattle.std.proofs.Common.{◌≡◌, ℕ, ◌*◌, ◌^◌, length, take}
use Rattle.code_reach.specs.Visits.{pcs_of}
use Rattle.code_reach.specs.Tree.{HoldsRows}
use Rattle.code_reach.proofs.tree.Tree.new.Given as goal

abbrev pub invariant-loop-row : goal.invariant-loop-row
invariant-loop-row g l =
    record {
      size : length l.nodes.items ≡ 2 * l.leaves;
      holds : (height : ℕ) → l.leaves ≡ 2 ^ height → HoldsRows (pcs_of l.code) (take l.row-index l.rows) l.leaves height l.nodes.items (λ index. ⊥);
    }
