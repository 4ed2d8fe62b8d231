-- The room of two operands is that of both.
use Rattle.std.proofs.Common.{◌≡◌, ℕ, zero, suc, ◌+◌, List, [], ◌∷◌, take, drop, refl, arith}
use Rattle.std.specs.List.{sum_by}
use Rattle.std.proofs.lemmas.List.Sums.{sum_by-cons}
use Rattle.image_instr.specs.declared.insn.Kind.{Kind}

-- two elements one after the other
pub two_sums : (f : Kind → ℕ) (shapes : List Kind) (position : ℕ) → sum_by f (take 2 (drop position shapes)) ≡ sum_by f (take 1 (drop position shapes)) + sum_by f (take 1 (drop (suc position) shapes))
two_sums f [] zero = refl
two_sums f [] (suc position) = refl
two_sums f (shape ∷ shapes) (suc position) = two_sums f shapes position
two_sums f (shape ∷ []) zero = omega arith
two_sums f (shape ∷ next ∷ shapes) zero = omega (arith, sum_by-cons f shape (next ∷ []))
