-- What holds or does not: the parts of a decision.
use Rattle.std.proofs.Common.{◌⊎◌, inl, inr}

abbrev pub Decided : Type 0 → Type 0
Decided P = P ⊎ (P → ⊥)

pub decide_both : {P Q : Type 0} → Decided P → Decided Q → Decided (P × Q)
decide_both (inl p) (inl q) = inl (p, q)
decide_both (inl p) (inr none) = inr (λ both. none both.1)
decide_both (inr none) d = inr (λ both. none both.0)

-- what is the same as something decided
pub decide_same : {P Q : Type 0} → (P → Q) → (Q → P) → Decided P → Decided Q
decide_same to from (inl p) = inl (to p)
decide_same to from (inr none) = inr (λ q. none (from q))
