-- What is asked of a reached instruction, and of one that is not reached, has an answer.
use Rattle.std.proofs.Common.{inl, inr, ℕ, Option}
use Rattle.code_reach.specs.Reached.{Ways, IsReached}
use Rattle.jvm_model.specs.declared.refusal.Refusal.{Refusal}
use Rattle.jvm_model.proofs.phases.FirstAnswers.{IsSome}
use Rattle.jvm_model.proofs.bodies.ReachedSets.{decide_reached}

pub where_reached : (ways : Ways) (pc : ℕ) (Has : Option Refusal → Type 0) → (IsReached ways pc → IsSome Has) → ((IsReached ways pc → ⊥) → IsSome Has) → IsSome Has
where_reached ways pc Has reached unreached = elim (decide_reached ways pc) [ inl is ↦ reached is | inr none ↦ unreached none ]
