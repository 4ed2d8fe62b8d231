-- The lowest pc of two properties is the lower of those of each.
use Rattle.std.proofs.Common.{◌≡◌, ℕ, ◌<◌, ◌⊎◌, inl, inr, min, Option, None, Some, subst, arith}
use Rattle.std.proofs.lemmas.Bool.{cases_lt}
use Rattle.flow_verify.specs.Lowest.{IsLowest, lower_of}

pub lowest_same : (P Q : ℕ → Type 0) → ((pc : ℕ) → P pc → Q pc) → ((pc : ℕ) → Q pc → P pc) → (o : Option ℕ) → IsLowest P o → IsLowest Q o
lowest_same P Q to from None low = λ pc is. low pc (from pc is)
lowest_same P Q to from (Some pc) low = (to pc low.0, λ other less is. low.1 other less (from other is))

module _ (P Q : ℕ → Type 0) where
  abbrev Either : ℕ → Type 0
  Either pc = P pc ⊎ Q pc

  neither : (pc : ℕ) → (P pc → ⊥) → (Q pc → ⊥) → Either pc → ⊥
  neither pc first second (inl is) = first is
  neither pc first second (inr is) = second is

  pub lowest_both : (a b : Option ℕ) → IsLowest P a → IsLowest Q b → IsLowest Either (lower_of a b)
  lowest_both None None first second = λ pc. neither pc (first pc) (second pc)
  lowest_both None (Some b) first second = (inr second.0, λ pc less. neither pc (first pc) (second.1 pc less))
  lowest_both (Some a) None first second = (inl first.0, λ pc less. neither pc (first.1 pc less) (second pc))
  lowest_both (Some a) (Some b) first second =
      elim (cases_lt a b) [
        | inl less ↦
            let is : a ≡ min a b = omega (arith, less) in
            subst (λ low. Either low × ((pc : ℕ) → pc < low → Either pc → ⊥)) is (inl first.0, λ pc below. neither pc (first.1 pc below) (second.1 pc (omega (arith, below, less))))
        | inr le ↦
            let is : b ≡ min a b = omega (arith, le) in
            subst (λ low. Either low × ((pc : ℕ) → pc < low → Either pc → ⊥)) is (inr second.0, λ pc below. neither pc (first.1 pc (omega (arith, below, le))) (second.1 pc below))
      ]
