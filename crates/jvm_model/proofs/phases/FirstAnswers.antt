-- What has one answer for each thing has one for the first of many, for a thing that may be there, and for two
-- tests one after the other.
use Rattle.std.proofs.Common.{◌≡◌, inl, inr, ℕ, suc, List, [], ◌∷◌, Option, Some, None, refl, sym, ◌∙◌}
use Rattle.std.proofs.lemmas.Option.{none-some}
use Rattle.jvm_model.specs.declared.refusal.Refusal.{Refusal}
use Rattle.jvm_model.specs.FirstOf.{FirstOf, IfThere}
use Rattle.jvm_model.specs.Linking.{OrElse}

-- two refusals, or none, of the same are one
abbrev pub IsOne : (Option Refusal → Type 0) → Type 0
IsOne Has = (a b : Option Refusal) → Has a → Has b → a ≡ b

-- there is a refusal, or none
abbrev pub IsSome : (Option Refusal → Type 0) → Type 0
IsSome Has = (found : Option Refusal) × Has found

-- ---- the first of many

module _ {X : Type 0} (Has : ℕ → X → Option Refusal → Type 0) where
  pub one_first : ((place : ℕ) (x : X) → IsOne (Has place x)) → (place : ℕ) (xs : List X) → IsOne (FirstOf Has place xs)
  one_first one place [] None None p q = refl
  one_first one place [] None (Some b) p q = absurd q
  one_first one place [] (Some a) b p q = absurd p
  one_first one place (x ∷ xs) None None p q = refl
  one_first one place (x ∷ xs) None (Some b) p (inl q) = one place x None (Some b) p.0 q
  one_first one place (x ∷ xs) None (Some b) p (inr q) = one_first one (suc place) xs None (Some b) p.1 q.1
  one_first one place (x ∷ xs) (Some a) None (inl p) q = one place x (Some a) None p q.0
  one_first one place (x ∷ xs) (Some a) None (inr p) q = one_first one (suc place) xs (Some a) None p.1 q.1
  one_first one place (x ∷ xs) (Some a) (Some b) (inl p) (inl q) = one place x (Some a) (Some b) p q
  one_first one place (x ∷ xs) (Some a) (Some b) (inl p) (inr q) = absurd (none-some a (sym (one place x (Some a) None p q.0)))
  one_first one place (x ∷ xs) (Some a) (Some b) (inr p) (inl q) = absurd (none-some b (one place x None (Some b) p.0 q))
  one_first one place (x ∷ xs) (Some a) (Some b) (inr p) (inr q) = one_first one (suc place) xs (Some a) (Some b) p.1 q.1

  pub some_first : ((place : ℕ) (x : X) → IsSome (Has place x)) → (place : ℕ) (xs : List X) → IsSome (FirstOf Has place xs)
  some_first each place [] = (None, tt)
  some_first each place (x ∷ xs) = by_head (each place x) (some_first each (suc place) xs)
    where
      by_head : IsSome (Has place x) → IsSome (FirstOf Has (suc place) xs) → IsSome (FirstOf Has place (x ∷ xs))
      by_head (Some why, has) more = (Some why, inl has)
      by_head (None, none) (None, rest) = (None, (none, rest))
      by_head (None, none) (Some why, rest) = (Some why, inr (none, rest))

-- ---- one that may be there

module _ {X : Type 0} (Has : X → Option Refusal → Type 0) where
  pub one_there : ((x : X) → IsOne (Has x)) → (o : Option X) → IsOne (IfThere Has o)
  one_there one None a b p q = p ∙ sym q
  one_there one (Some x) a b p q = one x a b p q

  pub some_there : ((x : X) → IsSome (Has x)) → (o : Option X) → IsSome (IfThere Has o)
  some_there each None = (None, refl)
  some_there each (Some x) = each x

-- ---- two tests

module _ (First Second : Option Refusal → Type 0) where
  pub one_else : IsOne First → IsOne Second → IsOne (OrElse First Second)
  one_else one other None None p q = refl
  one_else one other None (Some b) p (inl q) = one None (Some b) p.0 q
  one_else one other None (Some b) p (inr q) = other None (Some b) p.1 q.1
  one_else one other (Some a) None (inl p) q = one (Some a) None p q.0
  one_else one other (Some a) None (inr p) q = other (Some a) None p.1 q.1
  one_else one other (Some a) (Some b) (inl p) (inl q) = one (Some a) (Some b) p q
  one_else one other (Some a) (Some b) (inl p) (inr q) = absurd (none-some a (sym (one (Some a) None p q.0)))
  one_else one other (Some a) (Some b) (inr p) (inl q) = absurd (none-some b (one None (Some b) p.0 q))
  one_else one other (Some a) (Some b) (inr p) (inr q) = other (Some a) (Some b) p.1 q.1

  pub some_else : IsSome First → IsSome Second → IsSome (OrElse First Second)
  some_else (Some why, has) more = (Some why, inl has)
  some_else (None, none) (None, rest) = (None, (none, rest))
  some_else (None, none) (Some why, rest) = (Some why, inr (none, rest))

-- what equals an answer is one
pub one_same : (answer : Option Refusal) → IsOne (λ found. found ≡ answer)
one_same answer a b p q = p ∙ sym q

pub some_same : (answer : Option Refusal) → IsSome (λ found. found ≡ answer)
some_same answer = (answer, refl)
