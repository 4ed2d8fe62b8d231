-- A list of phases, each of which has one answer for each set, has one.
use Rattle.std.proofs.Common.{◌≡◌, inl, inr, ℕ, List, [], ◌∷◌, Option, Some, None, refl, sym, ◌∙◌}
use Rattle.std.proofs.lemmas.Option.{none-some}
use Rattle.jvm_model.specs.declared.refusal.Refusal.{Refusal}
use Rattle.jvm_model.specs.Verdict.{Phase, FirstRefusal, AreBytes, AreFunctions}

pub first_total : (phases : List Phase) → AreFunctions phases → (files : List (List ℕ)) → AreBytes files → (found : Option Refusal) × FirstRefusal phases files found
first_total [] all files bytes = (None, refl)
first_total (phase ∷ rest) all files bytes = by_phase (all.0.total files bytes) (first_total rest all.1 files bytes)
  where
    by_phase : (found : Option Refusal) × phase files found → (found : Option Refusal) × FirstRefusal rest files found → (found : Option Refusal) × FirstRefusal (phase ∷ rest) files found
    by_phase (Some why, has) more = (Some why, inl has)
    by_phase (None, none) (None, more) = (None, (none, more))
    by_phase (None, none) (Some why, more) = (Some why, inr (none, more))

pub first_unique : (phases : List Phase) → AreFunctions phases → (files : List (List ℕ)) (a b : Option Refusal) → FirstRefusal phases files a → FirstRefusal phases files b → a ≡ b
first_unique [] all files a b p q = p ∙ sym q
first_unique (phase ∷ rest) all files None None p q = refl
first_unique (phase ∷ rest) all files None (Some b) p (inl q) = all.0.unique files None (Some b) p.0 q
first_unique (phase ∷ rest) all files None (Some b) p (inr q) = first_unique rest all.1 files None (Some b) p.1 q.1
first_unique (phase ∷ rest) all files (Some a) None (inl p) q = all.0.unique files (Some a) None p q.0
first_unique (phase ∷ rest) all files (Some a) None (inr p) q = first_unique rest all.1 files (Some a) None p.1 q.1
first_unique (phase ∷ rest) all files (Some a) (Some b) (inl p) (inl q) = all.0.unique files (Some a) (Some b) p q
first_unique (phase ∷ rest) all files (Some a) (Some b) (inl p) (inr q) = absurd (none-some a (sym (all.0.unique files (Some a) None p q.0)))
first_unique (phase ∷ rest) all files (Some a) (Some b) (inr p) (inl q) = absurd (none-some b (all.0.unique files None (Some b) p.0 q))
first_unique (phase ∷ rest) all files (Some a) (Some b) (inr p) (inr q) = first_unique rest all.1 files (Some a) (Some b) p.1 q.1
