-- What was written, one part after the other.
use Rattle.std.proofs.Common.{◌≡◌, ℕ, ◌+◌, ◌<◌, List, [], ◌∷◌, ◌++◌, length, get_or, take, append_assoc, zero, suc, sym, ap, subst, ◌∙◌, arith}
use Rattle.std.specs.List.{flat_map}
use Rattle.std.proofs.lemmas.List.{flat_map_more, take_more}
use Rattle.image_form.specs.Grammar.{EachAfter}

-- one more item is written
pub written_at : {A : Type 0} (f : A → List ℕ) (old : List ℕ) (items : List A) (i : ℕ) (d : A) (now new : List ℕ) → i < length items → now ≡ old ++ flat_map f (take i items) → new ≡ now ++ f (get_or items i d) → new ≡ old ++ flat_map f (take (i + 1) items)
written_at f old items i d now new lt before more =
    more ∙ ap (λ (text : List ℕ). text ++ f (get_or items i d)) before ∙ flat_map_more f old (take i items) (get_or items i d) ∙ ap (λ (taken : List _). old ++ flat_map f taken) (sym (take_more items i d lt))

pub written_more : {A : Type 0} (f : A → List ℕ) (old : List ℕ) (items : List A) (i : ℕ) (item : A) (now new : List ℕ) → i < length items → item ≡ get_or items i item
    → now ≡ old ++ flat_map f (take i items) → new ≡ now ++ f item → new ≡ old ++ flat_map f (take (i + 1) items)
written_more f old items i item now new lt is before more = written_at f old items i item now new lt before (more ∙ ap (λ x. now ++ f x) is)

-- a part, and what is written after it
pub suffix : (old part now rest last : List ℕ) → now ≡ old ++ part → last ≡ now ++ rest → last ≡ old ++ (part ++ rest)
suffix old part now rest last one others = others ∙ ap (λ (text : List ℕ). text ++ rest) one ∙ append_assoc old part rest

-- what each item meets holds of the item at a place, with those before it
pub each_at : {A : Type 0} (P : List A → A → Type 0) (before items : List A) (i : ℕ) (item : A) → i < length items → item ≡ get_or items i item → EachAfter P before items → (prefix : List A) × P prefix item
each_at P before [] i item lt is each = absurd (omega (arith, lt))
each_at P before (x ∷ items) zero item lt is each = (before, subst (P before) (sym is) each.0)
each_at P before (x ∷ items) (suc i) item lt is each = each_at P (before ++ x ∷ []) items i item (omega (arith, lt)) is each.1
