-- The refusal of the first of many that has one, and of a thing that may be there.
use Rattle.std.specs.Prelude.{◌≡◌, ℕ, suc, ◌⊎◌, List, [], ◌∷◌, Option, Some, None}
use Rattle.jvm_model.specs.declared.refusal.Refusal.{Refusal}

-- The first of these that has a refusal has this one, or none of them has one. `Has` says of each, which
-- is told its place, what its refusal is, or that it has none.
abbrev pub FirstOf : {X : Type 0} → (ℕ → X → Option Refusal → Type 0) → ℕ → List X → Option Refusal → Type 0
FirstOf Has place [] None = Unit {0}
FirstOf Has place [] (Some why) = ⊥
FirstOf Has place (x ∷ xs) None = Has place x None × FirstOf Has (suc place) xs None
FirstOf Has place (x ∷ xs) (Some why) = Has place x (Some why) ⊎ (Has place x None × FirstOf Has (suc place) xs (Some why))

-- where it is there, this is its refusal; else there is none
abbrev pub IfThere : {X : Type 0} → (X → Option Refusal → Type 0) → Option X → Option Refusal → Type 0
IfThere Has None found = found ≡ None
IfThere Has (Some x) found = Has x found
