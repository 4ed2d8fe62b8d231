-- The names of objects read back from their offsets, among the names below a bound.
use Rattle.std.proofs.Common.{◌≡◌, ℕ, ◌+◌, zero, suc, ◌<◌, ◌≤◌, nat_eq, nat_lt, Bool, true, false, ◌&&◌, if◌then◌else◌, List, [], ◌∷◌, map, Some, None, refl, sym, ap, ap₂, subst, ◌∙◌, arith}
use Rattle.std.specs.List.{AllByRecursion}
use Rattle.std.proofs.lemmas.Bool.{and_parts, and_from, eqb-true, eq-eqb, lt-ltb, ltb-true, ltb-false, false≢true}
use Rattle.mote_model.specs.State.{Reference, Frame, whole}
use Rattle.mote_model.specs.Picture.{Naming, IsNaming, cell_of, IsKept, KeepsFrame}

-- the name below the bound that is kept at an offset
abbrev pub name_below : Naming → ℕ → ℕ → Reference
name_below naming zero offset = None
name_below naming (suc bound) offset = if naming.kept bound && nat_eq (naming.offset bound) offset then Some bound else name_below naming bound offset

-- the same naming of the names below the bound alone
abbrev pub named_below : Naming → ℕ → Naming
named_below naming bound = record { offset = naming.offset; kept = λ name. naming.kept name && nat_lt name bound }

pub is_named_below : (naming : Naming) (bound : ℕ) → IsNaming naming → IsNaming (named_below naming bound)
is_named_below naming bound is = record {
  apart = λ first second kept other. is.apart first second (and_parts (naming.kept first) (nat_lt first bound) kept).0 (and_parts (naming.kept second) (nat_lt second bound) other).0;
  above = λ name kept. is.above name (and_parts (naming.kept name) (nat_lt name bound) kept).0;
}

-- ---- a name by its offset

module _ (naming : Naming) (is : IsNaming naming) where
  pub name_back : (bound name : ℕ) → naming.kept name ≡ true → name < bound → name_below naming bound (naming.offset name) ≡ Some name
  name_back zero name kept below = absurd (omega arith)
  name_back (suc bound) name kept below = by_test (naming.kept bound && nat_eq (naming.offset bound) (naming.offset name)) refl (name_back bound name kept)
    where
      not_here : (naming.kept bound && nat_eq (naming.offset bound) (naming.offset name)) ≡ false → (before : Bool) → nat_lt name bound ≡ before → name < bound
      not_here none true before = ltb-true name bound before
      not_here none false before =
          let order = ltb-false name bound before in
          let same : name ≡ bound = omega arith in
          let found = and_from (naming.kept bound) (nat_eq (naming.offset bound) (naming.offset name)) (subst (λ name. naming.kept name ≡ true) same kept) (eq-eqb (naming.offset bound) (naming.offset name) (ap naming.offset (sym same))) in
          absurd (false≢true (sym none ∙ found))

      by_test : (test : Bool) → (naming.kept bound && nat_eq (naming.offset bound) (naming.offset name)) ≡ test → (name < bound → name_below naming bound (naming.offset name) ≡ Some name) → (if test then Some bound else name_below naming bound (naming.offset name)) ≡ Some name
      by_test true found later =
          let parts = and_parts (naming.kept bound) (nat_eq (naming.offset bound) (naming.offset name)) found in
          ap Some (is.apart bound name parts.0 kept (eqb-true (naming.offset bound) (naming.offset name) parts.1))
      by_test false none later = later (not_here none (nat_lt name bound) refl)

  -- nothing is kept at the offset of null
  pub null_back : (bound : ℕ) → name_below naming bound 0 ≡ None
  null_back zero = refl
  null_back (suc bound) = by_test (naming.kept bound && nat_eq (naming.offset bound) 0) refl (null_back bound)
    where
      by_test : (test : Bool) → (naming.kept bound && nat_eq (naming.offset bound) 0) ≡ test → name_below naming bound 0 ≡ None → (if test then Some bound else name_below naming bound 0) ≡ None
      by_test true found later =
          let parts = and_parts (naming.kept bound) (nat_eq (naming.offset bound) 0) found in
          let above = is.above bound parts.0 in
          let at_null = eqb-true (naming.offset bound) 0 parts.1 in
          absurd (omega arith)
      by_test false none later = later

  pub refs_back : (bound : ℕ) (refs : List Reference) → AllByRecursion (IsKept (named_below naming bound)) refs → map (name_below naming bound) (map (cell_of (named_below naming bound)) refs) ≡ refs
  refs_back bound [] all = refl
  refs_back bound (None ∷ refs) all = ap₂ (λ first rest. first ∷ rest) (null_back bound) (refs_back bound refs all.1)
  refs_back bound (Some name ∷ refs) all =
      let parts = and_parts (naming.kept name) (nat_lt name bound) all.0 in
      ap₂ (λ first rest. first ∷ rest) (name_back bound name parts.0 (ltb-true name bound parts.1)) (refs_back bound refs all.1)

-- ---- a bound above all names

abbrev pub bound_of_refs : List Reference → ℕ
bound_of_refs [] = 0
bound_of_refs (None ∷ refs) = bound_of_refs refs
bound_of_refs (Some name ∷ refs) = suc name + bound_of_refs refs

abbrev pub bound_of_frames : List Frame → ℕ
bound_of_frames [] = 0
bound_of_frames (frame ∷ frames) = bound_of_refs (whole frame.refs) + bound_of_frames frames

module _ (naming : Naming) (bound : ℕ) where
  pub refs_below : (refs : List Reference) → bound_of_refs refs ≤ bound → AllByRecursion (IsKept naming) refs → AllByRecursion (IsKept (named_below naming bound)) refs
  refs_below [] enough all = tt
  refs_below (None ∷ refs) enough all = (tt, refs_below refs enough all.1)
  refs_below (Some name ∷ refs) enough all = (and_from (naming.kept name) (nat_lt name bound) all.0 (lt-ltb name bound (omega arith)), refs_below refs (omega arith) all.1)

  pub frames_below : (frames : List Frame) → bound_of_frames frames ≤ bound → AllByRecursion (KeepsFrame naming) frames → AllByRecursion (KeepsFrame (named_below naming bound)) frames
  frames_below [] enough all = tt
  frames_below (frame ∷ frames) enough all = (refs_below (whole frame.refs) (omega arith) all.0, frames_below frames (omega arith) all.1)

  -- what is kept below a bound is kept
  pub kept_at_all : (reference : Reference) → IsKept (named_below naming bound) reference → IsKept naming reference
  kept_at_all None kept = tt
  kept_at_all (Some name) kept = (and_parts (naming.kept name) (nat_lt name bound) kept).0

  -- the cells are the same
  pub cells_same : (refs : List Reference) → map (cell_of (named_below naming bound)) refs ≡ map (cell_of naming) refs
  cells_same [] = refl
  cells_same (None ∷ refs) = ap (λ cells. 0 ∷ cells) (cells_same refs)
  cells_same (Some name ∷ refs) = ap (λ cells. naming.offset name ∷ cells) (cells_same refs)
