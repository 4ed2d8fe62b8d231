-- A depth is entered at one successor after the other.
use Rattle.std.proofs.Common.{◌≡◌, ℕ, ◌<◌, List, [], ◌∷◌, ◌++◌, length, get_or, set, Some, None, refl, sym, ap, subst, ◌∙◌, arith, inl, inr, ◌⊎◌}
use Rattle.std.specs.List.{Contains, AllByRecursion}
use Rattle.std.proofs.lemmas.Bool.{cases_eq, cases_lt}
use Rattle.std.proofs.lemmas.List.{length-set, length-append, get_or-set_same, get_or-set_other, get_or_past}
use Rattle.std.proofs.lemmas.List.Elements.{Contains-append_left, Contains-push, Contains-push_cases, recursion_from_All, All-from_get_or}
use Rattle.std.proofs.lemmas.Option.{none-some}
use Rattle.image_check.specs.Visits.{Depth}
use Rattle.image_check.specs.Table.{Table, Has, stored}
use Rattle.image_check.specs.Flow.{IsEntered, IsSpread, HasOther}
use Rattle.image_check.proofs.Depths.{one_depth_at, unset-set}

-- a depth is within the table
pub has_within : (table : Table) (pc : ℕ) (d : Depth) → Has table pc d → pc < length table
has_within table pc d has =
    elim (cases_lt pc (length table)) [ inl lt ↦ lt | inr le ↦ absurd (none-some (stored d) (sym (get_or_past table pc None le) ∙ has)) ]

-- nothing is entered
pub spread-none : (targets : List ℕ) (d : Depth) (table : Table) (work : List ℕ) → IsSpread targets d table work table work
spread-none targets d table work = record { size = refl; keeps = λ pc e has. has; only = λ pc e has. inl has; pending = λ pc has. has; entered = λ pc has. inl has; count = refl }

-- ---- an offset without a depth gets one

module _ (table : Table) (work : List ℕ) (to : ℕ) (d : Depth) (lt : to < length table) (none : get_or table to None ≡ None) where
  abbrev new : Table
  new = set table to (Some (stored d))

  pub new-has : Has new to d
  new-has = get_or-set_same table to (Some (stored d)) None lt

  pub new-keeps : (pc : ℕ) (e : Depth) → Has table pc e → Has new pc e
  new-keeps pc e has =
      elim (cases_eq pc to) [
        | inl same ↦ absurd (none-some (stored e) (sym none ∙ ap (λ i. get_or table i None) (sym same) ∙ has))
        | inr other ↦ get_or-set_other table to pc (Some (stored d)) None other ∙ has
      ]

  pub new-only : (pc : ℕ) (e : Depth) → Has new pc e → Has table pc e ⊎ ((pc ≡ to) × (e ≡ d))
  new-only pc e has =
      elim (cases_eq pc to) [
        | inl same ↦ inr (same, one_depth_at new to e d (subst (λ i. Has new i e) same has) new-has)
        | inr other ↦ inl (sym (get_or-set_other table to pc (Some (stored d)) None other) ∙ has)
      ]

-- ---- one more successor

module _ (targets : List ℕ) (d : Depth) (table : Table) (work : List ℕ) (now : Table) (pending : List ℕ) (s : IsSpread targets d table work now pending) (to : ℕ) (place : Contains targets to) where
  spread-new : to < length now → get_or now to None ≡ None → IsSpread targets d table work (set now to (Some (stored d))) (pending ++ to ∷ [])
  spread-new lt none = record {
    size = length-set now to (Some (stored d)) ∙ s.size;
    keeps = λ pc e has. new-keeps now pending to d lt none pc e (s.keeps pc e has);
    only = λ pc e has. elim (new-only now pending to d lt none pc e has) [
      | inl old ↦ elim (s.only pc e old) [ inl first ↦ inl first | inr new ↦ inr (new.0, Contains-append_left pending (to ∷ []) pc new.1, new.2) ]
      | inr new ↦ inr (subst (Contains targets) (sym new.0) place, subst (Contains (pending ++ to ∷ [])) (sym new.0) (Contains-push pending to), new.1)
    ];
    pending = λ pc has. Contains-append_left pending (to ∷ []) pc (s.pending pc has);
    entered = λ pc has. elim (Contains-push_cases pending to pc has) [
      | inl old ↦ elim (s.entered pc old) [ inl first ↦ inl first | inr new ↦ inr (new-keeps now pending to d lt none pc d new) ]
      | inr same ↦ inr (subst (λ i. Has (set now to (Some (stored d))) i d) same (new-has now pending to d lt none))
    ];
    count = omega (arith, unset-set now to (stored d) lt none, length-append pending (to ∷ []), s.count);
  }

  pub spread-more : (later : Table) (after : List ℕ) → to < length now → IsEntered now pending to d later after → IsSpread targets d table work later after
  spread-more later after lt (inl old) = subst (λ (t : Table). IsSpread targets d table work t after) (sym old.1) (subst (IsSpread targets d table work now) (sym old.2) s)
  spread-more later after lt (inr new) =
      subst (λ (t : Table). IsSpread targets d table work t after) (sym new.1)
      (subst (IsSpread targets d table work (set now to (Some (stored d)))) (sym new.2) (spread-new lt new.0))

-- what is entered is there, and what was there stays
pub entered-has : (now : Table) (pending : List ℕ) (to : ℕ) (d : Depth) (later : Table) (after : List ℕ) → to < length now → IsEntered now pending to d later after → Has later to d
entered-has now pending to d later after lt (inl old) = subst (λ (t : Table). Has t to d) (sym old.1) old.0
entered-has now pending to d later after lt (inr new) = subst (λ (t : Table). Has t to d) (sym new.1) (new-has now pending to d lt new.0)

pub entered-keeps : (now : Table) (pending : List ℕ) (to : ℕ) (d : Depth) (later : Table) (after : List ℕ) → to < length now → IsEntered now pending to d later after → (pc : ℕ) (e : Depth) → Has now pc e → Has later pc e
entered-keeps now pending to d later after lt (inl old) pc e has = subst (λ (t : Table). Has t pc e) (sym old.1) has
entered-keeps now pending to d later after lt (inr new) pc e has = subst (λ (t : Table). Has t pc e) (sym new.1) (new-keeps now pending to d lt new.0 pc e has)

-- another depth at a place was there from the first
pub other-first : (targets : List ℕ) (d : Depth) (table : Table) (work : List ℕ) (now : Table) (pending : List ℕ) → IsSpread targets d table work now pending → (to : ℕ) → HasOther now to d → HasOther table to d
other-first targets d table work now pending s to other =
    elim (s.only to other.0 other.1) [ inl first ↦ (other.0, first, other.2) | inr new ↦ absurd (other.2 new.2) ]

pub each-place : (targets : List ℕ) (P : ℕ → Type 0) → ((k : ℕ) → k < length targets → P (get_or targets k 0)) → AllByRecursion P targets
each-place targets P h = recursion_from_All P targets (All-from_get_or P targets 0 h)
