-- What a collection keeps is the least closed set of names, and objects that agree have the same collections.
use Rattle.std.proofs.Common.{◌≡◌, ℕ, zero, suc, ◌<◌, ◌≤◌, zero-le, ◌⊎◌, inl, inr, Bool, true, ◌&&◌, ◌||◌, List, filter, length, refl, ap, ◌∙◌, arith}
use Rattle.std.specs.List.{list_any, range_with_len, sum_by}
use Rattle.std.proofs.lemmas.Bool.{or_cases, or_left, or_right, and_parts, and_from, cases_lt}
use Rattle.std.proofs.lemmas.List.FromFn.{length-range_with_len}
use Rattle.std.proofs.lemmas.List.Elements.{filter_agree}
use Rattle.account.specs.Account.{Collection}
use Rattle.account.specs.Reachable.{Objects, is_among, is_within_steps, reached, collection_of, IsClosed, ReachedAreLeast}
use Rattle.account.proofs.Names.{any_in_range, range_has_any, below-among, among-below, among-filter, filter-among, length-filter-le, same_pass, list_any-agree, sum_by-agree}

-- an object within so many steps refers to the name
abbrev refers : Objects → List ℕ → ℕ → ℕ → ℕ → Bool
refers objects roots steps name other = is_within_steps objects roots steps other && is_among name (objects.refers_to other)

module _ (objects : Objects) (roots : List ℕ) where
  abbrev within : ℕ → ℕ → Bool
  within = is_within_steps objects roots

  -- ---- one step more

  abbrev any_refers : ℕ → ℕ → Bool
  any_refers steps name = list_any (refers objects roots steps name) (range_with_len 0 objects.count)

  within_more : (steps name : ℕ) → within steps name ≡ true → within (suc steps) name ≡ true
  unfolding is_within_steps
  within_more steps name e = or_left (within steps name) (any_refers steps name) e

  within_roots : (steps name : ℕ) → is_among name roots ≡ true → within steps name ≡ true
  unfolding is_within_steps
  within_roots zero name e = e
  within_roots (suc steps) name e = within_more steps name (within_roots steps name e)

  within_referred : (steps name other : ℕ) → other < objects.count → within steps other ≡ true → is_among name (objects.refers_to other) ≡ true → within (suc steps) name ≡ true
  unfolding is_within_steps
  within_referred steps name other low from e =
      let refers_so = and_from (within steps other) (is_among name (objects.refers_to other)) from e in
      or_right (within steps name) (any_refers steps name) (range_has_any (refers objects roots steps name) 0 objects.count other zero-le (omega arith) refers_so)

  abbrev IsReferred : ℕ → ℕ → Type 0
  IsReferred steps name = (other : ℕ) × (other < objects.count) × (within steps other ≡ true) × (is_among name (objects.refers_to other) ≡ true)

  within_cases : (steps name : ℕ) → within (suc steps) name ≡ true → (within steps name ≡ true) ⊎ IsReferred steps name
  unfolding is_within_steps
  within_cases steps name e =
      elim (or_cases (within steps name) (any_refers steps name) e) [
        | inl before ↦ inl before
        | inr new ↦
            let found = any_in_range (refers objects roots steps name) 0 objects.count new in
            let parts = and_parts (within steps found.0) (is_among name (objects.refers_to found.0)) found.2 in
            inr (found.0, omega arith, parts.0, parts.1)
      ]

  -- ---- no step more finds a name once there were as many as objects: until then each finds one

  abbrev IsStable : ℕ → Type 0
  IsStable steps = (name : ℕ) → name < objects.count → within (suc steps) name ≡ true → within steps name ≡ true

  stable_more : (steps : ℕ) → IsStable steps → IsStable (suc steps)
  stable_more steps stable name low e =
      elim (within_cases (suc steps) name e) [
        | inl before ↦ before
        | inr found ↦ within_referred steps name found.0 found.1 (stable found.0 found.1 found.2) found.3
      ]

  found_by : ℕ → ℕ
  found_by steps = length (filter (within steps) (range_with_len 0 objects.count))

  grows : (steps : ℕ) → IsStable steps ⊎ (found_by steps < found_by (suc steps))
  unfolding found_by
  grows steps =
      elim (cases_lt (found_by steps) (found_by (suc steps))) [
        | inl more ↦ inr more
        | inr same ↦ inl (λ name low. same_pass (within steps) (within (suc steps)) (within_more steps) (range_with_len 0 objects.count) same name (among-below name objects.count low))
      ]

  rises : (steps : ℕ) → IsStable steps ⊎ (suc steps ≤ found_by (suc steps))
  rises zero = elim (grows zero) [ inl stable ↦ inl stable | inr more ↦ inr (omega arith) ]
  rises (suc steps) =
      elim (rises steps) [
        | inl stable ↦ inl (stable_more steps stable)
        | inr many ↦ elim (grows (suc steps)) [ inl stable ↦ inl stable | inr more ↦ inr (omega arith) ]
      ]

  found_below : (steps : ℕ) → found_by steps ≤ objects.count
  unfolding found_by
  found_below steps =
      let most = length-filter-le (within steps) (range_with_len 0 objects.count) in
      let count = length-range_with_len 0 objects.count in
      omega arith

  stable_at_last : IsStable objects.count
  stable_at_last =
      elim (rises objects.count) [
        | inl stable ↦ stable
        | inr many ↦ let most = found_below (suc objects.count) in absurd (omega arith)
      ]

  -- ---- the least closed set

  pub among-reached : (name : ℕ) → is_among name (reached objects roots) ≡ true → (name < objects.count) × (is_within_steps objects roots objects.count name ≡ true)
  among-reached name e =
      let parts = among-filter (within objects.count) name (range_with_len 0 objects.count) e in
      (below-among name objects.count parts.0, parts.1)

  pub reached-among : (name : ℕ) → name < objects.count → is_within_steps objects roots objects.count name ≡ true → is_among name (reached objects roots) ≡ true
  reached-among name low e = filter-among (within objects.count) name (range_with_len 0 objects.count) (among-below name objects.count low) e

  within_has : (Has : ℕ → Type 0) → IsClosed objects roots Has → (steps name : ℕ) → within steps name ≡ true → Has name
  unfolding is_within_steps
  within_has Has closed zero name e = closed.has_roots name e
  within_has Has closed (suc steps) name e =
      elim (within_cases steps name e) [
        | inl before ↦ within_has Has closed steps name before
        | inr found ↦ closed.has_referred name found.0 found.1 (within_has Has closed steps found.0 found.2) found.3
      ]

  pub reached_are_least : ReachedAreLeast objects roots
  reached_are_least = record {
    closed = λ roots_below referred_below. record {
      has_roots = λ name e. reached-among name (roots_below name e) (within_roots objects.count name e);
      has_referred = λ name other low has e.
          let below = referred_below name other low e in
          reached-among name below (stable_at_last name below (within_referred objects.count name other low (among-reached other has).1 e));
    };
    least = λ Has closed name e. within_has Has closed objects.count name (among-reached name e).1;
  }

-- ---- objects that agree

-- as many objects, each with the same references and cells
pub record Agree (objects others : Objects) : Type 0 where
  pub count : objects.count ≡ others.count
  pub refers_to : (name : ℕ) → name < objects.count → objects.refers_to name ≡ others.refers_to name
  pub cells : (name : ℕ) → name < objects.count → objects.cells name ≡ others.cells name

module _ (objects others : Objects) (agree : Agree objects others) (roots : List ℕ) where
  within_agree : (steps name : ℕ) → is_within_steps objects roots steps name ≡ is_within_steps others roots steps name
  unfolding is_within_steps
  within_agree zero name = refl
  within_agree (suc steps) name =
      let each = λ (other : ℕ) (e : is_among other (range_with_len 0 objects.count) ≡ true).
      ap (λ from. from && is_among name (objects.refers_to other)) (within_agree steps other)
      ∙ ap (λ names. is_within_steps others roots steps other && is_among name names) (agree.refers_to other (below-among other objects.count e)) in
      ap (λ before. before || list_any (refers objects roots steps name) (range_with_len 0 objects.count)) (within_agree steps name)
      ∙ ap (λ new. is_within_steps others roots steps name || new) (list_any-agree (refers objects roots steps name) (refers others roots steps name) (range_with_len 0 objects.count) each)
      ∙ ap (λ count. is_within_steps others roots steps name || list_any (refers others roots steps name) (range_with_len 0 count)) agree.count

  pub reached-agree : reached objects roots ≡ reached others roots
  reached-agree =
      filter_agree (is_within_steps objects roots objects.count) (is_within_steps others roots objects.count) (within_agree objects.count) (range_with_len 0 objects.count)
      ∙ ap (λ count. filter (is_within_steps others roots count) (range_with_len 0 count)) agree.count

abbrev collection : List ℕ → ℕ → ℕ → Collection
collection roots objects cells = record { roots = roots; objects = objects; cells = cells }

same_collection : (roots other_roots : List ℕ) (objects other_objects cells other_cells : ℕ) → roots ≡ other_roots → objects ≡ other_objects → cells ≡ other_cells → collection roots objects cells ≡ collection other_roots other_objects other_cells
same_collection roots other_roots objects other_objects cells other_cells same_roots same_objects same_cells = cc

-- their collections are the same
pub collection_of-agree : (objects others : Objects) (roots other_roots : List ℕ) → Agree objects others → roots ≡ other_roots → collection_of objects roots ≡ collection_of others other_roots
collection_of-agree objects others roots other_roots agree same =
    let names = reached-agree objects others agree roots ∙ ap (reached others) same in
    let cells = sum_by-agree objects.cells others.cells (reached objects roots) (λ name e. agree.cells name (among-reached objects roots name e).0) ∙ ap (sum_by others.cells) names in
    same_collection roots other_roots (length (reached objects roots)) (length (reached others other_roots)) (sum_by objects.cells (reached objects roots)) (sum_by others.cells (reached others other_roots)) same (ap length names) cells
