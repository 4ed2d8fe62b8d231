-- How the set of reached instructions grows.
use Rattle.std.proofs.Common.{inl, inr, ◌⊎◌, ℕ, refl, ◌∙◌, arith}
use Rattle.code_reach.specs.declared.visits.Visits.{Visits}
use Rattle.code_reach.specs.Visits.{IsMarked, Grows, Reaches}

pub grows_none : (may : ℕ → Type 0) (s : Visits) → Grows may s s
grows_none may s = record {
  size = refl;
  grows = λ i e. e;
  only = λ i e. inl e;
  keeps = λ i e. e;
  fresh = λ i e. inl e;
  noted = λ i e. inl e;
  fewer = omega arith;
}

pub grows_for : (may more : ℕ → Type 0) (s t : Visits) → ((i : ℕ) → may i → more i ⊎ IsMarked s i) → Grows may s t → Grows more s t
grows_for may more s t f g = record {
  size = g.size;
  grows = g.grows;
  only = λ i e. elim (g.only i e) [ inl old ↦ inl old | inr new ↦ elim (f i new) [ inl is ↦ inr is | inr old ↦ inl old ] ];
  keeps = g.keeps;
  fresh = g.fresh;
  noted = g.noted;
  fewer = g.fewer;
}

pub grows_both : (may : ℕ → Type 0) (s t u : Visits) → Grows may s t → Grows may t u → Grows may s u
grows_both may s t u g h = record {
  size = h.size ∙ g.size;
  grows = λ i e. h.grows i (g.grows i e);
  only = λ i e. elim (h.only i e) [ inl old ↦ g.only i old | inr new ↦ inr new ];
  keeps = λ i e. h.keeps i (g.keeps i e);
  fresh = λ i e. elim (h.fresh i e) [
    | inl old ↦ elim (g.fresh i old) [ inl older ↦ inl older | inr new ↦ inr (omega (arith, new.0, h.size), h.grows i new.1) ]
    | inr new ↦ inr new
  ];
  noted = λ i e. elim (h.noted i e) [
    | inl old ↦ elim (g.noted i old) [ inl older ↦ inl older | inr new ↦ inr (h.keeps i new) ]
    | inr new ↦ inr new
  ];
  fewer = omega (arith, g.fewer, h.fewer);
}

-- ---- all of some indexes

pub reaches_none : (s : Visits) (may : ℕ → Type 0) → ((i : ℕ) → may i → IsMarked s i) → Reaches may s s
reaches_none s may all = record { grows = grows_none may s; all = all }

pub reaches_both : (one two : ℕ → Type 0) (s t u : Visits) → Reaches one s t → Reaches two t u → Reaches (λ i. one i ⊎ two i) s u
reaches_both one two s t u r q = record {
  grows = grows_both (λ i. one i ⊎ two i) s t u (grows_for one (λ i. one i ⊎ two i) s t (λ i e. inl (inl e)) r.grows) (grows_for two (λ i. one i ⊎ two i) t u (λ i e. inl (inr e)) q.grows);
  all = λ i either. elim either [ inl e ↦ q.grows.grows i (r.all i e) | inr e ↦ q.all i e ];
}

pub reaches_for : (may more : ℕ → Type 0) (s t : Visits) → ((i : ℕ) → may i → more i ⊎ IsMarked s i) → ((i : ℕ) → more i → may i) → Reaches may s t → Reaches more s t
reaches_for may more s t f g r = record { grows = grows_for may more s t f r.grows; all = λ i e. r.all i (g i e) }
