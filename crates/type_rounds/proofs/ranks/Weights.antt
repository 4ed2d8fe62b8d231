-- Weights of what is known: first by what is absent, then by nulls, then by ranks. Where a weight falls with each
-- step, steps end.
use Rattle.std.proofs.Common.{◌≡◌, ℕ, zero, suc, ◌+◌, ◌<◌, ◌≤◌, ◌⊎◌, inl, inr, refl, ◌∙◌, arith}
use Rattle.std.proofs.lemmas.Bool.{cases_lt}

pub record Weight : Type 0 where
  pub absent : ℕ
  pub nulls : ℕ
  pub rank : ℕ

abbrev pub nothing : Weight
nothing = record { absent = 0; nulls = 0; rank = 0 }

abbrev pub plus : Weight → Weight → Weight
plus a b = record { absent = a.absent + b.absent; nulls = a.nulls + b.nulls; rank = a.rank + b.rank }

-- ---- weights that do not rise

-- the new weight is below the old one, or is the same, and then something holds
pub record IsNoMore (new old : Weight) (Same : Type 0) : Type 0 where
  pub absent : new.absent ≤ old.absent
  pub nulls : new.absent ≡ old.absent → new.nulls ≤ old.nulls
  pub rank : new.absent ≡ old.absent → new.nulls ≡ old.nulls → new.rank ≤ old.rank
  pub same : new.absent ≡ old.absent → new.nulls ≡ old.nulls → new.rank ≡ old.rank → Same

pub no_change : (weight : Weight) (Same : Type 0) → Same → IsNoMore weight weight Same
no_change weight Same is = record { absent = omega arith; nulls = λ e. omega arith; rank = λ e f. omega arith; same = λ e f g. is }

pub so : (new old : Weight) (Same Other : Type 0) → (Same → Other) → IsNoMore new old Same → IsNoMore new old Other
so new old Same Other h is = record { absent = is.absent; nulls = is.nulls; rank = is.rank; same = λ e f g. h (is.same e f g) }

-- where less is absent
pub fewer_absent : (new old : Weight) (Same : Type 0) → new.absent < old.absent → IsNoMore new old Same
fewer_absent new old Same less =
    record { absent = omega (arith, less); nulls = λ e. absurd (omega (arith, less, e)); rank = λ e f. absurd (omega (arith, less, e)); same = λ e f g. absurd (omega (arith, less, e)) }

-- where as much is absent, and there are fewer nulls
pub fewer_nulls : (new old : Weight) (Same : Type 0) → new.absent ≡ old.absent → new.nulls < old.nulls → IsNoMore new old Same
fewer_nulls new old Same as_many less =
    record { absent = omega (arith, as_many); nulls = λ e. omega (arith, less); rank = λ e f. absurd (omega (arith, less, f)); same = λ e f g. absurd (omega (arith, less, f)) }

-- where the rank is lower, and all else is the same
pub lower_rank : (new old : Weight) (Same : Type 0) → new.absent ≡ old.absent → new.nulls ≡ old.nulls → new.rank < old.rank → IsNoMore new old Same
lower_rank new old Same as_many as_null less =
    record { absent = omega (arith, as_many); nulls = λ e. omega (arith, as_null); rank = λ e f. omega (arith, less); same = λ e f g. absurd (omega (arith, less, g)) }

module _ (a b c d : Weight) (P Q : Type 0) (one : IsNoMore a c P) (two : IsNoMore b d Q) where
  as_absent : a.absent + b.absent ≡ c.absent + d.absent → (a.absent ≡ c.absent) × (b.absent ≡ d.absent)
  as_absent e = (omega (arith, e, one.absent, two.absent), omega (arith, e, one.absent, two.absent))

  as_nulls : a.absent + b.absent ≡ c.absent + d.absent → a.nulls + b.nulls ≡ c.nulls + d.nulls → (a.nulls ≡ c.nulls) × (b.nulls ≡ d.nulls)
  as_nulls e f =
      let is = as_absent e in
      let first = one.nulls is.0 in
      let second = two.nulls is.1 in
      (omega (arith, f, first, second), omega (arith, f, first, second))

  as_rank : a.absent + b.absent ≡ c.absent + d.absent → a.nulls + b.nulls ≡ c.nulls + d.nulls → a.rank + b.rank ≡ c.rank + d.rank → (a.rank ≡ c.rank) × (b.rank ≡ d.rank)
  as_rank e f g =
      let is = as_absent e in
      let are = as_nulls e f in
      let first = one.rank is.0 are.0 in
      let second = two.rank is.1 are.1 in
      (omega (arith, g, first, second), omega (arith, g, first, second))

  pub both_no_more : IsNoMore (plus a b) (plus c d) (P × Q)
  both_no_more =
      record {
        absent = omega (arith, one.absent, two.absent);
        nulls = λ e. let is = as_absent e in let first = one.nulls is.0 in let second = two.nulls is.1 in omega (arith, first, second);
        rank = λ e f.
            let is = as_absent e in
            let are = as_nulls e f in
            let first = one.rank is.0 are.0 in
            let second = two.rank is.1 are.1 in
            omega (arith, first, second);
        same = λ e f g.
            let is = as_absent e in
            let are = as_nulls e f in
            let all = as_rank e f g in
            (one.same is.0 are.0 all.0, two.same is.1 are.1 all.1);
      }

-- ---- weights that fall

abbrev pub IsLess : Weight → Weight → Type 0
IsLess new old = (new.absent < old.absent) ⊎ ((new.absent ≡ old.absent) × ((new.nulls < old.nulls) ⊎ ((new.nulls ≡ old.nulls) × (new.rank < old.rank))))

same_or_less : (m n : ℕ) → m ≤ n → (m ≡ n) ⊎ (m < n)
same_or_less m n le = elim (cases_lt m n) [ inl less ↦ inr less | inr ge ↦ inl (omega (arith, le, ge)) ]

-- what does not rise falls, or is the same
pub falls_or_same : (new old : Weight) (Same : Type 0) → IsNoMore new old Same → Same ⊎ IsLess new old
falls_or_same new old Same is =
    elim (same_or_less new.absent old.absent is.absent) [
      | inr less ↦ inr (inl less)
      | inl as_absent ↦
          elim (same_or_less new.nulls old.nulls (is.nulls as_absent)) [
            | inr less ↦ inr (inr (as_absent, inl less))
            | inl as_nulls ↦
                elim (same_or_less new.rank old.rank (is.rank as_absent as_nulls)) [
                  | inr less ↦ inr (inr (as_absent, inr (as_nulls, less)))
                  | inl as_rank ↦ inl (is.same as_absent as_nulls as_rank)
                ]
          ]
    ]

-- steps that end or lower a weight
module _ (weight : ℕ → Weight) (P : ℕ → Type 0) (R : Type 0) (step : (k : ℕ) → P k → R ⊎ (P (suc k) × IsLess (weight (suc k)) (weight k))) where
  by_rank : (absent nulls : ℕ) → ((k : ℕ) → P k → (weight k).absent < absent → R) → ((k : ℕ) → P k → (weight k).absent ≡ absent → (weight k).nulls < nulls → R)
      → (n k : ℕ) → P k → (weight k).absent ≡ absent → (weight k).nulls ≡ nulls → (weight k).rank < n → R
  by_rank absent nulls first second zero k is as_absent as_nulls lt = absurd (omega (arith, lt))
  by_rank absent nulls first second (suc n) k is as_absent as_nulls lt =
      elim (step k is) [
        | inl done ↦ done
        | inr more ↦
            elim more.1 [
              | inl less ↦ first (suc k) more.0 (omega (arith, less, as_absent))
              | inr same ↦
                  elim same.1 [
                    | inl less ↦ second (suc k) more.0 (same.0 ∙ as_absent) (omega (arith, less, as_nulls))
                    | inr rest ↦
                        let less = rest.1 in
                        by_rank absent nulls first second n (suc k) more.0 (same.0 ∙ as_absent) (rest.0 ∙ as_nulls) (omega (arith, less, lt))
                  ]
            ]
      ]

  by_nulls : (absent : ℕ) → ((k : ℕ) → P k → (weight k).absent < absent → R) → (n k : ℕ) → P k → (weight k).absent ≡ absent → (weight k).nulls < n → R
  by_nulls absent first zero k is as_absent lt = absurd (omega (arith, lt))
  by_nulls absent first (suc n) k is as_absent lt =
      by_rank absent (weight k).nulls first (λ other there same less. by_nulls absent first n other there same (omega (arith, less, lt))) (suc (weight k).rank) k is as_absent refl (omega arith)

  by_absent : (n k : ℕ) → P k → (weight k).absent < n → R
  by_absent zero k is lt = absurd (omega (arith, lt))
  by_absent (suc n) k is lt =
      by_nulls (weight k).absent (λ other there less. by_absent n other there (omega (arith, less, lt))) (suc (weight k).nulls) k is refl (omega arith)

  pub ends : (k : ℕ) → P k → R
  ends k is = by_absent (suc (weight k).absent) k is (omega arith)
