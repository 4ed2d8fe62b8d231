-- The least closed set of pcs is there, so it is decided which pcs are reached.
use Rattle.std.proofs.Common.{◌≡◌, ℕ, ◌==◌, inl, inr, ◌⊎◌, Bool, true, false, ◌||◌, List, [], ◌∷◌, refl, sym, ap, ◌∙◌, arith}
use Rattle.std.specs.List.{AllByRecursion}
use Rattle.std.proofs.lemmas.Bool.{false≢true}
use Rattle.std.proofs.lemmas.Bool.Decides.{nat_tests}
use Rattle.code_reach.specs.Reached.{Ways, successors, IsClosed, IsReached}
use Rattle.jvm_model.proofs.phases.Decisions.{Decided}

abbrev pub Pcs : Type 0
Pcs = ℕ → Bool

abbrev pub Within : Pcs → Pcs → Type 0
Within some others = (pc : ℕ) → some pc ≡ true → others pc ≡ true

abbrev pub HasAll : Pcs → List ℕ → Type 0
HasAll holds pcs = AllByRecursion (λ to. holds to ≡ true) pcs

-- the least closed set that has these pcs
record Least (seed : Pcs) (ways : Ways) : Type 0 where
  holds : Pcs
  seeded : Within seed holds
  closed : IsClosed holds ways
  least : (other : Pcs) → Within seed other → IsClosed other ways → Within holds other

same_number : (n : ℕ) → (n == n) ≡ true
same_number n = grind (arith, nat_tests)

-- a set and some pcs besides
abbrev with_pcs : Pcs → List ℕ → Pcs
with_pcs seed [] pc = seed pc
with_pcs seed (to ∷ pcs) pc = (to == pc) || with_pcs seed pcs pc

or_right : (a b : Bool) → b ≡ true → (a || b) ≡ true
or_right true b e = refl
or_right false b e = e

or_left : (a b : Bool) → a ≡ true → (a || b) ≡ true
or_left true b e = refl
or_left false b e = absurd (false≢true e)

or_cases : (a b : Bool) → (a || b) ≡ true → (a ≡ true) ⊎ (b ≡ true)
or_cases true b e = inl refl
or_cases false b e = inr e

with_seed : (seed : Pcs) (pcs : List ℕ) → Within seed (with_pcs seed pcs)
with_seed seed [] pc e = e
with_seed seed (to ∷ pcs) pc e = or_right (to == pc) (with_pcs seed pcs pc) (with_seed seed pcs pc e)

all_within : (some others : Pcs) (pcs : List ℕ) → Within some others → HasAll some pcs → HasAll others pcs
all_within some others [] within all = tt
all_within some others (pc ∷ pcs) within all = (within pc all.0, all_within some others pcs within all.1)

with_all : (seed : Pcs) (pcs : List ℕ) → HasAll (with_pcs seed pcs) pcs
with_all seed [] = tt
with_all seed (to ∷ pcs) = (or_left (to == to) (with_pcs seed pcs to) (same_number to), all_within (with_pcs seed pcs) (with_pcs seed (to ∷ pcs)) pcs (λ pc e. or_right (to == pc) (with_pcs seed pcs pc) e) (with_all seed pcs))

equal_number : (m n : ℕ) → (m == n) ≡ true → m ≡ n
equal_number m n e = grind (arith, nat_tests, e)

with_least : (seed other : Pcs) (pcs : List ℕ) → Within seed other → HasAll other pcs → Within (with_pcs seed pcs) other
with_least seed other [] within all pc e = within pc e
with_least seed other (to ∷ pcs) within all pc e =
    elim (or_cases (to == pc) (with_pcs seed pcs pc) e) [
      | inl is ↦ sym (ap other (equal_number to pc is)) ∙ all.0
      | inr more ↦ with_least seed other pcs within all.1 pc more
    ]

-- where the pc of the first instruction is not in the least set of the others, the set is the same; else
-- the pcs to which it leads are in it as well
least_of : (seed : Pcs) (ways : Ways) → Least seed ways
least_of seed [] = record { holds = seed; seeded = λ pc e. e; closed = tt; least = λ other within closed. within }
least_of seed ((at, way) ∷ ways) = with_way (least_of seed ways) (least_of (with_pcs seed (successors way ways)) ways)
  where
    with_way : Least seed ways → Least (with_pcs seed (successors way ways)) ways → Least seed ((at, way) ∷ ways)
    with_way some more = by_test (some.holds at) refl
      where
        by_test : (in_it : Bool) → some.holds at ≡ in_it → Least seed ((at, way) ∷ ways)
        by_test false is = record {
          holds = some.holds;
          seeded = some.seeded;
          closed = (λ e. absurd (false≢true (sym is ∙ e)), some.closed);
          least = λ other within closed. some.least other within closed.1;
        }
        by_test true is = record {
          holds = more.holds;
          seeded = λ pc e. more.seeded pc (with_seed seed (successors way ways) pc e);
          closed = (λ _. all_within (with_pcs seed (successors way ways)) more.holds (successors way ways) more.seeded (with_all seed (successors way ways)), more.closed);
          least = λ other within closed. more.least other (with_least seed other (successors way ways) within (closed.0 (some.least other within closed.1 at is))) closed.1;
        }

pub decide_reached : (ways : Ways) (pc : ℕ) → Decided (IsReached ways pc)
decide_reached ways pc = by_set (least_of (λ at. 0 == at) ways)
  where
    by_set : Least (λ at. 0 == at) ways → Decided (IsReached ways pc)
    by_set set = by_test (set.holds pc) refl
      where
        by_test : (in_it : Bool) → set.holds pc ≡ in_it → Decided (IsReached ways pc)
        by_test true is = inl (λ holds start closed. set.least holds (λ at e. sym (ap holds (equal_number 0 at e)) ∙ start) closed pc is)
        by_test false is = inr (λ reached. false≢true (sym is ∙ reached set.holds (set.seeded 0 refl) set.closed))
