-- Instructions by their positions: each is the one at its pc, and pcs that rise are each of one position.
use Rattle.std.proofs.Common.{◌≡◌, ℕ, zero, suc, ◌<◌, ◌≤◌, ◌⊎◌, true, false, inl, inr, List, [], ◌∷◌, length, filter, cond, Bool, Some, slice_get, nat_eq, refl, sym, ap, subst, ◌∙◌, arith}
use Rattle.std.specs.List.{AllByRecursion, Contains, flat_map}
use Rattle.std.proofs.lemmas.Bool.{cases_Bool, cases_lt, eqb-true}
use Rattle.std.proofs.lemmas.List.Elements.{Contains-append_left, Contains-append_right}
use Rattle.std.proofs.lemmas.Option.{none-some, same_Some}
use Rattle.code_reach.specs.Reached.{RisesFrom}
use Rattle.body_form.specs.declared.op.Op.{Op}
use Rattle.body_form.specs.Flow.{Ops, pc_at, IsStart}
use Rattle.jvm_model.specs.TypesRules.{op_at}
use Rattle.type_rounds.proofs.tables.Starts.{op_none, op_here, op_later, each_is_at}

-- ---- elements by position

pub all_at : {X : Type 0} (P : X → Type 0) (xs : List X) → AllByRecursion P xs → (k : ℕ) (x : X) → slice_get xs k ≡ Some x → P x
all_at P [] all k x is = absurd (none-some x is)
all_at P (y ∷ ys) all zero x is = subst P (same_Some y x is) all.0
all_at P (y ∷ ys) all (suc k) x is = all_at P ys all.1 k x is

pub all_by_position : {X : Type 0} (P : X → Type 0) (xs : List X) → ((k : ℕ) (x : X) → slice_get xs k ≡ Some x → P x) → AllByRecursion P xs
all_by_position P [] h = tt
all_by_position P (x ∷ xs) h = (h 0 x refl, all_by_position P xs (λ k. h (suc k)))

pub within_at : {X : Type 0} (xs : List X) (k : ℕ) (x : X) → slice_get xs k ≡ Some x → k < length xs
within_at [] k x is = absurd (none-some x is)
within_at (y ∷ ys) zero x is = omega arith
within_at (y ∷ ys) (suc k) x is = let less = within_at ys k x is in omega (arith, less)

-- ---- lists in lists

pub contains_cons : {X : Type 0} (x y : X) (xs : List X) → Contains xs y → Contains (x ∷ xs) y
contains_cons x y xs (k, within, is) = (suc k, omega (arith, within), is)

pub contains_cases : {X : Type 0} (x y : X) (xs : List X) → Contains (x ∷ xs) y → (x ≡ y) ⊎ Contains xs y
contains_cases x y xs (zero, within, is) = inl is
contains_cases x y xs (suc k, within, is) = inr (k, omega (arith, within), is)

contains_none : {X : Type 0} (y : X) → Contains [] y → ⊥
contains_none y (k, within, is) = omega (arith, within)

pub contains_flat : {X Y : Type 0} (f : X → List Y) (xs : List X) (x : X) (y : Y) → Contains xs x → Contains (f x) y → Contains (flat_map f xs) y
contains_flat f [] x y there is = absurd (contains_none x there)
contains_flat {X} {Y} f (z ∷ xs) x y there is =
    elim (contains_cases z x xs there) [
      | inl same ↦ Contains-append_left (f z) (flat_map f xs) y (subst (λ (e : X). Contains (f e) y) (sym same) is)
      | inr more ↦ Contains-append_right (f z) (flat_map f xs) y (contains_flat f xs x y more is)
    ]

kept_here : {X : Type 0} (x : X) (xs : List X) (b : Bool) → b ≡ true → Contains (cond b (x ∷ xs) xs) x
kept_here x xs true e = (0, omega arith, refl)
kept_here x xs false e = let no : false ≡ true = e in absurd (cc)

kept_more : {X : Type 0} (x y : X) (xs : List X) (b : Bool) → Contains xs y → Contains (cond b (x ∷ xs) xs) y
kept_more x y xs true is = contains_cons x y xs is
kept_more x y xs false is = is

pub contains_filter : {X : Type 0} (test : X → Bool) (xs : List X) (y : X) → Contains xs y → test y ≡ true → Contains (filter test xs) y
contains_filter test [] y there passes = absurd (contains_none y there)
contains_filter {X} test (x ∷ xs) y there passes =
    elim (contains_cases x y xs there) [
      | inl same ↦ subst (λ (e : X). Contains (filter test (x ∷ xs)) e) same (kept_here x (filter test xs) (test x) (ap test same ∙ passes))
      | inr more ↦ kept_more x y (filter test xs) (test x) (contains_filter test xs y more passes)
    ]

-- ---- instructions

pub at_position : (ops : Ops) (k : ℕ) → k < length ops → (instruction : Op) × (slice_get ops k ≡ Some (pc_at ops k, instruction))
at_position [] k within = absurd (omega (arith, within))
at_position ((pc, instruction) ∷ ops) zero within = (instruction, refl)
at_position ((pc, instruction) ∷ ops) (suc k) within = at_position ops k (omega (arith, within))

pub pc_of_position : (ops : Ops) (k : ℕ) (x : ℕ × Op) → slice_get ops k ≡ Some x → pc_at ops k ≡ x.0
pc_of_position [] k x is = absurd (none-some x is)
pc_of_position (y ∷ ops) zero x is = let same : y ≡ x = same_Some y x is in ap (λ (z : ℕ × Op). z.0) same
pc_of_position (y ∷ ops) (suc k) x is = pc_of_position ops k x is

pub op_of_position : (ops : Ops) → RisesFrom 0 ops → (k : ℕ) (x : ℕ × Op) → slice_get ops k ≡ Some x → op_at ops x.0 ≡ Some x.1
op_of_position ops rise k x is = all_at (λ (y : ℕ × Op). op_at ops y.0 ≡ Some y.1) ops (each_is_at ops rise) k x is

pub position_of_op : (ops : Ops) (pc : ℕ) (instruction : Op) → op_at ops pc ≡ Some instruction → (k : ℕ) × (slice_get ops k ≡ Some (pc, instruction))
position_of_op [] pc instruction is = absurd (none-some instruction (sym (op_none pc) ∙ is))
position_of_op ((at, first) ∷ ops) pc instruction is =
    elim (cases_Bool (nat_eq at pc)) [
      | inl same ↦
          let first_is : first ≡ instruction = same_Some first instruction (sym (op_here at pc first ops same) ∙ is) in
          (0, ap (λ p. Some (p, first)) (eqb-true at pc same) ∙ ap (λ (i : Op). Some (pc, i)) first_is)
      | inr other ↦ let more = position_of_op ops pc instruction (sym (op_later at pc first ops other) ∙ is) in (suc more.0, more.1)
    ]

pub start_here : (ops : Ops) (k pc : ℕ) → k < length ops → pc_at ops k ≡ pc → IsStart ops pc
start_here [] k pc within at = absurd (omega (arith, within))
start_here (x ∷ ops) zero pc within at = (0, omega arith, at)
start_here (x ∷ ops) (suc k) pc within at = let more = start_here ops k pc (omega (arith, within)) at in let less = more.1 in (suc more.0, omega (arith, less), more.2)

-- ---- one position for each pc

low_pc : (low : ℕ) (ops : Ops) → RisesFrom low ops → (k : ℕ) → k < length ops → low ≤ pc_at ops k
low_pc low [] rise k within = absurd (omega (arith, within))
low_pc low (x ∷ ops) rise zero within = rise.0
low_pc low (x ∷ ops) rise (suc k) within = let more = low_pc (suc x.0) ops rise.1 k (omega (arith, within)) in omega (arith, more, rise.0)

pcs_rise : (low : ℕ) (ops : Ops) → RisesFrom low ops → (j k : ℕ) → j < k → k < length ops → pc_at ops j < pc_at ops k
pcs_rise low [] rise j k less within = absurd (omega (arith, within))
pcs_rise low (x ∷ ops) rise j zero less within = absurd (omega (arith, less))
pcs_rise low (x ∷ ops) rise zero (suc k) less within = low_pc (suc x.0) ops rise.1 k (omega (arith, within))
pcs_rise low (x ∷ ops) rise (suc j) (suc k) less within = pcs_rise (suc x.0) ops rise.1 j k (omega (arith, less)) (omega (arith, within))

pub one_position : (ops : Ops) → RisesFrom 0 ops → (j k : ℕ) → j < length ops → k < length ops → pc_at ops j ≡ pc_at ops k → j ≡ k
one_position ops rise j k first second same =
    elim (cases_lt j k) [
      | inl less ↦ let more = pcs_rise 0 ops rise j k less second in absurd (omega (arith, more, same))
      | inr le ↦ elim (cases_lt k j) [
        | inl less ↦ let more = pcs_rise 0 ops rise k j less first in absurd (omega (arith, more, same))
        | inr ge ↦ omega (arith, le, ge)
      ]
    ]
