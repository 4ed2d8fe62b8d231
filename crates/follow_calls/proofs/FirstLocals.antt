-- Locals in their order, of which the first are the items of a list.
use Rattle.std.proofs.Common.{◌≡◌, ℕ, zero, suc, ◌+◌, ◌≤◌, Bool, true, false, cond, List, [], ◌∷◌, ◌++◌, map, filter, length, replicate, Option, Some, None, option_and_then, refl, ap, ap₂, ◌∙◌, arith}
use Rattle.std.specs.Prelude.{slice_get}
use Rattle.std.specs.List.{range_with_len}
use Rattle.std.specs.Option.{option_map_or}

-- what is set in a list of locals, of which the others are not set
none_set : {X : Type 0} (count i : ℕ) → option_and_then (λ (found : Option X). found) (slice_get (replicate count None) i) ≡ None
none_set zero i = refl
none_set (suc count) zero = refl
none_set (suc count) (suc i) = none_set count i

pub set_first : {X : Type 0} (items : List X) (count i : ℕ) → option_and_then (λ (found : Option X). found) (slice_get (map (λ (x : X). Some x) items ++ replicate count None) i) ≡ slice_get items i
set_first [] count i = none_set count i
set_first (x ∷ items) count zero = refl
set_first (x ∷ items) count (suc i) = set_first items count i

module _ {V : Type 0} (test : ℕ → Bool) (is : V → Bool) where
  -- the locals pass a test as the items pass another one
  abbrev pub TestsAs : ℕ → List V → Type 0
  TestsAs from items = (i : ℕ) → test (from + i) ≡ option_map_or is (slice_get items i) false

  pub tests_here : (from : ℕ) (v : V) (items : List V) → TestsAs from (v ∷ items) → test from ≡ is v
  tests_here from v items tests = let at : from ≡ from + 0 = omega arith in ap test at ∙ tests 0

  pub tests_later : (from : ℕ) (v : V) (items : List V) → TestsAs from (v ∷ items) → TestsAs (from + 1) items
  tests_later from v items tests i = let next : from + 1 + i ≡ from + suc i = omega arith in ap test next ∙ tests (suc i)

  kept_none : (from count : ℕ) → ((i : ℕ) → test (from + i) ≡ false) → filter test (range_with_len from count) ≡ []
  kept_none from zero fails = refl
  kept_none from (suc count) fails =
      let rest = range_with_len (from + 1) count in
      let at : from ≡ from + 0 = omega arith in
      ap (λ (b : Bool). cond b (from ∷ filter test rest) (filter test rest)) (ap test at ∙ fails 0)
      ∙ kept_none (from + 1) count (λ i. let next : from + 1 + i ≡ from + suc i = omega arith in ap test next ∙ fails (suc i))

  module _ {X : Type 0} (f : ℕ → X) (g : V → X) where
    one_kept : (from : ℕ) (v : V) (locals : List ℕ) (items : List V) → f from ≡ g v → map f locals ≡ map g items → (b : Bool) → map f (cond b (from ∷ locals) locals) ≡ map g (cond b (v ∷ items) items)
    one_kept from v locals items here later true = ap₂ (λ (x : X) (xs : List X). x ∷ xs) here later
    one_kept from v locals items here later false = later

    -- what is taken of the locals that pass is what is taken of the items that do
    pub taken_in_order : (from count : ℕ) (items : List V) → length items ≤ count → TestsAs from items → ((i : ℕ) (v : V) → slice_get items i ≡ Some v → f (from + i) ≡ g v)
        → map f (filter test (range_with_len from count)) ≡ map g (filter is items)
    taken_in_order from zero [] few tests gives = refl
    taken_in_order from zero (v ∷ items) few tests gives = absurd (omega (arith, few))
    taken_in_order from (suc count) [] few tests gives = ap (map f) (kept_none from (suc count) tests)
    taken_in_order from (suc count) (v ∷ items) few tests gives =
        let rest = range_with_len (from + 1) count in
        let at : from ≡ from + 0 = omega arith in
        let later =
        taken_in_order (from + 1) count items (omega (arith, few)) (tests_later from v items tests)
        (λ i w is. let next : from + 1 + i ≡ from + suc i = omega arith in ap f next ∙ gives (suc i) w is) in
        ap (λ (b : Bool). map f (cond b (from ∷ filter test rest) (filter test rest))) (tests_here from v items tests)
        ∙ one_kept from v (filter test rest) (filter is items) (ap f at ∙ gives 0 v refl) later (is v)

-- nothing is named by locals that pass a test
one_null : {X : Type 0} (f : ℕ → Option X) (local : ℕ) (locals : List ℕ) → map f locals ≡ replicate (length locals) None → (b : Bool) → (b ≡ true → f local ≡ None)
    → map f (cond b (local ∷ locals) locals) ≡ replicate (length (cond b (local ∷ locals) locals)) None
one_null {X} f local locals later true null = ap₂ (λ (x : Option X) (xs : List (Option X)). x ∷ xs) (null refl) later
one_null f local locals later false null = later

pub null_where : {X : Type 0} (f : ℕ → Option X) (test : ℕ → Bool) → ((local : ℕ) → test local ≡ true → f local ≡ None) → (locals : List ℕ) → map f (filter test locals) ≡ replicate (length (filter test locals)) None
null_where f test null [] = refl
null_where f test null (local ∷ locals) = one_null f local (filter test locals) (null_where f test null locals) (test local) (null local)
