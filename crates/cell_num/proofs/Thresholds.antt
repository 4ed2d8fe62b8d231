-- What the walks along rising numbers find: the nearest of them from below and from above.
use Rattle.std.proofs.Common.{◌≡◌, ℤ, ◌≤ℤ◌, ◌<ℤ◌, ◌<◌, List, [], ◌∷◌, ◌++◌, length, true, false, cond, refl, sym, ap, ◌∙◌, subst, arith, rules}
use Rattle.std.specs.Prelude.{All, Contains, int_le, ⊤}
use Rattle.std.proofs.lemmas.Bool.{and_parts}
use Rattle.std.proofs.lemmas.Int.{ints, by_lt_z}
use Rattle.std.proofs.lemmas.List.Elements.{All-nil, All-cons, Contains-append_right}
use Rattle.cell_num.specs.Ranges.{IsGreatestNotAbove, IsLeastNotBelow, last_not_above, first_not_below, least_int, greatest_int, inner_thresholds, thresholds, threshold_below, threshold_above, are_ints, AreInts, rounded_out, whole_range}
use Rattle.cell_num.specs.declared.ranges.Range.{Range}

-- the numbers rise, from a first one on
abbrev RisesFrom : ℤ → List ℤ → Type 0
RisesFrom before [] = ⊤
RisesFrom before (next ∷ rest) = (before ≤ℤ next) × RisesFrom next rest

abbrev Rises : List ℤ → Type 0
Rises [] = ⊤
Rises (first ∷ rest) = RisesFrom first rest

RisesFrom-rest : (before : ℤ) (rest : List ℤ) → RisesFrom before rest → Rises rest
RisesFrom-rest before [] rising = tt
RisesFrom-rest before (next ∷ rest) rising = rising.1

le_refl : (z : ℤ) → z ≤ℤ z
le_refl z = omega (arith, ints)

le_true : (a b : ℤ) → a ≤ℤ b → int_le a b ≡ true
le_true a b h = grind (arith, ints)

true_le : (a b : ℤ) → int_le a b ≡ true → a ≤ℤ b
true_le a b e = grind (arith, ints)

le_false : (a b : ℤ) → b <ℤ a → int_le a b ≡ false
le_false a b h = grind (arith, ints)

Contains-first : (x : ℤ) (xs : List ℤ) → Contains (x ∷ xs) x
Contains-first x xs = let some : 0 < length (x ∷ xs) = omega arith in (0, some, refl)

-- where the first of rising numbers is above a given one, so is each
all_above : (given bound first : ℤ) (rest : List ℤ) → given <ℤ first → RisesFrom first rest → All (λ other. other ≤ℤ given → other ≤ℤ bound) (first ∷ rest)
all_above given bound first [] above rising = All-cons (λ other. other ≤ℤ given → other ≤ℤ bound) first [] (λ h. omega (arith, ints)) (All-nil (λ other. other ≤ℤ given → other ≤ℤ bound))
all_above given bound first (next ∷ rest) above rising =
    let step : first ≤ℤ next = rising.0 in
    let later : given <ℤ next = omega (arith, ints) in
    All-cons (λ other. other ≤ℤ given → other ≤ℤ bound) first (next ∷ rest) (λ h. omega (arith, ints)) (all_above given bound next rest later rising.1)

-- what is not above the first of rising numbers is not above any
all_from : (given bound before : ℤ) (rest : List ℤ) → bound ≤ℤ before → RisesFrom before rest → All (λ other. given ≤ℤ other → bound ≤ℤ other) rest
all_from given bound before [] le rising = All-nil (λ other. given ≤ℤ other → bound ≤ℤ other)
all_from given bound before (next ∷ rest) le rising =
    let step : before ≤ℤ next = rising.0 in
    let later : bound ≤ℤ next = omega (arith, ints) in
    All-cons (λ other. given ≤ℤ other → bound ≤ℤ other) next rest (λ h. later) (all_from given bound next rest later rising.1)

last_not_above-is : (given before : ℤ) (rest : List ℤ) → before ≤ℤ given → RisesFrom before rest → IsGreatestNotAbove (before ∷ rest) given (last_not_above given before rest)
last_not_above-is given before [] le rising = record {
  among = Contains-first before [];
  not_above = le;
  greatest = All-cons (λ other. other ≤ℤ given → other ≤ℤ before) before [] (λ h. le_refl before) (All-nil (λ other. other ≤ℤ given → other ≤ℤ before));
}
last_not_above-is given before (next ∷ rest) le rising =
    by_lt_z given next
    (λ above. subst (λ t. IsGreatestNotAbove (before ∷ next ∷ rest) given (cond t (last_not_above given next rest) before)) (sym (le_false next given above)) (record {
      among = Contains-first before (next ∷ rest);
      not_above = le;
      greatest = All-cons (λ other. other ≤ℤ given → other ≤ℤ before) before (next ∷ rest) (λ h. le_refl before) (all_above given before next rest above rising.1);
    }))
    (λ passed.
    let found = last_not_above given next rest in
    let later = last_not_above-is given next rest passed rising.1 in
    let step : before ≤ℤ next = rising.0 in
    let some : 0 < length (next ∷ rest) = omega arith in
    let beyond : next ≤ℤ found = later.greatest 0 next some passed in
    subst (λ t. IsGreatestNotAbove (before ∷ next ∷ rest) given (cond t found before)) (sym (le_true next given passed)) (record {
      among = Contains-append_right (before ∷ []) (next ∷ rest) found later.among;
      not_above = later.not_above;
      greatest = All-cons (λ other. other ≤ℤ given → other ≤ℤ found) before (next ∷ rest) (λ h. omega (arith, ints)) later.greatest;
    }))

first_not_below-is : (given : ℤ) (rest : List ℤ) (after : ℤ) → given ≤ℤ after → Rises (rest ++ after ∷ []) → IsLeastNotBelow (rest ++ after ∷ []) given (first_not_below given rest after)
first_not_below-is given [] after le rising = record {
  among = Contains-first after [];
  not_below = le;
  least = All-cons (λ other. given ≤ℤ other → after ≤ℤ other) after [] (λ h. le_refl after) (All-nil (λ other. given ≤ℤ other → after ≤ℤ other));
}
first_not_below-is given (next ∷ rest) after le rising =
    by_lt_z next given
    (λ passed.
    let found = first_not_below given rest after in
    let later = first_not_below-is given rest after le (RisesFrom-rest next (rest ++ after ∷ []) rising) in
    subst (λ t. IsLeastNotBelow (next ∷ (rest ++ after ∷ [])) given (cond t next found)) (sym (le_false given next passed)) (record {
      among = Contains-append_right (next ∷ []) (rest ++ after ∷ []) found later.among;
      not_below = later.not_below;
      least = All-cons (λ other. given ≤ℤ other → found ≤ℤ other) next (rest ++ after ∷ []) (λ h. omega (arith, ints)) later.least;
    }))
    (λ reached. subst (λ t. IsLeastNotBelow (next ∷ (rest ++ after ∷ [])) given (cond t next (first_not_below given rest after))) (sym (le_true given next reached)) (record {
      among = Contains-first next (rest ++ after ∷ []);
      not_below = reached;
      least = All-cons (λ other. given ≤ℤ other → next ≤ℤ other) next (rest ++ after ∷ []) (λ h. le_refl next) (all_from given next next (rest ++ after ∷ []) (le_refl next) rising);
    }))

thresholds_rise : Rises thresholds
thresholds_rise = search rules

pub threshold_below-is : (given : ℤ) → least_int ≤ℤ given → IsGreatestNotAbove thresholds given (threshold_below given)
threshold_below-is given le = last_not_above-is given least_int (inner_thresholds ++ greatest_int ∷ []) le thresholds_rise

pub threshold_above-is : (given : ℤ) → given ≤ℤ greatest_int → IsLeastNotBelow thresholds given (threshold_above given)
threshold_above-is given le = first_not_below-is given (least_int ∷ inner_thresholds) greatest_int le thresholds_rise

abbrev range : ℤ → ℤ → Range
range lo hi = record { lo = lo; hi = hi }

-- what the test says
pub are_ints-true : (lo hi : ℤ) → true ≡ are_ints lo hi → AreInts lo hi
are_ints-true lo hi e =
    let both = and_parts (int_le least_int lo) (int_le hi greatest_int) (sym e) in
    (true_le least_int lo both.0, true_le hi greatest_int both.1)

-- a range whose ends are these thresholds
pub rounded_is : (lo hi below above : ℤ) → true ≡ are_ints lo hi → below ≡ threshold_below lo → above ≡ threshold_above hi → range below above ≡ rounded_out lo hi
rounded_is lo hi below above e f g =
    let ends : range below above ≡ range (threshold_below lo) (threshold_above hi) = ap (λ x. range x above) f ∙ ap (range (threshold_below lo)) g in
    subst (λ t. range below above ≡ cond t (range (threshold_below lo) (threshold_above hi)) whole_range) e ends
