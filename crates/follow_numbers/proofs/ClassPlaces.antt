-- The place of a class among the types of an image is its place in the order of classes.
use Rattle.std.proofs.Common.{◌≡◌, ℕ, suc, ◌+◌, ◌<◌, Bool, true, false, not, cond, ◌||◌, nat_eq, nat_lt, if◌then◌else◌, List, [], ◌∷◌, ◌++◌, map, length, Some, None, refl, sym, ap, ◌∙◌, arith, eq-eqb}
use Rattle.std.specs.List.{position_or_len}
use Rattle.std.specs.Prelude.{position, unwrap_or}
use Rattle.std.proofs.lemmas.Bool.{lt-ltb}
use Rattle.std.proofs.lemmas.Bool.Decides.{nat_tests}
use Rattle.class_pool.specs.declared.types.TypeRef.{TypeRef}
use Rattle.class_tree.specs.Subtypes.{class_type}
use Rattle.jvm_model.specs.ImageNumbering.{is_among, is_type, type_id}

either_false : (a b : Bool) → (a || b) ≡ false → (a ≡ false) × (b ≡ false)
either_false true b e = cc
either_false false b e = (refl, e)

-- ---- the first place of a number

pub record FirstPlace (number : ℕ) (numbers : List ℕ) : Type 0 where
  pub before : List ℕ
  pub after : List ℕ
  pub is : numbers ≡ before ++ number ∷ after
  pub first : is_among number before ≡ false

found_here : (number other : ℕ) → nat_eq number other ≡ true → number ≡ other
found_here number other e = grind (arith, nat_tests)

pub first_place : (number : ℕ) (numbers : List ℕ) → is_among number numbers ≡ true → FirstPlace number numbers
first_place number [] among = cc
first_place number (other ∷ numbers) among = by_test (first_place number numbers) (nat_eq number other) refl
  where
    by_test : (is_among number numbers ≡ true → FirstPlace number numbers) → (same : Bool) → nat_eq number other ≡ same → FirstPlace number (other ∷ numbers)
    by_test find true same = record { before = []; after = numbers; is = ap (λ (n : ℕ). n ∷ numbers) (sym (found_here number other same)); first = refl }
    by_test find false differs =
        let later = find (sym (ap (λ b. b || is_among number numbers) differs) ∙ among) in
        record { before = other ∷ later.before; after = later.after; is = ap (λ (l : List ℕ). other ∷ l) later.is; first = ap (λ b. b || is_among number later.before) differs ∙ later.first }

-- ---- its id

place_is : (class : ℕ) (before after : List ℕ) (more : List TypeRef) → is_among class before ≡ false → position_or_len (is_type (class_type class)) (map class_type (before ++ class ∷ after) ++ more) ≡ length before
place_is class [] after more first = ap (λ here. cond (not here) (1 + position_or_len (is_type (class_type class)) (map class_type after ++ more)) 0) (eq-eqb class class refl)
place_is class (other ∷ before) after more first =
    let parts = either_false (nat_eq class other) (is_among class before) first in
    let rest = map class_type (before ++ class ∷ after) ++ more in
    ap (λ here. cond (not here) (1 + position_or_len (is_type (class_type class)) rest) 0) parts.0 ∙ ap (λ (n : ℕ). 1 + n) (place_is class before after more parts.1) ∙ (let one : 1 + length before ≡ suc (length before) = omega arith in one)

places_longer : (before : List ℕ) (class : ℕ) (after : List ℕ) (more : List TypeRef) → length before < length (map class_type (before ++ class ∷ after) ++ more)
places_longer [] class after more = omega arith
places_longer (other ∷ before) class after more = let rest = places_longer before class after more in omega (arith, rest)

own_id : (class place : ℕ) → nat_lt class 32 ≡ false → unwrap_or (if nat_lt class 32 then Some class else None) place ≡ place
own_id class place own = ap (λ (b : Bool). unwrap_or (if b then Some class else None) place) own

-- the id of an own class, by those before it
pub id_is : (class : ℕ) (before after : List ℕ) (more : List TypeRef) → nat_lt class 32 ≡ false → is_among class before ≡ false → type_id (map class_type (before ++ class ∷ after) ++ more) (class_type class) ≡ 32 + length before
id_is class before after more own first =
    let test = is_type (class_type class) in
    let types = map class_type (before ++ class ∷ after) ++ more in
    let place = place_is class before after more first in
    let longer = places_longer before class after more in
    own_id class (32 + unwrap_or (position test types) 0) own
    ∙ ap (λ (n : ℕ). 32 + unwrap_or (if nat_lt n (length types) then Some n else None) 0) place
    ∙ ap (λ (b : Bool). 32 + unwrap_or (if b then Some (length before) else None) 0) (lt-ltb (length before) (length types) longer)
