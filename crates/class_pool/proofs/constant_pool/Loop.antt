-- Reading places one after the other, as a loop does.
use Rattle.std.proofs.Common.{◌≡◌, ℕ, zero, suc, ◌-◌, ◌+◌, ◌≤◌, ◌<◌, Bool, false, List, [], ◌∷◌, ◌++◌, length, Option, Result, Ok, Err, refl, sym, ap, subst, ◌∙◌, append_assoc, add-one, arith, inl, inr}
use Rattle.std.proofs.lemmas.List.{append-nil}
use Rattle.class_pool.specs.declared.pool.Const.{Const}
use Rattle.class_pool.specs.declared.refusal.PoolRefusal.{PoolRefusal}
use Rattle.class_pool.specs.Pool.{Slots}
use Rattle.class_pool.specs.PoolRefused.{Shows, ShowsGood}
use Rattle.byte_read.specs.Reading.{◌>>=◌}
use Rattle.class_pool.specs.PoolReading.{slot_at, is_first_of_two, slots_at}
use Rattle.byte_read.proofs.Steps.{bind_then, ok_is, no_failure}
use Rattle.class_pool.proofs.constant_pool.Steps.{err_says, err_shows, good_why}

-- what was read before, and what is still read
abbrev pub with_prefix : Slots → Result (Slots × List ℕ) PoolRefusal → Result (Slots × List ℕ) PoolRefusal
with_prefix prefix read = read >>= λ x. Ok (prefix ++ x.0, x.1)

regroup : (prefix : Slots) (slot : Option Const) (read : Result (Slots × List ℕ) PoolRefusal) → with_prefix prefix (read >>= λ x. Ok (slot ∷ x.0, x.1)) ≡ with_prefix (prefix ++ slot ∷ []) read
regroup prefix slot (Ok x) = ap (λ (slots : Slots). Ok (slots, x.1)) (simp append_assoc)
regroup prefix slot (Err e) = refl

-- the room that is left from an index up to the count
room_left : (count index : ℕ) → index < count → count - index ≡ suc (count - (index + 1))
room_left count index lt = omega arith

goes_one_on : (second : Bool) (prefix : Slots) (index room : ℕ) (bytes : List ℕ) (slot : Option Const) (after : List ℕ) (total : Result (Slots × List ℕ) PoolRefusal)
    → slot_at second index (suc room) bytes ≡ Ok (slot, after) → with_prefix prefix (slots_at second index (suc room) bytes) ≡ total
    → with_prefix (prefix ++ slot ∷ []) (slots_at (is_first_of_two slot) (suc index) room after) ≡ total
unfolding slots_at
goes_one_on second prefix index room bytes slot after total h so_far =
    let one : with_prefix prefix (slots_at second index (suc room) bytes) ≡ with_prefix (prefix ++ slot ∷ []) (slots_at (is_first_of_two slot) (suc index) room after) =
    rw h (regroup prefix slot (slots_at (is_first_of_two slot) (suc index) room after)) in
    sym one ∙ so_far

pub goes_on : (second : Bool) (prefix : Slots) (count index : ℕ) (bytes : List ℕ) (slot : Option Const) (after : List ℕ) (total : Result (Slots × List ℕ) PoolRefusal)
    → index < count → slot_at second index (count - index) bytes ≡ Ok (slot, after) → with_prefix prefix (slots_at second index (count - index) bytes) ≡ total
    → with_prefix (prefix ++ slot ∷ []) (slots_at (is_first_of_two slot) (index + 1) (count - (index + 1)) after) ≡ total
goes_on second prefix count index bytes slot after total lt h so_far =
    let k = room_left count index lt in
    subst (λ (n : ℕ). with_prefix (prefix ++ slot ∷ []) (slots_at (is_first_of_two slot) n (count - (index + 1)) after) ≡ total) (sym (add-one index)) (goes_one_on second prefix index (count - (index + 1)) bytes slot after total (rw k at h) (rw k at so_far))

fails_once : (second : Bool) (prefix : Slots) (index room : ℕ) (bytes : List ℕ) (why : PoolRefusal) → slot_at second index (suc room) bytes ≡ Err why → with_prefix prefix (slots_at second index (suc room) bytes) ≡ Err why
unfolding slots_at
fails_once second prefix index room bytes why e = rw e refl

pub ends : (why : PoolRefusal) (second : Bool) (prefix : Slots) (count index : ℕ) (bytes : List ℕ) (total : Result (Slots × List ℕ) PoolRefusal) → index < count
    → Shows (λ x. x) (Err why) (slot_at second index (count - index) bytes) → with_prefix prefix (slots_at second index (count - index) bytes) ≡ total → Shows (λ x. x) (Err why) total
ends why second prefix count index bytes total lt h so_far =
    let k = room_left count index lt in
    elim (err_says (λ x. x) why (slot_at second index (count - index) bytes) h) [
      | inl memory ↦ err_shows (λ x. x) why total (inl memory)
      | inr e ↦ err_shows (λ x. x) why total (inr (sym so_far ∙ (rw k (fails_once second prefix index (count - (index + 1)) bytes why (rw k at e)))))
    ]

pub is_done : (second : Bool) (prefix : Slots) (count index : ℕ) (bytes : List ℕ) (total : Result (Slots × List ℕ) PoolRefusal) → count ≤ index → with_prefix prefix (slots_at second index (count - index) bytes) ≡ total → total ≡ Ok (prefix, bytes)
unfolding slots_at
is_done second prefix count index bytes total le so_far =
    let k : count - index ≡ 0 = omega arith in
    let one : with_prefix prefix (slots_at second index (count - index) bytes) ≡ Ok (prefix, bytes) = rw k (ap (λ (slots : Slots). Ok (slots, bytes)) (append-nil prefix)) in
    sym so_far ∙ one

-- a place was read for each that had room
pub counted_slots : (second : Bool) (index room : ℕ) (bytes : List ℕ) (x : Slots × List ℕ) → slots_at second index room bytes ≡ Ok x → length x.0 ≡ room
unfolding slots_at
counted_slots second index zero bytes x e = ap (λ (x : Slots × List ℕ). length x.0) (sym (ok_is ([], bytes) x e))
counted_slots second index (suc room) bytes x e =
    bind_then (slot_at second index (suc room) bytes) _ x e (λ a at_a e_b.
    bind_then (slots_at (is_first_of_two a.0) (suc index) room a.1) _ x e_b (λ b at_b e_x.
    ap (λ (x : Slots × List ℕ). length x.0) (sym (ok_is (a.0 ∷ b.0, b.1) x e_x)) ∙ ap suc (counted_slots (is_first_of_two a.0) (suc index) room a.1 b at_b)))

-- ---- the first place

-- where the first place is refused, the loop is at its beginning
abbrev pub IsBegun : ℕ → List ℕ → Bool → ℕ → List ℕ → Type 0
IsBegun count bytes second index rest = (why : PoolRefusal) → slot_at false 1 (count - 1) bytes ≡ Err why → (index ≡ 1) × (rest ≡ bytes) × (second ≡ false)

-- so the place that is read is the first one
first_again : (count : ℕ) (bytes : List ℕ) (second : Bool) (index : ℕ) (rest : List ℕ) (why : PoolRefusal) → IsBegun count bytes second index rest → slot_at false 1 (count - 1) bytes ≡ Err why → slot_at second index (count - index) rest ≡ Err why
first_again count bytes second index rest why begun e =
    let is = begun why e in
    rw (is.0, is.1, is.2) e

-- a place that is read is no refused one
pub first_read : {C : Type 0} (count : ℕ) (bytes : List ℕ) (second : Bool) (index : ℕ) (rest : List ℕ) (x : Option Const × List ℕ) (why : PoolRefusal) → IsBegun count bytes second index rest → slot_at second index (count - index) rest ≡ Ok x
    → slot_at false 1 (count - 1) bytes ≡ Err why → C
first_read count bytes second index rest x why begun read e = absurd (no_failure x why (sym read ∙ first_again count bytes second index rest why begun e))

-- what the first place is refused for is answered
pub first_fails : (count : ℕ) (bytes : List ℕ) (second : Bool) (index : ℕ) (rest : List ℕ) (why found : PoolRefusal) → IsBegun count bytes second index rest → ShowsGood (λ x. x) (Err found) (slot_at second index (count - index) rest)
    → slot_at false 1 (count - 1) bytes ≡ Err why → found ≡ why
first_fails count bytes second index rest why found begun good e = good_why found why (slot_at second index (count - index) rest) good (first_again count bytes second index rest why begun e)

-- the loop does not end before the first place
pub first_passed : {C : Type 0} (count : ℕ) (bytes : List ℕ) (second : Bool) (index : ℕ) (rest : List ℕ) (why : PoolRefusal) → IsBegun count bytes second index rest → count ≤ index → 1 < count → slot_at false 1 (count - 1) bytes ≡ Err why → C
first_passed count bytes second index rest why begun le some e = absurd (omega (arith, le, some, (begun why e).0))
