-- Places are read one after the other where they are encoded, up to the first entry that is refused.
use Rattle.std.proofs.Common.{◌≡◌, ℕ, zero, suc, ◌+◌, ◌<◌, ◌≤◌, Bool, true, false, cond, List, [], ◌∷◌, ◌++◌, length, Option, Some, None, Ok, Err, refl, sym, ap, subst, ◌∙◌, append_assoc, arith, inl, inr}
use Rattle.std.specs.List.{flat_map}
use Rattle.std.proofs.lemmas.List.Concat.{flat_map-cons}
use Rattle.class_pool.specs.declared.pool.Const.{Const}
use Rattle.class_pool.specs.declared.refusal.PoolRefusal.{PoolRefusal}
use Rattle.class_pool.specs.Pool.{Slots, FitsEntry, entry_bytes, slot_bytes, is_wide, width, AreSpacedAfter, EachEntry}
use Rattle.class_pool.specs.PoolRefused.{IsEntryRefused}
use Rattle.class_pool.specs.PoolReading.{entry_at, slot_at, is_first_of_two, slots_at}
use Rattle.byte_read.proofs.Steps.{IsBytes, bind_then, bind_fails, ok_is, no_failure, then_ok, then_err, Takes, joined}
use Rattle.class_pool.proofs.constant_pool.Entries.{entry_read, entry_refused, entry_taken, entry_fails}

-- ---- room

-- there is a place for the second of two
abbrev pub HasSecond : Bool → ℕ → Type 0
HasSecond second room = second ≡ true → 1 ≤ room

wide_room : (wide : Bool) (slots : Slots) → AreSpacedAfter wide slots → cond wide 2 1 ≤ suc (length slots)
wide_room false slots spaced = omega arith
wide_room true [] spaced = absurd spaced
wide_room true (slot ∷ slots) spaced = omega arith

enough : (n room more : ℕ) → n ≤ suc room → suc room ≤ more → n ≤ suc more
enough n room more le lt = omega (arith, le, lt)

room_for_second : (wide : Bool) (room : ℕ) → cond wide 2 1 ≤ suc room → HasSecond wide room
room_for_second false room le e = absurd cc
room_for_second true room le e = omega (arith, le)

-- ---- what is encoded is read

regrouped : (slot : Option Const) (slots : Slots) (rest : List ℕ) → flat_map slot_bytes (slot ∷ slots) ++ rest ≡ slot_bytes slot ++ (flat_map slot_bytes slots ++ rest)
regrouped slot slots rest = ap (λ (x : List ℕ). x ++ rest) (flat_map-cons slot_bytes slot slots) ∙ append_assoc (slot_bytes slot) (flat_map slot_bytes slots) rest

-- an entry that is read, as a place
entry_slot : (index room : ℕ) (entry : Const) (rest : List ℕ) → FitsEntry entry → width entry ≤ room → slot_at false index room (entry_bytes entry ++ rest) ≡ Ok (Some entry, rest)
unfolding slot_at
entry_slot index room entry rest fits le = then_ok _ _ (entry_read index room entry rest fits le) refl

no_slot : (index room : ℕ) (bytes : List ℕ) → slot_at true index room bytes ≡ Ok (None, bytes)
unfolding slot_at
no_slot index room bytes = refl

pub slots_again : (second : Bool) (index : ℕ) (slots : Slots) (rest : List ℕ) → EachEntry FitsEntry slots → AreSpacedAfter second slots → slots_at second index (length slots) (flat_map slot_bytes slots ++ rest) ≡ Ok (slots, rest)
unfolding slots_at
slots_again false index [] rest fits spaced = refl
slots_again true index [] rest fits spaced = absurd spaced
slots_again false index (None ∷ slots) rest fits spaced = absurd spaced
slots_again true index (None ∷ slots) rest fits spaced =
    ap (slots_at true index (suc (length slots))) (regrouped None slots rest)
    ∙ then_ok _ _ (no_slot index (suc (length slots)) (flat_map slot_bytes slots ++ rest)) (then_ok _ _ (slots_again false (suc index) slots rest fits spaced) refl)
slots_again false index (Some entry ∷ slots) rest fits spaced =
    ap (slots_at false index (suc (length slots))) (regrouped (Some entry) slots rest)
    ∙ then_ok _ _ (entry_slot index (suc (length slots)) entry (flat_map slot_bytes slots ++ rest) fits.0 (wide_room (is_wide entry) slots spaced))
    (then_ok _ _ (slots_again (is_wide entry) (suc index) slots rest fits.1 spaced) refl)
slots_again true index (Some entry ∷ slots) rest fits spaced = absurd spaced

-- ---- what is refused is refused

slot_refused : (index room : ℕ) (bytes : List ℕ) (why : PoolRefusal) → 1 ≤ room → IsEntryRefused index room bytes why → slot_at false index room bytes ≡ Err why
unfolding slot_at
slot_refused index room bytes why some r = then_err _ (entry_refused index room bytes why some r)

entry_at_slot : (index room i r : ℕ) (rest : List ℕ) (why : PoolRefusal) → i ≡ index → r ≡ room → IsEntryRefused i r rest why → IsEntryRefused index room rest why
entry_at_slot index room i r rest why e h refused = subst (λ (n : ℕ). IsEntryRefused index n rest why) h (subst (λ (n : ℕ). IsEntryRefused n r rest why) e refused)

-- the index and the room at the entry that is refused
abbrev pub AtEntry : (index room i r : ℕ) → Slots → Type 0
AtEntry index room i r slots = (i ≡ index + length slots) × (r + length slots ≡ room)

further : (index room i r : ℕ) (slot : Option Const) (slots : Slots) → AtEntry index (suc room) i r (slot ∷ slots) → AtEntry (suc index) room i r slots
further index room i r slot slots at = (omega (arith, at.0), omega (arith, at.1))

pub slots_refused : (second : Bool) (index room i r : ℕ) (slots : Slots) (rest : List ℕ) (why : PoolRefusal) → EachEntry FitsEntry slots → AreSpacedAfter second slots → length slots < room → AtEntry index room i r slots
    → IsEntryRefused i r rest why → slots_at second index room (flat_map slot_bytes slots ++ rest) ≡ Err why
unfolding slots_at
slots_refused second index zero i r slots rest why fits spaced lt at refused = absurd (omega (arith, lt))
slots_refused false index (suc room) i r [] rest why fits spaced lt at refused =
    then_err _ (slot_refused index (suc room) rest why (omega arith) (entry_at_slot index (suc room) i r rest why (omega (arith, at.0)) (omega (arith, at.1)) refused))
slots_refused true index (suc room) i r [] rest why fits spaced lt at refused = absurd spaced
slots_refused false index (suc room) i r (None ∷ slots) rest why fits spaced lt at refused = absurd spaced
slots_refused true index (suc room) i r (None ∷ slots) rest why fits spaced lt at refused =
    ap (slots_at true index (suc room)) (regrouped None slots rest)
    ∙ then_ok _ _ (no_slot index (suc room) (flat_map slot_bytes slots ++ rest)) (then_err _ (slots_refused false (suc index) room i r slots rest why fits spaced (omega (arith, lt)) (further index room i r None slots at) refused))
slots_refused false index (suc room) i r (Some entry ∷ slots) rest why fits spaced lt at refused =
    let wide : cond (is_wide entry) 2 1 ≤ suc (length slots) = wide_room (is_wide entry) slots spaced in
    ap (slots_at false index (suc room)) (regrouped (Some entry) slots rest)
    ∙ then_ok _ _ (entry_slot index (suc room) entry (flat_map slot_bytes slots ++ rest) fits.0 (enough (width entry) (length slots) room wide (omega (arith, lt))))
    (then_err _ (slots_refused (is_wide entry) (suc index) room i r slots rest why fits.1 spaced (omega (arith, lt)) (further index room i r (Some entry) slots at) refused))
slots_refused true index (suc room) i r (Some entry ∷ slots) rest why fits spaced lt at refused = absurd spaced

-- ---- what was read is encoded so

pub record TakesSlots (second : Bool) (room : ℕ) (bytes : List ℕ) (x : Slots × List ℕ) : Type 0 where
  pub takes : Takes bytes (flat_map slot_bytes x.0) x.1
  pub count_is : length x.0 ≡ room
  pub fits : EachEntry FitsEntry x.0
  pub spaced : AreSpacedAfter second x.0

-- a place with room after it for so many others
record TakesSlot (second : Bool) (room : ℕ) (bytes : List ℕ) (x : Option Const × List ℕ) : Type 0 where
  takes : Takes bytes (slot_bytes x.0) x.1
  fits : (slots : Slots) → EachEntry FitsEntry slots → EachEntry FitsEntry (x.0 ∷ slots)
  spaced : (slots : Slots) → AreSpacedAfter (is_first_of_two x.0) slots → AreSpacedAfter second (x.0 ∷ slots)
  has_second : HasSecond (is_first_of_two x.0) room

no_second : (room : ℕ) → HasSecond false room
no_second room e = absurd cc

none_taken : (room : ℕ) (bytes : List ℕ) → IsBytes bytes → TakesSlot true room bytes (None, bytes)
none_taken room bytes fits = record { takes = record { parts = refl; rest_fits = fits }; fits = λ slots f. f; spaced = λ slots s. s; has_second = no_second room }

slot_taken : (second : Bool) (index room : ℕ) (bytes : List ℕ) (x : Option Const × List ℕ) → IsBytes bytes → slot_at second index (suc room) bytes ≡ Ok x → TakesSlot second room bytes x
unfolding slot_at
slot_taken true index room bytes x fits e = subst (TakesSlot true room bytes) (ok_is (None, bytes) x e) (none_taken room bytes fits)
slot_taken false index room bytes x fits e =
    bind_then (entry_at index (suc room) bytes) _ x e (λ a at_a e_x.
    let t = entry_taken index (suc room) bytes a fits at_a in
    let made : TakesSlot false room bytes (Some a.0, a.1) = record { takes = t.takes; fits = λ slots f. (t.fits, f); spaced = λ slots s. s; has_second = room_for_second (is_wide a.0) room t.has_room } in
    subst (TakesSlot false room bytes) (ok_is (Some a.0, a.1) x e_x) made)

none_left : (second : Bool) (bytes : List ℕ) → HasSecond second 0 → IsBytes bytes → TakesSlots second 0 bytes ([], bytes)
none_left true bytes has fits = absurd (omega (arith, has refl))
none_left false bytes has fits = record { takes = record { parts = refl; rest_fits = fits }; count_is = refl; fits = tt; spaced = tt }

pub slots_taken : (second : Bool) (index room : ℕ) (bytes : List ℕ) (x : Slots × List ℕ) → HasSecond second room → IsBytes bytes → slots_at second index room bytes ≡ Ok x → TakesSlots second room bytes x
unfolding slots_at
slots_taken second index zero bytes x has fits e = subst (TakesSlots second 0 bytes) (ok_is ([], bytes) x e) (none_left second bytes has fits)
slots_taken second index (suc room) bytes x has fits e =
    bind_then (slot_at second index (suc room) bytes) _ x e (λ a at_a e_b.
    bind_then (slots_at (is_first_of_two a.0) (suc index) room a.1) _ x e_b (λ b at_b e_x.
    let one = slot_taken second index room bytes a fits at_a in
    let others = slots_taken (is_first_of_two a.0) (suc index) room a.1 b one.has_second one.takes.rest_fits at_b in
    let slots : Slots = a.0 ∷ b.0 in
    let whole : Takes bytes (flat_map slot_bytes slots) b.1 = subst (λ (t : List ℕ). Takes bytes t b.1) (sym (flat_map-cons slot_bytes a.0 b.0)) (joined one.takes others.takes) in
    let made : TakesSlots second (suc room) bytes (slots, b.1) = record { takes = whole; count_is = ap suc others.count_is; fits = one.fits b.0 others.fits; spaced = one.spaced b.0 others.spaced } in
    subst (TakesSlots second (suc room) bytes) (ok_is (slots, b.1) x e_x) made))

-- ---- what was refused is refused so

pub record FailsSlots (second : Bool) (index room : ℕ) (bytes : List ℕ) (why : PoolRefusal) : Type 0 where
  pub slots : Slots
  pub rest : List ℕ
  pub i : ℕ
  pub r : ℕ
  pub encoded : bytes ≡ flat_map slot_bytes slots ++ rest
  pub fits : EachEntry FitsEntry slots
  pub spaced : AreSpacedAfter second slots
  pub before : length slots < room
  pub at : AtEntry index room i r slots
  pub refused : IsEntryRefused i r rest why

first_fails : (second : Bool) (index room : ℕ) (bytes : List ℕ) (why : PoolRefusal) → IsBytes bytes → slot_at second index (suc room) bytes ≡ Err why → FailsSlots second index (suc room) bytes why
unfolding slot_at
first_fails true index room bytes why fits e = absurd cc
first_fails false index room bytes why fits e =
    elim (bind_fails (entry_at index (suc room) bytes) _ why e) [
      | inl bad ↦
          let refused = entry_fails index (suc room) bytes why (omega arith) fits bad in
          record { slots = []; rest = bytes; i = index; r = suc room; encoded = refl; fits = tt; spaced = tt; before = omega arith; at = (omega arith, omega arith); refused = refused }
      | inr x ↦ absurd (no_failure (Some x.0.0, x.0.1) why x.2)
    ]

after_first : (second : Bool) (index room : ℕ) (bytes : List ℕ) (why : PoolRefusal) (a : Option Const × List ℕ) → TakesSlot second room bytes a → FailsSlots (is_first_of_two a.0) (suc index) room a.1 why → FailsSlots second index (suc room) bytes why
after_first second index room bytes why a one f = record {
  slots = a.0 ∷ f.slots;
  rest = f.rest;
  i = f.i;
  r = f.r;
  encoded = one.takes.parts ∙ ap (λ (t : List ℕ). slot_bytes a.0 ++ t) f.encoded ∙ sym (regrouped a.0 f.slots f.rest);
  fits = one.fits f.slots f.fits;
  spaced = one.spaced f.slots f.spaced;
  before = omega (arith, f.before);
  at = (omega (arith, f.at.0), omega (arith, f.at.1));
  refused = f.refused;
}

pub slots_fail : (second : Bool) (index room : ℕ) (bytes : List ℕ) (why : PoolRefusal) → IsBytes bytes → slots_at second index room bytes ≡ Err why → FailsSlots second index room bytes why
unfolding slots_at
slots_fail second index zero bytes why fits e = absurd cc
slots_fail second index (suc room) bytes why fits e =
    elim (bind_fails (slot_at second index (suc room) bytes) _ why e) [
      | inl bad ↦ first_fails second index room bytes why fits bad
      | inr a ↦
          let one = slot_taken second index room bytes a.0 fits a.1 in
          elim (bind_fails (slots_at (is_first_of_two a.0.0) (suc index) room a.0.1) _ why a.2) [
            | inl bad ↦ after_first second index room bytes why a.0 one (slots_fail (is_first_of_two a.0.0) (suc index) room a.0.1 why one.takes.rest_fits bad)
            | inr b ↦ absurd (no_failure (a.0.0 ∷ b.0.0, b.0.1) why b.2)
          ]
    ]
