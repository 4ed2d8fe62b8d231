-- The names of attributes: where a text stands in a pool.
use Rattle.std.proofs.Common.{◌≡◌, ℕ, zero, suc, ◌+◌, ◌^◌, ◌<◌, ◌≤◌, true, List, [], ◌∷◌, length, Option, Some, None, refl, ap, arith, inl, inr}
use Rattle.std.specs.Prelude.{IsTrue, slice_get, option_and_then, unwrap_or}
use Rattle.std.proofs.lemmas.Bool.{cases_Bool, false≢true}
use Rattle.std.proofs.lemmas.Slice.Eq.{bytes_eq-Decides}
use Rattle.class_pool.specs.declared.pool.Const.{Const}
use Rattle.class_pool.specs.declared.pool.Const.TheVariants.{Utf8}
use Rattle.class_pool.specs.Pool.{Slots, entry_at, text_of, utf8_at}
use Rattle.class_file.specs.Rules.{is_named}
use Rattle.class_make.specs.Entries.{is_entry, index_from, index_of, text_index}
use Rattle.class_make.proofs.Slots.{same_again, same_says}

-- ---- an index is that of the entry

-- an entry is at a place, and its index is this one
abbrev Stands : ℕ → Slots → Const → ℕ → Type 0
Stands first pool entry index = (k : ℕ) × (index ≡ k + first) × (k < length pool) × (slice_get pool k ≡ Some (Some entry))

abbrev slot_some : Option Const → Option (Option Const)
slot_some slot = Some slot

slot_is : (entry : Const) (slot : Option Const) → is_entry entry slot ≡ true → slot ≡ Some entry
slot_is entry None e = absurd (false≢true e)
slot_is entry (Some other) e = ap (λ (c : Const). Some c) (same_says other entry e)

abbrev index_some : ℕ → Option ℕ
index_some n = Some n

same_index : (m n : ℕ) → index_some m ≡ index_some n → n ≡ m
same_index m n e = cc

no_index : (index : ℕ) → None ≡ index_some index → ⊥
no_index index e = cc

further : (first : ℕ) (slot : Option Const) (pool : Slots) (entry : Const) (index : ℕ) → Stands (suc first) pool entry index → Stands first (slot ∷ pool) entry index
further first slot pool entry index s = (suc s.0, omega (arith, s.1), omega (arith, s.2), s.3)

found_holds : (first : ℕ) (pool : Slots) (entry : Const) (index : ℕ) → index_from first pool entry ≡ Some index → Stands first pool entry index
unfolding index_from
found_holds first [] entry index e = absurd (no_index index e)
found_holds first (slot ∷ pool) entry index e =
    elim (cases_Bool (is_entry entry slot)) [
      | inl t ↦ (0, omega (arith, same_index first index (rw t at e)), omega arith, ap slot_some (slot_is entry slot t))
      | inr f ↦ further first slot pool entry index (found_holds (suc first) pool entry index (rw f at e))
    ]

-- ---- an entry that stands somewhere is found

no_slot : (entry : Const) → None ≡ slot_some (Some entry) → ⊥
no_slot entry e = cc

same_slot : (slot : Option Const) (entry : Const) → slot_some slot ≡ slot_some (Some entry) → slot ≡ Some entry
same_slot slot entry e = cc

entry_again : (slot : Option Const) (entry : Const) → slot ≡ Some entry → is_entry entry slot ≡ true
entry_again slot entry e = rw e (same_again entry)

holds_found : (first : ℕ) (pool : Slots) (entry : Const) (k : ℕ) → slice_get pool k ≡ Some (Some entry) → (index : ℕ) × (index_from first pool entry ≡ Some index)
unfolding index_from
holds_found first [] entry k e = absurd (no_slot entry e)
holds_found first (slot ∷ pool) entry zero e = (first, rw (entry_again slot entry (same_slot slot entry e)) refl)
holds_found first (slot ∷ pool) entry (suc k) e =
    elim (cases_Bool (is_entry entry slot)) [
      | inl t ↦ (first, rw t refl)
      | inr f ↦ let s = holds_found (suc first) pool entry k e in (s.0, rw f s.1)
    ]

-- ---- texts

some_entry : (slot : Option (Option Const)) (entry : Const) → option_and_then (λ (e : Option Const). e) slot ≡ Some entry → slot ≡ Some (Some entry)
some_entry None entry e = cc
some_entry (Some slot) entry e = ap slot_some e

abbrev entry_some : Const → Option Const
entry_some entry = Some entry

no_entry : (entry : Const) → None ≡ entry_some entry → ⊥
no_entry entry e = cc

-- an entry at an index is at a place
entry_holds : (pool : Slots) (n : ℕ) (entry : Const) → entry_at pool n ≡ Some entry → (k : ℕ) × (slice_get pool k ≡ Some (Some entry))
entry_holds pool zero entry e = absurd (no_entry entry e)
entry_holds pool (suc k) entry e = (k, some_entry (slice_get pool k) entry e)

abbrev text_some : List ℕ → Option (List ℕ)
text_some text = Some text

same_text : (a b : List ℕ) → text_some a ≡ text_some b → a ≡ b
same_text a b e = cc

no_text : (text : List ℕ) → None ≡ text_some text → ⊥
no_text text e = cc

text_is : (entry : Const) (text : List ℕ) → text_of entry ≡ Some text → entry ≡ Utf8 text
text_is (Utf8 other) text e = ap Utf8 (same_text other text e)
text_is _ text e = absurd (no_text text e)

text_entry : (found : Option Const) (text : List ℕ) → option_and_then text_of found ≡ Some text → found ≡ Some (Utf8 text)
text_entry None text e = absurd (no_text text e)
text_entry (Some entry) text e = ap entry_some (text_is entry text e)

named_is : (text : List ℕ) (found : Option (List ℕ)) → is_named text found ≡ true → found ≡ Some text
named_is text None e = absurd (false≢true e)
named_is text (Some other) e = ap text_some ((bytes_eq-Decides other text).0 e)

-- a text that some index names is named by its own index
pub named_again : (pool : Slots) (text : List ℕ) (n : ℕ) → IsTrue (is_named text (utf8_at pool n)) → IsTrue (is_named text (utf8_at pool (text_index pool text)))
named_again pool text n named =
    let entry : entry_at pool n ≡ Some (Utf8 text) = text_entry (entry_at pool n) text (named_is text (utf8_at pool n) named) in
    let stands = entry_holds pool n (Utf8 text) entry in
    let found = holds_found 1 pool (Utf8 text) stands.0 stands.1 in
    let slot = found_holds 1 pool (Utf8 text) found.0 found.1 in
    let index_is : found.0 ≡ suc slot.0 = omega (arith, slot.1) in
    let there : text_index pool text ≡ suc slot.0 = rw found.1 index_is in
    let texts : utf8_at pool (suc slot.0) ≡ Some text = rw slot.3 refl in
    rw (there, texts) ((bytes_eq-Decides text text).1 refl)

small_option : (size : ℕ) (found : Option ℕ) → ((index : ℕ) → found ≡ Some index → index ≤ size) → unwrap_or found 0 ≤ size
small_option size None small = omega arith
small_option size (Some index) small = small index refl

-- the index of a text is that of a place
pub index_small : (pool : Slots) (text : List ℕ) → length pool < 65535 → text_index pool text < 2 ^ 16
index_small pool text count =
    let small : text_index pool text ≤ length pool =
    small_option (length pool) (index_of pool (Utf8 text)) (λ index e. let s = found_holds 1 pool (Utf8 text) index e in omega (arith, s.1, s.2)) in
    omega (arith, small, count)

-- what is at the index of an entry
pub entry_there : (pool : Slots) (entry : Const) (index : ℕ) → index_of pool entry ≡ Some index → entry_at pool index ≡ Some entry
entry_there pool entry index e =
    let slot = found_holds 1 pool entry index e in
    let index_is : index ≡ suc slot.0 = omega (arith, slot.1) in
    let there : entry_at pool (suc slot.0) ≡ Some entry = rw slot.3 refl in
    rw index_is there
