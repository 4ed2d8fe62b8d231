-- The first entry of a pool that names what is not there.
use Rattle.std.proofs.Common.{◌≡◌, ℕ, suc, ◌+◌, ◌<◌, ◌≤◌, Bool, true, false, cond, [], ◌∷◌, ◌++◌, length, get_or, drop, drop-cons, add-one, Option, Some, None, refl, sym, ap, ◌∙◌, arith, inl, inr}
use Rattle.std.specs.Prelude.{IsTrue}
use Rattle.std.proofs.lemmas.Bool.{cases_Bool}
use Rattle.std.proofs.lemmas.List.{drop_all}
use Rattle.class_pool.specs.declared.pool.Const.{Const}
use Rattle.class_pool.specs.Pool.{Slots, is_linked, EachEntry}
use Rattle.class_pool.specs.PoolReading.{is_slot_linked, first_unlinked}

-- the place at i, and those after it
prefix : (pool slots : Slots) (index i : ℕ) (slot : Option Const) → i < length slots → slot ≡ get_or slots i slot
    → first_unlinked pool index (drop i slots) ≡ cond (is_slot_linked pool slot) (first_unlinked pool (index + 1) (drop (i + 1) slots)) (Some index)
unfolding first_unlinked
prefix pool slots index i slot lt is = rw (add-one, add-one, drop-cons slots i slot, ← is) refl

pub goes_on : (pool slots : Slots) (index i : ℕ) (slot : Option Const) (total : Option ℕ) → i < length slots → slot ≡ get_or slots i slot → is_slot_linked pool slot ≡ true
    → first_unlinked pool index (drop i slots) ≡ total → first_unlinked pool (index + 1) (drop (i + 1) slots) ≡ total
goes_on pool slots index i slot total lt is linked so_far =
    ap (λ (b : Bool). cond b (first_unlinked pool (index + 1) (drop (i + 1) slots)) (Some index)) (sym linked) ∙ sym (prefix pool slots index i slot lt is) ∙ so_far

pub ends : (pool slots : Slots) (index i : ℕ) (slot : Option Const) (total : Option ℕ) → i < length slots → slot ≡ get_or slots i slot → is_slot_linked pool slot ≡ false
    → first_unlinked pool index (drop i slots) ≡ total → total ≡ Some index
ends pool slots index i slot total lt is linked so_far =
    sym so_far ∙ prefix pool slots index i slot lt is ∙ ap (λ (b : Bool). cond b (first_unlinked pool (index + 1) (drop (i + 1) slots)) (Some index)) linked

pub is_done : (pool slots : Slots) (index i : ℕ) (total : Option ℕ) → length slots ≤ i → first_unlinked pool index (drop i slots) ≡ total → total ≡ None
unfolding first_unlinked
is_done pool slots index i total le so_far = sym so_far ∙ rw (drop_all i slots) refl

-- ---- what the test says

-- the places are linked where none is found
abbrev AreLinked : Slots → Slots → Type 0
AreLinked pool slots = EachEntry (λ entry. IsTrue (is_linked pool entry)) slots

abbrev is_none : Option ℕ → Type 0
is_none found = found ≡ None

some_is_not : (index : ℕ) → is_none (Some index) → ⊥
some_is_not index e = cc

pub none_says : (pool slots : Slots) (index : ℕ) → first_unlinked pool index slots ≡ None → AreLinked pool slots
unfolding first_unlinked
none_says pool [] index e = tt
none_says pool (None ∷ slots) index e = none_says pool slots (suc index) e
none_says pool (Some entry ∷ slots) index e =
    elim (cases_Bool (is_linked pool entry)) [
      | inl t ↦ (t, none_says pool slots (suc index) (rw t at e))
      | inr f ↦ absurd (some_is_not index (rw f at e))
    ]

pub none_again : (pool slots : Slots) (index : ℕ) → AreLinked pool slots → first_unlinked pool index slots ≡ None
unfolding first_unlinked
none_again pool [] index linked = refl
none_again pool (None ∷ slots) index linked = none_again pool slots (suc index) linked
none_again pool (Some entry ∷ slots) index linked = rw linked.0 (none_again pool slots (suc index) linked.1)

-- the entry that was found, and those before and after it
pub record Found (pool slots : Slots) (first index : ℕ) : Type 0 where
  pub before : Slots
  pub entry : Const
  pub after : Slots
  pub parts : slots ≡ before ++ Some entry ∷ after
  pub linked : AreLinked pool before
  pub unlinked : is_linked pool entry ≡ false
  pub index_is : index ≡ length before + first

abbrev some_of : ℕ → Option ℕ
some_of n = Some n

no_index : (index : ℕ) → None ≡ some_of index → ⊥
no_index index e = cc

same_index : (m n : ℕ) → some_of m ≡ some_of n → n ≡ m
same_index m n e = cc

further : (pool slots : Slots) (slot : Option Const) (first index : ℕ) → AreLinked pool (slot ∷ []) → Found pool slots (suc first) index → Found pool (slot ∷ slots) first index
further pool slots None first index linked f = record {
  before = None ∷ f.before;
  entry = f.entry;
  after = f.after;
  parts = ap (λ (ps : Slots). None ∷ ps) f.parts;
  linked = f.linked;
  unlinked = f.unlinked;
  index_is = omega (arith, f.index_is);
}
further pool slots (Some other) first index linked f = record {
  before = Some other ∷ f.before;
  entry = f.entry;
  after = f.after;
  parts = ap (λ (ps : Slots). Some other ∷ ps) f.parts;
  linked = (linked.0, f.linked);
  unlinked = f.unlinked;
  index_is = omega (arith, f.index_is);
}

pub some_says : (pool slots : Slots) (first index : ℕ) → first_unlinked pool first slots ≡ Some index → Found pool slots first index
unfolding first_unlinked
some_says pool [] first index e = absurd (no_index index e)
some_says pool (None ∷ slots) first index e = further pool slots None first index tt (some_says pool slots (suc first) index e)
some_says pool (Some entry ∷ slots) first index e =
    elim (cases_Bool (is_linked pool entry)) [
      | inl t ↦ further pool slots (Some entry) first index (t, tt) (some_says pool slots (suc first) index (rw t at e))
      | inr f ↦ record { before = []; entry = entry; after = slots; parts = refl; linked = tt; unlinked = f; index_is = omega (arith, same_index first index (rw f at e)) }
    ]

pub some_again : (pool before after : Slots) (entry : Const) (first : ℕ) → AreLinked pool before → is_linked pool entry ≡ false → first_unlinked pool first (before ++ Some entry ∷ after) ≡ Some (length before + first)
unfolding first_unlinked
some_again pool [] after entry first linked unlinked = rw unlinked (ap some_of (omega arith))
some_again pool (None ∷ before) after entry first linked unlinked =
    some_again pool before after entry (suc first) linked unlinked ∙ ap some_of (omega arith)
some_again pool (Some other ∷ before) after entry first linked unlinked =
    rw linked.0 (some_again pool before after entry (suc first) linked.1 unlinked ∙ ap some_of (omega arith))
