-- Constants with the indexes of their places: what a look-up finds, and what stays numbered.
use Rattle.std.proofs.Common.{◌≡◌, ℕ, zero, suc, ◌+◌, ◌-◌, ◌≤◌, Bool, true, false, cond, List, [], ◌∷◌, ◌++◌, length, take, Option, Some, None, slice_get, refl, sym, ap, ◌∙◌, arith, inl, inr, length-append, append_assoc}
use Rattle.std.specs.Prelude.{if◌then◌else◌}
use Rattle.std.specs.Map.{keys_of, lookup}
use Rattle.std.proofs.lemmas.Bool.{cases_Bool, false≢true}
use Rattle.std.proofs.lemmas.List.{append-nil, take-map}
use Rattle.class_pool.specs.declared.pool.Const.{Const}
use Rattle.class_pool.specs.Pool.{Slots, AreSpaced, AreSpacedAfter, is_wide, width}
use Rattle.class_make.specs.Entries.{is_same, index_from, index_of, slots_of}
use Rattle.class_make.specs.Numbered.{slots_of_all, AreNumbered, IsNumbered, AreOf}
use Rattle.class_make.proofs.Equality.{const_eq, eq_is_same}
use Rattle.class_make.proofs.Slots.{same_again, same_says}

-- the places of the constants of some entries, and how many they are
abbrev pub slots_at : List (Const × ℕ) → Slots
slots_at entries = slots_of_all (keys_of entries)

abbrev pub size : List (Const × ℕ) → ℕ
size entries = length (slots_at entries)

pub slots_count : (constant : Const) → length (slots_of constant) ≡ width constant
slots_count constant =
    elim (cases_Bool (is_wide constant)) [
      | inl t ↦ rw t refl
      | inr f ↦ rw f refl
    ]

-- the second place of a constant, where it has one, and other places after it
spaced_after : (wide : Bool) (slots : Slots) → AreSpaced slots → AreSpacedAfter wide ((if wide then None ∷ [] else []) ++ slots)
spaced_after true slots spaced = spaced
spaced_after false slots spaced = spaced

-- the places of constants are spaced
pub spaced_all : (constants : List Const) → AreSpaced (slots_of_all constants)
spaced_all [] = tt
spaced_all (constant ∷ constants) = spaced_after (is_wide constant) (slots_of_all constants) (spaced_all constants)

size_more : (entry : Const × ℕ) (entries : List (Const × ℕ)) → size (entry ∷ entries) ≡ width entry.0 + size entries
size_more entry entries = length-append (slots_of entry.0) (slots_at entries) ∙ ap (λ (n : ℕ). n + size entries) (slots_count entry.0)

-- ---- what a look-up finds

turned : (a b : Const) → is_same a b ≡ true → is_same b a ≡ true
turned a b e = ap (λ (c : Const). is_same b c) (same_says a b e) ∙ same_again b

test_turned : (a b : Const) → const_eq a b ≡ is_same b a
test_turned a b =
    elim (cases_Bool (is_same a b)) [
      | inl t ↦ eq_is_same a b ∙ t ∙ sym (turned a b t)
      | inr f ↦
          elim (cases_Bool (is_same b a)) [
            | inl t ↦ absurd (false≢true (sym f ∙ turned b a t))
            | inr g ↦ eq_is_same a b ∙ f ∙ sym g
          ]
    ]

-- the search goes on after the places of another constant
passed : (first : ℕ) (other constant : Const) (slots : Slots) → is_same other constant ≡ false
    → index_from first (slots_of other ++ slots) constant ≡ index_from (first + width other) slots constant
unfolding index_from
passed first other constant slots differ =
    elim (cases_Bool (is_wide other)) [
      | inl t ↦ rw (differ, t) (ap (λ (n : ℕ). index_from n slots constant) (omega arith))
      | inr f ↦ rw (differ, f) (ap (λ (n : ℕ). index_from n slots constant) (omega arith))
    ]

met : (first : ℕ) (other constant : Const) (slots : Slots) → is_same other constant ≡ true → index_from first (slots_of other ++ slots) constant ≡ Some first
unfolding index_from
met first other constant slots same = rw same refl

abbrev some_index : ℕ → Option ℕ
some_index n = Some n

found_from : (first : ℕ) (entries : List (Const × ℕ)) (constant : Const) → AreNumbered first entries → lookup (const_eq constant) entries ≡ index_from first (slots_at entries) constant
unfolding index_from
found_from first [] constant numbered = refl
found_from first (entry ∷ entries) constant numbered =
    let rest : lookup (const_eq constant) entries ≡ index_from (first + width entry.0) (slots_at entries) constant = found_from (first + width entry.0) entries constant numbered.1 in
    let tested : const_eq constant entry.0 ≡ is_same entry.0 constant = test_turned constant entry.0 in
    elim (cases_Bool (is_same entry.0 constant)) [
      | inl t ↦
          ap (λ (b : Bool). cond b (some_index entry.1) (lookup (const_eq constant) entries)) (tested ∙ t)
          ∙ ap some_index numbered.0 ∙ sym (met first entry.0 constant (slots_at entries) t)
      | inr f ↦
          ap (λ (b : Bool). cond b (some_index entry.1) (lookup (const_eq constant) entries)) (tested ∙ f)
          ∙ rest ∙ sym (passed first entry.0 constant (slots_at entries) f)
    ]

-- the map's answer is the index among the places
pub found : (entries : List (Const × ℕ)) (constant : Const) → AreNumbered 1 entries → lookup (const_eq constant) entries ≡ index_of (slots_at entries) constant
found entries constant numbered = found_from 1 entries constant numbered

-- ---- one constant more

pub slots_more : (entries : List (Const × ℕ)) (constant : Const) (index : ℕ) → slots_at (entries ++ (constant, index) ∷ []) ≡ slots_at entries ++ slots_of constant
slots_more [] constant index = simp append-nil
slots_more (entry ∷ entries) constant index = ap (λ (p : Slots). slots_of entry.0 ++ p) (slots_more entries constant index) ∙ sym (append_assoc (slots_of entry.0) (slots_at entries) (slots_of constant))

numbered_after : (first index : ℕ) (entries : List (Const × ℕ)) (constant : Const) → AreNumbered first entries → index ≡ first + size entries → AreNumbered first (entries ++ (constant, index) ∷ [])
numbered_after first index [] constant numbered is = (omega (arith, is), tt)
numbered_after first index (entry ∷ entries) constant numbered is =
    (numbered.0, numbered_after (first + width entry.0) index entries constant numbered.1 (omega (arith, is, size_more entry entries)))

-- ---- fewer constants

numbered_prefix : (first count : ℕ) (entries : List (Const × ℕ)) → AreNumbered first entries → AreNumbered first (take count entries)
numbered_prefix first zero entries numbered = tt
numbered_prefix first (suc count) [] numbered = tt
numbered_prefix first (suc count) (entry ∷ entries) numbered = (numbered.0, numbered_prefix (first + width entry.0) count entries numbered.1)

abbrev some_entry : Const × ℕ → Option (Const × ℕ)
some_entry entry = Some entry

same_entry : (a b : Const × ℕ) → some_entry a ≡ some_entry b → a ≡ b
same_entry a b e = cc

no_entry : (entry : Const × ℕ) → None ≡ some_entry entry → ⊥
no_entry entry e = cc

number_from : (first count : ℕ) (entries : List (Const × ℕ)) (entry : Const × ℕ) → AreNumbered first entries → slice_get entries count ≡ Some entry → entry.1 ≡ first + size (take count entries)
number_from first count [] entry numbered e = absurd (no_entry entry e)
number_from first zero (other ∷ entries) entry numbered e = ap (λ (x : Const × ℕ). x.1) (sym (same_entry other entry e)) ∙ numbered.0 ∙ omega arith
number_from first (suc count) (other ∷ entries) entry numbered e =
    omega (arith, number_from (first + width other.0) count entries entry numbered.1 e, size_more other (take count entries))

size_prefix : (count : ℕ) (entries : List (Const × ℕ)) → size (take count entries) ≤ size entries
size_prefix zero entries = omega arith
size_prefix (suc count) [] = omega arith
size_prefix (suc count) (entry ∷ entries) = omega (arith, size_prefix count entries, size_more entry (take count entries), size_more entry entries)

abbrev slot_some : Const → Option Const
slot_some constant = Some constant

same_constant : (a b : Const) → slot_some a ≡ slot_some b → a ≡ b
same_constant a b e = cc

heads : (x y : Option Const) (p q : Slots) → x ∷ p ≡ y ∷ q → x ≡ y
heads x y p q e = cc

tails : (x y : Option Const) (p q : Slots) → x ∷ p ≡ y ∷ q → p ≡ q
tails x y p q e = cc

no_slots : (x : Option Const) (p : Slots) → [] ≡ x ∷ p → ⊥
no_slots x p e = cc

strip : (extra p q : Slots) → take (length (extra ++ p)) (extra ++ q) ≡ extra ++ p → take (length p) q ≡ p
strip [] p q e = e
strip (slot ∷ extra) p q e = strip extra p q (tails slot slot _ _ e)

cut_back : (before constants : List Const) → take (length (slots_of_all before)) (slots_of_all constants) ≡ slots_of_all before → take (length before) constants ≡ before
cut_back [] constants e = refl
cut_back (b ∷ before) [] e = absurd (no_slots (Some b) _ e)
cut_back (b ∷ before) (c ∷ constants) e =
    let same : c ≡ b = same_constant c b (heads (Some c) (Some b) _ _ e) in
    let there : take (length (slots_of b ++ slots_of_all before)) (slots_of b ++ slots_of_all constants) ≡ slots_of b ++ slots_of_all before =
    ap (λ (x : Const). take (length (slots_of b ++ slots_of_all before)) (slots_of x ++ slots_of_all constants)) (sym same) ∙ e in
    let rest : take (length before) constants ≡ before = cut_back before constants (strip (slots_of b) (slots_of_all before) (slots_of_all constants) there) in
    cc

-- the first constants have the places that were there when there were so many
pub kept : (entries : List (Const × ℕ)) (count : ℕ) (before : Slots) → AreOf count before → take (length before) (slots_at entries) ≡ before → slots_at (take count entries) ≡ before
kept entries count before of begins =
    let cut : take (length of.0) (keys_of entries) ≡ of.0 = cut_back of.0 (keys_of entries) (ap (λ (p : Slots). take (length p) (slots_at entries)) (sym of.2) ∙ begins ∙ of.2) in
    let first : keys_of (take count entries) ≡ of.0 = sym (take-map (λ (e : Const × ℕ). e.0) count entries) ∙ ap (λ (n : ℕ). take n (keys_of entries)) (sym of.1) ∙ cut in
    ap slots_of_all first ∙ sym of.2

-- ---- the whole invariant

pub numbered_none : IsNumbered [] 0
numbered_none = record { numbered = tt; counted = refl; within = omega arith }

pub numbered_more : (entries : List (Const × ℕ)) (taken : ℕ) (constant : Const) → IsNumbered entries taken → taken + width constant ≤ 65534
    → IsNumbered (entries ++ (constant, taken + 1) ∷ []) (taken + width constant)
numbered_more entries taken constant is fits =
    record {
      numbered = numbered_after 1 (taken + 1) entries constant is.numbered (omega (arith, is.counted));
      counted = omega (arith, is.counted, slots_count constant, length-append (slots_at entries) (slots_of constant)) ∙ ap (λ (p : Slots). length p) (sym (slots_more entries constant (taken + 1)));
      within = fits;
    }

pub numbered_fewer : (entries : List (Const × ℕ)) (taken count index : ℕ) (constant : Const) → IsNumbered entries taken → slice_get entries count ≡ Some (constant, index)
    → (1 ≤ index) × IsNumbered (take count entries) (index - 1)
numbered_fewer entries taken count index constant is there =
    let number : index ≡ 1 + size (take count entries) = number_from 1 count entries (constant, index) is.numbered there in (
      omega (arith, number),
      record {
        numbered = numbered_prefix 1 count entries is.numbered;
        counted = omega (arith, number);
        within = omega (arith, number, is.counted, is.within, size_prefix count entries);
      },
    )

pub numbered_within : (entries : List (Const × ℕ)) (taken : ℕ) → IsNumbered entries taken → size entries ≤ 65534
numbered_within entries taken is = omega (arith, is.counted, is.within)

-- where no entry is at the count, none goes
pub none_after : (entries : List (Const × ℕ)) (count : ℕ) → slice_get entries count ≡ None → take count entries ≡ entries
none_after [] zero e = refl
none_after [] (suc count) e = refl
none_after (entry ∷ entries) zero e = absurd (no_entry entry (sym e))
none_after (entry ∷ entries) (suc count) e = ap (λ (es : List (Const × ℕ)). entry ∷ es) (none_after entries count e)
