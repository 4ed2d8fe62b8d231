-- Where an entry stands in a pool.
use Rattle.std.proofs.Common.{◌≡◌, ℕ, suc, ◌+◌, ◌<◌, ◌≤◌, Bool, true, false, cond, eqb, eq-eqb, ◌&&◌, List, [], ◌∷◌, ◌++◌, length, get_or, drop, drop-cons, add-one, Option, Some, None, refl, sym, ap, ◌∙◌, arith, inl, inr}
use Rattle.std.specs.Prelude.{is_some, IsSome, Result, Ok, Err, OnOk, IfOk}
use Rattle.std.proofs.lemmas.Bool.{cases_Bool, eqb-true, false≢true}
use Rattle.std.proofs.lemmas.Bool.Decides.{Decides-int_eq}
use Rattle.std.proofs.lemmas.Slice.Eq.{bytes_eq-Decides}
use Rattle.std.proofs.lemmas.List.{drop_all}
use Rattle.class_pool.specs.declared.pool.Const.{Const}
use Rattle.class_pool.specs.declared.pool.Const.TheVariants.{Utf8, Integer, Float, Long, Double, Class, String, Field, Method, InterfaceMethod, NameAndType, MethodHandle, MethodType, InvokeDynamic}
use Rattle.class_pool.specs.Pool.{Slots}
use Rattle.class_make.specs.declared.refusal.DraftRefusal.{DraftRefusal}
use Rattle.class_make.specs.Entries.{is_same, is_entry, index_from, index_of, index_in, text_index, class_index, slots_of, with_entry, with_text, with_class}

-- ---- the loop over the places

-- the place at i, and those after it
prefix : (slots : Slots) (entry : Const) (index i : ℕ) (slot : Option Const) → i < length slots → slot ≡ get_or slots i slot
    → index_from index (drop i slots) entry ≡ cond (is_entry entry slot) (Some index) (index_from (index + 1) (drop (i + 1) slots) entry)
unfolding index_from
prefix slots entry index i slot lt is = rw (add-one, add-one, drop-cons slots i slot, ← is) refl

pub goes_on : (slots : Slots) (entry : Const) (index i : ℕ) (slot : Option Const) (total : Option ℕ) → i < length slots → slot ≡ get_or slots i slot → is_entry entry slot ≡ false
    → index_from index (drop i slots) entry ≡ total → index_from (index + 1) (drop (i + 1) slots) entry ≡ total
goes_on slots entry index i slot total lt is other so_far =
    ap (λ (b : Bool). cond b (Some index) (index_from (index + 1) (drop (i + 1) slots) entry)) (sym other) ∙ sym (prefix slots entry index i slot lt is) ∙ so_far

pub ends : (slots : Slots) (entry : Const) (index i : ℕ) (slot : Option Const) (total : Option ℕ) → i < length slots → slot ≡ get_or slots i slot → is_entry entry slot ≡ true
    → index_from index (drop i slots) entry ≡ total → total ≡ Some index
ends slots entry index i slot total lt is same so_far =
    sym so_far ∙ prefix slots entry index i slot lt is ∙ ap (λ (b : Bool). cond b (Some index) (index_from (index + 1) (drop (i + 1) slots) entry)) same

pub is_done : (slots : Slots) (entry : Const) (index i : ℕ) (total : Option ℕ) → length slots ≤ i → index_from index (drop i slots) entry ≡ total → total ≡ None
unfolding index_from
is_done slots entry index i total le so_far = sym so_far ∙ rw (drop_all i slots) refl

-- ---- an entry is the same as itself

eqb_again : (n : ℕ) → eqb n n ≡ true
eqb_again n = eq-eqb n n refl

both : (m n : ℕ) → (eqb m m && eqb n n) ≡ true
both m n = rw (eqb_again m, eqb_again n) refl

pub same_again : (entry : Const) → is_same entry entry ≡ true
unfolding is_same
same_again (Utf8 text) = (bytes_eq-Decides text text).1 refl
same_again (Integer value) = (Decides-int_eq value value).1 refl
same_again (Float bits) = eqb_again bits
same_again (Long bits) = eqb_again bits
same_again (Double bits) = eqb_again bits
same_again (Class name) = eqb_again name
same_again (String text) = eqb_again text
same_again (Field class name_and_type) = both class name_and_type
same_again (Method class name_and_type) = both class name_and_type
same_again (InterfaceMethod class name_and_type) = both class name_and_type
same_again (NameAndType name descriptor) = both name descriptor
same_again (MethodHandle kind index) = both kind index
same_again (MethodType descriptor) = eqb_again descriptor
same_again (InvokeDynamic bootstrap name_and_type) = both bootstrap name_and_type

-- ---- and as no other

abbrev Same : Const → Const → Type 0
Same a b = is_same a b ≡ true → a ≡ b

numbers : (a b : ℕ) → eqb a b ≡ true → a ≡ b
numbers a b e = eqb-true a b e

pairs : (a b c d : ℕ) → (eqb a b && eqb c d) ≡ true → (a ≡ b) × (c ≡ d)
pairs a b c d e =
    elim (cases_Bool (eqb a b)) [
      | inl t ↦ (numbers a b t, numbers c d (rw t at e))
      | inr f ↦ absurd (false≢true (rw f at e))
    ]

pub same_says : (a b : Const) → is_same a b ≡ true → a ≡ b
unfolding is_same
same_says (Utf8 a) (Utf8 b) e = ap Utf8 ((bytes_eq-Decides a b).0 e)
same_says (Integer a) (Integer b) e = ap Integer ((Decides-int_eq a b).0 e)
same_says (Float a) (Float b) e = ap Float (numbers a b e)
same_says (Long a) (Long b) e = ap Long (numbers a b e)
same_says (Double a) (Double b) e = ap Double (numbers a b e)
same_says (Class a) (Class b) e = ap Class (numbers a b e)
same_says (String a) (String b) e = ap String (numbers a b e)
same_says (Field a c) (Field b d) e = let p = pairs a b c d e in cc (p.0, p.1)
same_says (Method a c) (Method b d) e = let p = pairs a b c d e in cc (p.0, p.1)
same_says (InterfaceMethod a c) (InterfaceMethod b d) e = let p = pairs a b c d e in cc (p.0, p.1)
same_says (NameAndType a c) (NameAndType b d) e = let p = pairs a b c d e in cc (p.0, p.1)
same_says (MethodHandle a c) (MethodHandle b d) e = let p = pairs a b c d e in cc (p.0, p.1)
same_says (MethodType a) (MethodType b) e = ap MethodType (numbers a b e)
same_says (InvokeDynamic a c) (InvokeDynamic b d) e = let p = pairs a b c d e in cc (p.0, p.1)
same_says _ _ e = absurd (false≢true e)

-- ---- what stands before more places

abbrev IsNone : Option ℕ → Type 0
IsNone found = found ≡ None

none_is_not : (index : ℕ) → IsNone (Some index) → ⊥
none_is_not index e = cc

pub found_stays : (first : ℕ) (pool more : Slots) (entry : Const) (index : ℕ) → index_from first pool entry ≡ Some index → index_from first (pool ++ more) entry ≡ Some index
unfolding index_from
found_stays first [] more entry index e = absurd (none_is_not index (sym e))
found_stays first (slot ∷ pool) more entry index e =
    elim (cases_Bool (is_entry entry slot)) [
      | inl t ↦ rw t (rw t at e)
      | inr f ↦ rw f (found_stays (suc first) pool more entry index (rw f at e))
    ]

pub found_after : (first : ℕ) (pool more : Slots) (entry : Const) → index_from first pool entry ≡ None → index_from first (pool ++ Some entry ∷ more) entry ≡ Some (length pool + first)
unfolding index_from
found_after first [] more entry e = rw (same_again entry) (ap (λ (n : ℕ). Some n) (omega arith))
found_after first (slot ∷ pool) more entry e =
    elim (cases_Bool (is_entry entry slot)) [
      | inl t ↦ absurd (none_is_not first (rw t at e))
      | inr f ↦ rw f (found_after (suc first) pool more entry (rw f at e) ∙ ap (λ (n : ℕ). Some n) (omega arith))
    ]

-- ---- a pool with an entry more

pub index_stays : (pool : Slots) (entry other : Const) (index : ℕ) → index_of pool other ≡ Some index → index_of (with_entry pool entry) other ≡ Some index
index_stays pool entry other index e =
    elim (cases_Bool (is_some (index_of pool entry))) [
      | inl t ↦ rw t e
      | inr f ↦ rw f (found_stays 1 pool (slots_of entry) other index e)
    ]

-- the entry that was put after the others
pub index_after : (pool : Slots) (entry : Const) → index_of pool entry ≡ None → index_of (pool ++ slots_of entry) entry ≡ Some (length pool + 1)
index_after pool entry e = found_after 1 pool _ entry e

pub index_is : (pool : Slots) (entry : Const) (index : ℕ) → index_of pool entry ≡ Some index → index_in pool entry ≡ index
index_is pool entry index e = rw e refl

pub index_pushed : (pool new : Slots) (entry : Const) (result : Result ℕ DraftRefusal) → index_of pool entry ≡ None → OnOk result (new ≡ pool ++ slots_of entry)
    → IfOk result (λ i. i ≡ length pool + 1) → IfOk result (λ i. index_of new entry ≡ Some i)
index_pushed pool new entry (Ok i) none placed is = rw (placed, is) (index_after pool entry none)
index_pushed pool new entry (Err why) none placed is = tt

pub class_placed : (named new : Slots) (name : List ℕ) (i : ℕ) (result : Result ℕ DraftRefusal) → index_of named (Utf8 name) ≡ Some i → OnOk result (new ≡ with_entry named (Class i))
    → IfOk result (λ k. index_of new (Class i) ≡ Some k) → IfOk result (λ k. index_of new (Class (text_index new name)) ≡ Some k)
class_placed named new name i (Ok k) e placed h =
    let stays : index_of new (Utf8 name) ≡ Some i = rw placed (index_stays named (Class i) (Utf8 name) i e) in
    let same : text_index new name ≡ i = index_is new (Utf8 name) i stays in
    rw same h
class_placed named new name i (Err why) e placed h = tt

pub class_named : (named new : Slots) (name : List ℕ) (i : ℕ) (result : Result ℕ DraftRefusal) → index_of named (Utf8 name) ≡ Some i → OnOk result (new ≡ with_entry named (Class i))
    → OnOk result (IsSome (index_of new (Utf8 name)))
class_named named new name i (Ok k) e placed =
    let stays : index_of new (Utf8 name) ≡ Some i = rw placed (index_stays named (Class i) (Utf8 name) i e) in
    rw stays refl
class_named named new name i (Err why) e placed = tt

some_index : (found : Option ℕ) → IsSome found → (i : ℕ) × (found ≡ Some i)
some_index (Some i) h = (i, refl)
some_index None h = absurd (false≢true h)

-- the class of a name keeps its index where another class is added
pub class_stays : (pool : Slots) (name other : List ℕ) (index : ℕ) → IsSome (index_of pool (Utf8 name)) → index_of pool (Class (text_index pool name)) ≡ Some index
    → class_index (with_class pool other) name ≡ index
class_stays pool name other index named e =
    let text = some_index (index_of pool (Utf8 name)) named in
    let with_name : Slots = with_text pool other in
    let other_class : Const = Class (text_index with_name other) in
    let text_stays : index_of (with_class pool other) (Utf8 name) ≡ Some text.0 =
    index_stays with_name other_class (Utf8 name) text.0 (index_stays pool (Utf8 other) (Utf8 name) text.0 text.1) in
    let was : text_index pool name ≡ text.0 = index_is pool (Utf8 name) text.0 text.1 in
    let is : text_index (with_class pool other) name ≡ text.0 = index_is (with_class pool other) (Utf8 name) text.0 text_stays in
    let class_is : index_of pool (Class text.0) ≡ Some index = rw (← was) e in
    let stays : index_of (with_class pool other) (Class text.0) ≡ Some index =
    index_stays with_name other_class (Class text.0) index (index_stays pool (Utf8 other) (Class text.0) index class_is) in
    ap (λ (i : ℕ). index_in (with_class pool other) (Class i)) is ∙ index_is (with_class pool other) (Class text.0) index stays
