-- A pool is read where it is encoded, and bytes are refused for what is wrong first.
use Rattle.std.proofs.Common.{◌≡◌, ◌⊎◌, ℕ, ◌+◌, ◌-◌, ◌^◌, ◌<◌, ◌≤◌, true, false, cond, eqb, ltb, List, ◌∷◌, ◌++◌, length, drop, Option, Some, None, Result, Ok, Err, refl, sym, ap, subst, ◌∙◌, append_assoc, arith, inl, inr, length-append, length-drop}
use Rattle.std.specs.Prelude.{IsTrue, IfOk, IfErr}
use Rattle.std.specs.List.{flat_map}
use Rattle.std.proofs.lemmas.Bool.{cases_Bool, eqb-true, eqb-false, ne_eqb, ltb-true, lt-ltb}
use Rattle.std.proofs.lemmas.List.{drop_at, drop-drop}
use Rattle.class_pool.specs.declared.refusal.PoolRefusal.{PoolRefusal}
use Rattle.class_pool.specs.declared.refusal.PoolRefusal.TheVariants.{Truncated, BadTag, BadIndex, BadUtf8, Memory}
use Rattle.class_pool.specs.Pool.{Slots, is_linked, FitsEntry, slot_bytes, AreSpaced, EachEntry, pool_bytes, IsPool, IsPoolAt}
use Rattle.class_pool.specs.PoolRefused.{IsCountRefused, IsFirstRefused, IsRefusedAtOnce, IsEntryRefused, IsRefusedEntry, IsFirstUnlinked, HasNoCount, IsRefused, Gives}
use Rattle.class_pool.specs.PoolReading.{u2_at, count_at, start_at, slot_at, slots_at, first_unlinked, checked, pool_at, pool_from}
use Rattle.byte_read.proofs.Steps.{roomy, u2, IsBytes, IsBytes-drop, bind_then, bind_fails, bind_fails_then, chosen, ok_is, same_why, no_failure, then_ok, then_err, Takes, joined, u2_takes, number_fails, number_short, u2_again}
use Rattle.class_pool.proofs.constant_pool.Steps.{err_says}
use Rattle.byte_read.specs.Reading.{◌>>=◌}
use Rattle.class_pool.proofs.constant_pool.Entries.{entry_refused}
use Rattle.class_pool.proofs.constant_pool.Linked.{Found, none_says, none_again, some_says, some_again}
use Rattle.class_pool.proofs.constant_pool.SlotLists.{HasSecond, slots_again, slots_refused, slots_taken, FailsSlots, slots_fail}

-- ---- the places after a count

abbrev Read : Type 0
Read = Result (Slots × List ℕ) PoolRefusal

abbrev counted : ℕ × List ℕ → Read
counted count = cond (eqb count.0 0) (Err (BadIndex 0)) (slots_at false 1 (count.0 - 1) count.1)

abbrev tested : Slots × List ℕ → Read
tested slots = checked slots (first_unlinked slots.0 1 slots.0)

none_counted : (rest : List ℕ) → counted (0, rest) ≡ Err (BadIndex 0)
none_counted rest = refl

some_counted : (count : ℕ) (rest : List ℕ) → 1 ≤ count → counted (count, rest) ≡ slots_at false 1 (count - 1) rest
some_counted count rest some = rw (ne_eqb count 0 (λ e. omega (arith, some, e))) refl

no_second : (room : ℕ) → HasSecond false room
no_second room e = absurd cc

-- a count is 0, or the places after it are read
count_cases : (count : ℕ × List ℕ) (r : Read) → counted count ≡ r → ((count.0 ≡ 0) × (r ≡ Err (BadIndex 0))) ⊎ ((1 ≤ count.0) × (slots_at false 1 (count.0 - 1) count.1 ≡ r))
count_cases count r e =
    elim (cases_Bool (eqb count.0 0)) [
      | inl t ↦ inl (eqb-true _ _ t, sym (rw t at e))
      | inr f ↦
          let some : count.0 ≡ 0 → ⊥ = eqb-false count.0 0 f in
          inr (omega (arith, some), rw f at e)
    ]

-- the places of a pool, each fine by itself
pub record AreSlots (slots : Slots) : Type 0 where
  pub count : length slots < 65535
  pub fits : EachEntry FitsEntry slots
  pub spaced : AreSpaced slots

prefix_taken : (bytes : List ℕ) (count : ℕ × List ℕ) (x : Slots × List ℕ) → Takes bytes (u2 count.0) count.1 → count.0 < 2 ^ 16 → counted count ≡ Ok x → Takes bytes (pool_bytes x.0) x.1 × AreSlots x.0
prefix_taken bytes count x prefix lt e =
    elim (count_cases count (Ok x) e) [
      | inl none ↦ absurd (no_failure x (BadIndex 0) none.1)
      | inr some ↦
          let t = slots_taken false 1 (count.0 - 1) count.1 x (no_second (count.0 - 1)) prefix.rest_fits some.1 in
          let count_is : count.0 ≡ length x.0 + 1 = omega (arith, t.count_is, some.0) in
          let encoded : Takes bytes (u2 (length x.0 + 1)) count.1 = subst (λ (n : ℕ). Takes bytes (u2 n) count.1) count_is prefix in
          (joined encoded t.takes, record { count = omega (arith, count_is, lt); fits = t.fits; spaced = t.spaced })
    ]

-- what is encoded is read, up to the test of what the entries name
prefix_again : (slots : Slots) (rest : List ℕ) → AreSlots slots → pool_at (pool_bytes slots ++ rest) ≡ tested (slots, rest)
unfolding pool_at
prefix_again slots rest are =
    let whole : pool_bytes slots ++ rest ≡ u2 (length slots + 1) ++ (flat_map slot_bytes slots ++ rest) = append_assoc (u2 (length slots + 1)) (flat_map slot_bytes slots) rest in
    let small : length slots + 1 < 2 ^ 16 = omega (arith, are.count) in
    let room : length slots + 1 - 1 ≡ length slots = omega arith in
    let read : counted (length slots + 1, flat_map slot_bytes slots ++ rest) ≡ Ok (slots, rest) = some_counted (length slots + 1) (flat_map slot_bytes slots ++ rest) (omega arith) ∙ rw room (slots_again false 1 slots rest are.fits are.spaced) in
    ap pool_at whole ∙ then_ok _ _ (u2_again Truncated (length slots + 1) (flat_map slot_bytes slots ++ rest) small) (then_ok _ _ read refl)

-- ---- pools

pub pool_again : (pool : Slots) (rest : List ℕ) → IsPool pool → pool_at (pool_bytes pool ++ rest) ≡ Ok (pool, rest)
pool_again pool rest is =
    prefix_again pool rest (record { count = is.count; fits = is.fits; spaced = is.spaced }) ∙ ap (checked (pool, rest)) (none_again pool pool 1 is.linked)

abbrev read_as : Slots × List ℕ → Result (Slots × List ℕ) PoolRefusal
read_as x = Ok x

-- what is read once is read as one pool
pub same_parts : (x y : Slots × List ℕ) → read_as x ≡ read_as y → (x.0 ≡ y.0) × (x.1 ≡ y.1)
same_parts x y e = (cc, cc)

checked_ok : (slots : Slots × List ℕ) (found : Option ℕ) (x : Slots × List ℕ) → checked slots found ≡ Ok x → (found ≡ None) × (slots ≡ x)
checked_ok slots None x e = (refl, ok_is slots x e)
checked_ok slots (Some index) x e = absurd (no_failure x (BadIndex index) (sym e))

checked_err : (slots : Slots × List ℕ) (found : Option ℕ) (why : PoolRefusal) → checked slots found ≡ Err why → (index : ℕ) × (found ≡ Some index) × (why ≡ BadIndex index)
checked_err slots None why e = absurd (no_failure slots why e)
checked_err slots (Some index) why e = (index, refl, sym (same_why {A = Slots × List ℕ} (BadIndex index) why e))

pub pool_taken : (bytes : List ℕ) (x : Slots × List ℕ) → IsBytes bytes → pool_at bytes ≡ Ok x → Takes bytes (pool_bytes x.0) x.1 × IsPool x.0
unfolding pool_at
pool_taken bytes x fits e =
    bind_then (u2_at bytes) _ x e (λ count at_count e_slots.
    bind_then (counted count) _ x e_slots (λ slots at_slots e_x.
    let n = u2_takes Truncated bytes count fits at_count in
    let t = prefix_taken bytes count slots n.0 n.1 at_slots in
    let c = checked_ok slots (first_unlinked slots.0 1 slots.0) x e_x in
    let is : IsPool slots.0 = record { count = t.1.count; fits = t.1.fits; spaced = t.1.spaced; linked = none_says slots.0 slots.0 1 c.0 } in
    subst (λ (y : Slots × List ℕ). Takes bytes (pool_bytes y.0) y.1 × IsPool y.0) c.1 (t.0, is)))

-- ---- refusals

entry_refused_so : (bytes : List ℕ) (why : PoolRefusal) → IsRefusedEntry bytes why → pool_at bytes ≡ Err why
unfolding pool_at
entry_refused_so bytes why r =
    let rest : List ℕ = flat_map slot_bytes r.slots ++ r.rest in
    let slots : slots_at false 1 (r.count - 1) rest ≡ Err why =
    slots_refused false 1 (r.count - 1) (length r.slots + 1) (r.count - (length r.slots + 1)) r.slots r.rest why r.fits r.spaced (omega (arith, r.before_count)) (omega arith, omega (arith, r.before_count)) r.refused in
    ap pool_at r.encoded ∙ then_ok _ _ (u2_again Truncated r.count rest r.count_fits) (then_err _ (some_counted r.count rest (omega (arith, r.before_count)) ∙ slots))

unlinked_so : (bytes : List ℕ) (index : ℕ) → IsFirstUnlinked bytes index → pool_at bytes ≡ Err (BadIndex index)
unlinked_so bytes index r =
    let pool : Slots = r.before ++ Some r.entry ∷ r.after in
    let found : first_unlinked pool 1 pool ≡ Some index = some_again pool r.before r.after r.entry 1 r.linked r.unlinked ∙ ap (λ (n : ℕ). Some n) (sym r.index_is) in
    ap pool_at r.encoded ∙ prefix_again pool r.rest (record { count = r.count; fits = r.fits; spaced = r.spaced }) ∙ ap (checked (pool, r.rest)) found

no_count_so : (bytes : List ℕ) (index : ℕ) → index ≡ 0 → HasNoCount bytes → pool_at bytes ≡ Err (BadIndex index)
unfolding pool_at
no_count_so bytes index is none =
    ap pool_at none.1 ∙ then_ok _ _ (u2_again Truncated 0 none.0 (omega arith)) (rw is refl)

short_so : (bytes : List ℕ) → length bytes < 2 → pool_at bytes ≡ Err Truncated
unfolding pool_at
short_so bytes short = then_err _ (number_short Truncated 2 bytes short)

pub pool_refused : (bytes : List ℕ) (why : PoolRefusal) → IsRefused bytes why → pool_at bytes ≡ Err why
pool_refused bytes Truncated (inl short) = short_so bytes short
pool_refused bytes Truncated (inr r) = entry_refused_so bytes Truncated r
pool_refused bytes (BadTag index) r = entry_refused_so bytes (BadTag index) r
pool_refused bytes (BadUtf8 index) r = entry_refused_so bytes (BadUtf8 index) r
pool_refused bytes (BadIndex index) (inl none) = no_count_so bytes index none.0 none.1
pool_refused bytes (BadIndex index) (inr r) = unlinked_so bytes index r
pool_refused bytes Memory r = absurd r

-- ---- what was refused is refused so

-- an entry is refused for one of three causes
from_entry : (bytes : List ℕ) (why : PoolRefusal) → IsRefusedEntry bytes why → IsRefused bytes why
from_entry bytes Truncated r = inr r
from_entry bytes (BadTag index) r = r
from_entry bytes (BadUtf8 index) r = r
from_entry bytes (BadIndex index) r = absurd r.refused
from_entry bytes Memory r = absurd r.refused

entry_failed : (bytes : List ℕ) (count : ℕ × List ℕ) (why : PoolRefusal) → Takes bytes (u2 count.0) count.1 → count.0 < 2 ^ 16 → 1 ≤ count.0 → FailsSlots false 1 (count.0 - 1) count.1 why → IsRefusedEntry bytes why
entry_failed bytes count why prefix lt some f =
    let i_is : f.i ≡ length f.slots + 1 = omega (arith, f.at.0) in
    let r_is : f.r ≡ count.0 - (length f.slots + 1) = omega (arith, f.at.1) in
    record {
      count = count.0;
      slots = f.slots;
      rest = f.rest;
      count_fits = lt;
      encoded = prefix.parts ∙ ap (λ (t : List ℕ). u2 count.0 ++ t) f.encoded;
      fits = f.fits;
      spaced = f.spaced;
      before_count = omega (arith, f.before);
      refused = subst (λ (n : ℕ). IsEntryRefused (length f.slots + 1) n f.rest why) r_is (subst (λ (n : ℕ). IsEntryRefused n f.r f.rest why) i_is f.refused);
    }

count_failed : (bytes : List ℕ) (count : ℕ × List ℕ) (why : PoolRefusal) → Takes bytes (u2 count.0) count.1 → count.0 < 2 ^ 16 → counted count ≡ Err why → IsRefused bytes why
count_failed bytes count why prefix lt e =
    elim (count_cases count (Err why) e) [
      | inl none ↦
          let encoded : bytes ≡ u2 0 ++ count.1 = prefix.parts ∙ ap (λ (n : ℕ). u2 n ++ count.1) none.0 in
          subst (IsRefused bytes) (sym (same_why {A = Slots × List ℕ} why (BadIndex 0) none.1)) (inl (refl, (count.1, encoded)))
      | inr some ↦ from_entry bytes why (entry_failed bytes count why prefix lt some.0 (slots_fail false 1 (count.0 - 1) count.1 why prefix.rest_fits some.1))
    ]

unlinked_made : (bytes : List ℕ) (slots : Slots × List ℕ) (index : ℕ) → Takes bytes (pool_bytes slots.0) slots.1 → AreSlots slots.0 → Found slots.0 slots.0 1 index → IsFirstUnlinked bytes index
unlinked_made bytes slots index prefix are f =
    let parts = f.parts in
    let are_parts : AreSlots (f.before ++ Some f.entry ∷ f.after) = subst AreSlots parts are in
    record {
      before = f.before;
      entry = f.entry;
      after = f.after;
      rest = slots.1;
      count = are_parts.count;
      encoded = prefix.parts ∙ ap (λ (ps : Slots). pool_bytes ps ++ slots.1) parts;
      fits = are_parts.fits;
      spaced = are_parts.spaced;
      linked = subst (λ (ps : Slots). EachEntry (λ other. IsTrue (is_linked ps other)) f.before) parts f.linked;
      unlinked = ap (λ (ps : Slots). is_linked ps f.entry) (sym parts) ∙ f.unlinked;
      index_is = f.index_is;
    }

link_failed : (bytes : List ℕ) (slots : Slots × List ℕ) (why : PoolRefusal) → Takes bytes (pool_bytes slots.0) slots.1 → AreSlots slots.0 → tested slots ≡ Err why → IsRefused bytes why
link_failed bytes slots why prefix are e =
    let c = checked_err slots (first_unlinked slots.0 1 slots.0) why e in
    let f = some_says slots.0 slots.0 1 c.0 c.1 in
    let is : IsFirstUnlinked bytes c.0 = unlinked_made bytes slots c.0 prefix are f in
    subst (IsRefused bytes) (sym c.2) (inr is)

pub pool_fails : (bytes : List ℕ) (why : PoolRefusal) → IsBytes bytes → pool_at bytes ≡ Err why → IsRefused bytes why
unfolding pool_at
pool_fails bytes why fits e =
    elim (bind_fails (u2_at bytes) _ why e) [
      | inl short ↦
          let s = number_fails Truncated 2 bytes why short in
          subst (IsRefused bytes) (sym s.1) (inl s.0)
      | inr count ↦
          let n = u2_takes Truncated bytes count.0 fits count.1 in
          elim (bind_fails (counted count.0) _ why count.2) [
            | inl bad ↦ count_failed bytes count.0 why n.0 n.1 bad
            | inr slots ↦
                let t = prefix_taken bytes count.0 slots.0 n.0 n.1 slots.1 in
                link_failed bytes slots.0 why t.0 t.1 slots.2
          ]
    ]

-- ---- from a place on

abbrev done : Slots × ℕ → Result (Slots × ℕ) PoolRefusal
done x = Ok x

-- the place after the pool
abbrev suffix : List ℕ → Slots × List ℕ → Slots × ℕ
suffix bytes x = (x.0, length bytes - length x.1)

pub rest_is_short : (bytes : List ℕ) (x : Slots × List ℕ) → IsBytes bytes → pool_at bytes ≡ Ok x → length x.1 ≤ length bytes
rest_is_short bytes x fits e =
    let t = pool_taken bytes x fits e in
    omega (arith, ap length t.0.parts, length-append (pool_bytes x.0) x.1)

from_taken : (bytes : List ℕ) (at : ℕ) (x : Slots × List ℕ) → IsBytes bytes → at ≤ length bytes → pool_at (drop at bytes) ≡ Ok x → IsPoolAt bytes at x.0 (length bytes - length x.1)
from_taken bytes at x fits le e =
    let t = pool_taken (drop at bytes) x (IsBytes-drop at bytes fits) e in
    let len : length bytes - at ≡ length (pool_bytes x.0) + length x.1 = sym (length-drop at bytes) ∙ ap length t.0.parts ∙ length-append (pool_bytes x.0) x.1 in
    let ends : length bytes - length x.1 ≡ at + length (pool_bytes x.0) = omega (arith, len, le) in
    let rest_is : drop (length bytes - length x.1) bytes ≡ x.1 = ap (λ (n : ℕ). drop n bytes) ends ∙ sym (drop-drop (length (pool_bytes x.0)) at bytes) ∙ ap (drop (length (pool_bytes x.0))) t.0.parts ∙ drop_at (pool_bytes x.0) x.1 (length (pool_bytes x.0)) refl in
    record { is_pool = t.1; encoded = t.0.parts ∙ ap (λ (rest : List ℕ). pool_bytes x.0 ++ rest) (sym rest_is); ends = ends }

pub from_found : (bytes : List ℕ) (at : ℕ) (y : Slots × ℕ) → IsBytes bytes → at ≤ length bytes → pool_from bytes at ≡ Ok y → IsPoolAt bytes at y.0 y.1
unfolding pool_from
from_found bytes at y fits le e =
    bind_then (pool_at (drop at bytes)) _ y e (λ x at_x e_y.
    subst (λ (z : Slots × ℕ). IsPoolAt bytes at z.0 z.1) (ok_is (suffix bytes x) y e_y) (from_taken bytes at x fits le at_x))

pub from_read : (bytes : List ℕ) (at : ℕ) (pool : Slots) (end : ℕ) → at ≤ length bytes → IsPoolAt bytes at pool end → pool_from bytes at ≡ Ok (pool, end)
unfolding pool_from
from_read bytes at pool end le is =
    let read : pool_at (drop at bytes) ≡ Ok (pool, drop end bytes) = ap pool_at is.encoded ∙ pool_again pool (drop end bytes) is.is_pool in
    let len : length bytes - at ≡ length (pool_bytes pool) + length (drop end bytes) = sym (length-drop at bytes) ∙ ap length is.encoded ∙ length-append (pool_bytes pool) (drop end bytes) in
    let end_is : length bytes - length (drop end bytes) ≡ end = omega (arith, len, le, is.ends, length-drop end bytes) in
    then_ok _ _ read (ap (λ (n : ℕ). done (pool, n)) end_is)

pub from_refused : (bytes : List ℕ) (at : ℕ) (why : PoolRefusal) → IsRefused (drop at bytes) why → pool_from bytes at ≡ Err why
unfolding pool_from
from_refused bytes at why r = then_err _ (pool_refused (drop at bytes) why r)

pub from_fails : (bytes : List ℕ) (at : ℕ) (why : PoolRefusal) → IsBytes bytes → pool_from bytes at ≡ Err why → IsRefused (drop at bytes) why
unfolding pool_from
from_fails bytes at why fits e =
    elim (bind_fails (pool_at (drop at bytes)) _ why e) [
      | inl bad ↦ pool_fails (drop at bytes) why (IsBytes-drop at bytes fits) bad
      | inr x ↦ absurd (no_failure (suffix bytes x.0) why x.2)
    ]

-- ---- what a call answers

pub is_found : (bytes : List ℕ) (at : ℕ) (result : Result (Slots × ℕ) PoolRefusal) → IsBytes bytes → at ≤ length bytes → Gives result (pool_from bytes at) → IfOk result (λ x. IsPoolAt bytes at x.0 x.1)
is_found bytes at (Ok x) fits le e = from_found bytes at x fits le e
is_found bytes at (Err why) fits le e = tt

pub is_read : (bytes : List ℕ) (at : ℕ) (result : Result (Slots × ℕ) PoolRefusal) → at ≤ length bytes → Gives result (pool_from bytes at) → (pool : Slots) (end : ℕ) → IsPoolAt bytes at pool end → Gives result (Ok (pool, end))
is_read bytes at result le e pool end is = subst (Gives result) (from_read bytes at pool end le is) e

pub is_refused : (bytes : List ℕ) (at : ℕ) (result : Result (Slots × ℕ) PoolRefusal) → IsBytes bytes → Gives result (pool_from bytes at) → IfErr result (λ why. (why ≡ Memory) ⊎ IsRefused (drop at bytes) why)
is_refused bytes at (Ok x) fits e = tt
is_refused bytes at (Err why) fits e =
    elim (err_says (λ x. x) why (pool_from bytes at) e) [
      | inl memory ↦ inl memory
      | inr is ↦ inr (from_fails bytes at why fits is)
    ]

pub is_answered : (bytes : List ℕ) (at : ℕ) (result : Result (Slots × ℕ) PoolRefusal) → Gives result (pool_from bytes at) → (why : PoolRefusal) → IsRefused (drop at bytes) why → Gives result (Err why)
is_answered bytes at result e why r = subst (Gives result) (from_refused bytes at why r) e

-- a count that is refused is refused by reading it
is_at_once : (bytes : List ℕ) (why : PoolRefusal) → IsCountRefused bytes why → count_at bytes ≡ Err why
unfolding count_at
is_at_once bytes Truncated short = then_err _ (number_short Truncated 2 bytes short)
is_at_once bytes (BadIndex index) (is, none) =
    ap count_at none.1 ∙ then_ok _ _ (u2_again Truncated 0 none.0 (omega arith)) (rw is refl)
is_at_once bytes (BadTag index) r = absurd r
is_at_once bytes (BadUtf8 index) r = absurd r
is_at_once bytes Memory r = absurd r

-- what the first entry is refused for
first_at_once : (bytes : List ℕ) (why : PoolRefusal) → IsFirstRefused bytes why → start_at bytes ≡ Err why
unfolding start_at count_at slot_at
first_at_once bytes why r =
    let some : eqb r.count 0 ≡ false = ne_eqb r.count 0 (λ e. omega (arith, r.some, e)) in
    let more : ltb 1 r.count ≡ true = lt-ltb 1 r.count r.some in
    let count : count_at bytes ≡ Ok (r.count, r.rest) = ap count_at r.encoded ∙ then_ok _ _ (u2_again Truncated r.count r.rest r.count_fits) (rw some refl) in
    let entry = entry_refused 1 (r.count - 1) r.rest why (omega (arith, r.some)) r.refused in
    then_ok _ _ count (rw more (then_err _ (then_err _ entry)))

pub is_started : (bytes : List ℕ) (why : PoolRefusal) → IsRefusedAtOnce bytes why → start_at bytes ≡ Err why
unfolding start_at
is_started bytes why (inl count) = then_err _ (is_at_once bytes why count)
is_started bytes why (inr first) = first_at_once bytes why first

-- a refusal of the start is that of the count, or of the first place
pub start_count : (bytes : List ℕ) (found why : PoolRefusal) → count_at bytes ≡ Err found → start_at bytes ≡ Err why → found ≡ why
unfolding start_at
start_count bytes found why count e = same_why {A = Unit {0}} found why (sym (then_err _ count) ∙ e)

pub start_first : (bytes : List ℕ) (count : ℕ × List ℕ) (why : PoolRefusal) → count_at bytes ≡ Ok count → start_at bytes ≡ Err why → (1 < count.0) × (slot_at false 1 (count.0 - 1) count.1 ≡ Err why)
unfolding start_at
start_first bytes count why read e =
    let tested = sym (then_ok (λ n. cond (ltb 1 n.0) (slot_at false 1 (n.0 - 1) n.1 >>= λ slot. Ok tt) (Ok tt)) _ read refl) ∙ e in
    chosen (ltb 1 count.0) _ _ (Err why) tested
    (λ some is. bind_fails_then (slot_at false 1 (count.0 - 1) count.1) (λ slot. Ok tt) why is (λ at_why. (ltb-true _ _ some, at_why)) (λ slot at_slot fails. absurd (no_failure tt why fails)))
    (λ none is. absurd (no_failure tt why is))

-- a count that is read is not 0
pub count_read : (bytes : List ℕ) (x : ℕ × List ℕ) → count_at bytes ≡ Ok x → u2_at bytes ≡ Ok x
unfolding count_at
count_read bytes x e =
    bind_then (u2_at bytes) _ x e (λ y at_y e_x. at_y ∙ ap (λ (z : ℕ × List ℕ). Ok z) (roomy (eqb y.0 0) y x (BadIndex 0) e_x).1)
