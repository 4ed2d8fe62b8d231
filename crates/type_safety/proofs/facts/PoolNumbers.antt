-- A whole number of the constant pool of a class file that is read has 32 bits.
use Rattle.std.proofs.Common.{◌≡◌, ℕ, ℤ, zero, suc, ◌-◌, ◌==◌, Bool, true, false, if◌then◌else◌, List, [], ◌∷◌, length, drop, Option, Some, None, Result, Ok, Err, refl, sym, ap, subst, ◌∙◌, arith, FitsSigned}
use Rattle.std.proofs.lemmas.Int.{ints}
use Rattle.std.proofs.lemmas.Option.{none-some, same_Some, option_and_then_some}
use Rattle.std.specs.Int.{w32, cast_signed}
use Rattle.std.specs.Prelude.{nat_lt, option_and_then, slice_get}
use Rattle.byte_read.proofs.Steps.{bind_then, ok_is, no_failure, chosen}
use Rattle.class_pool.specs.declared.pool.Const.{Const}
use Rattle.class_pool.specs.declared.pool.Const.TheVariants as entry
use Rattle.class_pool.specs.declared.refusal.PoolRefusal.{PoolRefusal}
use Rattle.class_pool.specs.declared.refusal.PoolRefusal.TheVariants.{BadTag, BadIndex, Truncated}
use Rattle.class_pool.specs.Pool.{Slots, entry_at as slot_entry, integer_of, integer_at, EachEntry}
use Rattle.class_pool.specs.PoolReading.{u2_at, slice_at, size_at, text_of, entry_of, body_at, tag_width, tag_of_byte, tagged_at, entry_at, is_first_of_two, slot_at, slots_at, first_unlinked, checked, pool_at, pool_from}
use Rattle.class_pool.proofs.constant_pool.Parts.{tag_of, sample}
use Rattle.class_file.specs.ReadingClass.{after_pool, of_pool, pool_at as class_pool_at}

-- an entry that is a whole number has 32 bits
abbrev pub IntegerFits : Const → Type 0
IntegerFits (entry.Integer value) = FitsSigned w32 value
IntegerFits other = Unit {0}

-- ---- reading

signed_fits : (n : ℕ) → FitsSigned w32 (cast_signed w32 n)
signed_fits n = omega (arith, ints)

integer_made : (n : ℕ) (made : Const) → entry.Integer (cast_signed w32 n) ≡ made → IntegerFits made
integer_made n made e = subst IntegerFits e (signed_fits n)

-- an entry with the tag of another one
entry_fits : (index : ℕ) (like : Const) (parts : List ℕ) (made : Const) → entry_of index (tag_of like) parts ≡ Ok made → IntegerFits made
unfolding entry_of
entry_fits index (entry.Utf8 like) parts made e = bind_then (text_of index parts) _ made e (λ text at e_made. subst IntegerFits (ok_is (entry.Utf8 text) made e_made) tt)
entry_fits index (entry.Integer value) parts made e = integer_made _ made (ok_is _ made e)
entry_fits index (entry.Float bits) parts made e = subst IntegerFits (ok_is _ made e) tt
entry_fits index (entry.Long bits) parts made e = subst IntegerFits (ok_is _ made e) tt
entry_fits index (entry.Double bits) parts made e = subst IntegerFits (ok_is _ made e) tt
entry_fits index (entry.Class name) parts made e = subst IntegerFits (ok_is _ made e) tt
entry_fits index (entry.String text) parts made e = subst IntegerFits (ok_is _ made e) tt
entry_fits index (entry.Field class name_and_type) parts made e = subst IntegerFits (ok_is _ made e) tt
entry_fits index (entry.Method class name_and_type) parts made e = subst IntegerFits (ok_is _ made e) tt
entry_fits index (entry.InterfaceMethod class name_and_type) parts made e = subst IntegerFits (ok_is _ made e) tt
entry_fits index (entry.NameAndType name descriptor) parts made e = subst IntegerFits (ok_is _ made e) tt
entry_fits index (entry.MethodHandle kind at) parts made e = subst IntegerFits (ok_is _ made e) tt
entry_fits index (entry.MethodType descriptor) parts made e = subst IntegerFits (ok_is _ made e) tt
entry_fits index (entry.InvokeDynamic bootstrap name_and_type) parts made e = subst IntegerFits (ok_is _ made e) tt

body_fits : (index : ℕ) (of : _) (bytes : List ℕ) (x : Const × List ℕ) → body_at index of bytes ≡ Ok x → IntegerFits x.0
unfolding body_at
body_fits index of bytes x e =
    bind_then (size_at of bytes) _ x e (λ size at_size e1.
    bind_then (slice_at size.0 size.1) _ x e1 (λ parts at_parts e2.
    bind_then (entry_of index of parts.0) _ x e2 (λ made at_made e3.
    let like = sample of in
    let is : entry_of index (tag_of like.0) parts.0 ≡ Ok made = ap (λ t. entry_of index t parts.0) like.1 ∙ at_made in
    subst (λ (y : Const × List ℕ). IntegerFits y.0) (ok_is (made, parts.1) x e3) (entry_fits index like.0 parts.0 made is))))

tagged_fits : (index room : ℕ) (of : _) (bytes : List ℕ) (x : Const × List ℕ) → tagged_at index room of bytes ≡ Ok x → IntegerFits x.0
tagged_fits index room None bytes x e = absurd (no_failure x (BadTag index) (sym e))
tagged_fits index room (Some of) bytes x e =
    chosen (nat_lt room (tag_width of)) _ _ (Ok x) e (λ less bad. absurd (no_failure x (BadTag index) (sym bad))) (λ enough is. body_fits index of bytes x is)

read_fits : (index room : ℕ) (bytes : List ℕ) (x : Const × List ℕ) → entry_at index room bytes ≡ Ok x → IntegerFits x.0
unfolding entry_at
read_fits index room [] x e = absurd (no_failure x Truncated (sym e))
read_fits index room (byte ∷ bytes) x e = tagged_fits index room (tag_of_byte byte) bytes x e

-- a place is joined to others whose numbers fit
abbrev Joins : Option Const → Type 0
Joins slot = (slots : Slots) → EachEntry IntegerFits slots → EachEntry IntegerFits (slot ∷ slots)

slot_fits : (second : Bool) (index room : ℕ) (bytes : List ℕ) (x : Option Const × List ℕ) → slot_at second index room bytes ≡ Ok x → Joins x.0
unfolding slot_at
slot_fits true index room bytes x e = subst (λ (y : Option Const × List ℕ). Joins y.0) (ok_is (None, bytes) x e) (λ slots others. others)
slot_fits false index room bytes x e =
    bind_then (entry_at index room bytes) _ x e (λ made at_made e1.
    subst (λ (y : Option Const × List ℕ). Joins y.0) (ok_is (Some made.0, made.1) x e1) (λ slots others. (read_fits index room bytes made at_made, others)))

slots_fit : (second : Bool) (index room : ℕ) (bytes : List ℕ) (x : Slots × List ℕ) → slots_at second index room bytes ≡ Ok x → EachEntry IntegerFits x.0
unfolding slots_at
slots_fit second index zero bytes x e = subst (λ (y : Slots × List ℕ). EachEntry IntegerFits y.0) (ok_is ([], bytes) x e) tt
slots_fit second index (suc room) bytes x e =
    bind_then (slot_at second index (suc room) bytes) _ x e (λ first at_first e1.
    bind_then (slots_at (is_first_of_two first.0) (suc index) room first.1) _ x e1 (λ others at_others e2.
    subst (λ (y : Slots × List ℕ). EachEntry IntegerFits y.0) (ok_is (first.0 ∷ others.0, others.1) x e2)
    (slot_fits second index (suc room) bytes first at_first others.0 (slots_fit (is_first_of_two first.0) (suc index) room first.1 others at_others))))

checked_fits : (slots x : Slots × List ℕ) (unlinked : Option ℕ) → EachEntry IntegerFits slots.0 → checked slots unlinked ≡ Ok x → EachEntry IntegerFits x.0
checked_fits slots x None fits e = subst (λ (y : Slots × List ℕ). EachEntry IntegerFits y.0) (ok_is slots x e) fits
checked_fits slots x (Some index) fits e = absurd (no_failure x (BadIndex index) (sym e))

read_pool : (bytes : List ℕ) (x : Slots × List ℕ) → pool_at bytes ≡ Ok x → EachEntry IntegerFits x.0
unfolding pool_at
read_pool bytes x e =
    bind_then (u2_at bytes) _ x e (λ count at_count e1.
    bind_then (if count.0 == 0 then Err (BadIndex 0) else slots_at false 1 (count.0 - 1) count.1) _ x e1 (λ slots at_slots e2.
    let fits =
    chosen (count.0 == 0) (Err (BadIndex 0)) (slots_at false 1 (count.0 - 1) count.1) (Ok slots) at_slots (λ zero bad. absurd (no_failure slots (BadIndex 0) (sym bad)))
    (λ some is. slots_fit false 1 (count.0 - 1) count.1 slots is) in
    checked_fits slots x (first_unlinked slots.0 1 slots.0) fits e2))

from_fits : (bytes : List ℕ) (at : ℕ) (x : Slots × ℕ) → pool_from bytes at ≡ Ok x → EachEntry IntegerFits x.0
unfolding pool_from
from_fits bytes at x e =
    bind_then (pool_at (drop at bytes)) _ x e (λ pool at_pool e1.
    subst (λ (y : Slots × ℕ). EachEntry IntegerFits y.0) (ok_is (pool.0, length bytes - length pool.1) x e1) (read_pool (drop at bytes) pool at_pool))

after_fits : (bytes : List ℕ) (read : Result (Slots × ℕ) PoolRefusal) (x : Slots × List ℕ) → pool_from bytes 0 ≡ read → after_pool bytes read ≡ Ok x → EachEntry IntegerFits x.0
after_fits bytes (Ok pool) x is e = subst (λ (y : Slots × List ℕ). EachEntry IntegerFits y.0) (ok_is (pool.0, drop pool.1 bytes) x e) (from_fits bytes 0 pool is)
after_fits bytes (Err why) x is e = absurd (no_failure x (of_pool why) (sym e))

-- the whole numbers of a pool that is read
pub pool_fits : (bytes : List ℕ) (x : Slots × List ℕ) → class_pool_at bytes ≡ Ok x → EachEntry IntegerFits x.0
unfolding class_pool_at
pool_fits bytes x e = after_fits bytes (pool_from bytes 0) x refl e

-- ---- the number at an index

number_of : (made : Const) (number : ℤ) → IntegerFits made → integer_of made ≡ Some number → FitsSigned w32 number
number_of (entry.Integer value) number fits e = subst (FitsSigned w32) (same_Some value number e) fits
number_of other number fits e = cc

at_place : (pool : Slots) (place : ℕ) (made : Const) → EachEntry IntegerFits pool → option_and_then (λ slot. slot) (slice_get pool place) ≡ Some made → IntegerFits made
at_place [] place made each e = absurd (none-some made e)
at_place (None ∷ pool) zero made each e = absurd (none-some made e)
at_place (None ∷ pool) (suc place) made each e = at_place pool place made each e
at_place (Some other ∷ pool) zero made each e = subst IntegerFits (same_Some other made e) each.0
at_place (Some other ∷ pool) (suc place) made each e = at_place pool place made each.1 e

at_index : (pool : Slots) (index : ℕ) (made : Const) → EachEntry IntegerFits pool → slot_entry pool index ≡ Some made → IntegerFits made
at_index pool zero made each e = absurd (none-some made e)
at_index pool (suc place) made each e = at_place pool place made each e

pub integer_fits : (pool : Slots) (index : ℕ) (number : ℤ) → EachEntry IntegerFits pool → integer_at pool index ≡ Some number → FitsSigned w32 number
integer_fits pool index number each e =
    option_and_then_some integer_of (slot_entry pool index) number e (λ made at is. number_of made number (at_index pool index made each at) is)
