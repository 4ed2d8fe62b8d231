-- The constant pool is read by the prefix: what is read of it, and a fault, holds whatever follows.
use Rattle.std.proofs.Common.{ℕ, zero, suc, ◌-◌, Bool, true, false, ltb, eqb, List, [], ◌∷◌, ◌++◌, Option, Some, None, refl, inl}
use Rattle.byte_read.proofs.Steady.{Persists, IsSteady, done, failing, either, first, last, settled, number_steady, slice_steady}
use Rattle.class_pool.specs.declared.tag.Tag.{Tag}
use Rattle.class_pool.specs.declared.tag.Tag.TheVariants.{Utf8 as TagUtf8}
use Rattle.class_pool.specs.declared.refusal.PoolRefusal.TheVariants.{Truncated, BadTag, BadIndex}
use Rattle.class_pool.specs.Pool.{Slots}
use Rattle.class_pool.specs.PoolReading.{tag_of_byte, tag_width, parts_size, size_at, entry_of, body_at, tagged_at, entry_at, slot_at, is_first_of_two, slots_at, first_unlinked, checked, pool_at}

-- ---- entries

size_steady : (tag : Tag) → IsSteady Truncated (size_at tag)
unfolding size_at
size_steady TagUtf8 = number_steady 2
size_steady tag = done (parts_size tag)

body_steady : (index : ℕ) (tag : Tag) → IsSteady Truncated (body_at index tag)
unfolding body_at
body_steady index tag = first (size_steady tag) (λ size. first (slice_steady size) (λ parts. settled (entry_of index tag parts) (λ entry. done entry)))

tagged_steady : (index room : ℕ) (tag : Option Tag) → IsSteady Truncated (tagged_at index room tag)
tagged_steady index room None = failing (BadTag index)
tagged_steady index room (Some tag) = either (ltb room (tag_width tag)) (failing (BadTag index)) (body_steady index tag)

entry_holds : (index room : ℕ) (bytes more : List ℕ) → Persists Truncated more (entry_at index room bytes) (entry_at index room (bytes ++ more))
unfolding entry_at
entry_holds index room [] more = inl refl
entry_holds index room (byte ∷ bytes) more = (tagged_steady index room (tag_of_byte byte)).persists bytes more

entry_steady : (index room : ℕ) → IsSteady Truncated (entry_at index room)
entry_steady index room = record { persists = entry_holds index room }

-- ---- places

slot_steady : (second : Bool) (index room : ℕ) → IsSteady Truncated (slot_at second index room)
unfolding slot_at
slot_steady true index room = done None
slot_steady false index room = last (entry_steady index room) (λ entry. Some entry)

slots_steady : (second : Bool) (index room : ℕ) → IsSteady Truncated (slots_at second index room)
unfolding slots_at
slots_steady second index zero = done []
slots_steady second index (suc room) =
    first (slot_steady second index (suc room)) (λ slot. last (slots_steady (is_first_of_two slot) (suc index) room) (λ others. slot ∷ others))

-- ---- the pool

checked_steady : (slots : Slots) (unlinked : Option ℕ) → IsSteady Truncated (λ bytes. checked (slots, bytes) unlinked)
checked_steady slots None = done slots
checked_steady slots (Some index) = failing (BadIndex index)

-- a pool is read so far, and a fault in it is found, whatever follows
pub pool_steady : IsSteady Truncated pool_at
unfolding pool_at
pool_steady =
    first (number_steady 2) (λ count.
    first (either (eqb count 0) (failing (BadIndex 0)) (slots_steady false 1 (count - 1))) (λ slots.
    checked_steady slots (first_unlinked slots 1 slots)))
