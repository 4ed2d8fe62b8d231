-- Reading as a function on lists: a part is a value and the bytes after it, or a refusal. Here is what
-- all parts are made of: numbers, slices and lists.
use Rattle.std.specs.Prelude.{◌≡◌, ℕ, List, [], Result, Ok, Err}
use Rattle.byte_read.specs.Reading.{◌>>=◌, number_at, slice_at as bytes_at, steps_at, one_more}
use Rattle.class_file.specs.declared.refusal.ReadRefusal.{ReadRefusal}
use Rattle.class_file.specs.declared.refusal.ReadRefusal.TheVariants.{NotClass, Version, Truncated, TrailingBytes, BadPool, BadShape, BadDescriptor, TooLarge, Memory}

-- what a function returned, seen by view, is what reading gives, unless memory ran out
abbrev pub Gives : {X Y : Type 0} → (X → Y) → Result X ReadRefusal → Result Y ReadRefusal → Type 0
Gives view (Ok x) read = read ≡ Ok (view x)
Gives view (Err Memory) read = Unit {0}
Gives view (Err NotClass) read = read ≡ Err NotClass
Gives view (Err (Version major)) read = read ≡ Err (Version major)
Gives view (Err Truncated) read = read ≡ Err Truncated
Gives view (Err (TrailingBytes count)) read = read ≡ Err (TrailingBytes count)
Gives view (Err (BadPool index)) read = read ≡ Err (BadPool index)
Gives view (Err BadShape) read = read ≡ Err BadShape
Gives view (Err (BadDescriptor index)) read = read ≡ Err (BadDescriptor index)
Gives view (Err (TooLarge length)) read = read ≡ Err (TooLarge length)

-- ---- numbers and slices

abbrev pub u2_at : List ℕ → Result (ℕ × List ℕ) ReadRefusal
u2_at bytes = number_at Truncated 2 bytes

abbrev pub u4_at : List ℕ → Result (ℕ × List ℕ) ReadRefusal
u4_at bytes = number_at Truncated 4 bytes

-- so many bytes
abbrev pub slice_at : ℕ → List ℕ → Result (List ℕ × List ℕ) ReadRefusal
slice_at size bytes = bytes_at Truncated size bytes

-- ---- lists

-- a count in two bytes, and so many steps
unfoldable pub counted_at : {A : Type 0} → (A → List ℕ → Result (A × List ℕ) ReadRefusal) → A → List ℕ → Result (A × List ℕ) ReadRefusal
counted_at step before bytes = u2_at bytes >>= λ count. steps_at step before count.0 count.1

-- a count in two bytes, and so many items
abbrev pub list_at : {A : Type 0} → (List A → List ℕ → Result (A × List ℕ) ReadRefusal) → List ℕ → Result (List A × List ℕ) ReadRefusal
list_at item bytes = counted_at (one_more item) [] bytes
