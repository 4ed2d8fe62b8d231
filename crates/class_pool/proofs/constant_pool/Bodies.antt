-- What follows a tag is read where it is encoded so, and is refused where it is cut or no text.
use Rattle.std.proofs.Common.{◌≡◌, ◌≢◌, ◌⊎◌, ℕ, ◌+◌, ◌-◌, ◌^◌, ◌<◌, ◌≤◌, false, List, [], ◌∷◌, ◌++◌, length, get_or, take, drop, replicate, Result, Ok, Err, refl, sym, ap, subst, ◌∙◌, append_assoc, arith, inl, inr, length-append, length-drop}
use Rattle.std.proofs.lemmas.Bool.{cases_Bool, cases_lt, le-ltb, false_from_ne_true}
use Rattle.std.proofs.lemmas.List.{length-replicate, get_or_append_left, get_or-append_right, get_or-replicate, get_or_past, take_all, take-append-le}
use Rattle.byteorder.specs.Endian.{big_number}
use Rattle.byteorder.specs.Numbers.{big_number-reads_back, big_from-take, big_from-lt}
use Rattle.class_pool.specs.declared.pool.Const.{Const}
use Rattle.class_pool.specs.declared.pool.Const.TheVariants.{Utf8, Integer, Float, Long, Double, Class, String, Field, Method, InterfaceMethod, NameAndType, MethodHandle, MethodType, InvokeDynamic}
use Rattle.class_pool.specs.declared.tag.Tag.{Tag}
use Rattle.class_pool.specs.declared.tag.Tag.TheVariants.{Utf8 as TagUtf8, Integer as TagInteger, Float as TagFloat, Long as TagLong, Double as TagDouble, Class as TagClass, String as TagString, Fieldref, Methodref, InterfaceMethodref, NameAndType as TagNameAndType, MethodHandle as TagMethodHandle, MethodType as TagMethodType, InvokeDynamic as TagInvokeDynamic}
use Rattle.class_pool.specs.declared.refusal.PoolRefusal.{PoolRefusal}
use Rattle.class_pool.specs.declared.refusal.PoolRefusal.TheVariants.{Truncated, BadUtf8}
use Rattle.class_pool.specs.Utf8.{IsModifiedUtf8}
use Rattle.class_pool.specs.Pool.{FitsFields, FitsEntry}
use Rattle.byte_read.specs.Reading.{◌>>=◌, number_at}
use Rattle.class_pool.specs.PoolRefused.{ShowsGood}
use Rattle.class_pool.proofs.constant_pool.Steps.{missed_shows}
use Rattle.class_pool.specs.PoolReading.{u2_at, slice_at, size_at, parts_size, text_of, entry_of, body_at, is_modified_utf8}
use Rattle.class_pool.proofs.constant_pool.Texts.{text_takes, text_again}
use Rattle.byte_read.proofs.Steps.{u2, IsBytes, back_2, bind_then, bind_fails, ok_is, same_why, true_false, pair, no_failure, then_ok, then_err, Takes, joined, u2_takes, number_fails, number_short, u2_again, slice_takes, slice_fails, slice_short, slice_again}
use Rattle.class_pool.proofs.constant_pool.Parts.{tag_of, size_bytes, parts_of, IsFixed, entry_again, parts_made}

-- the bytes after the tag of an entry
abbrev pub body : Const → List ℕ
body entry = size_bytes entry ++ parts_of entry

-- the entry was taken from the prefix
pub record TakesBody (tag : Tag) (bytes : List ℕ) (x : Const × List ℕ) : Type 0 where
  pub tag_is : tag_of x.0 ≡ tag
  pub takes : Takes bytes (body x.0) x.1
  pub fits : FitsEntry x.0

-- the bytes end within the parts of an entry
pub record CutBody (tag : Tag) (bytes : List ℕ) : Type 0 where
  pub entry : Const
  pub suffix : List ℕ
  pub tag_is : tag_of entry ≡ tag
  pub fits : FitsFields entry
  pub encoded : bytes ++ suffix ≡ body entry
  pub proper : suffix ≢ []

-- a text that is not modified UTF-8 is at the prefix
pub record BadBody (bytes : List ℕ) : Type 0 where
  pub text : List ℕ
  pub more : List ℕ
  pub begins : bytes ≡ body (Utf8 text) ++ more
  pub fits : FitsFields (Utf8 text)
  pub not_text : IsModifiedUtf8 text → ⊥

-- ---- sizes

-- the tags of a fixed size
pub fixed_size : (tag : Tag) (bytes : List ℕ) → IsFixed tag → size_at tag bytes ≡ Ok (parts_size tag, bytes)
unfolding size_at
fixed_size TagUtf8 bytes fixed = absurd fixed
fixed_size TagInteger bytes fixed = refl
fixed_size TagFloat bytes fixed = refl
fixed_size TagLong bytes fixed = refl
fixed_size TagDouble bytes fixed = refl
fixed_size TagClass bytes fixed = refl
fixed_size TagString bytes fixed = refl
fixed_size Fieldref bytes fixed = refl
fixed_size Methodref bytes fixed = refl
fixed_size InterfaceMethodref bytes fixed = refl
fixed_size TagNameAndType bytes fixed = refl
fixed_size TagMethodHandle bytes fixed = refl
fixed_size TagMethodType bytes fixed = refl
fixed_size TagInvokeDynamic bytes fixed = refl

-- a tag is that of a text, or of a fixed size
pub text_or_fixed : (tag : Tag) → (tag ≡ TagUtf8) ⊎ IsFixed tag
text_or_fixed TagUtf8 = inl refl
text_or_fixed TagInteger = inr tt
text_or_fixed TagFloat = inr tt
text_or_fixed TagLong = inr tt
text_or_fixed TagDouble = inr tt
text_or_fixed TagClass = inr tt
text_or_fixed TagString = inr tt
text_or_fixed Fieldref = inr tt
text_or_fixed Methodref = inr tt
text_or_fixed InterfaceMethodref = inr tt
text_or_fixed TagNameAndType = inr tt
text_or_fixed TagMethodHandle = inr tt
text_or_fixed TagMethodType = inr tt
text_or_fixed TagInvokeDynamic = inr tt

size_enough_by : (tag : Tag) (bytes : List ℕ) (x : ℕ × List ℕ) → (tag ≡ TagUtf8) ⊎ IsFixed tag → size_at tag bytes ≡ Ok x → parts_size tag ≤ x.0
size_enough_by tag bytes x (inl is) e = rw is (omega arith)
size_enough_by tag bytes x (inr fixed) e =
    let same = ok_is (parts_size tag, bytes) x (sym (fixed_size tag bytes fixed) ∙ e) in
    omega (arith, ap (λ (y : ℕ × List ℕ). y.0) same)

-- a size that was read is enough for the parts
pub size_enough : (tag : Tag) (bytes : List ℕ) (x : ℕ × List ℕ) → size_at tag bytes ≡ Ok x → parts_size tag ≤ x.0
size_enough tag bytes x e = size_enough_by tag bytes x (text_or_fixed tag) e

pub fixed_parts : (entry : Const) → IsFixed (tag_of entry) → (size_bytes entry ≡ []) × (length (parts_of entry) ≡ parts_size (tag_of entry))
fixed_parts (Utf8 text) fixed = absurd fixed
fixed_parts (Integer value) fixed = (refl, refl)
fixed_parts (Float bits) fixed = (refl, refl)
fixed_parts (Long bits) fixed = (refl, refl)
fixed_parts (Double bits) fixed = (refl, refl)
fixed_parts (Class name) fixed = (refl, refl)
fixed_parts (String text) fixed = (refl, refl)
fixed_parts (Field class name_and_type) fixed = (refl, refl)
fixed_parts (Method class name_and_type) fixed = (refl, refl)
fixed_parts (InterfaceMethod class name_and_type) fixed = (refl, refl)
fixed_parts (NameAndType name descriptor) fixed = (refl, refl)
fixed_parts (MethodHandle kind index) fixed = (refl, refl)
fixed_parts (MethodType descriptor) fixed = (refl, refl)
fixed_parts (InvokeDynamic bootstrap name_and_type) fixed = (refl, refl)

-- ---- what is encoded is read

entry_size : (entry : Const) (rest : List ℕ) → FitsFields entry → size_at (tag_of entry) (size_bytes entry ++ rest) ≡ Ok (length (parts_of entry), rest)
unfolding size_at
entry_size (Utf8 text) rest fits = u2_again Truncated (length text) rest fits
entry_size (Integer value) rest fits = refl
entry_size (Float bits) rest fits = refl
entry_size (Long bits) rest fits = refl
entry_size (Double bits) rest fits = refl
entry_size (Class name) rest fits = refl
entry_size (String text) rest fits = refl
entry_size (Field class name_and_type) rest fits = refl
entry_size (Method class name_and_type) rest fits = refl
entry_size (InterfaceMethod class name_and_type) rest fits = refl
entry_size (NameAndType name descriptor) rest fits = refl
entry_size (MethodHandle kind handle) rest fits = refl
entry_size (MethodType descriptor) rest fits = refl
entry_size (InvokeDynamic bootstrap name_and_type) rest fits = refl

pub body_again : (index : ℕ) (entry : Const) (rest : List ℕ) → FitsEntry entry → body_at index (tag_of entry) (body entry ++ rest) ≡ Ok (entry, rest)
unfolding body_at
body_again index entry rest fits =
    ap (body_at index (tag_of entry)) (append_assoc (size_bytes entry) (parts_of entry) rest)
    ∙ then_ok _ _ (entry_size entry (parts_of entry ++ rest) fits.0)
    (then_ok _ _ (slice_again Truncated (parts_of entry) rest (length (parts_of entry)) refl)
    (then_ok _ _ (entry_again index entry fits) refl))

-- ---- what is cut is truncated

some_left : (xs : List ℕ) → xs ≢ [] → 0 < length xs
some_left [] some = absurd (some refl)
some_left (x ∷ xs) some = omega arith

cut_fixed : (index : ℕ) (entry : Const) (bytes suffix : List ℕ) → IsFixed (tag_of entry) → bytes ++ suffix ≡ body entry → suffix ≢ [] → body_at index (tag_of entry) bytes ≡ Err Truncated
unfolding body_at
cut_fixed index entry bytes suffix fixed e some =
    let p = fixed_parts entry fixed in
    let whole : bytes ++ suffix ≡ parts_of entry = e ∙ ap (λ (prefix : List ℕ). prefix ++ parts_of entry) p.0 in
    let short : length bytes < parts_size (tag_of entry) = omega (arith, length-append bytes suffix, ap length whole, p.1, some_left suffix some) in
    then_ok _ _ (fixed_size (tag_of entry) bytes fixed) (then_err _ (slice_short Truncated (parts_size (tag_of entry)) bytes short))

-- the number at the prefix does not change with what is cut off after it
same_prefix : (n : ℕ) (bytes suffix text : List ℕ) → n < 2 ^ 16 → 2 ≤ length bytes → bytes ++ suffix ≡ u2 n ++ text → u2_at bytes ≡ Ok (n, drop 2 bytes)
unfolding number_at
same_prefix n bytes suffix text lt long e =
    let prefix : take 2 bytes ≡ u2 n = sym (take-append-le 2 bytes suffix long) ∙ ap (take 2) e in
    let number : big_number 2 bytes ≡ n = sym (big_from-take 0 2 2 bytes (omega arith)) ∙ ap (big_number 2) prefix ∙ big_number-reads_back 2 n [] lt in
    rw (le-ltb _ _ long, number) refl

cut_text : (index : ℕ) (text bytes suffix : List ℕ) → length text < 2 ^ 16 → bytes ++ suffix ≡ u2 (length text) ++ text → suffix ≢ [] → body_at index TagUtf8 bytes ≡ Err Truncated
unfolding body_at size_at
cut_text index text bytes suffix lt e some =
    elim (cases_lt (length bytes) 2) [
      | inl short ↦ then_err _ (number_short Truncated 2 bytes short)
      | inr long ↦
          let left = some_left suffix some in
          let len : length bytes + length suffix ≡ 2 + length text = sym (length-append bytes suffix) ∙ ap length e ∙ length-append (u2 (length text)) text in
          let short : length (drop 2 bytes) < length text = omega (arith, length-drop 2 bytes, len, left) in
          then_ok _ _ (same_prefix (length text) bytes suffix text lt long e) (then_err _ (slice_short Truncated (length text) (drop 2 bytes) short))
    ]

pub body_cut : (index : ℕ) (entry : Const) (bytes suffix : List ℕ) → FitsFields entry → bytes ++ suffix ≡ body entry → suffix ≢ [] → body_at index (tag_of entry) bytes ≡ Err Truncated
body_cut index (Utf8 text) bytes suffix fits e some = cut_text index text bytes suffix fits e some
body_cut index (Integer value) bytes suffix fits e some = cut_fixed index (Integer value) bytes suffix tt e some
body_cut index (Float bits) bytes suffix fits e some = cut_fixed index (Float bits) bytes suffix tt e some
body_cut index (Long bits) bytes suffix fits e some = cut_fixed index (Long bits) bytes suffix tt e some
body_cut index (Double bits) bytes suffix fits e some = cut_fixed index (Double bits) bytes suffix tt e some
body_cut index (Class name) bytes suffix fits e some = cut_fixed index (Class name) bytes suffix tt e some
body_cut index (String text) bytes suffix fits e some = cut_fixed index (String text) bytes suffix tt e some
body_cut index (Field class name_and_type) bytes suffix fits e some = cut_fixed index (Field class name_and_type) bytes suffix tt e some
body_cut index (Method class name_and_type) bytes suffix fits e some = cut_fixed index (Method class name_and_type) bytes suffix tt e some
body_cut index (InterfaceMethod class name_and_type) bytes suffix fits e some = cut_fixed index (InterfaceMethod class name_and_type) bytes suffix tt e some
body_cut index (NameAndType name descriptor) bytes suffix fits e some = cut_fixed index (NameAndType name descriptor) bytes suffix tt e some
body_cut index (MethodHandle kind handle) bytes suffix fits e some = cut_fixed index (MethodHandle kind handle) bytes suffix tt e some
body_cut index (MethodType descriptor) bytes suffix fits e some = cut_fixed index (MethodType descriptor) bytes suffix tt e some
body_cut index (InvokeDynamic bootstrap name_and_type) bytes suffix fits e some = cut_fixed index (InvokeDynamic bootstrap name_and_type) bytes suffix tt e some

-- ---- a text that is none is refused

not_found : (text : List ℕ) → (IsModifiedUtf8 text → ⊥) → is_modified_utf8 text ≡ false
not_found text other = false_from_ne_true (is_modified_utf8 text) (λ e. other (text_takes text e))

pub body_bad : (index : ℕ) (text rest : List ℕ) → length text < 2 ^ 16 → (IsModifiedUtf8 text → ⊥) → body_at index TagUtf8 (body (Utf8 text) ++ rest) ≡ Err (BadUtf8 index)
unfolding body_at size_at entry_of
body_bad index text rest lt other =
    ap (body_at index TagUtf8) (append_assoc (u2 (length text)) text rest)
    ∙ then_ok _ _ (u2_again Truncated (length text) (text ++ rest) lt)
    (then_ok _ _ (slice_again Truncated text rest (length text) refl) (rw (not_found text other) refl))

-- ---- what was read is encoded so

abbrev text_entry : ℕ → List ℕ → Result Const PoolRefusal
text_entry index parts = text_of index parts >>= λ text. Ok (Utf8 text)

-- what the test of a text let through
text_passes : (index : ℕ) (parts : List ℕ) (entry : Const) → text_entry index parts ≡ Ok entry → (Utf8 parts ≡ entry) × IsModifiedUtf8 parts
text_passes index parts entry e =
    elim (cases_Bool (is_modified_utf8 parts)) [
      | inl t ↦ (ok_is (Utf8 parts) entry (rw t at e), text_takes parts t)
      | inr f ↦ absurd (no_failure entry (BadUtf8 index) (sym (rw f at e)))
    ]

text_taken : (index : ℕ) (bytes : List ℕ) (x : Const × List ℕ) → IsBytes bytes → body_at index TagUtf8 bytes ≡ Ok x → TakesBody TagUtf8 bytes x
unfolding body_at size_at entry_of
text_taken index bytes x fits e =
    bind_then (u2_at bytes) _ x e (λ size at_size e_parts.
    bind_then (slice_at size.0 size.1) _ x e_parts (λ parts at_parts e_entry.
    bind_then (text_entry index parts.0) _ x e_entry (λ entry at_entry e_x.
    let s = u2_takes Truncated bytes size fits at_size in
    let p = slice_takes Truncated size.0 size.1 parts s.0.rest_fits at_parts in
    let t = text_passes index parts.0 entry at_entry in
    let sized : Takes bytes (u2 (length parts.0)) size.1 = subst (λ (n : ℕ). Takes bytes (u2 n) size.1) (sym p.1) s.0 in
    let made : TakesBody TagUtf8 bytes (Utf8 parts.0, parts.1) = record { tag_is = refl; takes = joined sized p.0; fits = (omega (arith, p.1, s.1), t.1) } in
    subst (TakesBody TagUtf8 bytes) (ap (λ (c : Const). pair c parts.1) t.0 ∙ ok_is (entry, parts.1) x e_x) made)))

fixed_taken : (index : ℕ) (tag : Tag) (bytes : List ℕ) (x : Const × List ℕ) → IsFixed tag → IsBytes bytes → body_at index tag bytes ≡ Ok x → TakesBody tag bytes x
unfolding body_at
fixed_taken index tag bytes x fixed fits e =
    bind_then (size_at tag bytes) _ x e (λ size at_size e_parts.
    bind_then (slice_at size.0 size.1) _ x e_parts (λ parts at_parts e_entry.
    bind_then (entry_of index tag parts.0) _ x e_entry (λ entry at_entry e_x.
    let s : pair (parts_size tag) bytes ≡ size = ok_is (parts_size tag, bytes) size (sym (fixed_size tag bytes fixed) ∙ at_size) in
    let p = slice_takes Truncated (parts_size tag) bytes parts fits (subst (λ (y : ℕ × List ℕ). slice_at y.0 y.1 ≡ Ok parts) (sym s) at_parts) in
    let m = parts_made index tag parts.0 fixed p.2 p.1 in
    let same : m.entry ≡ entry = ok_is m.entry entry (sym m.reads ∙ at_entry) in
    let encoded : parts.0 ≡ body m.entry = sym m.parts_are ∙ ap (λ (prefix : List ℕ). prefix ++ parts_of m.entry) (sym m.no_size) in
    let made : TakesBody tag bytes (m.entry, parts.1) = record { tag_is = m.tag_is; takes = subst (λ (text : List ℕ). Takes bytes text parts.1) encoded p.0; fits = m.fits } in
    subst (TakesBody tag bytes) (ap (λ (c : Const). pair c parts.1) same ∙ ok_is (entry, parts.1) x e_x) made)))

taken_by : (index : ℕ) (tag : Tag) (bytes : List ℕ) (x : Const × List ℕ) → IsBytes bytes → (tag ≡ TagUtf8) ⊎ IsFixed tag → body_at index tag bytes ≡ Ok x → TakesBody tag bytes x
taken_by index tag bytes x fits (inr fixed) e = fixed_taken index tag bytes x fixed fits e
taken_by index tag bytes x fits (inl is) e =
    subst (λ (t : Tag). TakesBody t bytes x) (sym is) (text_taken index bytes x fits (subst (λ (t : Tag). body_at index t bytes ≡ Ok x) is e))

pub body_taken : (index : ℕ) (tag : Tag) (bytes : List ℕ) (x : Const × List ℕ) → IsBytes bytes → body_at index tag bytes ≡ Ok x → TakesBody tag bytes x
body_taken index tag bytes x fits e = taken_by index tag bytes x fits (text_or_fixed tag) e

-- ---- what was refused is cut, or no text

abbrev pub FailsBody : ℕ → Tag → List ℕ → PoolRefusal → Type 0
FailsBody index tag bytes why = ((why ≡ Truncated) × CutBody tag bytes) ⊎ ((why ≡ BadUtf8 index) × (tag ≡ TagUtf8) × BadBody bytes)

-- bytes that were cut off
abbrev zeros : ℕ → List ℕ
zeros n = replicate n 0

zeros_length : (n : ℕ) → length (zeros n) ≡ n
zeros_length n = length-replicate {A = ℕ} n 0

zeros_some : (n : ℕ) → 0 < n → zeros n ≢ []
zeros_some n some e = absurd (omega (arith, zeros_length n, ap length e))

zero_byte : (n i : ℕ) → get_or (zeros n) i 0 < 256
zero_byte n i =
    elim (cases_lt i n) [
      | inl lt ↦ rw (get_or-replicate {A = ℕ} n i 0 0 lt) (omega arith)
      | inr le ↦ rw (get_or_past (zeros n) i 0 (omega (arith, zeros_length n))) (omega arith)
    ]

padded_bytes : (bytes : List ℕ) (n : ℕ) → IsBytes bytes → IsBytes (bytes ++ zeros n)
padded_bytes bytes n fits i =
    elim (cases_lt i (length bytes)) [
      | inl lt ↦ rw (get_or_append_left bytes (zeros n) 0 i lt) (fits i)
      | inr le ↦ rw (get_or-append_right bytes (zeros n) (length bytes) i 0 refl le) (zero_byte n (i - length bytes))
    ]

padded_length : (bytes : List ℕ) (n : ℕ) → length bytes < n → length (bytes ++ zeros (n - length bytes)) ≡ n
padded_length bytes n lt = omega (arith, length-append bytes (zeros (n - length bytes)), zeros_length (n - length bytes))

fixed_cut : (tag : Tag) (bytes : List ℕ) → IsFixed tag → IsBytes bytes → length bytes < parts_size tag → CutBody tag bytes
fixed_cut tag bytes fixed fits short =
    let suffix : List ℕ = zeros (parts_size tag - length bytes) in
    let m = parts_made 0 tag (bytes ++ suffix) fixed (padded_bytes bytes (parts_size tag - length bytes) fits) (padded_length bytes (parts_size tag) short) in
    let encoded : bytes ++ suffix ≡ body m.entry = sym m.parts_are ∙ ap (λ (prefix : List ℕ). prefix ++ parts_of m.entry) (sym m.no_size) in
    record { entry = m.entry; suffix = suffix; tag_is = m.tag_is; fits = m.fits.0; encoded = encoded; proper = zeros_some (parts_size tag - length bytes) (omega (arith, short)) }

-- the length of a text is cut off
size_cut : (bytes : List ℕ) → IsBytes bytes → length bytes < 2 → CutBody TagUtf8 bytes
size_cut bytes fits short =
    let pad : List ℕ = zeros (2 - length bytes) in
    let all = padded_bytes bytes (2 - length bytes) fits in
    let n = big_number 2 (bytes ++ pad) in
    let len : length (bytes ++ pad) ≡ 2 = padded_length bytes 2 short in
    let back : u2 n ≡ bytes ++ pad = back_2 (bytes ++ pad) (omega (arith, len)) all ∙ take_all 2 (bytes ++ pad) (omega (arith, len)) in
    let text : List ℕ = zeros n in
    let whole : u2 (length text) ++ text ≡ bytes ++ (pad ++ text) = ap (λ (k : ℕ). u2 k ++ text) (zeros_length n) ∙ ap (λ (prefix : List ℕ). prefix ++ text) back ∙ append_assoc bytes pad text in
    let fit : length text < 2 ^ 16 = omega (arith, zeros_length n, big_from-lt 0 2 (bytes ++ pad) all) in
    record { entry = Utf8 text; suffix = pad ++ text; tag_is = refl; fits = fit; encoded = sym whole; proper = λ e. absurd (omega (arith, ap length e, length-append pad text, zeros_length (2 - length bytes))) }

-- the text is cut off
text_cut : (bytes : List ℕ) (size : ℕ × List ℕ) → Takes bytes (u2 size.0) size.1 → size.0 < 2 ^ 16 → length size.1 < size.0 → CutBody TagUtf8 bytes
text_cut bytes size prefix lt short =
    let pad : List ℕ = zeros (size.0 - length size.1) in
    let text : List ℕ = size.1 ++ pad in
    let len : length text ≡ size.0 = padded_length size.1 size.0 short in
    let whole : bytes ++ pad ≡ u2 (length text) ++ text = ap (λ (t : List ℕ). t ++ pad) prefix.parts ∙ append_assoc (u2 size.0) size.1 pad ∙ ap (λ (k : ℕ). u2 k ++ text) (sym len) in
    record { entry = Utf8 text; suffix = pad; tag_is = refl; fits = omega (arith, len, lt); encoded = whole; proper = zeros_some (size.0 - length size.1) (omega (arith, short)) }

text_stops : (index : ℕ) (parts : List ℕ) (why : PoolRefusal) → text_entry index parts ≡ Err why → (why ≡ BadUtf8 index) × (IsModifiedUtf8 parts → ⊥)
text_stops index parts why e =
    elim (cases_Bool (is_modified_utf8 parts)) [
      | inl t ↦ absurd (no_failure (Utf8 parts) why (rw t at e))
      | inr f ↦ (sym (same_why {A = Const} (BadUtf8 index) why (rw f at e)), λ is. true_false (sym (text_again parts is) ∙ f))
    ]

abbrev with_rest : List ℕ → Result Const PoolRefusal → Result (Const × List ℕ) PoolRefusal
with_rest rest read = read >>= λ entry. Ok (entry, rest)

-- a whole text that was refused is none
text_bad : (index : ℕ) (bytes : List ℕ) (size : ℕ × List ℕ) (parts : List ℕ × List ℕ) (why : PoolRefusal) → Takes bytes (u2 size.0) size.1 → size.0 < 2 ^ 16 → Takes size.1 parts.0 parts.1 → length parts.0 ≡ size.0
    → with_rest parts.1 (text_entry index parts.0) ≡ Err why → (why ≡ BadUtf8 index) × (TagUtf8 ≡ TagUtf8) × BadBody bytes
text_bad index bytes size parts why prefix lt text len e =
    elim (bind_fails (text_entry index parts.0) _ why e) [
      | inr made ↦ absurd (no_failure (made.0, parts.1) why made.2)
      | inl bad ↦
          let t = text_stops index parts.0 why bad in
          let sized : Takes bytes (u2 (length parts.0)) size.1 = subst (λ (n : ℕ). Takes bytes (u2 n) size.1) (sym len) prefix in
          (t.0, refl, record { text = parts.0; more = parts.1; begins = (joined sized text).parts; fits = omega (arith, len, lt); not_text = t.1 })
    ]

text_fails : (index : ℕ) (bytes : List ℕ) (why : PoolRefusal) → IsBytes bytes → body_at index TagUtf8 bytes ≡ Err why → FailsBody index TagUtf8 bytes why
unfolding body_at size_at entry_of
text_fails index bytes why fits e =
    elim (bind_fails (u2_at bytes) _ why e) [
      | inl short ↦
          let s = number_fails Truncated 2 bytes why short in
          inl (s.1, size_cut bytes fits s.0)
      | inr size ↦
          let s = u2_takes Truncated bytes size.0 fits size.1 in
          elim (bind_fails (slice_at size.0.0 size.0.1) _ why size.2) [
            | inl short ↦
                let p = slice_fails Truncated size.0.0 size.0.1 why short in
                inl (p.1, text_cut bytes size.0 s.0 s.1 p.0)
            | inr parts ↦
                let p = slice_takes Truncated size.0.0 size.0.1 parts.0 s.0.rest_fits parts.1 in
                inr (text_bad index bytes size.0 parts.0 why s.0 s.1 p.0 p.1 parts.2)
          ]
    ]

no_size_failure : (tag : Tag) (bytes : List ℕ) (why : PoolRefusal) → IsFixed tag → size_at tag bytes ≡ Err why → ⊥
no_size_failure tag bytes why fixed e = no_failure (parts_size tag, bytes) why (sym (fixed_size tag bytes fixed) ∙ e)

fixed_fails : (index : ℕ) (tag : Tag) (bytes : List ℕ) (why : PoolRefusal) → IsFixed tag → IsBytes bytes → body_at index tag bytes ≡ Err why → FailsBody index tag bytes why
unfolding body_at
fixed_fails index tag bytes why fixed fits e =
    elim (bind_fails (size_at tag bytes) _ why e) [
      | inl none ↦ absurd (no_size_failure tag bytes why fixed none)
      | inr size ↦
          let s : size.0 ≡ pair (parts_size tag) bytes = ok_is size.0 (parts_size tag, bytes) (sym size.1 ∙ fixed_size tag bytes fixed) in
          elim (bind_fails (slice_at size.0.0 size.0.1) _ why size.2) [
            | inl short ↦
                let p = slice_fails Truncated (parts_size tag) bytes why (subst (λ (y : ℕ × List ℕ). slice_at y.0 y.1 ≡ Err why) s short) in
                inl (p.1, fixed_cut tag bytes fixed fits p.0)
            | inr parts ↦
                let p = slice_takes Truncated (parts_size tag) bytes parts.0 fits (subst (λ (y : ℕ × List ℕ). slice_at y.0 y.1 ≡ Ok parts.0) s parts.1) in
                let m = parts_made index tag parts.0.0 fixed p.2 p.1 in
                absurd (no_failure (m.entry, parts.0.1) why (sym (then_ok _ _ m.reads refl) ∙ parts.2))
          ]
    ]

fails_by : (index : ℕ) (tag : Tag) (bytes : List ℕ) (why : PoolRefusal) → IsBytes bytes → (tag ≡ TagUtf8) ⊎ IsFixed tag → body_at index tag bytes ≡ Err why → FailsBody index tag bytes why
fails_by index tag bytes why fits (inr fixed) e = fixed_fails index tag bytes why fixed fits e
fails_by index tag bytes why fits (inl is) e =
    subst (λ (t : Tag). FailsBody index t bytes why) (sym is) (text_fails index bytes why fits (subst (λ (t : Tag). body_at index t bytes ≡ Err why) is e))

pub body_fails : (index : ℕ) (tag : Tag) (bytes : List ℕ) (why : PoolRefusal) → IsBytes bytes → body_at index tag bytes ≡ Err why → FailsBody index tag bytes why
body_fails index tag bytes why fits e = fails_by index tag bytes why fits (text_or_fixed tag) e

-- ---- bytes that are missed

size_missed : (tag : Tag) (bytes : List ℕ) (why : PoolRefusal) → size_at tag bytes ≡ Err why → why ≡ Truncated
unfolding size_at
size_missed TagUtf8 bytes why e = (number_fails Truncated 2 bytes why e).1
size_missed tag bytes why e = absurd (no_failure (parts_size tag, bytes) why e)

pub size_stops : (index : ℕ) (tag : Tag) (bytes : List ℕ) (why : PoolRefusal) → size_at tag bytes ≡ Err why → ShowsGood (λ x. x) (Err why) (body_at index tag bytes)
unfolding body_at
size_stops index tag bytes why e = missed_shows why _ (size_missed tag bytes why e) (then_err _ e)

pub parts_stop : (index : ℕ) (tag : Tag) (bytes : List ℕ) (size : ℕ × List ℕ) (why : PoolRefusal) → size_at tag bytes ≡ Ok size → slice_at size.0 size.1 ≡ Err why → ShowsGood (λ x. x) (Err why) (body_at index tag bytes)
unfolding body_at
parts_stop index tag bytes size why at_size e = missed_shows why _ (slice_fails Truncated size.0 size.1 why e).1 (then_ok _ _ at_size (then_err _ e))
