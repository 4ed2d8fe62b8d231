-- An entry is read where it is encoded, and refused where it is refused.
use Rattle.std.proofs.Common.{◌≡◌, ℕ, ◌<◌, ◌≤◌, ltb, List, [], ◌∷◌, ◌++◌, Option, Some, None, Result, Ok, Err, refl, sym, ap, subst, ◌∙◌, arith, inl, inr}
use Rattle.std.proofs.lemmas.Bool.{cases_Bool, ltb-true, ltb-false, lt-ltb, le-ltb}
use Rattle.class_pool.specs.declared.pool.Const.{Const}
use Rattle.class_pool.specs.declared.pool.Const.TheVariants.{Utf8, Class}
use Rattle.class_pool.specs.declared.tag.Tag.{Tag}
use Rattle.class_pool.specs.declared.refusal.PoolRefusal.{PoolRefusal}
use Rattle.class_pool.specs.declared.refusal.PoolRefusal.TheVariants.{Truncated, BadTag, BadIndex, BadUtf8, Memory}
use Rattle.class_pool.specs.Pool.{FitsEntry, entry_bytes, width}
use Rattle.class_pool.specs.PoolRefused.{IsCut, IsBadTag, IsBadText, IsEntryRefused}
use Rattle.class_pool.specs.PoolReading.{tag_byte, tag_of_byte, tag_width, body_at, tagged_at, entry_at}
use Rattle.byte_read.proofs.Steps.{IsBytes, IsBytes-rest, same_why, no_failure, Takes}
use Rattle.class_pool.proofs.constant_pool.Parts.{tag_of, bytes_are, width_is, tag_back, same_tag, tag_says, sample}
use Rattle.class_pool.proofs.constant_pool.Bodies.{body, TakesBody, FailsBody, body_again, body_cut, body_bad, body_taken, body_fails}

-- ---- heads and tails

heads : {A : Type 0} (x y : A) (xs ys : List A) → x ∷ xs ≡ y ∷ ys → x ≡ y
heads x y xs ys e = cc

tails : {A : Type 0} (x y : A) (xs ys : List A) → x ∷ xs ≡ y ∷ ys → xs ≡ ys
tails x y xs ys e = cc

no_tag : (tag : Tag) → None ≡ Some tag → ⊥
no_tag tag e = cc

-- ---- the test of room

abbrev tested : ℕ → ℕ → Tag → List ℕ → Result (Const × List ℕ) PoolRefusal
tested index room tag bytes = tagged_at index room (Some tag) bytes

has_room : (index room : ℕ) (tag : Tag) (bytes : List ℕ) → tag_width tag ≤ room → tested index room tag bytes ≡ body_at index tag bytes
has_room index room tag bytes le = rw (le-ltb room (tag_width tag) le) refl

no_room : (index room : ℕ) (tag : Tag) (bytes : List ℕ) → room < tag_width tag → tested index room tag bytes ≡ Err (BadTag index)
no_room index room tag bytes lt = rw (lt-ltb room (tag_width tag) lt) refl

-- after a tag with room stands its body
pub after_tag : (index room : ℕ) (entry : Const) (bytes : List ℕ) → width entry ≤ room → entry_at index room (tag_byte (tag_of entry) ∷ bytes) ≡ body_at index (tag_of entry) bytes
unfolding entry_at
after_tag index room entry bytes le =
    ap (λ (tag : Option Tag). tagged_at index room tag bytes) (tag_back (tag_of entry)) ∙ has_room index room (tag_of entry) bytes (subst (λ (n : ℕ). n ≤ room) (width_is entry) le)

-- ---- what is encoded is read

pub entry_read : (index room : ℕ) (entry : Const) (rest : List ℕ) → FitsEntry entry → width entry ≤ room → entry_at index room (entry_bytes entry ++ rest) ≡ Ok (entry, rest)
entry_read index room entry rest fits le =
    ap (λ (bytes : List ℕ). entry_at index room (bytes ++ rest)) (bytes_are entry) ∙ after_tag index room entry (body entry ++ rest) le ∙ body_again index entry rest fits

-- ---- what is refused is refused

cut_again : (index room : ℕ) (bytes : List ℕ) → IsCut room bytes → entry_at index room bytes ≡ Err Truncated
unfolding entry_at
cut_again index room [] c = refl
cut_again index room (byte ∷ bytes) c =
    let whole : byte ∷ (bytes ++ c.suffix) ≡ tag_byte (tag_of c.entry) ∷ body c.entry = c.encoded ∙ bytes_are c.entry in
    let first : byte ≡ tag_byte (tag_of c.entry) = heads byte (tag_byte (tag_of c.entry)) (bytes ++ c.suffix) (body c.entry) whole in
    let others : bytes ++ c.suffix ≡ body c.entry = tails byte (tag_byte (tag_of c.entry)) (bytes ++ c.suffix) (body c.entry) whole in
    ap (λ (b : ℕ). entry_at index room (b ∷ bytes)) first ∙ after_tag index room c.entry bytes c.has_room ∙ body_cut index c.entry bytes c.suffix c.fits others c.proper

abbrev NoEntry : ℕ → ℕ → Type 0
NoEntry room byte = (entry : Const) (parts : List ℕ) → entry_bytes entry ≡ byte ∷ parts → room < width entry

bad_by : (index room byte : ℕ) (bytes : List ℕ) (tag : Option Tag) → tag_of_byte byte ≡ tag → NoEntry room byte → tagged_at index room tag bytes ≡ Err (BadTag index)
bad_by index room byte bytes None e none = refl
bad_by index room byte bytes (Some tag) e none =
    let entry = sample tag in
    let encoded : entry_bytes entry.0 ≡ byte ∷ body entry.0 = bytes_are entry.0 ∙ ap (λ (b : ℕ). b ∷ body entry.0) (ap tag_byte entry.1 ∙ sym (tag_says byte tag e)) in
    let wide : tag_width tag ≡ width entry.0 = ap tag_width (sym entry.1) ∙ sym (width_is entry.0) in
    no_room index room tag bytes (subst (λ (n : ℕ). room < n) (sym wide) (none entry.0 (body entry.0) encoded))

bad_tag_again : (index room : ℕ) (bytes : List ℕ) → IsBadTag room bytes → entry_at index room bytes ≡ Err (BadTag index)
unfolding entry_at
bad_tag_again index room bytes b = ap (entry_at index room) b.begins ∙ bad_by index room b.tag b.more (tag_of_byte b.tag) refl b.no_entry

bad_text_again : (index room : ℕ) (bytes : List ℕ) → 1 ≤ room → IsBadText bytes → entry_at index room bytes ≡ Err (BadUtf8 index)
bad_text_again index room bytes some b =
    ap (entry_at index room) b.begins ∙ after_tag index room (Utf8 b.text) (body (Utf8 b.text) ++ b.more) some ∙ body_bad index b.text b.more b.fits b.not_text

abbrev failed : PoolRefusal → Result (Const × List ℕ) PoolRefusal
failed why = Err why

pub entry_refused : (index room : ℕ) (bytes : List ℕ) (why : PoolRefusal) → 1 ≤ room → IsEntryRefused index room bytes why → entry_at index room bytes ≡ Err why
entry_refused index room bytes Truncated some r = cut_again index room bytes r
entry_refused index room bytes (BadTag bad) some r = bad_tag_again index room bytes r.1 ∙ ap (λ (n : ℕ). failed (BadTag n)) (sym r.0)
entry_refused index room bytes (BadUtf8 bad) some r = bad_text_again index room bytes some r.1 ∙ ap (λ (n : ℕ). failed (BadUtf8 n)) (sym r.0)
entry_refused index room bytes (BadIndex bad) some r = absurd r
entry_refused index room bytes Memory some r = absurd r

-- ---- what was read is encoded so

pub record TakesEntry (room : ℕ) (bytes : List ℕ) (x : Const × List ℕ) : Type 0 where
  pub takes : Takes bytes (entry_bytes x.0) x.1
  pub fits : FitsEntry x.0
  pub has_room : width x.0 ≤ room

entry_made : (room byte : ℕ) (bytes : List ℕ) (x : Const × List ℕ) (tag : Tag) → tag_of_byte byte ≡ Some tag → tag_width tag ≤ room → TakesBody tag bytes x → TakesEntry room (byte ∷ bytes) x
entry_made room byte bytes x tag e le t =
    let first : byte ≡ tag_byte (tag_of x.0) = tag_says byte tag e ∙ ap tag_byte (sym t.tag_is) in
    let parts : byte ∷ bytes ≡ entry_bytes x.0 ++ x.1 = ap (λ (b : ℕ). b ∷ bytes) first ∙ ap (λ (rest : List ℕ). tag_byte (tag_of x.0) ∷ rest) t.takes.parts ∙ ap (λ (text : List ℕ). text ++ x.1) (sym (bytes_are x.0)) in
    let wide : tag_width tag ≡ width x.0 = ap tag_width (sym t.tag_is) ∙ sym (width_is x.0) in
    record { takes = record { parts = parts; rest_fits = t.takes.rest_fits }; fits = t.fits; has_room = subst (λ (n : ℕ). n ≤ room) wide le }

taken_by : (index room byte : ℕ) (bytes : List ℕ) (x : Const × List ℕ) (tag : Option Tag) → IsBytes bytes → tag_of_byte byte ≡ tag → tagged_at index room tag bytes ≡ Ok x → TakesEntry room (byte ∷ bytes) x
taken_by index room byte bytes x None fits is e = absurd cc
taken_by index room byte bytes x (Some tag) fits is e =
    elim (cases_Bool (ltb room (tag_width tag))) [
      | inl t ↦ absurd (no_failure x (BadTag index) (sym (rw t at e)))
      | inr f ↦ entry_made room byte bytes x tag is (ltb-false _ _ f) (body_taken index tag bytes x fits (rw f at e))
    ]

pub entry_taken : (index room : ℕ) (bytes : List ℕ) (x : Const × List ℕ) → IsBytes bytes → entry_at index room bytes ≡ Ok x → TakesEntry room bytes x
unfolding entry_at
entry_taken index room [] x fits e = absurd cc
entry_taken index room (byte ∷ bytes) x fits e = taken_by index room byte bytes x (tag_of_byte byte) (IsBytes-rest byte bytes fits) refl e

-- ---- what was refused is refused so

nothing_there : (room : ℕ) → 1 ≤ room → IsCut room []
nothing_there room some = record { entry = Class 0; suffix = entry_bytes (Class 0); fits = omega arith; has_room = some; encoded = refl; proper = λ e. cc }

-- a tag that was refused is that of no entry with room
unknown : (room byte : ℕ) → tag_of_byte byte ≡ None → NoEntry room byte
unknown room byte none entry parts e =
    let first : tag_byte (tag_of entry) ≡ byte = heads (tag_byte (tag_of entry)) byte (body entry) parts (sym (bytes_are entry) ∙ e) in
    absurd (no_tag (tag_of entry) (sym none ∙ ap tag_of_byte (sym first) ∙ tag_back (tag_of entry)))

too_wide : (room byte : ℕ) (tag : Tag) → tag_of_byte byte ≡ Some tag → room < tag_width tag → NoEntry room byte
too_wide room byte tag is lt entry parts e =
    let first : tag_byte (tag_of entry) ≡ byte = heads (tag_byte (tag_of entry)) byte (body entry) parts (sym (bytes_are entry) ∙ e) in
    let same : tag ≡ tag_of entry = same_tag tag (tag_of entry) (sym is ∙ ap tag_of_byte (sym first) ∙ tag_back (tag_of entry)) in
    subst (λ (n : ℕ). room < n) (ap tag_width same ∙ sym (width_is entry)) lt

bad_tag : (index room byte : ℕ) (bytes : List ℕ) (why : PoolRefusal) → why ≡ BadTag index → NoEntry room byte → IsEntryRefused index room (byte ∷ bytes) why
bad_tag index room byte bytes why is none =
    subst (IsEntryRefused index room (byte ∷ bytes)) (sym is) (refl, record { tag = byte; more = bytes; begins = refl; no_entry = none })

body_failed : (index room byte : ℕ) (bytes : List ℕ) (why : PoolRefusal) (tag : Tag) → tag_of_byte byte ≡ Some tag → tag_width tag ≤ room → FailsBody index tag bytes why → IsEntryRefused index room (byte ∷ bytes) why
body_failed index room byte bytes why tag is le (inl cut) =
    let c = cut.1 in
    let first : byte ≡ tag_byte (tag_of c.entry) = tag_says byte tag is ∙ ap tag_byte (sym c.tag_is) in
    let encoded : byte ∷ (bytes ++ c.suffix) ≡ entry_bytes c.entry = ap (λ (b : ℕ). b ∷ (bytes ++ c.suffix)) first ∙ ap (λ (rest : List ℕ). tag_byte (tag_of c.entry) ∷ rest) c.encoded ∙ sym (bytes_are c.entry) in
    let wide : tag_width tag ≡ width c.entry = ap tag_width (sym c.tag_is) ∙ sym (width_is c.entry) in
    let is_cut : IsCut room (byte ∷ bytes) = record { entry = c.entry; suffix = c.suffix; fits = c.fits; has_room = subst (λ (n : ℕ). n ≤ room) wide le; encoded = encoded; proper = c.proper } in
    subst (IsEntryRefused index room (byte ∷ bytes)) (sym cut.0) is_cut
body_failed index room byte bytes why tag is le (inr bad) =
    let b = bad.2 in
    let first : byte ≡ 1 = tag_says byte tag is ∙ ap tag_byte bad.1 in
    let begins : byte ∷ bytes ≡ entry_bytes (Utf8 b.text) ++ b.more = ap (λ (n : ℕ). n ∷ bytes) first ∙ ap (λ (rest : List ℕ). 1 ∷ rest) b.begins in
    let is_bad : IsBadText (byte ∷ bytes) = record { text = b.text; more = b.more; begins = begins; fits = b.fits; not_text = b.not_text } in
    subst (IsEntryRefused index room (byte ∷ bytes)) (sym bad.0) (refl, is_bad)

fails_by : (index room byte : ℕ) (bytes : List ℕ) (why : PoolRefusal) (tag : Option Tag) → IsBytes bytes → tag_of_byte byte ≡ tag → tagged_at index room tag bytes ≡ Err why → IsEntryRefused index room (byte ∷ bytes) why
fails_by index room byte bytes why None fits is e = bad_tag index room byte bytes why (sym (same_why {A = Const × List ℕ} (BadTag index) why e)) (unknown room byte is)
fails_by index room byte bytes why (Some tag) fits is e =
    elim (cases_Bool (ltb room (tag_width tag))) [
      | inl t ↦ bad_tag index room byte bytes why (sym (same_why {A = Const × List ℕ} (BadTag index) why (rw t at e))) (too_wide room byte tag is (ltb-true _ _ t))
      | inr f ↦ body_failed index room byte bytes why tag is (ltb-false _ _ f) (body_fails index tag bytes why fits (rw f at e))
    ]

pub entry_fails : (index room : ℕ) (bytes : List ℕ) (why : PoolRefusal) → 1 ≤ room → IsBytes bytes → entry_at index room bytes ≡ Err why → IsEntryRefused index room bytes why
unfolding entry_at
entry_fails index room [] why some fits e = subst (IsEntryRefused index room []) (same_why {A = Const × List ℕ} Truncated why e) (nothing_there room some)
entry_fails index room (byte ∷ bytes) why some fits e = fails_by index room byte bytes why (tag_of_byte byte) (IsBytes-rest byte bytes fits) refl e
