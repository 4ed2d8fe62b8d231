-- All the bytes: what an answer says of them, and which answer encodings get.
use Rattle.std.proofs.Common.{◌≡◌, ◌≢◌, ◌↔◌, ℕ, ◌+◌, ◌^◌, ◌<◌, Bool, true, false, cond, eqb, List, [], ◌++◌, length, take, drop, Result, Ok, Err, refl, sym, ap, subst, ◌∙◌, append_assoc, arith}
use Rattle.std.specs.Str.{bytes_eq}
use Rattle.std.proofs.lemmas.Bool.{eqb-true, eq-eqb, false_from_ne_true, eqb-false}
use Rattle.std.proofs.lemmas.List.{append-nil, take-append-drop, take_at, drop_at, nil_from_length, get_or-drop}
use Rattle.std.proofs.lemmas.Slice.Eq.{bytes_eq-Decides}
use Rattle.image_instr.specs.Insn.{u2}
use Rattle.image_form.specs.declared.record.Image.{Image}
use Rattle.image_form.specs.declared.refusal.FormRefusal.{FormRefusal}
use Rattle.image_form.specs.declared.refusal.FormRefusal.TheVariants.{NotInfusion, FormVersion, Truncated, TrailingBytes, BadTable, Memory}
use Rattle.image_form.specs.Format.{magic, encoding}
use Rattle.image_form.specs.Grammar.{IsImage, IsEncoded, IsFollowed}
use Rattle.byte_read.specs.Reading.{◌>>=◌}
use Rattle.image_form.specs.Reading.{u2_at, parts_at, whole_of, versioned, image_of}
use Rattle.image_form.specs.Refused.{HasVersion, IsRefused}
use Rattle.byte_read.proofs.Steps.{IsBytes, then_ok, ok_is}
use Rattle.image_form.proofs.format.Readers.{IsOfTables, Refuses, u2_reads}
use Rattle.image_form.proofs.format.ImageParts.{part_bytes, match_rows, image_reads}

-- ---- the end of the bytes

abbrev pub ends : Image × List ℕ → Result Image FormRefusal
ends x = cond (eqb (length x.1) 0) (Ok x.0) (Err TrailingBytes)

some_left : (rest : List ℕ) → rest ≢ [] → eqb (length rest) 0 ≡ false
some_left rest some = false_from_ne_true (eqb (length rest) 0) (λ e. some (nil_from_length rest (eqb-true _ _ e)))

ends_followed : (image : Image) (rest : List ℕ) → rest ≢ [] → ends (image, rest) ≡ Err TrailingBytes
ends_followed image rest some = ap (λ (b : Bool). cond b (Ok image) (Err TrailingBytes)) (some_left rest some)

end_passes : (b : Bool) (x y : Image) → cond b (Ok x) (Err TrailingBytes) ≡ Ok y → (b ≡ true) × (x ≡ y)
end_passes true x y e = (refl, ok_is x y e)
end_passes false x y e = absurd cc

end_fails : (b : Bool) (x : Image) (why : FormRefusal) → cond b (Ok x) (Err TrailingBytes) ≡ Err why → (b ≡ false) × (TrailingBytes ≡ why)
end_fails true x why e = absurd cc
end_fails false x why e = (refl, cc)

-- ---- the image with bytes after it

in_turn : {A B C : Type 0} (r : Result A FormRefusal) (f : A → Result B FormRefusal) (g : B → Result C FormRefusal) → (r >>= λ x. f x >>= g) ≡ ((r >>= f) >>= g)
in_turn (Ok x) f g = refl
in_turn (Err why) f g = refl

pub whole_is : (bytes : List ℕ) → whole_of bytes ≡ ((parts_at bytes >>= match_rows) >>= ends)
unfolding whole_of
whole_is bytes = in_turn (parts_at bytes) match_rows ends

whole_again : (image : Image) (rest : List ℕ) → IsImage image → whole_of (part_bytes image ++ rest) ≡ ends (image, rest)
whole_again image rest h = whole_is (part_bytes image ++ rest) ∙ then_ok ends _ (image_reads.again image rest h) refl

version_again : (version : ℕ) (rest : List ℕ) → version < 2 ^ 16 → versioned (u2 version ++ rest) ≡ cond (eqb version 1) (whole_of rest) (Err (FormVersion version))
unfolding versioned
version_again version rest lt = then_ok (λ (x : ℕ × List ℕ). cond (eqb x.0 1) (whole_of x.1) (Err (FormVersion x.0))) _ (u2_reads.again version rest lt) refl

magic_again : (rest : List ℕ) → image_of (magic ++ rest) ≡ versioned rest
unfolding image_of
magic_again rest =
    let prefix : bytes_eq (take 4 (magic ++ rest)) magic ≡ true = (bytes_eq-Decides (take 4 (magic ++ rest)) magic).1 (take_at magic rest 4 refl) in
    let back : drop 4 (magic ++ rest) ≡ rest = drop_at magic rest 4 refl in
    ap (λ (b : Bool). cond b (versioned (drop 4 (magic ++ rest))) (Err NotInfusion)) prefix ∙ ap versioned back

-- the bytes after the magic
abbrev versioned_bytes : Image → List ℕ
versioned_bytes image = u2 image.version ++ part_bytes image

encoding_again : (image : Image) (rest : List ℕ) → IsImage image → image_of (encoding image ++ rest) ≡ ends (image, rest)
encoding_again image rest h =
    let apart : encoding image ++ rest ≡ magic ++ (u2 image.version ++ (part_bytes image ++ rest)) =
    append_assoc magic (versioned_bytes image) rest ∙ ap (λ (text : List ℕ). magic ++ text) (append_assoc (u2 image.version) (part_bytes image) rest)
    in
    ap image_of apart
    ∙ magic_again (u2 image.version ++ (part_bytes image ++ rest))
    ∙ version_again image.version (part_bytes image ++ rest) (omega (arith, h.version_is))
    ∙ ap (λ (b : Bool). cond b (whole_of (part_bytes image ++ rest)) (Err (FormVersion image.version))) (eq-eqb image.version 1 h.version_is)
    ∙ whole_again image rest h

-- ---- what bytes may be

-- the bytes are no infusion, or of another version, or fail a table, or begin with the encoding of an image
pub data Outcome (bytes : List ℕ) : Type 0 where
  foreign : take 4 bytes ≢ magic → image_of bytes ≡ Err NotInfusion → Outcome bytes
  other_version : (version : ℕ) → HasVersion bytes version → version ≢ 1 → image_of bytes ≡ Err (FormVersion version) → Outcome bytes
  failed : (why : FormRefusal) → IsOfTables why → image_of bytes ≡ Err why → Outcome bytes
  encoded : (image : Image) (suffix : List ℕ) → IsImage image → bytes ≡ encoding image ++ suffix → image_of bytes ≡ ends (image, suffix) → Outcome bytes

abbrev to_ends : Result (Image × List ℕ) FormRefusal → Result Image FormRefusal
to_ends r = r >>= ends

whole_outcome : (bytes rest : List ℕ) (r : Result (Image × List ℕ) FormRefusal) → IsBytes rest → bytes ≡ magic ++ (u2 1 ++ rest) → image_of bytes ≡ to_ends r → (parts_at rest >>= match_rows) ≡ r → Refuses r → Outcome bytes
whole_outcome bytes rest (Err why) fits parts answers e h = failed why h answers
whole_outcome bytes rest (Ok x) fits parts answers e h =
    let t = image_reads.taken rest x fits e in
    let one : 1 ≡ x.0.version = sym t.is.version_is in
    let text : bytes ≡ magic ++ (u2 x.0.version ++ (part_bytes x.0 ++ x.1)) = parts ∙ ap (λ (back : List ℕ). magic ++ (u2 1 ++ back)) t.parts ∙ ap (λ (n : ℕ). magic ++ (u2 n ++ (part_bytes x.0 ++ x.1))) one in
    let joined : magic ++ (u2 x.0.version ++ (part_bytes x.0 ++ x.1)) ≡ encoding x.0 ++ x.1 =
    ap (λ (back : List ℕ). magic ++ back) (sym (append_assoc (u2 x.0.version) (part_bytes x.0) x.1)) ∙ sym (append_assoc magic (versioned_bytes x.0) x.1)
    in
    encoded x.0 x.1 t.is (text ∙ joined) answers

one_or_other : (bytes rest : List ℕ) (version : ℕ) (one : Bool) → IsBytes rest → version < 2 ^ 16 → bytes ≡ magic ++ (u2 version ++ rest) → eqb version 1 ≡ one → image_of bytes ≡ cond one (whole_of rest) (Err (FormVersion version)) → Outcome bytes
one_or_other bytes rest version true fits lt parts test answers =
    let is : version ≡ 1 = eqb-true _ _ test in
    whole_outcome bytes rest (parts_at rest >>= match_rows) fits (parts ∙ ap (λ (n : ℕ). magic ++ (u2 n ++ rest)) is) (answers ∙ whole_is rest) refl (image_reads.refuses rest)
one_or_other bytes rest version false fits lt parts test answers =
    let six : take 6 bytes ≡ magic ++ u2 version = ap (take 6) (parts ∙ sym (append_assoc magic (u2 version) rest)) ∙ take_at (magic ++ u2 version) rest 6 refl in
    other_version version (lt, six) (eqb-false _ _ test) answers

version_fails : (rest : List ℕ) (why : FormRefusal) → u2_at rest ≡ Err why → versioned rest ≡ Err why
unfolding versioned
version_fails rest why e = rw e refl

versioned_outcome : (bytes rest : List ℕ) (r : Result (ℕ × List ℕ) FormRefusal) → IsBytes rest → bytes ≡ magic ++ rest → u2_at rest ≡ r → Refuses r → Outcome bytes
versioned_outcome bytes rest (Err why) fits parts e h =
    failed why h (ap image_of parts ∙ magic_again rest ∙ version_fails rest why e)
versioned_outcome bytes rest (Ok x) fits parts e h =
    let t = u2_reads.taken rest x fits e in
    let text : bytes ≡ magic ++ (u2 x.0 ++ x.1) = parts ∙ ap (λ (back : List ℕ). magic ++ back) t.parts in
    one_or_other bytes x.1 x.0 (eqb x.0 1) t.rest_fits t.is text refl (ap image_of text ∙ magic_again (u2 x.0 ++ x.1) ∙ version_again x.0 x.1 t.is)

foreign_fails : (bytes : List ℕ) → bytes_eq (take 4 bytes) magic ≡ false → image_of bytes ≡ Err NotInfusion
unfolding image_of
foreign_fails bytes e = rw e refl

magic_outcome : (bytes : List ℕ) (prefix : Bool) → IsBytes bytes → bytes_eq (take 4 bytes) magic ≡ prefix → Outcome bytes
magic_outcome bytes true fits e =
    let is : take 4 bytes ≡ magic = (bytes_eq-Decides (take 4 bytes) magic).0 e in
    let parts : bytes ≡ magic ++ drop 4 bytes = sym (take-append-drop 4 bytes) ∙ ap (λ (prefix : List ℕ). prefix ++ drop 4 bytes) is in
    versioned_outcome bytes (drop 4 bytes) (u2_at (drop 4 bytes)) (λ i. rw get_or-drop (fits (4 + i))) parts refl (u2_reads.refuses (drop 4 bytes))
magic_outcome bytes false fits e = foreign (λ is. clash (sym e ∙ (bytes_eq-Decides (take 4 bytes) magic).1 is)) (foreign_fails bytes e)
  where
    clash : false ≡ true → ⊥
    clash e = cc

outcome : (bytes : List ℕ) → IsBytes bytes → Outcome bytes
outcome bytes fits = magic_outcome bytes (bytes_eq (take 4 bytes) magic) fits refl

-- ---- an image

pub encoding_reads : (bytes : List ℕ) (image : Image) → IsEncoded bytes image → image_of bytes ≡ Ok image
encoding_reads bytes image s = ap image_of (s.1 ∙ sym (append-nil (encoding image))) ∙ encoding_again image [] s.0

no_image : (bytes : List ℕ) (image : Image) (why : FormRefusal) → image_of bytes ≡ Err why → image_of bytes ≡ Ok image → ⊥
no_image bytes image why e h = cc

encoded_by : (bytes : List ℕ) (image found : Image) (suffix : List ℕ) → IsImage found → bytes ≡ encoding found ++ suffix → ends (found, suffix) ≡ Ok image → IsEncoded bytes image
encoded_by bytes image found suffix h parts e =
    let p = end_passes (eqb (length suffix) 0) found image e in
    let none : suffix ≡ [] = nil_from_length suffix (eqb-true _ _ p.0) in
    subst (IsEncoded bytes) p.1 (h, parts ∙ ap (λ (rest : List ℕ). encoding found ++ rest) none ∙ append-nil (encoding found))

encoded_from : (bytes : List ℕ) (image : Image) → image_of bytes ≡ Ok image → Outcome bytes → IsEncoded bytes image
encoded_from bytes image e (foreign h answers) = absurd (no_image bytes image NotInfusion answers e)
encoded_from bytes image e (other_version version h other answers) = absurd (no_image bytes image (FormVersion version) answers e)
encoded_from bytes image e (failed why h answers) = absurd (no_image bytes image why answers e)
encoded_from bytes image e (encoded found suffix h parts answers) = encoded_by bytes image found suffix h parts (sym answers ∙ e)

pub read_is_encoding : (bytes : List ℕ) (image : Image) → IsBytes bytes → image_of bytes ≡ Ok image → IsEncoded bytes image
read_is_encoding bytes image fits e = encoded_from bytes image e (outcome bytes fits)

-- ---- refusals

pub followed_reads : (bytes : List ℕ) → IsFollowed bytes → image_of bytes ≡ Err TrailingBytes
followed_reads bytes f = ap image_of f.encoded ∙ encoding_again f.image f.suffix f.of_grammar ∙ ends_followed f.image f.suffix f.proper

foreign_reads : (bytes : List ℕ) → take 4 bytes ≢ magic → image_of bytes ≡ Err NotInfusion
foreign_reads bytes h = foreign_fails bytes (false_from_ne_true (bytes_eq (take 4 bytes) magic) (λ e. h ((bytes_eq-Decides (take 4 bytes) magic).0 e)))

version_reads : (bytes : List ℕ) (version : ℕ) → HasVersion bytes version → version ≢ 1 → image_of bytes ≡ Err (FormVersion version)
version_reads bytes version h other =
    let rest : List ℕ = drop 6 bytes in
    let text : bytes ≡ magic ++ (u2 version ++ rest) = sym (take-append-drop 6 bytes) ∙ ap (λ (prefix : List ℕ). prefix ++ rest) h.1 ∙ append_assoc magic (u2 version) rest in
    ap image_of text
    ∙ magic_again (u2 version ++ rest)
    ∙ version_again version rest h.0
    ∙ ap (λ (b : Bool). cond b (whole_of rest) (Err (FormVersion version))) (false_from_ne_true (eqb version 1) (λ e. other (eqb-true _ _ e)))

pub refused_reads : (bytes : List ℕ) (why : FormRefusal) → IsRefused bytes why → image_of bytes ≡ Err why
refused_reads bytes NotInfusion h = foreign_reads bytes h
refused_reads bytes (FormVersion version) h = version_reads bytes version h.0 h.1
refused_reads bytes Truncated h = h
refused_reads bytes TrailingBytes h = followed_reads bytes h
refused_reads bytes (BadTable table index) h = h
refused_reads bytes Memory h = absurd h

abbrev pub refusal : FormRefusal → Result Image FormRefusal
refusal why = Err why

pub same_refusal : (first second : FormRefusal) → refusal first ≡ refusal second → first ≡ second
same_refusal first second e = cc

refused_as : (bytes : List ℕ) (first second : FormRefusal) → image_of bytes ≡ Err first → image_of bytes ≡ Err second → IsRefused bytes first → IsRefused bytes second
refused_as bytes first second e h refused = subst (IsRefused bytes) (same_refusal first second (sym e ∙ h)) refused

of_tables : (bytes : List ℕ) (why : FormRefusal) → IsOfTables why → image_of bytes ≡ Err why → IsRefused bytes why
of_tables bytes NotInfusion h e = absurd h
of_tables bytes (FormVersion version) h e = absurd h
of_tables bytes Truncated h e = e
of_tables bytes TrailingBytes h e = absurd h
of_tables bytes (BadTable table index) h e = e
of_tables bytes Memory h e = absurd h

left_some : (suffix : List ℕ) → eqb (length suffix) 0 ≡ false → suffix ≢ []
left_some suffix e none = eqb-false _ _ e (ap length none)

followed_by : (bytes : List ℕ) (why : FormRefusal) (found : Image) (suffix : List ℕ) → IsImage found → bytes ≡ encoding found ++ suffix → ends (found, suffix) ≡ Err why → IsRefused bytes why
followed_by bytes why found suffix h parts e =
    let p = end_fails (eqb (length suffix) 0) found why e in
    subst (IsRefused bytes) p.1 (record { image = found; suffix = suffix; of_grammar = h; encoded = parts; proper = left_some suffix p.0 })

refused_from : (bytes : List ℕ) (why : FormRefusal) → image_of bytes ≡ Err why → Outcome bytes → IsRefused bytes why
refused_from bytes why e (foreign h answers) = refused_as bytes NotInfusion why answers e h
refused_from bytes why e (other_version version h other answers) = refused_as bytes (FormVersion version) why answers e (h, other)
refused_from bytes why e (failed found h answers) = refused_as bytes found why answers e (of_tables bytes found h answers)
refused_from bytes why e (encoded found suffix h parts answers) = followed_by bytes why found suffix h parts (sym answers ∙ e)

pub read_is_refused : (bytes : List ℕ) (why : FormRefusal) → IsBytes bytes → image_of bytes ≡ Err why → IsRefused bytes why
read_is_refused bytes why fits e = refused_from bytes why e (outcome bytes fits)

pub refused_iff : (bytes : List ℕ) (why : FormRefusal) → IsBytes bytes → IsRefused bytes why ↔ image_of bytes ≡ Err why
refused_iff bytes why fits = (refused_reads bytes why, read_is_refused bytes why fits)

-- reading as a function has memory
pub memory_serves : (bytes : List ℕ) → IsBytes bytes → image_of bytes ≢ Err Memory
memory_serves bytes fits e = read_is_refused bytes Memory fits e

-- ---- encodings

pub one_image : (bytes : List ℕ) (first second : Image) → IsEncoded bytes first → IsEncoded bytes second → first ≡ second
one_image bytes first second s t = ok_is first second (sym (encoding_reads bytes first s) ∙ encoding_reads bytes second t)

no_prefix_by : (first second : Image) (suffix : List ℕ) → ends (first, suffix) ≡ Ok second → suffix ≡ []
no_prefix_by first second suffix e = nil_from_length suffix (eqb-true _ _ (end_passes (eqb (length suffix) 0) first second e).0)

pub no_prefix : (first second : Image) (suffix : List ℕ) → IsImage first → IsImage second → encoding first ++ suffix ≡ encoding second → suffix ≡ []
no_prefix first second suffix s t e = no_prefix_by first second suffix (sym (encoding_again first suffix s) ∙ encoding_reads (encoding first ++ suffix) second (t, e))
