-- Prefixes of bytes: what reading says of a prefix, and what it says of the whole.
use Rattle.std.proofs.Common.{◌≡◌, ◌⊎◌, ℕ, ◌<◌, ◌≤◌, Bool, true, false, cond, eqb, List, ◌++◌, length, take, drop, Result, Ok, Err, refl, sym, ap, subst, ◌∙◌, arith, inl, inr, length-append, length-take, length-drop}
use Rattle.std.specs.Str.{bytes_eq}
use Rattle.std.proofs.lemmas.Bool.{cases_lt, ne_eqb}
use Rattle.std.proofs.lemmas.List.{take-append-le, drop-append-le}
use Rattle.std.proofs.lemmas.Slice.Eq.{bytes_eq-Decides}
use Rattle.image_form.specs.declared.record.Image.{Image}
use Rattle.image_form.specs.declared.refusal.FormRefusal.{FormRefusal}
use Rattle.image_form.specs.declared.refusal.FormRefusal.TheVariants.{NotInfusion, FormVersion, Truncated, TrailingBytes, BadTable, Memory}
use Rattle.image_form.specs.Format.{magic}
use Rattle.image_form.specs.Grammar.{IsEncoded}
use Rattle.byte_read.specs.Reading.{◌>>=◌}
use Rattle.image_form.specs.Reading.{u2_at, parts_at, whole_of, versioned, image_of}
use Rattle.image_form.specs.Refused.{HasVersion, IsRefused}
use Rattle.image_form.specs.Prefixes.{IsFault}
use Rattle.byte_read.proofs.Steady.{Persists}
use Rattle.byte_read.proofs.Steps.{number_short, then_ok}
use Rattle.image_form.proofs.format.ImageParts.{match_rows}
use Rattle.image_form.proofs.format.Whole.{ends, whole_is, encoding_reads, refusal, same_refusal, refused_reads}
use Rattle.image_form.proofs.faults.PrefixesReaders.{all_parts, all_steady}

err_then : {A B : Type 0} {r : Result A FormRefusal} {why : FormRefusal} (f : A → Result B FormRefusal) → r ≡ Err why → (r >>= f) ≡ Err why
err_then f e = rw e refl

clash : (r : Result Image FormRefusal) (image : Image) (why : FormRefusal) → r ≡ Ok image → r ≡ Err why → ⊥
clash r image why e h = cc

-- ---- after the magic

one_way : (version : ℕ) (bytes : List ℕ) (one : Bool)
    → cond one (whole_of bytes) (Err (FormVersion version)) ≡ (cond one (parts_at bytes >>= match_rows) (Err (FormVersion version)) >>= ends)
one_way version bytes true = whole_is bytes
one_way version bytes false = refl

either_way : (r : Result (ℕ × List ℕ) FormRefusal)
    → (r >>= λ x. cond (eqb x.0 1) (whole_of x.1) (Err (FormVersion x.0))) ≡ ((r >>= λ x. cond (eqb x.0 1) (parts_at x.1 >>= match_rows) (Err (FormVersion x.0))) >>= ends)
either_way (Ok x) = one_way x.0 x.1 (eqb x.0 1)
either_way (Err why) = refl

-- all parts are read, and then nothing is after them
versioned_is : (bytes : List ℕ) → versioned bytes ≡ (all_parts bytes >>= ends)
unfolding versioned
versioned_is bytes = either_way (u2_at bytes)

-- what is said of a prefix: it is truncated, it has a fault that the whole has, or all parts stand in it
data Prefix (prefix rest : List ℕ) : Type 0 where
  cut : versioned prefix ≡ Err Truncated → Prefix prefix rest
  faulty : (why : FormRefusal) → versioned prefix ≡ Err why → versioned (prefix ++ rest) ≡ Err why → Prefix prefix rest
  full : (x : Image × List ℕ) → versioned prefix ≡ ends x → versioned (prefix ++ rest) ≡ ends (x.0, x.1 ++ rest) → Prefix prefix rest

prefix_by : (prefix rest : List ℕ) (r longer : Result (Image × List ℕ) FormRefusal) → all_parts prefix ≡ r → all_parts (prefix ++ rest) ≡ longer → Persists Truncated rest r longer → Prefix prefix rest
prefix_by prefix rest (Ok x) longer e h stands = full x (versioned_is prefix ∙ then_ok ends _ e refl) (versioned_is (prefix ++ rest) ∙ then_ok ends _ (h ∙ stands) refl)
prefix_by prefix rest (Err why) longer e h (inl missed) = cut (versioned_is prefix ∙ err_then ends e ∙ ap refusal missed)
prefix_by prefix rest (Err why) longer e h (inr same) = faulty why (versioned_is prefix ∙ err_then ends e) (versioned_is (prefix ++ rest) ∙ err_then ends (h ∙ same))

prefix_is : (prefix rest : List ℕ) → Prefix prefix rest
prefix_is prefix rest = prefix_by prefix rest (all_parts prefix) (all_parts (prefix ++ rest)) refl refl (all_steady.persists prefix rest)

-- ---- the magic

magic_or_not : (b : Bool) (x r : Result Image FormRefusal) → cond b x (Err NotInfusion) ≡ r → (refusal NotInfusion ≡ r → ⊥) → (b ≡ true) × (x ≡ r)
magic_or_not true x r e other = (refl, e)
magic_or_not false x r e other = absurd (other e)

-- what is an infusion by its first bytes begins with the magic
begun_by : (bytes : List ℕ) (r : Result Image FormRefusal) → (refusal NotInfusion ≡ r → ⊥) → image_of bytes ≡ r → (take 4 bytes ≡ magic) × (versioned (drop 4 bytes) ≡ r)
unfolding image_of
begun_by bytes r other e =
    let p = magic_or_not (bytes_eq (take 4 bytes) magic) (versioned (drop 4 bytes)) r e other in
    ((bytes_eq-Decides (take 4 bytes) magic).0 p.0, p.1)

suffix : (bytes : List ℕ) → take 4 bytes ≡ magic → image_of bytes ≡ versioned (drop 4 bytes)
unfolding image_of
suffix bytes begins = rw ((bytes_eq-Decides (take 4 bytes) magic).1 begins) refl

after_both : (prefix rest : List ℕ) → 4 ≤ length prefix → take 4 prefix ≡ magic → image_of (prefix ++ rest) ≡ versioned (drop 4 prefix ++ rest)
after_both prefix rest long begins = suffix (prefix ++ rest) (take-append-le 4 prefix rest long ∙ begins) ∙ ap versioned (drop-append-le 4 prefix rest long)

begun_prefix : (prefix rest : List ℕ) → 4 ≤ length prefix → take 4 (prefix ++ rest) ≡ magic → take 4 prefix ≡ magic
begun_prefix prefix rest long begins = sym (take-append-le 4 prefix rest long) ∙ begins

-- ---- what is said after the magic

-- the bytes are truncated, or have a fault
abbrev IsWithin : FormRefusal → Type 0
IsWithin why = (why ≡ Truncated) ⊎ IsFault why

not_foreign : (why : FormRefusal) → IsWithin why → refusal NotInfusion ≡ Err why → ⊥
not_foreign why (inl is) e = absurd cc
not_foreign why (inr is) e = subst IsFault (sym (same_refusal NotInfusion why e)) is

not_tailed : (why : FormRefusal) → IsWithin why → refusal TrailingBytes ≡ Err why → ⊥
not_tailed why (inl is) e = absurd cc
not_tailed why (inr is) e = subst IsFault (sym (same_refusal TrailingBytes why e)) is

not_ended : (x : Image) (why : FormRefusal) (none : Bool) → IsWithin why → cond none (Ok x) (Err TrailingBytes) ≡ Err why → ⊥
not_ended x why true within e = clash (Ok x) x why refl e
not_ended x why false within e = not_tailed why within e

-- ---- prefixes of infusions

some_tail : (x : Image × List ℕ) (image : Image) (rest : List ℕ) → 0 < length rest → ends (x.0, x.1 ++ rest) ≡ Ok image → ⊥
some_tail x image rest some e =
    let more : eqb (length (x.1 ++ rest)) 0 ≡ false = ne_eqb (length (x.1 ++ rest)) 0 (λ none. omega (arith, none, some, length-append x.1 rest)) in
    clash (ends (x.0, x.1 ++ rest)) image TrailingBytes e (rw more refl)

cut_image : (prefix rest : List ℕ) (image : Image) → 0 < length rest → versioned (prefix ++ rest) ≡ Ok image → Prefix prefix rest → versioned prefix ≡ Err Truncated
cut_image prefix rest image some e (cut is) = is
cut_image prefix rest image some e (faulty why is whole) = absurd (clash (versioned (prefix ++ rest)) image why e whole)
cut_image prefix rest image some e (full x is whole) = absurd (some_tail x image rest some (sym whole ∙ e))

pub prefixes_are_truncated : (prefix rest : List ℕ) (image : Image) → IsEncoded (prefix ++ rest) image → 4 ≤ length prefix → 0 < length rest → IsRefused prefix Truncated
prefixes_are_truncated prefix rest image is long some =
    let read : image_of (prefix ++ rest) ≡ Ok image = encoding_reads (prefix ++ rest) image is in
    let begins = begun_prefix prefix rest long (begun_by (prefix ++ rest) (Ok image) (λ e. clash (Ok image) image NotInfusion refl (sym e)) read).0 in
    suffix prefix begins ∙ cut_image (drop 4 prefix) rest image some (sym (after_both prefix rest long begins) ∙ read) (prefix_is (drop 4 prefix) rest)

-- ---- prefixes of bytes that are refused

cut_why : (prefix rest : List ℕ) (why : FormRefusal) → IsWithin why → versioned (prefix ++ rest) ≡ Err why → Prefix prefix rest → (versioned prefix ≡ Err Truncated) ⊎ (versioned prefix ≡ Err why)
cut_why prefix rest why within e (cut is) = inl is
cut_why prefix rest why within e (faulty found is whole) = inr (is ∙ sym whole ∙ e)
cut_why prefix rest why within e (full x is whole) = absurd (not_ended x.0 why (eqb (length (x.1 ++ rest)) 0) within (sym whole ∙ e))

-- a prefix of refused bytes is truncated, or refused as they are
prefix_refused : (prefix rest : List ℕ) (why : FormRefusal) → IsWithin why → image_of (prefix ++ rest) ≡ Err why → 4 ≤ length prefix → (image_of prefix ≡ Err Truncated) ⊎ (image_of prefix ≡ Err why)
prefix_refused prefix rest why within e long =
    let begins = begun_prefix prefix rest long (begun_by (prefix ++ rest) (Err why) (not_foreign why within) e).0 in
    elim (cut_why (drop 4 prefix) rest why within (sym (after_both prefix rest long begins) ∙ e) (prefix_is (drop 4 prefix) rest)) [
      | inl is ↦ inl (suffix prefix begins ∙ is)
      | inr is ↦ inr (suffix prefix begins ∙ is)
    ]

pub prefixes_of_truncated : (prefix rest : List ℕ) → IsRefused (prefix ++ rest) Truncated → 4 ≤ length prefix → IsRefused prefix Truncated
prefixes_of_truncated prefix rest e long =
    elim (prefix_refused prefix rest Truncated (inl refl) e long) [
      | inl is ↦ is
      | inr is ↦ is
    ]

-- ---- versions

versioned_short : (bytes : List ℕ) → length bytes < 2 → versioned bytes ≡ Err Truncated
unfolding versioned
versioned_short bytes short = err_then _ (number_short Truncated 2 bytes short)

-- the version is there
version_long : (bytes : List ℕ) (version : ℕ) → HasVersion bytes version → 6 ≤ length bytes
version_long bytes version has = omega (arith, length-take 6 bytes, ap length has.1)

version_follows : (bytes more : List ℕ) (version : ℕ) → HasVersion bytes version → HasVersion (bytes ++ more) version
version_follows bytes more version has = (has.0, take-append-le 6 bytes more (version_long bytes version has) ∙ has.1)

prefix_version : (prefix rest : List ℕ) (version : ℕ) → IsRefused (prefix ++ rest) (FormVersion version) → 4 ≤ length prefix → IsRefused prefix Truncated ⊎ IsRefused prefix (FormVersion version)
prefix_version prefix rest version r long =
    elim (cases_lt (length prefix) 6) [
      | inl short ↦
          let whole : image_of (prefix ++ rest) ≡ Err (FormVersion version) = refused_reads (prefix ++ rest) (FormVersion version) r in
          let begins = begun_prefix prefix rest long (begun_by (prefix ++ rest) (Err (FormVersion version)) (not_foreign (FormVersion version) (inr tt)) whole).0 in
          inl (suffix prefix begins ∙ versioned_short (drop 4 prefix) (omega (arith, short, long, length-drop 4 prefix)))
      | inr whole ↦ inr ((r.0.0, sym (take-append-le 6 prefix rest whole) ∙ r.0.1), r.1)
    ]

-- ---- faults

pub prefixes_of_faults : (prefix rest : List ℕ) (why : FormRefusal) → IsFault why → IsRefused (prefix ++ rest) why → 4 ≤ length prefix → IsRefused prefix Truncated ⊎ IsRefused prefix why
prefixes_of_faults prefix rest (FormVersion version) is r long = prefix_version prefix rest version r long
prefixes_of_faults prefix rest (BadTable table index) is r long = prefix_refused prefix rest (BadTable table index) (inr tt) r long
prefixes_of_faults prefix rest NotInfusion is r long = absurd is
prefixes_of_faults prefix rest Truncated is r long = absurd is
prefixes_of_faults prefix rest TrailingBytes is r long = absurd is
prefixes_of_faults prefix rest Memory is r long = absurd is

fault_follows : (bytes more : List ℕ) (why : FormRefusal) → IsFault why → versioned bytes ≡ Err why → Prefix bytes more → versioned (bytes ++ more) ≡ Err why
fault_follows bytes more why is e (cut missed) = absurd (subst IsFault (same_refusal why Truncated (sym e ∙ missed)) is)
fault_follows bytes more why is e (faulty found of_prefix whole) = whole ∙ sym of_prefix ∙ e
fault_follows bytes more why is e (full x of_prefix whole) = absurd (not_ended x.0 why (eqb (length x.1) 0) (inr is) (sym of_prefix ∙ e))

-- the magic is there where reading came past it
magic_long : (bytes : List ℕ) → take 4 bytes ≡ magic → 4 ≤ length bytes
magic_long bytes begins = omega (arith, length-take 4 bytes, ap length begins)

fault_holds : (bytes more : List ℕ) (why : FormRefusal) → IsFault why → image_of bytes ≡ Err why → image_of (bytes ++ more) ≡ Err why
fault_holds bytes more why is e =
    let begun = begun_by bytes (Err why) (not_foreign why (inr is)) e in
    after_both bytes more (magic_long bytes begun.0) begun.0 ∙ fault_follows (drop 4 bytes) more why is begun.1 (prefix_is (drop 4 bytes) more)

pub faults_hold : (bytes more : List ℕ) (why : FormRefusal) → IsFault why → IsRefused bytes why → IsRefused (bytes ++ more) why
faults_hold bytes more (FormVersion version) is r = (version_follows bytes more version r.0, r.1)
faults_hold bytes more (BadTable table index) is r = fault_holds bytes more (BadTable table index) tt r
faults_hold bytes more NotInfusion is r = absurd is
faults_hold bytes more Truncated is r = absurd is
faults_hold bytes more TrailingBytes is r = absurd is
faults_hold bytes more Memory is r = absurd is

pub none_begins : (bytes more : List ℕ) (why : FormRefusal) (image : Image) → IsFault why → IsRefused bytes why → IsEncoded (bytes ++ more) image → ⊥
none_begins bytes more why image is r encoded =
    clash (image_of (bytes ++ more)) image why (encoding_reads (bytes ++ more) image encoded) (refused_reads (bytes ++ more) why (faults_hold bytes more why is r))
