-- What is refused before any memory is asked for: the magic and the version.
use Rattle.std.proofs.Common.{◌≡◌, ◌≢◌, ℕ, ◌<◌, ◌^◌, Bool, true, false, cond, eqb, List, ◌++◌, length, take, drop, Result, Ok, Err, refl, sym, ap, ◌∙◌, append_assoc, arith, length-drop}
use Rattle.std.proofs.lemmas.Bool.{ne_eqb, false_from_ne_true}
use Rattle.std.proofs.lemmas.List.{take_at, drop_at, take-append-drop}
use Rattle.std.proofs.lemmas.Slice.Eq.{bytes_eq-Decides}
use Rattle.std.specs.Str.{bytes_eq}
use Rattle.byte_read.specs.Reading.{◌>>=◌}
use Rattle.byte_read.proofs.Steps.{bind_then, then_ok, then_err, stops, passes, number_short, u2_again}
use Rattle.image_instr.specs.Insn.{u2}
use Rattle.image_form.specs.declared.record.Image.{Image}
use Rattle.image_form.specs.declared.refusal.FormRefusal.{FormRefusal}
use Rattle.image_form.specs.declared.refusal.FormRefusal.TheVariants.{NotInfusion, FormVersion, Truncated, TrailingBytes, BadTable, Memory}
use Rattle.image_form.specs.Format.{magic}
use Rattle.image_form.specs.Reading.{u2_at, whole_of, version_at, versioned, start_of}
use Rattle.image_form.specs.Refused.{HasVersion, IsStartRefused}

fails_by : (r : Result (ℕ × List ℕ) FormRefusal) (b : ℕ × List ℕ → Bool) (why : FormRefusal) (f : ℕ × List ℕ → Result Image FormRefusal) (d : ℕ × List ℕ → FormRefusal)
    → (r >>= λ v. cond (b v) (Ok v) (Err (d v))) ≡ Err why → (r >>= λ v. cond (b v) (f v) (Err (d v))) ≡ Err why
fails_by (Err other) b why f d e = cc
fails_by (Ok v) b why f d e =
    let g = stops (b v) v (d v) why e in
    rw g.0 (ap (λ (w : FormRefusal). Err w) g.1)

pub versioned_fails : (bytes : List ℕ) (why : FormRefusal) → version_at bytes ≡ Err why → versioned bytes ≡ Err why
unfolding version_at versioned
versioned_fails bytes why e = fails_by (u2_at bytes) (λ v. eqb v.0 1) why (λ v. whole_of v.1) (λ v. FormVersion v.0) e

pub versioned_goes_on : (bytes : List ℕ) (x : ℕ × List ℕ) → version_at bytes ≡ Ok x → versioned bytes ≡ whole_of x.1
unfolding version_at versioned
versioned_goes_on bytes x e =
    bind_then (u2_at bytes) _ x e (λ v at_v e_x.
    let g = passes (eqb v.0 1) v x (FormVersion v.0) e_x in
    then_ok _ _ at_v (rw g.0 (ap (λ (z : ℕ × List ℕ). whole_of z.1) g.1)))

-- ---- what the start is refused for

is_magic : (bytes : List ℕ) → bytes_eq (take 4 bytes) magic ≡ true → take 4 bytes ≡ magic
is_magic bytes same = (bytes_eq-Decides (take 4 bytes) magic).0 same

start_rest : (bytes : List ℕ) → take 4 bytes ≡ magic → start_of bytes ≡ version_at (drop 4 bytes)
unfolding start_of
start_rest bytes begins =
    let same : bytes_eq (take 4 bytes) magic ≡ true = (bytes_eq-Decides (take 4 bytes) magic).1 begins in
    rw same refl

start_foreign : (bytes : List ℕ) → take 4 bytes ≢ magic → start_of bytes ≡ Err NotInfusion
unfolding start_of
start_foreign bytes other =
    let differs : bytes_eq (take 4 bytes) magic ≡ false = false_from_ne_true (bytes_eq (take 4 bytes) magic) (λ same. other (is_magic bytes same)) in
    rw differs refl

version_short : (bytes : List ℕ) → length bytes < 2 → version_at bytes ≡ Err Truncated
unfolding version_at
version_short bytes short = then_err _ (number_short Truncated 2 bytes short)

version_other : (version : ℕ) (rest : List ℕ) → version < 2 ^ 16 → version ≢ 1 → version_at (u2 version ++ rest) ≡ Err (FormVersion version)
unfolding version_at
version_other version rest lt other = then_ok _ _ (u2_again Truncated version rest lt) (rw (ne_eqb version 1 other) refl)

start_version : (bytes : List ℕ) (version : ℕ) → HasVersion bytes version → version ≢ 1 → start_of bytes ≡ Err (FormVersion version)
start_version bytes version has other =
    let whole : bytes ≡ magic ++ (u2 version ++ drop 6 bytes) = sym (take-append-drop 6 bytes) ∙ ap (λ (prefix : List ℕ). prefix ++ drop 6 bytes) has.1 ∙ append_assoc magic (u2 version) (drop 6 bytes) in
    let rest = u2 version ++ drop 6 bytes in
    start_rest bytes (ap (take 4) whole ∙ take_at magic rest 4 refl) ∙ ap (λ (all : List ℕ). version_at (drop 4 all)) whole ∙ ap version_at (drop_at magic rest 4 refl) ∙ version_other version (drop 6 bytes) has.0 other

pub at_once : (bytes : List ℕ) (why : FormRefusal) → IsStartRefused bytes why → start_of bytes ≡ Err why
at_once bytes NotInfusion r = start_foreign bytes r
at_once bytes (FormVersion version) r = start_version bytes version r.0 r.1
at_once bytes Truncated r = start_rest bytes r.1 ∙ version_short (drop 4 bytes) (omega (arith, r.0, length-drop 4 bytes))
at_once bytes (BadTable table index) r = absurd r
at_once bytes TrailingBytes r = absurd r
at_once bytes Memory r = absurd r
