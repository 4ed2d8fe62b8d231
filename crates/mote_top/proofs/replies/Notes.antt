-- Noting a list of bytes, byte by byte.
use Rattle.std.proofs.Common.{◌≡◌, ℕ, ◌+◌, ◌<◌, List, [], ◌∷◌, ◌++◌, length, take, drop, get_or, Option, Result, ap, sym, ◌∙◌, append_assoc, add-one, take-append-drop, arith}
use Rattle.std.proofs.lemmas.List.{take_more, map_push, map-append, flat_map_more}
use Rattle.std.proofs.Math.Seq.{drop-cons}
use Rattle.std.specs.List.{flat_map}
use Rattle.std.proofs.lemmas.List.Concat.{flat_map-append}
use Rattle.dialogue.specs.Dialogue.{Note, noting, gets, gets-noting}
use Rattle.host_face.specs.declared.console.ConsoleFailed.{ConsoleFailed}
use Rattle.host_face.specs.Talk.{without_first, Talked, BrokeOff, Says}
use Rattle.host_face.proofs.TalkLemmas.{same-without, Talked-then, BrokeOff-prefix, BrokeOff-then, Says-then}
use Rattle.mote_top.specs.Status.{blank_number, line}

pub noting-append : (first second : List ℕ) → noting (first ++ second) ≡ noting first ++ noting second
noting-append first second = map-append Note first second

pub noting-more : (bytes : List ℕ) (i : ℕ) → i < length bytes → noting (take (i + 1) bytes) ≡ noting (take i bytes) ++ Note (get_or bytes i 0) ∷ []
noting-more bytes i lt = ap noting (take_more bytes i 0 lt) ∙ map_push Note (take i bytes) (get_or bytes i 0)

pub noting-parts : (bytes : List ℕ) (i : ℕ) → i < length bytes → noting bytes ≡ noting (take i bytes) ++ (Note (get_or bytes i 0) ∷ noting (drop (i + 1) bytes))
noting-parts bytes i lt =
    let parts : bytes ≡ take i bytes ++ (get_or bytes i 0 ∷ drop (i + 1) bytes) = sym (take-append-drop i bytes) ∙ ap (λ (rest : List ℕ). take i bytes ++ rest) (rw add-one (drop-cons bytes i 0 (omega arith))) in
    ap noting parts ∙ noting-append (take i bytes) (get_or bytes i 0 ∷ drop (i + 1) bytes)

-- notes in parts, where the first part broke off, and where the last call's result is returned
module _ {C : Type 0} (left shown noted : C → Option (List ℕ)) (faults : C → ℕ) (room : C → Option ℕ) where
  asks_nothing : (old mid : C) (first : List ℕ) → left mid ≡ left old → left mid ≡ without_first (gets (noting first)) (left old)
  asks_nothing old mid first same = same-without (noting first) (left old) (left mid) (gets-noting first) same

  pub Noting-prefix : (old new : C) (first second : List ℕ) → BrokeOff left shown noted faults room old new (noting first) → BrokeOff left shown noted faults room old new (noting (first ++ second))
  Noting-prefix old new first second b = rw (noting-append first second) (BrokeOff-prefix left shown noted faults room old new (noting first) (noting second) b)

  pub Noting-broke : (old mid new : C) (first second : List ℕ) → left mid ≡ left old → Talked shown noted faults room old mid (noting first) → BrokeOff left shown noted faults room mid new (noting second) → BrokeOff left shown noted faults room old new (noting (first ++ second))
  Noting-broke old mid new first second same a b =
      rw (noting-append first second) (BrokeOff-then left shown noted faults room old mid new (noting first) (noting second) (asks_nothing old mid first same) a b)

  pub Noting-then : (old mid new : C) (first second : List ℕ) → Talked shown noted faults room old mid (noting first) → Talked shown noted faults room mid new (noting second) → Talked shown noted faults room old new (noting (first ++ second))
  Noting-then old mid new first second a b = rw (noting-append first second) (Talked-then shown noted faults room old mid new (noting first) (noting second) a b)

  pub Noting-last : {T : Type 0} (old mid new : C) (first second : List ℕ) (result : Result T ConsoleFailed) → left mid ≡ left old → Talked shown noted faults room old mid (noting first) → Says left shown noted faults room mid new (noting second) result
      → Says left shown noted faults room old new (noting (first ++ second)) result
  Noting-last old mid new first second result same a b =
      rw (noting-append first second) (Says-then left shown noted faults room old mid new (noting first) (noting second) result (asks_nothing old mid first same) a b)

-- ---- a line

abbrev pub numbers_of : List ℕ → List ℕ
numbers_of numbers = flat_map blank_number numbers

pub numbers-more : (word numbers : List ℕ) (i : ℕ) → i < length numbers → word ++ numbers_of (take (i + 1) numbers) ≡ (word ++ numbers_of (take i numbers)) ++ blank_number (get_or numbers i 0)
numbers-more word numbers i lt =
    ap (λ (rest : List ℕ). word ++ numbers_of rest) (take_more numbers i 0 lt) ∙ sym (flat_map_more blank_number word (take i numbers) (get_or numbers i 0))

-- the line, with one number apart
pub line-parts : (word numbers : List ℕ) (i : ℕ) → i < length numbers → line word numbers ≡ ((word ++ numbers_of (take i numbers)) ++ blank_number (get_or numbers i 0)) ++ (numbers_of (drop (i + 1) numbers) ++ 10 ∷ [])
line-parts word numbers i lt =
    let halves : numbers_of numbers ≡ numbers_of (take (i + 1) numbers) ++ numbers_of (drop (i + 1) numbers) = ap numbers_of (sym (take-append-drop (i + 1) numbers)) ∙ flat_map-append blank_number (take (i + 1) numbers) (drop (i + 1) numbers) in
    ap (λ (rest : List ℕ). word ++ (rest ++ 10 ∷ [])) halves
    ∙ ap (λ (rest : List ℕ). word ++ rest) (append_assoc (numbers_of (take (i + 1) numbers)) (numbers_of (drop (i + 1) numbers)) (10 ∷ []))
    ∙ sym (append_assoc word (numbers_of (take (i + 1) numbers)) (numbers_of (drop (i + 1) numbers) ++ 10 ∷ []))
    ∙ ap (λ (prefix : List ℕ). prefix ++ (numbers_of (drop (i + 1) numbers) ++ 10 ∷ [])) (numbers-more word numbers i lt)

pub line-end : (word numbers : List ℕ) → line word numbers ≡ (word ++ numbers_of numbers) ++ 10 ∷ []
line-end word numbers = sym (append_assoc word (numbers_of numbers) (10 ∷ []))
