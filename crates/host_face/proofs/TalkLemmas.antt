-- Dialogues on a console, one after the other.
use Rattle.std.proofs.Common.{◌≡◌, ℕ, ◌+◌, ◌≤◌, List, [], ◌∷◌, ◌++◌, Option, Some, None, Result, Ok, Err, refl, sym, ap, ◌∙◌, append_assoc, arith}
use Rattle.std.proofs.lemmas.List.{append-nil, drop-drop}
use Rattle.dialogue.specs.Dialogue.{Item, Get, Put, Note, puts, notes, gets, puts-append, notes-append}
use Rattle.dialogue.proofs.Gets.{gets-append}
use Rattle.host_face.specs.declared.console.ConsoleFailed.{ConsoleFailed}
use Rattle.host_face.specs.Faults.{Rose}
use Rattle.host_face.specs.Console.{with_byte, FillsRoom}
use Rattle.host_face.specs.Talk.{with_bytes, without_first, KeepsUngot, Talked, BrokeOff, Says}

pub with_bytes-nil : (bytes : Option (List ℕ)) → with_bytes [] bytes ≡ bytes
with_bytes-nil None = refl
with_bytes-nil (Some bytes) = ap (λ (xs : List ℕ). Some xs) (append-nil bytes)

pub with_bytes-append : (first second : List ℕ) (bytes : Option (List ℕ)) → with_bytes second (with_bytes first bytes) ≡ with_bytes (first ++ second) bytes
with_bytes-append first second None = refl
with_bytes-append first second (Some bytes) = ap (λ (xs : List ℕ). Some xs) (append_assoc bytes first second)

pub without_first-none : (bytes : Option (List ℕ)) → bytes ≡ without_first 0 bytes
without_first-none None = refl
without_first-none (Some bytes) = refl

pub without_first-then : (first second : ℕ) (old mid new : Option (List ℕ)) → mid ≡ without_first first old → new ≡ without_first second mid → new ≡ without_first (first + second) old
without_first-then first second None mid new a b = rw a at b
without_first-then first second (Some bytes) mid new a b = (rw a at b) ∙ ap (λ (xs : List ℕ). Some xs) (drop-drop second first bytes)

-- more items, after some
pub without_gets : (first second : List Item) (old mid new : Option (List ℕ)) → mid ≡ without_first (gets first) old → new ≡ without_first (gets second) mid → new ≡ without_first (gets (first ++ second)) old
without_gets first second old mid new a b =
    rw (gets-append first second) (without_first-then (gets first) (gets second) old mid new a b)

pub KeepsUngot-then : (failed : Item) (first second : List Item) (old mid new : Option (List ℕ)) → mid ≡ without_first (gets first) old → KeepsUngot failed second mid new → KeepsUngot failed (first ++ second) old new
KeepsUngot-then Get first second old mid new a b = tt
KeepsUngot-then (Put byte) first second old mid new a b = without_gets first second old mid new a b
KeepsUngot-then (Note byte) first second old mid new a b = without_gets first second old mid new a b

-- the input is the same as before items that ask for nothing
pub same-without : (items : List Item) (old new : Option (List ℕ)) → gets items ≡ 0 → new ≡ old → new ≡ without_first (gets items) old
same-without items old new none same = rw none (same ∙ without_first-none old)

-- a count that rose before or after another change rose
pub Rose-then : (a b c : ℕ) → a ≤ b → Rose b c → Rose a c
Rose-then a b c le rose = omega arith

pub Rose-before : (a b c : ℕ) → Rose a b → b ≤ c → Rose a c
Rose-before a b c rose le = omega arith

module _ {C : Type 0} (shown noted : C → Option (List ℕ)) (faults : C → ℕ) (room : C → Option ℕ) where
  pub Talked-nothing : (old : C) → Talked shown noted faults room old old []
  Talked-nothing old =
      record { put = sym (with_bytes-nil (shown old)); note = sym (with_bytes-nil (noted old)); counted = omega arith; same_room = refl }

  pub Talked-then : (old mid new : C) (first second : List Item) → Talked shown noted faults room old mid first → Talked shown noted faults room mid new second → Talked shown noted faults room old new (first ++ second)
  Talked-then old mid new first second a b =
      record {
        put = b.put ∙ ap (with_bytes (puts second)) a.put ∙ with_bytes-append (puts first) (puts second) (shown old) ∙ ap (λ (bytes : List ℕ). with_bytes bytes (shown old)) (sym (puts-append first second));
        note = b.note ∙ ap (with_bytes (notes second)) a.note ∙ with_bytes-append (notes first) (notes second) (noted old) ∙ ap (λ (bytes : List ℕ). with_bytes bytes (noted old)) (sym (notes-append first second));
        counted = omega arith;
        same_room = b.same_room ∙ a.same_room;
      }

  Talked-quiet : (old new : C) → shown new ≡ shown old → noted new ≡ noted old → faults old ≤ faults new → room new ≡ room old → Talked shown noted faults room old new []
  Talked-quiet old new put note counted same_room =
      record { put = put ∙ sym (with_bytes-nil (shown old)); note = note ∙ sym (with_bytes-nil (noted old)); counted = counted; same_room = same_room }

  -- one note
  pub Talked-note : (old new : C) (byte : ℕ) → noted new ≡ with_byte byte (noted old) → shown new ≡ shown old → faults old ≤ faults new → room new ≡ room old → Talked shown noted faults room old new (Note byte ∷ [])
  Talked-note old new byte note put counted same_room =
      record { put = put ∙ sym (with_bytes-nil (shown old)); note = note; counted = counted; same_room = same_room }

  -- one put
  pub Talked-put : (old new : C) (byte : ℕ) → shown new ≡ with_byte byte (shown old) → noted new ≡ noted old → faults old ≤ faults new → room new ≡ room old → Talked shown noted faults room old new (Put byte ∷ [])
  Talked-put old new byte put note counted same_room =
      record { put = put; note = note ∙ sym (with_bytes-nil (noted old)); counted = counted; same_room = same_room }

module _ {C : Type 0} (left shown noted : C → Option (List ℕ)) (faults : C → ℕ) (room : C → Option ℕ) where
  -- what broke off broke off, whatever was to follow
  pub BrokeOff-prefix : (old new : C) (first second : List Item) → BrokeOff left shown noted faults room old new first → BrokeOff left shown noted faults room old new (first ++ second)
  BrokeOff-prefix old new first second b =
      record {
        said = b.said;
        failed = b.failed;
        unsaid = b.unsaid ++ second;
        parts = ap (λ (items : List Item). items ++ second) b.parts ∙ append_assoc b.said (b.failed ∷ b.unsaid) second;
        talked = b.talked;
        rose = b.rose;
        full = b.full;
        rest = b.rest;
      }

  -- after items that were said, and took their bytes from the input
  pub BrokeOff-then : (old mid new : C) (first second : List Item) → left mid ≡ without_first (gets first) (left old) → Talked shown noted faults room old mid first → BrokeOff left shown noted faults room mid new second → BrokeOff left shown noted faults room old new (first ++ second)
  BrokeOff-then old mid new first second rest a b =
      record {
        said = first ++ b.said;
        failed = b.failed;
        unsaid = b.unsaid;
        parts = ap (λ (items : List Item). first ++ items) b.parts ∙ sym (append_assoc first b.said (b.failed ∷ b.unsaid));
        talked = Talked-then shown noted faults room old mid new first b.said a b.talked;
        rose = Rose-then (faults old) (faults mid) (faults new) a.counted b.rose;
        full = rw (sym a.same_room) b.full;
        rest = KeepsUngot-then b.failed first b.said (left old) (left mid) (left new) rest b.rest;
      }

  -- a note that failed
  pub BrokeOff-note : (old new : C) (byte : ℕ) (unsaid : List Item) → left new ≡ left old → noted new ≡ noted old → shown new ≡ shown old → faults old ≤ faults new → room new ≡ room old → Rose (faults old) (faults new) → FillsRoom (room old) (noted old) → BrokeOff left shown noted faults room old new (Note byte ∷ unsaid)
  BrokeOff-note old new byte unsaid same note put counted same_room rose full =
      record {
        said = [];
        failed = Note byte;
        unsaid = unsaid;
        parts = refl;
        talked = Talked-quiet shown noted faults room old new put note counted same_room;
        rose = rose;
        full = rw note full;
        rest = same ∙ without_first-none (left old);
      }

  -- a put that failed
  pub BrokeOff-put : (old new : C) (byte : ℕ) (unsaid : List Item) → left new ≡ left old → shown new ≡ shown old → noted new ≡ noted old → faults old ≤ faults new → room new ≡ room old → Rose (faults old) (faults new) → FillsRoom (room old) (shown old) → BrokeOff left shown noted faults room old new (Put byte ∷ unsaid)
  BrokeOff-put old new byte unsaid same put note counted same_room rose full =
      record {
        said = [];
        failed = Put byte;
        unsaid = unsaid;
        parts = refl;
        talked = Talked-quiet shown noted faults room old new put note counted same_room;
        rose = rose;
        full = rw put full;
        rest = same ∙ without_first-none (left old);
      }

  -- a last call, whose result is returned as it is
  pub Says-then : {T : Type 0} (old mid new : C) (first second : List Item) (result : Result T ConsoleFailed) → left mid ≡ without_first (gets first) (left old) → Talked shown noted faults room old mid first → Says left shown noted faults room mid new second result → Says left shown noted faults room old new (first ++ second) result
  Says-then old mid new first second (Ok x) rest a b = Talked-then shown noted faults room old mid new first second a b
  Says-then old mid new first second (Err e) rest a b = BrokeOff-then old mid new first second rest a b
