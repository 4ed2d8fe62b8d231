-- Showing a list of bytes, byte by byte, and what a console reads.
use Rattle.std.proofs.Common.{◌≡◌, ℕ, pos, negsuc, ◌+◌, ◌%◌, ◌<◌, ◌≤◌, List, [], ◌∷◌, ◌++◌, length, take, drop, get_or, Option, Some, None, refl, ap, sym, subst, ◌∙◌, add-one, take-append-drop, arith}
use Rattle.std.specs.Prelude.{IsNone, IsSome, true, false}
use Rattle.std.proofs.lemmas.Bool.{false≢true}
use Rattle.std.proofs.lemmas.List.{take_more, map_push, map-append}
use Rattle.std.proofs.Math.Seq.{drop-cons}
use Rattle.dialogue.specs.Answers.{Answers, answers_of, MayGive}
use Rattle.dialogue.specs.Dialogue.{Get, Put, putting}
use Rattle.host_face.specs.Faults.{Rose}
use Rattle.host_face.specs.Console.{Takes}
use Rattle.host_face.specs.Talk.{Talked, BrokeOff}
use Rattle.host_face.proofs.TalkLemmas.{with_bytes-nil}
use Rattle.mote_call.specs.Reads.{IsRead}

mod_below : (n k : ℕ) → n < k → n % k ≡ n
mod_below n k lt = grind arith

pub putting-more : (bytes : List ℕ) (i : ℕ) → i < length bytes → putting (take (i + 1) bytes) ≡ putting (take i bytes) ++ Put (get_or bytes i 0) ∷ []
putting-more bytes i lt = ap putting (take_more bytes i 0 lt) ∙ map_push Put (take i bytes) (get_or bytes i 0)

pub putting-parts : (bytes : List ℕ) (i : ℕ) → i < length bytes → putting bytes ≡ putting (take i bytes) ++ (Put (get_or bytes i 0) ∷ putting (drop (i + 1) bytes))
putting-parts bytes i lt =
    let parts : bytes ≡ take i bytes ++ (get_or bytes i 0 ∷ drop (i + 1) bytes) = sym (take-append-drop i bytes) ∙ ap (λ (rest : List ℕ). take i bytes ++ rest) (rw add-one (drop-cons bytes i 0 (omega arith))) in
    ap putting parts ∙ map-append Put (take i bytes) (get_or bytes i 0 ∷ drop (i + 1) bytes)

same_some : {A : Type 0} {x y : A} → Some x ≡ Some y → x ≡ y
same_some e = cc

-- a byte that a console gave: where it told its input, the byte was the first of it
pub read-byte : (before after : Option (List ℕ)) (byte : ℕ) → byte < 256 → Takes (Some byte) before after → IsRead before after (pos byte)
read-byte before None byte fits takes =
    record {
      gave = λ others may. record { answers = Some byte ∷ others; may = rw takes tt; value = ap pos (sym (mod_below byte 256 fits)); others_are = refl };
      rest = rw takes refl;
    }
read-byte before (Some rest) byte fits takes =
    record {
      gave = λ others may. record { answers = Some byte ∷ others; may = rw takes (ap (λ (a : Answers). Some byte ∷ a) may); value = ap pos (sym (mod_below byte 256 fits)); others_are = refl };
      rest = rw takes refl;
    }

-- it gave the end: where it told its input, nothing was left
pub read-end : (before after : Option (List ℕ)) → Takes None before after → IsRead before after (negsuc 0)
read-end None after takes =
    record {
      gave = λ others may. record { answers = None ∷ others; may = tt; value = refl; others_are = refl };
      rest = takes.1;
    }
read-end (Some bytes) after takes =
    record {
      gave = λ others may. record { answers = []; may = ap answers_of (sym (same_some takes.0)); value = refl; others_are = told others may };
      rest = takes.1 ∙ takes.0 ∙ ap (λ (xs : List ℕ). Some (drop 1 xs)) (sym (same_some takes.0));
    }
  where
    told : (others : Answers) → MayGive after others → others ≡ []
    told others may = subst (λ (o : Option (List ℕ)). MayGive o others) (takes.1 ∙ takes.0) may

pub untold-fails : (room : Option ℕ) → (IsSome room → false ≡ true) → IsNone room
untold-fails None fails = refl
untold-fails (Some room) fails = absurd (false≢true (fails refl))

module _ {C : Type 0} (shown noted : C → Option (List ℕ)) (faults : C → ℕ) (room : C → Option ℕ) where
  -- a byte was asked for
  pub Talked-get : (old new : C) → shown new ≡ shown old → noted new ≡ noted old → faults old ≤ faults new → room new ≡ room old → Talked shown noted faults room old new (Get ∷ [])
  Talked-get old new put note counted same_room =
      record { put = put ∙ sym (with_bytes-nil (shown old)); note = note ∙ sym (with_bytes-nil (noted old)); counted = counted; same_room = same_room }

module _ {C : Type 0} (left shown noted : C → Option (List ℕ)) (faults : C → ℕ) (room : C → Option ℕ) where
  -- it failed, which a console that tells its room does not do
  pub BrokeOff-get : (old new : C) → shown new ≡ shown old → noted new ≡ noted old → faults old ≤ faults new → room new ≡ room old → Rose (faults old) (faults new) → IsNone (room old) → BrokeOff left shown noted faults room old new (Get ∷ [])
  BrokeOff-get old new put note counted same_room rose none =
      record {
        said = [];
        failed = Get;
        unsaid = [];
        parts = refl;
        talked = record { put = put ∙ sym (with_bytes-nil (shown old)); note = note ∙ sym (with_bytes-nil (noted old)); counted = counted; same_room = same_room };
        rose = rose;
        full = none;
        rest = tt;
      }
