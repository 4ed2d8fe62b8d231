-- An entry that is put at a position, and what is known then.
use Rattle.std.proofs.Common.{◌≡◌, ℕ, ◌<◌, ◌≤◌, ◌≢◌, inl, inr, List, length, get_or, set, Option, Some, None, IfSome, option_map, refl, sym, ap, subst, ◌∙◌, arith, get_or-set_other, get_or-set_same}
use Rattle.std.specs.List.{Contains}
use Rattle.std.proofs.lemmas.Bool.{cases_eq}
use Rattle.std.proofs.lemmas.List.{length-set}
use Rattle.class_file.specs.declared.record.ClassFile.{ClassFile}
use Rattle.type_table.specs.Frames.{Stored, Grows, frame_of}
use Rattle.type_table.specs.declared.store.FrameId.{FrameId}
use Rattle.flow_verify.specs.declared.frames.Known.{Known}
use Rattle.flow_verify.specs.KnownFrames.{Entries, frame_at, IsSound, AreKept, AreListed}
use Rattle.flow_verify.specs.Merging.{IsListed}
use Rattle.flow_verify.proofs.waves.StillKnown.{sound_still, frame_still}

pub if_some : (P Q : Known → Type 0) (o : Option Known) → ((known : Known) → P known → Q known) → IfSome o P → IfSome o Q
if_some P Q None h is = is
if_some P Q (Some known) h is = h known is

module _ (files : List ClassFile) (n round : ℕ) (old new : Stored) (grows : Grows old new) (entries : Entries) (kept : AreKept files n round old entries) where
  -- where only the store grows
  pub kept_still : AreKept files n round new entries
  kept_still = record { count = kept.count; sound = sound_still files old new grows entries kept.sound; last = kept.last }

  pub known_still : (position : ℕ) → frame_at new entries position ≡ frame_at old entries position
  known_still = frame_still files old new grows entries kept.sound

  module _ (position : ℕ) (within : position < n) (id : FrameId) where
    abbrev entry : Known
    entry = record { frame = id; round = round }

    abbrev then : Entries
    then = set entries position (Some entry)

    here : get_or then position None ≡ Some entry
    here = let inside : position < length entries = omega (arith, within, kept.count) in rw get_or-set_same refl

    elsewhere : (other : ℕ) → other ≢ position → get_or then other None ≡ get_or entries other None
    elsewhere other away = rw get_or-set_other refl

    -- what holds of the entry that is put, and of the others
    all_put : (P : Known → Type 0) → P entry → ((other : ℕ) → IfSome (get_or entries other None) P) → (other : ℕ) → IfSome (get_or then other None) P
    all_put P is others other =
        let Q : Option Known → Type 0 = λ o. IfSome o P in
        elim (cases_eq other position) [
          | inl same ↦ subst (λ k. Q (get_or then k None)) (sym same) (subst Q (sym here) is)
          | inr away ↦ subst Q (sym (elsewhere other away)) (others other)
        ]

    pub kept_put : IsSound files new id → AreKept files n round new then
    kept_put sound =
        record {
          count = length-set entries position (Some entry) ∙ kept.count;
          sound = all_put (λ known. IsSound files new known.frame) sound (sound_still files old new grows entries kept.sound);
          last = all_put (λ known. known.round ≤ round) (omega arith) kept.last;
        }

    pub listed_put : (wave next : List ℕ) → AreListed round entries wave → IsListed position wave next → AreListed round then next
    listed_put wave next listed more other =
        elim (cases_eq other position) [
          | inl same ↦
              let Q : ℕ → Type 0 = λ k. IfSome (get_or then k None) (λ known. known.round ≡ round → Contains next k) in
              subst Q (sym same) (subst (λ (o : Option Known). IfSome o (λ known. known.round ≡ round → Contains next position)) (sym here) (λ _. more.has))
          | inr away ↦
              subst (λ (o : Option Known). IfSome o (λ known. known.round ≡ round → Contains next other)) (sym (elsewhere other away))
              (if_some (λ known. known.round ≡ round → Contains wave other) (λ known. known.round ≡ round → Contains next other) (get_or entries other None) (λ known there is. more.keeps other (there is)) (listed other))
        ]

    pub put_here : frame_at new then position ≡ Some (frame_of new id)
    put_here = ap (λ (o : Option Known). option_map (λ (k : Known). frame_of new k.frame) o) here

    pub put_elsewhere : (other : ℕ) → other ≢ position → frame_at new then other ≡ frame_at old entries other
    put_elsewhere other away = ap (λ (o : Option Known). option_map (λ (k : Known). frame_of new k.frame) o) (elsewhere other away) ∙ known_still other
