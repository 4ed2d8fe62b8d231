-- What is known stays so where a store grows.
use Rattle.std.proofs.Common.{◌≡◌, ℕ, ◌+◌, ◌<◌, ◌⊎◌, inl, inr, List, [], ◌∷◌, ◌++◌, length, take, get_or, Option, Some, None, IfSome, option_map, slice_get, refl, sym, ap, subst, ◌∙◌}
use Rattle.std.specs.Option.{option_map_or}
use Rattle.std.specs.List.{Contains, flat_map}
use Rattle.std.proofs.lemmas.List.{take_more, flat_map_more}
use Rattle.std.proofs.lemmas.List.Elements.{Contains-append_left, Contains-push, Contains-push_cases}
use Rattle.class_file.specs.declared.record.ClassFile.{ClassFile}
use Rattle.body_form.specs.declared.body.Body.{Body}
use Rattle.body_form.specs.declared.types.VFrame.{VFrame}
use Rattle.jvm_model.specs.TypesRight.{Sent}
use Rattle.jvm_model.specs.TypesRounds.{sent_by}
use Rattle.type_order.specs.OrderLaws.{IsProper}
use Rattle.type_table.specs.Frames.{Stored, Grows, frame_of}
use Rattle.type_table.specs.declared.store.FrameId.{FrameId}
use Rattle.type_table.proofs.Growing.{frame_stays}
use Rattle.flow_verify.specs.declared.frames.Known.{Known}
use Rattle.flow_verify.specs.KnownFrames.{Entries, frame_at, IsSound, AreSound}
use Rattle.flow_verify.specs.Waves.{sent_at, IsUnruled, UnruledIn}

-- ---- one frame

pub sound_stays : (files : List ClassFile) (old new : Stored) (id : FrameId) → Grows old new → IsSound files old id → IsSound files new id
sound_stays files old new id grows sound =
    let stays = frame_stays old new id grows sound.there in
    record { there = stays.there; proper = subst (IsProper files) (sym stays.is) sound.proper }

-- ---- all that are known

module _ (files : List ClassFile) (old new : Stored) (grows : Grows old new) where
  sound_with : (o : Option Known) → IfSome o (λ known. IsSound files old known.frame) → IfSome o (λ known. IsSound files new known.frame)
  sound_with None sound = sound
  sound_with (Some known) sound = sound_stays files old new known.frame grows sound

  frame_with : (o : Option Known) → IfSome o (λ known. IsSound files old known.frame) → option_map (λ (k : Known). frame_of new k.frame) o ≡ option_map (λ k. frame_of old k.frame) o
  frame_with None sound = refl
  frame_with (Some known) sound = ap Some (frame_stays old new known.frame grows sound.there).is

  module _ (entries : Entries) (sound : AreSound files old entries) where
    pub sound_still : AreSound files new entries
    sound_still position = sound_with (get_or entries position None) (sound position)

    pub frame_still : (position : ℕ) → frame_at new entries position ≡ frame_at old entries position
    frame_still position = frame_with (get_or entries position None) (sound position)

    module _ (body : Body) where
      pub sent_still : (position : ℕ) → sent_at files body new entries position ≡ sent_at files body old entries position
      sent_still position = ap (λ (o : Option VFrame). option_map_or (sent_by files body (λ pc. o)) (slice_get body.ops position) []) (frame_still position)

      pub unruled_then : (position pc : ℕ) → IsUnruled files body old entries position pc → IsUnruled files body new entries position pc
      unruled_then position pc un = record { instruction = un.instruction; frame = un.frame; here = un.here; has = frame_still position ∙ un.has; fails = un.fails }

      pub unruled_before : (position pc : ℕ) → IsUnruled files body new entries position pc → IsUnruled files body old entries position pc
      unruled_before position pc un = record { instruction = un.instruction; frame = un.frame; here = un.here; has = sym (frame_still position) ∙ un.has; fails = un.fails }

-- ---- a wave, position by position

pub flat_more : (of : ℕ → List Sent) (wave : List ℕ) (i : ℕ) → i < length wave → flat_map of (take (i + 1) wave) ≡ flat_map of (take i wave) ++ of (get_or wave i 0)
flat_more of wave i within = ap (flat_map of) (take_more wave i 0 within) ∙ sym (flat_map_more of [] (take i wave) (get_or wave i 0))

module _ (files : List ClassFile) (body : Body) (stored : Stored) (entries : Entries) (wave : List ℕ) (i : ℕ) (within : i < length wave) where
  abbrev Unruled : ℕ → ℕ → Type 0
  Unruled position pc = IsUnruled files body stored entries position pc

  abbrev In : List ℕ → ℕ → Type 0
  In list pc = UnruledIn files body stored entries list pc

  pub unruled_more : (pc : ℕ) → In (take i wave) pc ⊎ Unruled (get_or wave i 0) pc → In (take (i + 1) wave) pc
  unruled_more pc (inl (position, there, un)) =
      (position, subst (λ (list : List ℕ). Contains list position) (sym (take_more wave i 0 within)) (Contains-append_left (take i wave) (get_or wave i 0 ∷ []) position there), un)
  unruled_more pc (inr un) = (get_or wave i 0, subst (λ (list : List ℕ). Contains list (get_or wave i 0)) (sym (take_more wave i 0 within)) (Contains-push (take i wave) (get_or wave i 0)), un)

  pub unruled_cases : (pc : ℕ) → In (take (i + 1) wave) pc → In (take i wave) pc ⊎ Unruled (get_or wave i 0) pc
  unruled_cases pc (position, there, un) =
      elim (Contains-push_cases (take i wave) (get_or wave i 0) position (subst (λ (list : List ℕ). Contains list position) (take_more wave i 0 within) there)) [
        | inl earlier ↦ inl (position, earlier, un)
        | inr same ↦ inr (subst (λ p. Unruled p pc) (sym same) un)
      ]
