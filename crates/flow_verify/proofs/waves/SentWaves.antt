-- What a wave sends is a part of what all instructions send; what is left out is below what is known, where the
-- instructions outside the wave send nothing more.
use Rattle.std.proofs.Common.{◌≡◌, ℕ, ◌<◌, ◌⊎◌, true, inl, inr, List, [], ◌∷◌, length, Option, Some, slice_get, is_some, sym, ap, subst, ◌∙◌}
use Rattle.std.specs.List.{AllByRecursion, Contains, flat_map}
use Rattle.std.proofs.lemmas.Option.{same_Some}
use Rattle.class_file.specs.declared.record.ClassFile.{ClassFile}
use Rattle.code_reach.specs.Reached.{RisesFrom}
use Rattle.body_form.specs.declared.op.Op.{Op}
use Rattle.body_form.specs.declared.body.Body.{Body}
use Rattle.body_form.specs.declared.types.VFrame.{VFrame}
use Rattle.body_form.specs.Flow.{IsStart, pc_at}
use Rattle.jvm_model.specs.TypesRules.{op_at}
use Rattle.jvm_model.specs.TypesRight.{Table, Sent, sent_from, IsMet, HoldsAt}
use Rattle.jvm_model.specs.TypesRounds.{sent_by_each}
use Rattle.type_rounds.proofs.tables.Lists.{all_map, all_append, all_elements, all_filter}
use Rattle.type_rounds.proofs.tables.Starts.{start_has_op}
use Rattle.type_rounds.proofs.tables.SentFrames.{SendsAll, sent_one, all_sent_by_each, each_sends}
use Rattle.type_table.specs.Frames.{Stored}
use Rattle.flow_verify.specs.KnownFrames.{Entries, frame_at}
use Rattle.flow_verify.specs.Waves.{sent_at, is_received, sent_in}
use Rattle.flow_verify.proofs.waves.SentAt.{sent_there, sent_is}
use Rattle.flow_verify.proofs.waves.Positions.{all_at, all_by_position, within_at, at_position, pc_of_position, op_of_position, contains_flat, contains_filter}

-- a table holds what is known at each position
abbrev pub AreSame : Body → Stored → Entries → Table → Type 0
AreSame body stored entries table = (position : ℕ) → position < length body.ops → frame_at stored entries position ≡ table (pc_at body.ops position)

-- the rule of the instruction at a position holds, and what it sends is met
abbrev pub IsSettled : List ClassFile → Body → Table → ℕ → Type 0
IsSettled files body table position =
    (instruction : Op) (frame : VFrame) → op_at body.ops (pc_at body.ops position) ≡ Some instruction → table (pc_at body.ops position) ≡ Some frame
    → HoldsAt files body table (pc_at body.ops position) instruction frame

module _ (files : List ClassFile) (body : Body) (stored : Stored) (entries : Entries) where
  module _ (rise : RisesFrom 0 body.ops) (table : Table) (same : AreSame body stored entries table) where
    known_at : (position : ℕ) (x : ℕ × Op) → slice_get body.ops position ≡ Some x → frame_at stored entries position ≡ table x.0
    known_at position x here = same position (within_at body.ops position x here) ∙ ap table (pc_of_position body.ops position x here)

    -- ---- a part of all

    part_of : (Q : Sent → Type 0) → AllByRecursion Q (sent_by_each files body table body.ops) → (position : ℕ) (x : ℕ × Op) → slice_get body.ops position ≡ Some x → AllByRecursion Q (sent_at files body stored entries position)
    part_of Q all position x here =
        let sends : SendsAll files body table Q x = all_at (SendsAll files body table Q) body.ops (each_sends files body table Q body.ops all) position x here in
        subst (AllByRecursion Q) (sym (sent_there files body stored entries position x here))
        (sent_one files body (λ pc. frame_at stored entries position) Q x (λ frame after has rule. sends frame after (sym (known_at position x here) ∙ has) rule))

    parts_of : (Q : Sent → Type 0) → AllByRecursion Q (sent_by_each files body table body.ops) → (wave : List ℕ) → AllByRecursion (λ position. position < length body.ops) wave
        → AllByRecursion Q (flat_map (sent_at files body stored entries) wave)
    parts_of Q all [] within = tt
    parts_of Q all (position ∷ wave) within =
        let (instruction, here) = at_position body.ops position within.0 in
        all_append Q (sent_at files body stored entries position) (flat_map (sent_at files body stored entries) wave)
        (part_of Q all position (pc_at body.ops position, instruction) here) (parts_of Q all wave within.1)

    pub wave_part : (wave : List ℕ) → AllByRecursion (λ position. position < length body.ops) wave → (Q : Sent → Type 0) → AllByRecursion Q (sent_by_each files body table body.ops)
        → AllByRecursion Q (sent_in files body stored entries wave)
    wave_part wave within Q all = all_filter Q (is_received body.ops) (flat_map (sent_at files body stored entries) wave) (parts_of Q all wave within)

    -- ---- all but what is met

    module _ (wave : List ℕ) (settled : (position : ℕ) → position < length body.ops → Contains wave position ⊎ IsSettled files body table position) where
      abbrev IsMetOrSent : Sent → Type 0
      IsMetOrSent sent = IsStart body.ops sent.to → Contains (sent_in files body stored entries wave) sent ⊎ IsMet files table sent

      received : (sent : Sent) → IsStart body.ops sent.to → is_received body.ops sent ≡ true
      received sent start = let (instruction, op) = start_has_op body.ops sent.to start in ap (λ (o : Option Op). is_some o) op

      sent_too : (position : ℕ) (sent : Sent) → Contains wave position → Contains (sent_at files body stored entries position) sent → IsMetOrSent sent
      sent_too position sent waits there = λ start.
          inl (contains_filter (is_received body.ops) (flat_map (sent_at files body stored entries) wave) sent (contains_flat (sent_at files body stored entries) wave position sent waits there) (received sent start))

      abbrev HoldsWith : ℕ → Type 0
      HoldsWith pc = (instruction : Op) (frame : VFrame) → op_at body.ops pc ≡ Some instruction → table pc ≡ Some frame → HoldsAt files body table pc instruction frame

      each_covered : (position : ℕ) (x : ℕ × Op) → slice_get body.ops position ≡ Some x → SendsAll files body table IsMetOrSent x
      each_covered position x here frame after before rule =
          let within = within_at body.ops position x here in
          let pc : pc_at body.ops position ≡ x.0 = pc_of_position body.ops position x here in
          elim (settled position within) [
            | inl waits ↦
                let is = sent_is files body stored entries position x here frame (known_at position x here ∙ before) after rule in
                all_elements IsMetOrSent (sent_from body x.0 frame after)
                (λ sent there. sent_too position sent waits (subst (λ (list : List Sent). Contains list sent) (sym is) there))
            | inr holds ↦
                let there : HoldsAt files body table x.0 x.1 frame =
                subst (λ p. HoldsWith p) pc holds x.1 frame (op_of_position body.ops rise position x here) before
                in
                let same_after : there.after ≡ after = same_Some there.after after (sym there.rule ∙ rule) in
                all_map (λ sent. IsStart body.ops sent.to → IsMet files table sent) IsMetOrSent (λ sent met start. inr (met start)) (sent_from body x.0 frame after)
                (subst (λ (f : VFrame). AllByRecursion (λ sent. IsStart body.ops sent.to → IsMet files table sent) (sent_from body x.0 frame f)) same_after there.met)
          ]

      pub all_covered : AllByRecursion IsMetOrSent (sent_by_each files body table body.ops)
      all_covered = all_sent_by_each files body table IsMetOrSent body.ops (all_by_position (SendsAll files body table IsMetOrSent) body.ops each_covered)
