-- One frame that arrives: it is known then, merged or not, or clashes.
use Rattle.std.proofs.Common.{◌≡◌, ℕ, ◌<◌, inl, inr, List, get_or, set, Option, Some, None, sym, ap, subst, ◌∙◌}
use Rattle.class_file.specs.declared.record.ClassFile.{ClassFile}
use Rattle.class_tree.specs.Tree.{Gathers}
use Rattle.body_form.specs.declared.types.VFrame.{VFrame}
use Rattle.body_form.specs.Flow.{Ops, pc_at}
use Rattle.jvm_model.specs.TypesFrames.{merge_frames}
use Rattle.jvm_model.specs.TypesRounds.{Merged, arrival_of, or_clash, arrives}
use Rattle.type_order.specs.OrderLaws.{IsProper}
use Rattle.type_rounds.proofs.Rounds.{ordered}
use Rattle.type_table.specs.Frames.{Stored, Grows, frame_of}
use Rattle.type_table.specs.Merges.{IsMergeOf}
use Rattle.type_table.specs.declared.store.FrameId.{FrameId}
use Rattle.type_table.specs.declared.merged.Merged.{Merged as Found}
use Rattle.type_table.specs.declared.merged.Merged.TheVariants as found
use Rattle.flow_verify.specs.declared.frames.Arriving.{Arriving}
use Rattle.flow_verify.specs.declared.frames.Frames.{Frames}
use Rattle.flow_verify.specs.declared.frames.Known.{Known}
use Rattle.flow_verify.specs.KnownFrames.{Entries, frame_at, known_at, IsSound, AreKept, AreListed}
use Rattle.flow_verify.specs.Merging.{IsListed, HasArrived}
use Rattle.flow_verify.proofs.waves.Putting.{kept_still, known_still, kept_put, listed_put, put_here, put_elsewhere}
use Rattle.flow_verify.proofs.waves.SentAt.{frame_known}

-- ---- what is found for a merge

module _ (files : List ClassFile) (stored : Stored) (upper lower : VFrame) (o : Found) where
  pub merge_clashes : o ≡ found.Clash → IsMergeOf files stored upper lower o → merge_frames files upper lower ≡ None
  merge_clashes is merge = subst (IsMergeOf files stored upper lower) is merge

  pub merge_same : o ≡ found.Same → IsMergeOf files stored upper lower o → merge_frames files upper lower ≡ Some upper
  merge_same is merge = subst (IsMergeOf files stored upper lower) is merge

  pub merge_grown : (id : FrameId) → o ≡ found.Grown id → IsMergeOf files stored upper lower o → IsMergeOf files stored upper lower (found.Grown id)
  merge_grown id is merge = subst (IsMergeOf files stored upper lower) is merge

pub grown_sound : (files : List ClassFile) → Gathers files None → (stored : Stored) (upper lower : VFrame) (id : FrameId) → IsProper files upper → IsProper files lower
    → IsMergeOf files stored upper lower (found.Grown id) → IsSound files stored id
grown_sound files gathers stored upper lower id first second merge =
    record { there = merge.0; proper = ordered.merged files gathers upper lower (frame_of stored id) first second merge.1 }

-- ---- what arrives

module _ (files : List ClassFile) (ops : Ops) (n round : ℕ) (before : Frames) (kept : AreKept files n round before.store before.known.items) (arriving : Arriving) (within : arriving.position < n) (old : List ℕ) (new : Stored) (grows : Grows before.store new) where
  abbrev position : ℕ
  position = arriving.position

  abbrev frame : VFrame
  frame = frame_of before.store arriving.frame

  abbrev then : Frames
  then = record { store = new; known = before.known }

  stays : (other : ℕ) → known_at then other ≡ known_at before other
  stays = known_still files n round before.store new grows before.known.items kept

  pub same_kept : AreKept files n round new before.known.items
  same_kept = kept_still files n round before.store new grows before.known.items kept

  module _ (known : Known) (has : get_or before.known.items position None ≡ Some known) where
    abbrev upper : VFrame
    upper = frame_of before.store known.frame

    known_is : known_at before position ≡ Some upper
    known_is = frame_known before.store before.known.items position known has

    meets : arrives files (arrival_of (known_at before position)) frame ≡ or_clash (merge_frames files upper frame)
    meets = ap (λ (o : Option VFrame). arrives files (arrival_of o) frame) known_is

    pub same_arrived : merge_frames files upper frame ≡ Some upper → HasArrived files ops arriving before then old old None
    same_arrived merge =
        record {
          here = meets ∙ ap or_clash merge ∙ sym (ap arrival_of (stays position ∙ known_is));
          others = λ other away. stays other;
          keeps = λ other there. there;
          only = λ other there. inl there;
          changed = inr (stays position);
        }

    pub clash_arrived : (pc : ℕ) → pc ≡ pc_at ops position → merge_frames files upper frame ≡ None → HasArrived files ops arriving before then old old (Some pc)
    clash_arrived pc at merge =
        record {
          here = (at, meets ∙ ap or_clash merge);
          others = λ other away. stays other;
          keeps = λ other there. there;
          only = λ other there. inl there;
          changed = inr (stays position);
        }

  -- where a frame is put
  module _ (id : FrameId) (after : Frames) (store_is : after.store ≡ new) (put : after.known.items ≡ set before.known.items position (Some (record { frame = id; round = round }))) where
    pub put_kept : IsSound files new id → AreKept files n round after.store after.known.items
    put_kept sound =
        subst (λ (s : Stored). AreKept files n round s after.known.items) (sym store_is)
        (subst (AreKept files n round new) (sym put) (kept_put files n round before.store new grows before.known.items kept position within id sound))

    pub put_listed : (next : List ℕ) → AreListed round before.known.items old → IsListed position old next → AreListed round after.known.items next
    put_listed next listed more =
        subst (λ (entries : Entries). AreListed round entries next) (sym put) (listed_put files n round before.store new grows before.known.items kept position within id old next listed more)

    of_put : (other : ℕ) → known_at after other ≡ frame_at new (set before.known.items position (Some (record { frame = id; round = round }))) other
    of_put other = ap (λ (s : Stored). frame_at s after.known.items other) store_is ∙ ap (λ (entries : Entries). frame_at new entries other) put

    put_is : known_at after position ≡ Some (frame_of new id)
    put_is = of_put position ∙ put_here files n round before.store new grows before.known.items kept position within id

    pub put_arrived : (next : List ℕ) → IsListed position old next → arrives files (arrival_of (known_at before position)) frame ≡ Merged (frame_of new id) → HasArrived files ops arriving before after old next None
    put_arrived next listed merge =
        record {
          here = merge ∙ sym (ap arrival_of put_is);
          others = λ other away. of_put other ∙ put_elsewhere files n round before.store new grows before.known.items kept position within id other away;
          keeps = listed.keeps;
          only = listed.only;
          changed = inl listed.has;
        }

    pub grown_arrived : (known : Known) → get_or before.known.items position None ≡ Some known → merge_frames files (frame_of before.store known.frame) frame ≡ Some (frame_of new id)
        → (next : List ℕ) → IsListed position old next → HasArrived files ops arriving before after old next None
    grown_arrived known has merge next listed = put_arrived next listed (meets known has ∙ ap or_clash merge)
