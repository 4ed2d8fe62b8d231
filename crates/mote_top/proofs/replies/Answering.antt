-- Answers: what is said of one reply holds of a wider choice, and the line after it completes it.
use Rattle.std.proofs.Common.{◌≡◌, ℕ, true, false, List, [], ◌++◌, Option, refl, sym, ap, subst, ◌∙◌}
use Rattle.std.proofs.lemmas.List.{append-nil}
use Rattle.dialogue.specs.Dialogue.{Item, gets, noting, gets-noting}
use Rattle.dialogue.specs.Limits.{Limits}
use Rattle.host_face.specs.Talk as talk
use Rattle.host_face.specs.Talk.{without_first}
use Rattle.host_face.proofs.TalkLemmas.{without_first-none, without_gets, same-without, Talked-nothing, Talked-then, BrokeOff-prefix, BrokeOff-then}
use Rattle.mote_top.specs.declared.status.Status.{Status}
use Rattle.mote_top.specs.declared.status.Status.TheVariants.{Done, Uncaught, Words, Refused, Infusion, Spent, HeapWanted, StackWanted, ConsoleFault, ShelfFault, Misfit, Memory}
use Rattle.mote_top.specs.Status.{note_of, has_note}
use Rattle.mote_top.specs.Call.{Spoken, spoken}
use Rattle.mote_top.specs.Reply.{Reply, quiet, dialogue_of, all_said}
use Rattle.mote_top.specs.Answer.{Extent, Whole, Part, Nothing, extent, Talked, BrokeOff, Untouched, Replied, Failed, AnswersTo, Answers, IsQuietTo, IsQuiet, IsNoted, Unnoted, Noted, Broken}

-- ---- from a console's meanings to its values

module _ {C : Type 0} (left shown noted : C → Option (List ℕ)) (faults : C → ℕ) (room : C → Option ℕ) where
  pub said_of : (old new : C) (items : List Item) → talk.Talked shown noted faults room old new items → Talked (spoken left shown noted faults room old) (spoken left shown noted faults room new) items
  said_of old new items t = record { put = t.put; note = t.note; counted = t.counted; same_room = t.same_room }

  pub broke_of : (old new : C) (items : List Item) → talk.BrokeOff left shown noted faults room old new items → BrokeOff (spoken left shown noted faults room old) (spoken left shown noted faults room new) items
  broke_of old new items b =
      record { said = b.said; failed = b.failed; unsaid = b.unsaid; parts = b.parts; talked = said_of old new b.said b.talked; rose = b.rose; full = b.full; rest = b.rest }

-- ---- whole answers

pub whole_of : (said : Reply → List Item) (May : Reply → Type 0) (old new : Spoken) (status : Status) → extent status ≡ Whole → Answers said May old new status → Replied said May old new status
whole_of said May old new status whole a = subst (λ (e : Extent). AnswersTo e said May old new status) whole a

pub of_whole : (said : Reply → List Item) (May : Reply → Type 0) (old new : Spoken) (status : Status) → extent status ≡ Whole → Replied said May old new status → Answers said May old new status
of_whole said May old new status whole r = subst (λ (e : Extent). AnswersTo e said May old new status) (sym whole) r

weaker_to : (e : Extent) (said : Reply → List Item) (P Q : Reply → Type 0) → ((reply : Reply) → P reply → Q reply) → (old new : Spoken) (status : Status) → AnswersTo e said P old new status → AnswersTo e said Q old new status
weaker_to Whole said P Q f old new status r = record { reply = r.reply; may = f r.reply r.may; same = r.same; talked = r.talked; same_left = r.same_left; rest = r.rest }
weaker_to Part said P Q f old new status a = record { reply = a.reply; may = f a.reply a.may; broke = a.broke }
weaker_to Nothing said P Q f old new status a = a

pub Answers-weaker : (said : Reply → List Item) (P Q : Reply → Type 0) → ((reply : Reply) → P reply → Q reply) → (old new : Spoken) (status : Status) → Answers said P old new status → Answers said Q old new status
Answers-weaker said P Q f old new status a = weaker_to (extent status) said P Q f old new status a

-- ---- nothing was said

spoken_nothing : (old : Spoken) → Talked old old []
spoken_nothing old = Talked-nothing (λ (c : Spoken). c.shown) (λ (c : Spoken). c.noted) (λ (c : Spoken). c.faults) (λ (c : Spoken). c.room) old

pub untouched : (old : Spoken) → Untouched old old
untouched old = record { same_left = refl; same_shown = refl; same_noted = refl; counted = (spoken_nothing old).counted; same_room = refl }

-- a reply without a dialogue
pub Replied-quiet : (P : Reply → Type 0) (old : Spoken) (status : Status) → P (quiet status old.left) → Replied dialogue_of P old old status
Replied-quiet P old status may =
    record { reply = quiet status old.left; may = may; same = refl; talked = spoken_nothing old; same_left = refl; rest = without_first-none old.left }

quiet_to : (e : Extent) (May : Spoken → Reply → Type 0) (old : Spoken) (status : Status) → IsQuietTo e May status → AnswersTo e dialogue_of (May old) old old status
quiet_to Whole May old status q = Replied-quiet (May old) old status (q old)
quiet_to Part May old status q = absurd q
quiet_to Nothing May old status q = untouched old

pub Answers-quiet : (May : Spoken → Reply → Type 0) (old : Spoken) (status : Status) → IsQuiet May status → Answers dialogue_of (May old) old old status
Answers-quiet May old status q = quiet_to (extent status) May old status q

-- ---- the line of a status

-- a reply whose status has no line says its dialogue alone
no_line : (limits : Limits) (reply : Reply) → Done ≡ reply.status → reply.dialogue ≡ all_said limits reply
no_line limits reply same = sym (append-nil reply.dialogue) ∙ ap (λ (s : Status). reply.dialogue ++ noting (note_of limits s)) same

unnoted : (limits : Limits) (P : Reply → Type 0) (old new : Spoken) (status : Status) → has_note status ≡ false → Answers dialogue_of P old new status → Answers (all_said limits) P old new status
unnoted limits P old new Memory h a = a
unnoted limits P old new ConsoleFault h a =
    record {
      reply = a.reply;
      may = a.may;
      broke = BrokeOff-prefix (λ (c : Spoken). c.left) (λ (c : Spoken). c.shown) (λ (c : Spoken). c.noted) (λ (c : Spoken). c.faults) (λ (c : Spoken). c.room) old new a.reply.dialogue (noting (note_of limits a.reply.status)) a.broke;
    }
unnoted limits P old new Done h a =
    let all = no_line limits a.reply a.same in
    record {
      reply = a.reply;
      may = a.may;
      same = a.same;
      talked = subst (Talked old new) all a.talked;
      same_left = a.same_left;
      rest = subst (λ (items : List Item). new.left ≡ without_first (gets items) old.left) all a.rest;
    }
unnoted limits P old new (Uncaught class) h a = absurd cc
unnoted limits P old new (Words place) h a = absurd cc
unnoted limits P old new (Refused refusal) h a = absurd cc
unnoted limits P old new (Infusion refusal) h a = absurd cc
unnoted limits P old new Spent h a = absurd cc
unnoted limits P old new (HeapWanted need live) h a = absurd cc
unnoted limits P old new (StackWanted need used) h a = absurd cc
unnoted limits P old new (ShelfFault word) h a = absurd cc
unnoted limits P old new (Misfit class place) h a = absurd cc

-- a status with a line is whole
with_line : (status : Status) → has_note status ≡ true → extent status ≡ Whole
with_line Done h = refl
with_line ConsoleFault h = absurd cc
with_line Memory h = absurd cc
with_line _ h = refl

line_noted : (limits : Limits) (P : Reply → Type 0) (old mid new : Spoken) (status : Status) → Replied dialogue_of P old mid status → Talked mid new (noting (note_of limits status)) → new.left ≡ mid.left → Replied (all_said limits) P old new status
line_noted limits P old mid new status r note same =
    let line = noting (note_of limits status) in
    let all : r.reply.dialogue ++ line ≡ all_said limits r.reply = ap (λ (s : Status). r.reply.dialogue ++ noting (note_of limits s)) r.same in
    record {
      reply = r.reply;
      may = r.may;
      same = r.same;
      talked = subst (Talked old new) all (Talked-then (λ (c : Spoken). c.shown) (λ (c : Spoken). c.noted) (λ (c : Spoken). c.faults) (λ (c : Spoken). c.room) old mid new r.reply.dialogue line r.talked note);
      same_left = same ∙ r.same_left;
      rest =
          subst (λ (items : List Item). new.left ≡ without_first (gets items) old.left) all
          (without_gets r.reply.dialogue line old.left mid.left new.left r.rest (same-without line mid.left new.left (gets-noting (note_of limits status)) same));
    }

line_broke : (limits : Limits) (P : Reply → Type 0) (old mid new : Spoken) (status : Status) → Replied dialogue_of P old mid status → BrokeOff mid new (noting (note_of limits status)) → Failed (all_said limits) P old new
line_broke limits P old mid new status r note =
    let whole = BrokeOff-then (λ (c : Spoken). c.left) (λ (c : Spoken). c.shown) (λ (c : Spoken). c.noted) (λ (c : Spoken). c.faults) (λ (c : Spoken). c.room) old mid new r.reply.dialogue (noting (note_of limits status)) r.rest r.talked note in
    record {
      reply = r.reply;
      may = r.may;
      broke = subst (λ (s : Status). BrokeOff old new (r.reply.dialogue ++ noting (note_of limits s))) r.same whole;
    }

-- an answer, and then the line of its status
pub Answers-noted : (limits : Limits) (P : Reply → Type 0) (old mid new : Spoken) (status result : Status) → Answers dialogue_of P old mid status → IsNoted limits mid new status result → Answers (all_said limits) P old new result
Answers-noted limits P old mid new status result a (Unnoted none same still) =
    let here = unnoted limits P old mid status none a in
    let there : Answers (all_said limits) P old new status = subst (λ (c : Spoken). Answers (all_said limits) P old c status) (sym still) here in
    subst (λ (s : Status). Answers (all_said limits) P old new s) (sym same) there
Answers-noted limits P old mid new status result a (Noted some same note still) =
    let whole = with_line status some in
    let r = line_noted limits P old mid new status (whole_of dialogue_of P old mid status whole a) note still in
    subst (λ (s : Status). Answers (all_said limits) P old new s) (sym same) (of_whole (all_said limits) P old new status whole r)
Answers-noted limits P old mid new status result a (Broken some same note) =
    let f = line_broke limits P old mid new status (whole_of dialogue_of P old mid status (with_line status some) a) note in
    subst (λ (s : Status). Answers (all_said limits) P old new s) (sym same) f
