-- A call keeps its promises, by its reply.
use Rattle.std.proofs.Common.{◌≡◌, ℕ, ◌≤◌, List, ◌++◌, ◌⊎◌, Option, Some, None, inl, inr, refl, sym, ap, subst, ◌∙◌}
use Rattle.std.specs.Prelude.{◌↔◌, option_map}
use Rattle.std.specs.FinMap.{insert}
use Rattle.std.proofs.lemmas.List.{append-nil}
use Rattle.dialogue.specs.Answers as gets
use Rattle.dialogue.specs.Answers.{answers_of, bytes_of, MayGive}
use Rattle.dialogue.specs.Dialogue.{Item, Get, Put, Note, puts, notes, noting, puts-append, notes-append, puts-noting, notes-noting}
use Rattle.dialogue.specs.Limits.{Limits}
use Rattle.dialogue.specs.Outcome.{Outcome}
use Rattle.host_face.specs.Console.{FillsRoom}
use Rattle.host_face.specs.Talk.{with_bytes, WasFull}
use Rattle.image_form.specs.declared.record.Image.{Image}
use Rattle.image_form.specs.Format.{encoding}
use Rattle.image_form.specs.Grammar.{IsImage}
use Rattle.image_check.specs.Checked.{IsBuilt, IsChecked}
use Rattle.image_form.proofs.format.Whole.{one_image}
use Rattle.jvm_model.specs.declared.refusal.Refusal.{Refusal}
use Rattle.set_verdict.specs.Verdict.{Accepted, IsImageOf, IsRefused}
use Rattle.set_outcome.specs.SetOutcome.{SetEnding, LimitedRun}
use Rattle.set_outcome.specs.ImageOutcome.{bounds_of}
use Rattle.set_outcome.proofs.OneOutcome.{run_is_one}
use Rattle.set_verdict.proofs.OneLinked.{one_linked}
use Rattle.mote_top.specs.declared.status.Status.{Status}
use Rattle.mote_top.specs.declared.status.Status.TheVariants.{Done, Words, Refused, ConsoleFault, ShelfFault, Memory}
use Rattle.mote_top.specs.Words.{FaultsAt}
use Rattle.mote_top.specs.Status.{note_of}
use Rattle.mote_top.specs.Endings.{typed_status, split_status}
use Rattle.mote_top.specs.Call.{Spoken, Call, After}
use Rattle.mote_top.specs.Reply.{Reply, RefusesSet, EndsAs, SetReplies, IsInfusion, ImageEndsAs, InfusionReplies, IsRunEnd, StoreReplies, MayReply, RunsInfusion, all_said, left_of}
use Rattle.mote_top.specs.Answer.{Extent, Whole, Part, Nothing, extent, Talked, Replied, AnswersTo, Answers}
use Rattle.mote_top.specs.Headline.{RunsOn, InfusesTo, RunsSet, LoadsSet, IsAnswer, IsReplied, Shows, ShowsSome, RanInfusion, SaysNoInfusion, StoresInfusion, HasCause, KeepsShelf}
use Rattle.mote_top.specs.Promises.{Promises}
use Rattle.mote_top.proofs.replies.Answering.{whole_of}
use Rattle.mote_top.proofs.replies.Causes.{status_is, may_words, fault_reply, may_shelf, go_on, run_on, infuse_on}
use Rattle.mote_top.proofs.replies.SetLaws.{accepted_or_refused, one_refusal}
use Rattle.mote_top.proofs.replies.Sets.{SetsRunAlike, image_ends, infusion_is_one}

same_refusal : (a b : Refusal) → Refused a ≡ Refused b → a ≡ b
same_refusal a b e = cc

done_is_refused : (refusal : Refusal) → Done ≡ Refused refusal → ⊥
done_is_refused refusal e = cc

answer_whole : (status : Status) → IsAnswer status → extent status ≡ Whole
answer_whole ConsoleFault answer = absurd answer
answer_whole Memory answer = absurd answer
answer_whole _ answer = refl

same_console : (e : Extent) (said : Reply → List Item) (May : Reply → Type 0) (old new : Spoken) (status : Status) → AnswersTo e said May old new status → (old.faults ≤ new.faults) × (new.room ≡ old.room)
same_console Whole said May old new status a = (a.talked.counted, a.talked.same_room)
same_console Part said May old new status a = (a.broke.talked.counted, a.broke.talked.same_room)
same_console Nothing said May old new status a = (a.counted, a.same_room)

none_or_some : (n : ℕ) → Some n ≡ None → ⊥
none_or_some n e = cc

room_of : (item : Item) (told : Option ℕ) (output others : Option (List ℕ)) → WasFull item told output others → FillsRoom told output ⊎ FillsRoom told others
room_of Get None output others full = inl tt
room_of Get (Some n) output others full = absurd cc
room_of (Put byte) told output others full = inl full
room_of (Note byte) told output others full = inr full

-- the image of each accepted set is an infusion, which runs as the set
pub record SetsAreInfused : Type 0 where
  pub image : (files : List (List ℕ)) (image : Image) → IsImageOf files image → IsImage image
  pub checked : (files : List (List ℕ)) (image : Image) → IsImageOf files image → IsChecked image
  pub built : (files : List (List ℕ)) (image : Image) → IsImageOf files image → IsBuilt image
  pub alike : SetsRunAlike

module _ (sets : SetsAreInfused) (call : Call) (after : After) (limits : Limits) where
  abbrev May : Reply → Type 0
  May reply = MayReply call after.shelf limits reply

  abbrev IsCalled : Status → Type 0
  IsCalled status = Answers (all_said limits) May call.console after.console status

  abbrev IsSaid : Status → Type 0
  IsSaid status = Replied (all_said limits) May call.console after.console status

  said : IsAnswer after.status → IsCalled after.status → IsSaid after.status
  said answer a = whole_of (all_said limits) May call.console after.console after.status (answer_whole after.status answer) a

  -- ---- what is shown

  -- all of a reply was said: the puts and notes of its dialogue, and the line of its status
  shows_all : (dialogue : List Item) (rest : Option (List ℕ)) (status : Status) → after.status ≡ status → Talked call.console after.console (dialogue ++ noting (note_of limits status)) → after.console.left ≡ rest → Shows call after limits dialogue rest status
  shows_all dialogue rest status is talked left =
      let line = note_of limits status in
      record {
        status_is = is;
        puts_shown = talked.put ∙ ap (λ (b : List ℕ). with_bytes b call.console.shown) (puts-append dialogue (noting line) ∙ ap (λ (b : List ℕ). puts dialogue ++ b) (puts-noting line) ∙ append-nil (puts dialogue));
        notes_noted = talked.note ∙ ap (λ (b : List ℕ). with_bytes b call.console.noted) (notes-append dialogue (noting line) ∙ ap (λ (b : List ℕ). notes dialogue ++ b) (notes-noting line));
        input_left = left;
      }

  reply_shows : (r : IsSaid after.status) (status : Status) (dialogue : List Item) (rest : Option (List ℕ)) → r.reply ≡ record { status = status; dialogue = dialogue; left = rest } → Shows call after limits dialogue rest status
  reply_shows r status dialogue rest is =
      shows_all dialogue rest status (r.same ∙ status_is is) (subst (Talked call.console after.console) (ap (all_said limits) is) r.talked) (r.same_left ∙ ap (λ (reply : Reply). reply.left) is)

  -- where the input is told, the limited run that a reply tells is the one that is given
  ends_shown : (r : IsSaid after.status) (files : List (List ℕ)) (input : List ℕ) (outcome : Outcome SetEnding) → call.console.left ≡ Some input → LimitedRun files limits (answers_of input) outcome
      → (answers : gets.Answers) → MayGive call.console.left answers → EndsAs files limits call.console.left answers r.reply → Shows call after limits outcome.dialogue (Some (bytes_of outcome.left)) (typed_status outcome.ending)
  ends_shown r files input outcome tells run answers may ends =
      let told : answers ≡ answers_of input = subst (λ (l : Option (List ℕ)). MayGive l answers) tells may in
      let one : ends.outcome ≡ outcome = run_is_one one_linked files (bounds_of limits) (answers_of input) ends.outcome outcome (subst (λ (a : gets.Answers). LimitedRun files limits a ends.outcome) told ends.ends) run in
      let here = reply_shows r (typed_status ends.outcome.ending) ends.outcome.dialogue (left_of call.console.left ends.outcome.left) ends.is in
      let left_told = subst (λ (l : Option (List ℕ)). Shows call after limits ends.outcome.dialogue (left_of l ends.outcome.left) (typed_status ends.outcome.ending)) tells here in
      subst (λ (o : Outcome SetEnding). Shows call after limits o.dialogue (Some (bytes_of o.left)) (typed_status o.ending)) one left_told

  set_shown : (r : IsSaid after.status) (files : List (List ℕ)) (input : List ℕ) (outcome : Outcome SetEnding) → call.console.left ≡ Some input → LimitedRun files limits (answers_of input) outcome → SetReplies files limits call.console.left r.reply
      → Shows call after limits outcome.dialogue (Some (bytes_of outcome.left)) (typed_status outcome.ending)
  set_shown r files input outcome tells run (inl runs) = ends_shown r files input outcome tells run runs.answers runs.may runs.ends
  set_shown r files input outcome tells run (inr refuses) = absurd (accepted_or_refused files refuses.refusal run.accepted refuses.refused)

  -- where it is not, it is a run on some answers
  ends_some : (r : IsSaid after.status) (files : List (List ℕ)) → call.console.left ≡ None → (answers : gets.Answers) → EndsAs files limits call.console.left answers r.reply → ShowsSome call after files limits
  ends_some r files untold answers ends =
      let here = reply_shows r (typed_status ends.outcome.ending) ends.outcome.dialogue (left_of call.console.left ends.outcome.left) ends.is in
      record {
        answers = answers;
        outcome = ends.outcome;
        ends = ends.ends;
        shows = subst (λ (l : Option (List ℕ)). Shows call after limits ends.outcome.dialogue (left_of l ends.outcome.left) (typed_status ends.outcome.ending)) untold here;
      }

  set_some : (r : IsSaid after.status) (files : List (List ℕ)) → call.console.left ≡ None → Accepted files → SetReplies files limits call.console.left r.reply → ShowsSome call after files limits
  set_some r files untold accepted (inl runs) = ends_some r files untold runs.answers runs.ends
  set_some r files untold accepted (inr refuses) = absurd (accepted_or_refused files refuses.refusal accepted refuses.refused)

  -- the infusion of an accepted set is one
  own_infusion : (files : List (List ℕ)) (image : Image) → IsImageOf files image → IsInfusion (encoding image) image
  own_infusion files image is = record { encoded = (sets.image files image is, refl); checked = sets.checked files image is; built = sets.built files image is }

  -- what ran is the image of the set
  infusion_ends : (r : IsSaid after.status) (files : List (List ℕ)) (image : Image) → IsImageOf files image → (runs : RunsInfusion (encoding image) limits call.console.left r.reply) → EndsAs files limits call.console.left runs.runs.answers r.reply
  infusion_ends r files image is runs =
      let same : runs.image ≡ image = one_image (encoding image) runs.image image runs.infusion.encoded (own_infusion files image is).encoded in
      image_ends sets.alike files image is limits call.console.left runs.runs.answers r.reply (subst (λ (i : Image). ImageEndsAs i limits call.console.left runs.runs.answers r.reply) same runs.runs.ends)

  infusion_shown : (r : IsSaid after.status) (files : List (List ℕ)) (input : List ℕ) (outcome : Outcome SetEnding) (image : Image) → IsImageOf files image → call.console.left ≡ Some input → LimitedRun files limits (answers_of input) outcome → InfusionReplies (encoding image) limits call.console.left r.reply
      → Shows call after limits outcome.dialogue (Some (bytes_of outcome.left)) (typed_status outcome.ending)
  infusion_shown r files input outcome image is tells run (inl runs) = ends_shown r files input outcome tells run runs.runs.answers runs.runs.may (infusion_ends r files image is runs)
  infusion_shown r files input outcome image is tells run (inr none) = absurd (infusion_is_one (encoding image) image (own_infusion files image is) none.refusal none.none)

  infusion_some : (r : IsSaid after.status) (files : List (List ℕ)) (image : Image) → IsImageOf files image → call.console.left ≡ None → InfusionReplies (encoding image) limits call.console.left r.reply → ShowsSome call after files limits
  infusion_some r files image is untold (inl runs) = ends_some r files untold runs.runs.answers (infusion_ends r files image is runs)
  infusion_some r files image is untold (inr none) = absurd (infusion_is_one (encoding image) image (own_infusion files image is) none.refusal none.none)

  -- ---- refusals and what is stored

  refused_as : (r : IsSaid after.status) (files : List (List ℕ)) (refusal : Refusal) → RefusesSet files call.console.left r.reply → (after.status ≡ Refused refusal) ↔ IsRefused files refusal
  refused_as r files refusal refuses =
      let same : after.status ≡ Refused refuses.refusal = r.same ∙ status_is refuses.is in (
        λ is. subst (IsRefused files) (same_refusal refuses.refusal refusal (sym same ∙ is)) refuses.refused,
        λ other. same ∙ ap (λ (x : Refusal). Refused x) (one_refusal files refuses.refusal refusal refuses.refused other),
      )

  set_refused : (r : IsSaid after.status) (files : List (List ℕ)) (refusal : Refusal) → SetReplies files limits call.console.left r.reply → (after.status ≡ Refused refusal) ↔ IsRefused files refusal
  set_refused r files refusal (inr refuses) = refused_as r files refusal refuses
  set_refused r files refusal (inl runs) = (
    λ is. absurd (subst IsRunEnd (sym r.same ∙ is) runs.status),
    λ refused. absurd (accepted_or_refused files refusal runs.accepted refused),
  )

  store_refused : (r : IsSaid after.status) (files : List (List ℕ)) (out : List ℕ) (refusal : Refusal) → StoreReplies files out call.shelf.kept after.shelf.kept call.console.left r.reply → (after.status ≡ Refused refusal) ↔ IsRefused files refusal
  store_refused r files out refusal (inr nothing) = refused_as r files refusal nothing.refused
  store_refused r files out refusal (inl stores) = (
    λ is. absurd (done_is_refused refusal (sym (status_is stores.is) ∙ sym r.same ∙ is)),
    λ refused. absurd (accepted_or_refused files refusal stores.infusion.is_image.accepted refused),
  )

  stored_as : (r : IsSaid after.status) (files : List (List ℕ)) (out : List ℕ) → InfusesTo call files out → StoreReplies files out call.shelf.kept after.shelf.kept call.console.left r.reply → Accepted files ↔ StoresInfusion call after files out
  stored_as r files out given (inr nothing) = (
    λ accepted. absurd (accepted_or_refused files nothing.refused.refusal accepted nothing.refused.refused),
    λ stored. stored.is_image.accepted,
  )
  stored_as r files out given (inl stores) = (
    λ accepted.
        record {
          done = r.same ∙ status_is stores.is;
          image = stores.infusion.image;
          is_image = stores.infusion.is_image;
          kept = given.kept;
          tells = given.tells;
          stored = stores.stored ∙ ap (option_map (λ kept. insert kept out stores.bytes)) given.tells ∙ ap (λ (b : List ℕ). Some (insert given.kept out b)) stores.infusion.is_encoding;
        },
    λ stored. stored.is_image.accepted,
  )

  -- ---- infusions

  infusion_as : (r : IsSaid after.status) (bytes : List ℕ) → InfusionReplies bytes limits call.console.left r.reply → SaysNoInfusion bytes after.status ⊎ RanInfusion call after bytes limits
  infusion_as r bytes (inr none) = inl (record { refusal = none.refusal; status_is = r.same ∙ status_is none.is; none = none.none })
  infusion_as r bytes (inl runs) =
      let ends = runs.runs.ends in
      inr (record {
        image = runs.image;
        infusion = runs.infusion;
        answers = runs.runs.answers;
        may = runs.runs.may;
        shows = record { outcome = ends.outcome; ends = ends.ends; shows = reply_shows r (split_status runs.image ends.outcome.ending) ends.outcome.dialogue (left_of call.console.left ends.outcome.left) ends.is };
      })

  -- ---- causes

  cause_of : (status : Status) → IsCalled status → HasCause call after status
  cause_of (ShelfFault word) a = may_shelf call after.shelf limits a.reply after refl word (sym a.same) a.may
  cause_of ConsoleFault a = record { rose = a.broke.rose; full = room_of a.broke.failed call.console.room after.console.shown after.console.noted a.broke.full }
  cause_of Memory a = a
  cause_of _ a = tt

-- ---- the promises

module _ (sets : SetsAreInfused) (call : Call) (after : After) (replied : IsReplied call after) where
  abbrev answer_said : IsAnswer after.status → Replied (all_said replied.limits) (MayReply call after.shelf replied.limits) call.console after.console after.status
  answer_said answer = said sets call after replied.limits answer replied.answers

  reply_answer : (answer : IsAnswer after.status) → IsAnswer (answer_said answer).reply.status
  reply_answer answer = subst IsAnswer (answer_said answer).same answer

  headline : (files : List (List ℕ)) (limits : Limits) (input : List ℕ) (outcome : Outcome SetEnding) → RunsSet call files limits → call.console.left ≡ Some input
      → LimitedRun files limits (answers_of input) outcome → IsAnswer after.status → Shows call after limits outcome.dialogue (Some (bytes_of outcome.left)) (typed_status outcome.ending)
  headline files limits input outcome (inl goes) tells run answer =
      let r = answer_said answer in
      let on = go_on call after.shelf replied.limits r.reply files limits goes (reply_answer answer) r.may in
      let here : LimitedRun files replied.limits (answers_of input) outcome = subst (λ (l : Limits). LimitedRun files l (answers_of input) outcome) (sym on.0) run in
      subst (λ (l : Limits). Shows call after l outcome.dialogue (Some (bytes_of outcome.left)) (typed_status outcome.ending)) on.0 (set_shown sets call after replied.limits r files input outcome tells here on.1)
  headline files limits input outcome (inr given) tells run answer =
      let r = answer_said answer in
      let on = run_on call after.shelf replied.limits r.reply (encoding given.image) limits given.runs (reply_answer answer) r.may in
      let here : LimitedRun files replied.limits (answers_of input) outcome = subst (λ (l : Limits). LimitedRun files l (answers_of input) outcome) (sym on.0) run in
      subst (λ (l : Limits). Shows call after l outcome.dialogue (Some (bytes_of outcome.left)) (typed_status outcome.ending)) on.0 (infusion_shown sets call after replied.limits r files input outcome given.image given.is_image tells here on.1)

  untold : (files : List (List ℕ)) (limits : Limits) → RunsSet call files limits → call.console.left ≡ None → Accepted files → IsAnswer after.status → ShowsSome call after files limits
  untold files limits (inl goes) none accepted answer =
      let r = answer_said answer in
      let on = go_on call after.shelf replied.limits r.reply files limits goes (reply_answer answer) r.may in
      subst (λ (l : Limits). ShowsSome call after files l) on.0 (set_some sets call after replied.limits r files none accepted on.1)
  untold files limits (inr given) none accepted answer =
      let r = answer_said answer in
      let on = run_on call after.shelf replied.limits r.reply (encoding given.image) limits given.runs (reply_answer answer) r.may in
      subst (λ (l : Limits). ShowsSome call after files l) on.0 (infusion_some sets call after replied.limits r files given.image given.is_image none on.1)

  refused : (files : List (List ℕ)) (refusal : Refusal) → LoadsSet call files → IsAnswer after.status → (after.status ≡ Refused refusal) ↔ IsRefused files refusal
  refused files refusal (inl (limits, goes)) answer =
      let r = answer_said answer in
      set_refused sets call after replied.limits r files refusal (go_on call after.shelf replied.limits r.reply files limits goes (reply_answer answer) r.may).1
  refused files refusal (inr (out, infuses)) answer =
      let r = answer_said answer in
      store_refused sets call after replied.limits r files out refusal (infuse_on call after.shelf replied.limits r.reply files out infuses (reply_answer answer) r.may)

  stored : (files : List (List ℕ)) (out : List ℕ) → InfusesTo call files out → IsAnswer after.status → Accepted files ↔ StoresInfusion call after files out
  stored files out infuses answer =
      let r = answer_said answer in
      stored_as sets call after replied.limits r files out infuses (infuse_on call after.shelf replied.limits r.reply files out infuses (reply_answer answer) r.may)

  infusion : (bytes : List ℕ) (limits : Limits) → RunsOn call bytes limits → IsAnswer after.status → SaysNoInfusion bytes after.status ⊎ RanInfusion call after bytes limits
  infusion bytes limits runs answer =
      let r = answer_said answer in
      let on = run_on call after.shelf replied.limits r.reply bytes limits runs (reply_answer answer) r.may in
      subst (λ (l : Limits). SaysNoInfusion bytes after.status ⊎ RanInfusion call after bytes l) on.0 (infusion_as sets call after replied.limits r bytes on.1)

  words : (place : ℕ) → extent after.status ≡ Whole → (after.status ≡ Words place) ↔ FaultsAt call.words place
  words place whole =
      let r = whole_of (all_said replied.limits) (MayReply call after.shelf replied.limits) call.console after.console after.status whole replied.answers in (
        λ is. may_words call after.shelf replied.limits r.reply place (sym r.same ∙ is) r.may,
        λ fault. r.same ∙ fault_reply call after.shelf replied.limits r.reply place fault r.may,
      )

  pub promised : KeepsShelf call.words call.shelf after.shelf → Promises call after
  promised shelf =
      let console = same_console (extent after.status) (all_said replied.limits) (MayReply call after.shelf replied.limits) call.console after.console after.status replied.answers in
      record {
        replied = replied;
        headline = headline;
        untold = untold;
        refused = refused;
        stored = stored;
        infusion = infusion;
        words = words;
        faults = cause_of sets call after replied.limits after.status replied.answers;
        stays = record { shelf = shelf; faults = console.0; room = console.1 };
      }
