-- What each call of `mote` promises. The words are in Headline.antt, those of replies in Reply.antt.
use Rattle.std.specs.Prelude.{◌≡◌, ℕ, ◌↔◌, ◌⊎◌, List, Some, None}
use Rattle.dialogue.specs.Answers.{answers_of, bytes_of}
use Rattle.dialogue.specs.Limits.{Limits}
use Rattle.dialogue.specs.Outcome.{Outcome}
use Rattle.jvm_model.specs.declared.refusal.Refusal.{Refusal}
use Rattle.set_verdict.specs.Verdict.{Accepted, IsRefused}
use Rattle.set_outcome.specs.SetOutcome.{SetEnding, LimitedRun}
use Rattle.mote_top.specs.declared.status.Status.TheVariants.{Words, Refused}
use Rattle.mote_top.specs.Words.{FaultsAt}
use Rattle.mote_top.specs.Endings.{typed_status}
use Rattle.mote_top.specs.Call.{Call, After}
use Rattle.mote_top.specs.Answer.{Whole, extent}
use Rattle.mote_top.specs.Headline.{RunsSet, LoadsSet, RunsOn, InfusesTo, IsAnswer, IsReplied, Shows, ShowsSome, RanInfusion, SaysNoInfusion, StoresInfusion, HasCause, Stays}

pub record Promises (call : Call) (after : After) : Type 0 where
  -- The status, what is shown and noted, the input left and what is kept are those of a reply that the call
  -- may give. Where the console failed, a proper prefix of a reply was said; without memory, nothing was.
  pub replied : IsReplied call after
  -- The headline: go of an accepted set, and run of its infusion, show, leave and answer what the limited
  -- run of the set on the typed machine does, unless the outside or memory fails.
  pub headline : (files : List (List ℕ)) (limits : Limits) (input : List ℕ) (outcome : Outcome SetEnding) → RunsSet call files limits → call.console.left ≡ Some input
      → LimitedRun files limits (answers_of input) outcome → IsAnswer after.status → Shows call after limits outcome.dialogue (Some (bytes_of outcome.left)) (typed_status outcome.ending)
  -- Where the console does not tell its input, each get may give any byte or the end: they show and answer
  -- what a limited run of the set on some such answers does.
  pub untold : (files : List (List ℕ)) (limits : Limits) → RunsSet call files limits → call.console.left ≡ None
      → Accepted files → IsAnswer after.status → ShowsSome call after files limits
  -- go and infuse refuse a set exactly where the verdict does, and for its refusal.
  pub refused : (files : List (List ℕ)) (refusal : Refusal) → LoadsSet call files → IsAnswer after.status
      → (after.status ≡ Refused refusal) ↔ IsRefused files refusal
  -- infuse stores the infusion of a set exactly where the set is accepted, and changes nothing else.
  pub stored : (files : List (List ℕ)) (out : List ℕ) → InfusesTo call files out → IsAnswer after.status
      → Accepted files ↔ StoresInfusion call after files out
  -- run says why bytes are no infusion, or they are one, which runs as on the split machine.
  pub infusion : (bytes : List ℕ) (limits : Limits) → RunsOn call bytes limits → IsAnswer after.status
      → SaysNoInfusion bytes after.status ⊎ RanInfusion call after bytes limits
  -- The words are at fault exactly where they are no command, unless the console or memory failed.
  pub words : (place : ℕ) → extent after.status ≡ Whole
      → (after.status ≡ Words place) ↔ FaultsAt call.words place
  -- The outside failed only in this call, and without memory nothing was read, shown or noted.
  pub faults : HasCause call after after.status
  -- Only infuse of an accepted set changes what is kept, and only at its name; no count of faults falls.
  pub stays : Stays call after
