-- How much of a reply a call gave: all of it, what came before a failure of the console, or nothing.
use Rattle.std.specs.Prelude.{◌≡◌, ◌≤◌, true, false, List}
use Rattle.dialogue.specs.Dialogue.{Item, gets, noting}
use Rattle.dialogue.specs.Limits.{Limits}
use Rattle.host_face.specs.Talk as talk
use Rattle.host_face.specs.Talk.{without_first}
use Rattle.mote_top.specs.declared.status.Status.{Status}
use Rattle.mote_top.specs.declared.status.Status.TheVariants.{ConsoleFault, Memory}
use Rattle.mote_top.specs.Status.{note_of, has_note}
use Rattle.mote_top.specs.Call.{Spoken}
use Rattle.mote_top.specs.Reply.{Reply, quiet}

-- how much the status says was given
pub data Extent : Type 0 where
  Whole : Extent
  Part : Extent
  Nothing : Extent

abbrev pub extent : Status → Extent
extent ConsoleFault = Part
extent Memory = Nothing
extent _ = Whole

-- ---- on a console's values

-- the puts and notes of these items were shown and noted, and nothing else
abbrev pub Talked : (old new : Spoken) → List Item → Type 0
Talked old new items = talk.Talked (λ c. c.shown) (λ c. c.noted) (λ c. c.faults) (λ c. c.room) old new items

-- the items before one were said and it failed: the count of faults rose, and unless it asked for a byte,
-- the input left is the old one without as many bytes as were asked for before
abbrev pub BrokeOff : (old new : Spoken) → List Item → Type 0
BrokeOff old new items = talk.BrokeOff (λ c. c.left) (λ c. c.shown) (λ c. c.noted) (λ c. c.faults) (λ c. c.room) old new items

-- nothing was read, shown or noted
pub record Untouched (old new : Spoken) : Type 0 where
  pub same_left : new.left ≡ old.left
  pub same_shown : new.shown ≡ old.shown
  pub same_noted : new.noted ≡ old.noted
  pub counted : old.faults ≤ new.faults
  pub same_room : new.room ≡ old.room

-- ---- on replies, of which `said` is what counts: the dialogue, or the dialogue and the line

-- a reply that may be given, all of which was said; what is left of the input is the reply's own, which is
-- the old one without as many bytes as were asked for
pub record Replied (said : Reply → List Item) (May : Reply → Type 0) (old new : Spoken) (status : Status) : Type 0 where
  pub reply : Reply
  pub may : May reply
  pub same : status ≡ reply.status
  pub talked : Talked old new (said reply)
  pub same_left : new.left ≡ reply.left
  pub rest : new.left ≡ without_first (gets (said reply)) old.left

-- a reply that may be given, of which a proper prefix was said when the console failed
pub record Failed (said : Reply → List Item) (May : Reply → Type 0) (old new : Spoken) : Type 0 where
  pub reply : Reply
  pub may : May reply
  pub broke : BrokeOff old new (said reply)

abbrev pub AnswersTo : Extent → (Reply → List Item) → (Reply → Type 0) → (old new : Spoken) → Status → Type 0
AnswersTo Whole said May old new status = Replied said May old new status
AnswersTo Part said May old new status = Failed said May old new
AnswersTo Nothing said May old new status = Untouched old new

-- the status is that of a reply, and all of the reply was said; or the console failed, and a proper prefix
-- of what some reply says was said; or there was no memory, and nothing was said
abbrev pub Answers : (Reply → List Item) → (Reply → Type 0) → (old new : Spoken) → Status → Type 0
Answers said May old new status = AnswersTo (extent status) said May old new status

-- a status without a dialogue, whatever the console; want of memory is free, and the console did not fail
abbrev pub IsQuietTo : Extent → (Spoken → Reply → Type 0) → Status → Type 0
IsQuietTo Whole May status = (console : Spoken) → May console (quiet status console.left)
IsQuietTo Part May status = ⊥
IsQuietTo Nothing May status = Unit {0}

abbrev pub IsQuiet : (Spoken → Reply → Type 0) → Status → Type 0
IsQuiet May status = IsQuietTo (extent status) May status

-- ---- the line of a status

-- a status without a line is answered; another is answered once its line was noted, or the console failed at it
pub data IsNoted (limits : Limits) (old new : Spoken) (status result : Status) : Type 0 where
  Unnoted : has_note status ≡ false → result ≡ status → new ≡ old → IsNoted limits old new status result
  Noted : has_note status ≡ true → result ≡ status → Talked old new (noting (note_of limits status)) → new.left ≡ old.left → IsNoted limits old new status result
  Broken : has_note status ≡ true → result ≡ ConsoleFault → BrokeOff old new (noting (note_of limits status)) → IsNoted limits old new status result
