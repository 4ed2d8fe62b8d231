-- The words of what a call promises.
use Rattle.std.specs.Prelude.{◌≡◌, ℕ, ◌≤◌, ◌⊎◌, List, ◌++◌, Option, Some, None, slice_get}
use Rattle.std.specs.FinMap.{get, insert}
use Rattle.dialogue.specs.Answers as gets
use Rattle.dialogue.specs.Answers.{MayGive}
use Rattle.dialogue.specs.Dialogue.{Item, puts, notes}
use Rattle.dialogue.specs.Limits.{Limits}
use Rattle.dialogue.specs.Outcome.{Outcome}
use Rattle.host_face.specs.Console.{FillsRoom}
use Rattle.host_face.specs.Faults.{Rose}
use Rattle.host_face.specs.Shelf.{Files, NeverFell, ChangesOnly}
use Rattle.host_face.specs.Talk.{with_bytes}
use Rattle.image_form.specs.declared.record.Image.{Image}
use Rattle.image_form.specs.Format.{encoding}
use Rattle.mote_model.specs.declared.ending.Ending.{Ending}
use Rattle.jvm_model.specs.Phases.{saturated}
use Rattle.set_verdict.specs.Verdict.{Accepted, IsImageOf}
use Rattle.set_outcome.specs.ImageOutcome.{LimitedSo}
use Rattle.set_outcome.specs.SetOutcome.{SetEnding, LimitedRun}
use Rattle.mote_top.specs.declared.status.ImageRefusal.{ImageRefusal}
use Rattle.mote_top.specs.declared.status.Status.{Status}
use Rattle.mote_top.specs.declared.status.Status.TheVariants.{Done, Infusion, ConsoleFault, ShelfFault, Memory}
use Rattle.mote_top.specs.Words.{IsName, AreNames, Setting, AreOptions, infuse_of, run_of, go_of, limits_of}
use Rattle.mote_top.specs.Status.{note_of}
use Rattle.mote_top.specs.Endings.{typed_status, split_status}
use Rattle.mote_top.specs.Call.{Shelved, Call, After}
use Rattle.mote_top.specs.Answer.{Answers, Untouched}
use Rattle.mote_top.specs.Reply.{HaveAll, IsNoInfusion, IsInfusion, Loads, MayReply, all_said, left_of}

-- ---- what a call is

-- the words are go, and what is kept at its classes' names is this set
pub record GoesOn (call : Call) (files : List (List ℕ)) (limits : Limits) : Type 0 where
  pub kept : Files
  pub tells : call.shelf.kept ≡ Some kept
  pub settings : List Setting
  pub classes : List (List ℕ)
  pub command : call.words ≡ go_of settings classes
  pub options : AreOptions settings
  pub are_classes : AreNames classes
  pub limits_are : limits ≡ limits_of settings
  pub found : HaveAll (Some kept) classes files

-- the words are run, and these bytes are kept at the name
pub record RunsOn (call : Call) (bytes : List ℕ) (limits : Limits) : Type 0 where
  pub kept : Files
  pub tells : call.shelf.kept ≡ Some kept
  pub settings : List Setting
  pub name : List ℕ
  pub command : call.words ≡ run_of name settings
  pub is_name : IsName name
  pub options : AreOptions settings
  pub limits_are : limits ≡ limits_of settings
  pub found : get kept name ≡ Some bytes

-- the words are run of the infusion of this set
pub record RunsInfusionOf (call : Call) (files : List (List ℕ)) (limits : Limits) : Type 0 where
  pub image : Image
  pub is_image : IsImageOf files image
  pub runs : RunsOn call (encoding image) limits

-- the words are infuse to this name, and what is kept at the classes' names is this set
pub record InfusesTo (call : Call) (files : List (List ℕ)) (out : List ℕ) : Type 0 where
  pub kept : Files
  pub tells : call.shelf.kept ≡ Some kept
  pub classes : List (List ℕ)
  pub command : call.words ≡ infuse_of out classes
  pub is_out : IsName out
  pub are_classes : AreNames classes
  pub found : HaveAll (Some kept) classes files

-- the words run this set: go of its files, or run of its infusion
abbrev pub RunsSet : Call → List (List ℕ) → Limits → Type 0
RunsSet call files limits = GoesOn call files limits ⊎ RunsInfusionOf call files limits

-- the words load this set: go, or infuse
abbrev pub LoadsSet : Call → List (List ℕ) → Type 0
LoadsSet call files = ((limits : Limits) × GoesOn call files limits) ⊎ ((out : List ℕ) × InfusesTo call files out)

-- ---- what stands after it

-- neither the outside nor memory failed
abbrev pub IsAnswer : Status → Type 0
IsAnswer ConsoleFault = ⊥
IsAnswer (ShelfFault word) = ⊥
IsAnswer Memory = ⊥
IsAnswer _ = Unit {0}

-- the status, the input left and what is kept are those of a reply that the call may give, and all of it
-- was said, or what the status says
pub record IsReplied (call : Call) (after : After) : Type 0 where
  pub limits : Limits
  pub answers : Answers (all_said limits) (MayReply call after.shelf limits) call.console after.console after.status

-- a run with this dialogue, which left this input, where that is told, and ended with this status, is what is told
pub record Shows (call : Call) (after : After) (limits : Limits) (dialogue : List Item) (rest : Option (List ℕ)) (status : Status) : Type 0 where
  pub status_is : after.status ≡ status
  pub puts_shown : after.console.shown ≡ with_bytes (puts dialogue) call.console.shown
  pub notes_noted : after.console.noted ≡ with_bytes (notes dialogue ++ note_of limits status) call.console.noted
  pub input_left : after.console.left ≡ rest

-- the limited run of the set on some answers to its gets is what is told
pub record ShowsSome (call : Call) (after : After) (files : List (List ℕ)) (limits : Limits) : Type 0 where
  pub answers : gets.Answers
  pub outcome : Outcome SetEnding
  pub ends : LimitedRun files limits answers outcome
  pub shows : Shows call after limits outcome.dialogue None (typed_status outcome.ending)

-- the limited run of the image on the split machine ends, and is what is told
pub record ShowsImage (call : Call) (after : After) (limits : Limits) (image : Image) (answers : gets.Answers) : Type 0 where
  pub outcome : Outcome Ending
  pub ends : LimitedSo image limits answers outcome
  pub shows : Shows call after limits outcome.dialogue (left_of call.console.left outcome.left) (split_status image outcome.ending)

-- the bytes are the encoding of a checked image, which ran: on its input where that is told, else each get gave
-- any byte or the end
pub record RanInfusion (call : Call) (after : After) (bytes : List ℕ) (limits : Limits) : Type 0 where
  pub image : Image
  pub infusion : IsInfusion bytes image
  pub answers : gets.Answers
  pub may : MayGive call.console.left answers
  pub shows : ShowsImage call after limits image answers

-- the status says why the bytes are no infusion
pub record SaysNoInfusion (bytes : List ℕ) (status : Status) : Type 0 where
  pub refusal : ImageRefusal
  pub status_is : status ≡ Infusion refusal
  pub none : IsNoInfusion bytes refusal

-- the infusion of the set is kept at the name now, and all other names keep what they had
pub record StoresInfusion (call : Call) (after : After) (files : List (List ℕ)) (out : List ℕ) : Type 0 where
  pub done : after.status ≡ Done
  pub image : Image
  pub is_image : IsImageOf files image
  pub kept : Files
  pub tells : call.shelf.kept ≡ Some kept
  pub stored : after.shelf.kept ≡ Some (insert kept out (encoding image))

-- ---- causes

-- the words store at this name, which is at place 1
abbrev pub Stores : List (List ℕ) → List ℕ → ℕ → Type 0
Stores words name place = (place ≡ 1) × (classes : List (List ℕ)) × (words ≡ infuse_of name classes)

-- in this call the shelf failed for the name at a place, which is this as a status has it: a store where the
-- words store at it, else a load
pub record ShelfFailed (call : Call) (after : After) (word : ℕ) : Type 0 where
  pub name : List ℕ
  pub place : ℕ
  pub word_is : word ≡ saturated place
  pub there : slice_get call.words place ≡ Some name
  pub rose : (Stores call.words name place × Rose (call.shelf.store_faults name) (after.shelf.store_faults name))
      ⊎ (Loads call.words name place × Rose (call.shelf.load_faults name) (after.shelf.load_faults name))

-- in this call the console failed: where it tells its room, that was full
pub record ConsoleFailed (call : Call) (after : After) : Type 0 where
  pub rose : Rose call.console.faults after.console.faults
  pub full : FillsRoom call.console.room after.console.shown ⊎ FillsRoom call.console.room after.console.noted

-- why a call failed; where there was no memory, nothing was read, shown or noted
abbrev pub HasCause : Call → After → Status → Type 0
HasCause call after (ShelfFault word) = ShelfFailed call after word
HasCause call after ConsoleFault = ConsoleFailed call after
HasCause call after Memory = Untouched call.console after.console
HasCause call after _ = Unit {0}

-- ---- what stays

-- the words are infuse of an accepted set, and the shelf changed what it keeps at its name alone
pub record ChangesOut (words : List (List ℕ)) (kept now : Option Files) : Type 0 where
  pub out : List ℕ
  pub classes : List (List ℕ)
  pub command : words ≡ infuse_of out classes
  pub files : List (List ℕ)
  pub found : HaveAll kept classes files
  pub accepted : Accepted files
  pub others : ChangesOnly out kept now

-- only infuse of an accepted set changes what is kept, and only at its name
abbrev pub ChangesOwn : List (List ℕ) → (kept now : Option Files) → Type 0
ChangesOwn words kept now = (now ≡ kept) ⊎ ChangesOut words kept now

-- no count of the shelf fell
pub record KeepsShelf (words : List (List ℕ)) (before after : Shelved) : Type 0 where
  pub kept : ChangesOwn words before.kept after.kept
  pub loads : NeverFell before.load_faults after.load_faults
  pub stores : NeverFell before.store_faults after.store_faults

pub record Stays (call : Call) (after : After) : Type 0 where
  pub shelf : KeepsShelf call.words call.shelf after.shelf
  pub faults : call.console.faults ≤ after.console.faults
  pub room : after.console.room ≡ call.console.room

-- no count of faults rose in the call
pub record NoneRose (call : Call) (after : After) : Type 0 where
  pub loads : (name : List ℕ) → Rose (call.shelf.load_faults name) (after.shelf.load_faults name) → ⊥
  pub stores : (name : List ℕ) → Rose (call.shelf.store_faults name) (after.shelf.store_faults name) → ⊥
  pub console : Rose call.console.faults after.console.faults → ⊥
