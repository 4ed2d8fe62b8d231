-- What a call may reply, as a relation of the call, what the shelf keeps after it, and what a run may use.
use Rattle.std.specs.Prelude.{◌≡◌, ◌⊎◌, ℕ, ◌+◌, List, [], ◌∷◌, ◌++◌, Option, Some, option_map, IfSome, slice_get}
use Rattle.std.specs.FinMap.{get, insert}
use Rattle.dialogue.specs.Answers.{Answers, bytes_of, MayGive}
use Rattle.dialogue.specs.Dialogue.{Item, noting}
use Rattle.dialogue.specs.Limits.{Limits}
use Rattle.dialogue.specs.Outcome.{Outcome}
use Rattle.host_face.specs.Faults.{Rose}
use Rattle.host_face.specs.Shelf.{Files, ChangesOnly}
use Rattle.image_form.specs.declared.record.Image.{Image}
use Rattle.image_form.specs.declared.refusal.FormRefusal.{FormRefusal}
use Rattle.image_form.specs.Format.{encoding}
use Rattle.image_form.specs.Grammar.{IsEncoded}
use Rattle.image_form.specs.Refused as form
use Rattle.image_check.specs.declared.refusal.CheckRefusal.{CheckRefusal}
use Rattle.image_check.specs.Checked.{IsChecked, IsBuilt}
use Rattle.image_check.specs.Refused as check
use Rattle.jvm_model.specs.declared.refusal.Refusal.{Refusal}
use Rattle.mote_model.specs.declared.ending.Ending.{Ending}
use Rattle.jvm_model.specs.Phases.{saturated}
use Rattle.set_verdict.specs.Verdict.{Accepted, IsImageOf, IsRefused}
use Rattle.set_outcome.specs.ImageOutcome.{LimitedSo}
use Rattle.set_outcome.specs.SetOutcome.{SetEnding, LimitedRun}
use Rattle.mote_top.specs.declared.status.Status.{Status}
use Rattle.mote_top.specs.declared.status.Status.TheVariants.{Done, Uncaught, Words, Refused, Infusion, Spent, HeapWanted, StackWanted, Misfit, ShelfFault}
use Rattle.mote_top.specs.declared.status.ImageRefusal.{ImageRefusal}
use Rattle.mote_top.specs.Words.{IsName, AreNames, Setting, AreOptions, infuse_of, run_of, go_of, class_place, limits_of, FaultsAt}
use Rattle.mote_top.specs.Status.{note_of}
use Rattle.mote_top.specs.Endings.{typed_status, split_status, form_refusal, check_refusal}
use Rattle.mote_top.specs.Call.{Shelved, Call}

-- a status, the dialogue of the run, if there was one, and the input left, where it is told
pub record Reply : Type 0 where
  pub status : Status
  pub dialogue : List Item
  pub left : Option (List ℕ)

-- nothing was run
abbrev pub quiet : Status → Option (List ℕ) → Reply
quiet status left = record { status = status; dialogue = []; left = left }

abbrev pub dialogue_of : Reply → List Item
dialogue_of reply = reply.dialogue

-- all that is said: the dialogue, and the line of the status
abbrev pub all_said : Limits → Reply → List Item
all_said limits reply = reply.dialogue ++ noting (note_of limits reply.status)

-- how a run ends
abbrev pub IsRunEnd : Status → Type 0
IsRunEnd Done = Unit {0}
IsRunEnd (Uncaught class) = Unit {0}
IsRunEnd Spent = Unit {0}
IsRunEnd (HeapWanted need live) = Unit {0}
IsRunEnd (StackWanted need used) = Unit {0}
IsRunEnd (Misfit class place) = Unit {0}
IsRunEnd _ = ⊥

-- these bytes are kept at the name, where the shelf tells what it keeps
abbrev pub HasAt : Option Files → (name bytes : List ℕ) → Type 0
HasAt kept name bytes = IfSome kept (λ files. get files name ≡ Some bytes)

-- these bytes are kept at these names, one by one
abbrev pub HaveAll : Option Files → (names files : List (List ℕ)) → Type 0
HaveAll kept [] [] = Unit {0}
HaveAll kept (name ∷ names) (bytes ∷ files) = HasAt kept name bytes × HaveAll kept names files
HaveAll kept _ _ = ⊥

-- ---- sets of class files

-- the set is refused, and nothing is run
pub record RefusesSet (files : List (List ℕ)) (left : Option (List ℕ)) (reply : Reply) : Type 0 where
  pub refusal : Refusal
  pub refused : IsRefused files refusal
  pub is : reply ≡ quiet (Refused refusal) left

-- what a run leaves, where the input was told
abbrev pub left_of : Option (List ℕ) → Answers → Option (List ℕ)
left_of left answers = option_map (λ _. bytes_of answers) left

-- the limited run of the set on these answers ends so
pub record EndsAs (files : List (List ℕ)) (limits : Limits) (left : Option (List ℕ)) (answers : Answers) (reply : Reply) : Type 0 where
  pub outcome : Outcome SetEnding
  pub ends : LimitedRun files limits answers outcome
  pub is : reply ≡ record { status = typed_status outcome.ending; dialogue = outcome.dialogue; left = left_of left outcome.left }

-- the set is accepted, and runs: on its input where that is told, else each get gives any byte or the end
pub record RunsSet (files : List (List ℕ)) (limits : Limits) (left : Option (List ℕ)) (reply : Reply) : Type 0 where
  pub accepted : Accepted files
  pub status : IsRunEnd reply.status
  pub answers : Answers
  pub may : MayGive left answers
  pub ends : EndsAs files limits left answers reply

-- what a set answers
abbrev pub SetReplies : List (List ℕ) → Limits → Option (List ℕ) → Reply → Type 0
SetReplies files limits left reply = RunsSet files limits left reply ⊎ RefusesSet files left reply

-- ---- infusions

-- the bytes are no infusion that runs: their form is refused, or the check of their image
pub record FailsForm (bytes : List ℕ) (refusal : ImageRefusal) : Type 0 where
  pub why : FormRefusal
  pub refused : form.IsRefused bytes why
  pub is : refusal ≡ form_refusal why

pub record FailsCheck (bytes : List ℕ) (refusal : ImageRefusal) : Type 0 where
  pub image : Image
  pub why : CheckRefusal
  pub encoded : IsEncoded bytes image
  pub refused : check.IsRefused image why
  pub is : refusal ≡ check_refusal why

abbrev pub IsNoInfusion : List ℕ → ImageRefusal → Type 0
IsNoInfusion bytes refusal = FailsForm bytes refusal ⊎ FailsCheck bytes refusal

-- the bytes are the encoding of the image, which is checked, and which the machine runs
pub record IsInfusion (bytes : List ℕ) (image : Image) : Type 0 where
  pub encoded : IsEncoded bytes image
  pub checked : IsChecked image
  pub built : IsBuilt image

pub record RefusesInfusion (bytes : List ℕ) (left : Option (List ℕ)) (reply : Reply) : Type 0 where
  pub refusal : ImageRefusal
  pub none : IsNoInfusion bytes refusal
  pub is : reply ≡ quiet (Infusion refusal) left

-- the limited run of the image on these answers ends so
pub record ImageEndsAs (image : Image) (limits : Limits) (left : Option (List ℕ)) (answers : Answers) (reply : Reply) : Type 0 where
  pub outcome : Outcome Ending
  pub ends : LimitedSo image limits answers outcome
  pub is : reply ≡ record { status = split_status image outcome.ending; dialogue = outcome.dialogue; left = left_of left outcome.left }

-- the image runs: on its input where that is told, else each get gives any byte or the end
pub record RunsImage (image : Image) (limits : Limits) (left : Option (List ℕ)) (reply : Reply) : Type 0 where
  pub status : IsRunEnd reply.status
  pub answers : Answers
  pub may : MayGive left answers
  pub ends : ImageEndsAs image limits left answers reply

pub record RunsInfusion (bytes : List ℕ) (limits : Limits) (left : Option (List ℕ)) (reply : Reply) : Type 0 where
  pub image : Image
  pub infusion : IsInfusion bytes image
  pub runs : RunsImage image limits left reply

-- what an infusion answers
abbrev pub InfusionReplies : List ℕ → Limits → Option (List ℕ) → Reply → Type 0
InfusionReplies bytes limits left reply = RunsInfusion bytes limits left reply ⊎ RefusesInfusion bytes left reply

-- ---- what infuse stores

-- the bytes are the infusion of the set
pub record IsInfusionOf (files : List (List ℕ)) (bytes : List ℕ) : Type 0 where
  pub image : Image
  pub is_image : IsImageOf files image
  pub is_encoding : bytes ≡ encoding image

-- the infusion of the set is kept at the name now, and all other names keep what they had
pub record StoresSet (files : List (List ℕ)) (out : List ℕ) (kept now : Option Files) (left : Option (List ℕ)) (reply : Reply) : Type 0 where
  pub bytes : List ℕ
  pub infusion : IsInfusionOf files bytes
  pub stored : now ≡ option_map (λ kept. insert kept out bytes) kept
  pub is : reply ≡ quiet Done left

-- the set is refused, and nothing is stored
pub record StoresNothing (files : List (List ℕ)) (kept now : Option Files) (left : Option (List ℕ)) (reply : Reply) : Type 0 where
  pub refused : RefusesSet files left reply
  pub same : now ≡ kept

abbrev pub StoreReplies : List (List ℕ) → List ℕ → (kept now : Option Files) → Option (List ℕ) → Reply → Type 0
StoreReplies files out kept now left reply = StoresSet files out kept now left reply ⊎ StoresNothing files kept now left reply

-- ---- commands

-- the words are no command
pub record FaultsIn (call : Call) (shelf : Shelved) (reply : Reply) : Type 0 where
  pub place : ℕ
  pub faults : FaultsAt call.words place
  pub same : shelf.kept ≡ call.shelf.kept
  pub is : reply ≡ quiet (Words place) call.console.left

-- go on these files
pub record Goes (call : Call) (shelf : Shelved) (limits : Limits) (reply : Reply) : Type 0 where
  pub settings : List Setting
  pub classes : List (List ℕ)
  pub command : call.words ≡ go_of settings classes
  pub options : AreOptions settings
  pub are_classes : AreNames classes
  pub limits_are : limits ≡ limits_of settings
  pub files : List (List ℕ)
  pub found : HaveAll call.shelf.kept classes files
  pub same : shelf.kept ≡ call.shelf.kept
  pub replies : SetReplies files limits call.console.left reply

-- run of this infusion
pub record Runs (call : Call) (shelf : Shelved) (limits : Limits) (reply : Reply) : Type 0 where
  pub settings : List Setting
  pub name : List ℕ
  pub command : call.words ≡ run_of name settings
  pub is_name : IsName name
  pub options : AreOptions settings
  pub limits_are : limits ≡ limits_of settings
  pub bytes : List ℕ
  pub found : HasAt call.shelf.kept name bytes
  pub same : shelf.kept ≡ call.shelf.kept
  pub replies : InfusionReplies bytes limits call.console.left reply

-- infuse of these files
pub record Infuses (call : Call) (shelf : Shelved) (reply : Reply) : Type 0 where
  pub out : List ℕ
  pub classes : List (List ℕ)
  pub command : call.words ≡ infuse_of out classes
  pub is_out : IsName out
  pub are_classes : AreNames classes
  pub files : List (List ℕ)
  pub found : HaveAll call.shelf.kept classes files
  pub replies : StoreReplies files out call.shelf.kept shelf.kept call.console.left reply

-- the words load these names, of which the first is at this place
pub data LoadsFrom (words : List (List ℕ)) : List (List ℕ) → ℕ → Type 0 where
  OfGo : (settings : List Setting) (classes : List (List ℕ)) → words ≡ go_of settings classes → AreOptions settings → AreNames classes → LoadsFrom words classes (class_place settings)
  OfRun : (name : List ℕ) (settings : List Setting) → words ≡ run_of name settings → IsName name → AreOptions settings → LoadsFrom words (name ∷ []) 1
  OfInfuse : (out : List ℕ) (classes : List (List ℕ)) → words ≡ infuse_of out classes → IsName out → AreNames classes → LoadsFrom words classes 2

-- the name at a place is one that the words load
pub record Loads (words : List (List ℕ)) (name : List ℕ) (place : ℕ) : Type 0 where
  pub names : List (List ℕ)
  pub first : ℕ
  pub from : LoadsFrom words names first
  pub at : ℕ
  pub there : slice_get names at ≡ Some name
  pub place_is : place ≡ first + at

-- a load failed: the shelf's count for its name rose, and nothing changed
pub record FailsLoad (call : Call) (shelf : Shelved) (reply : Reply) : Type 0 where
  pub name : List ℕ
  pub place : ℕ
  pub loads : Loads call.words name place
  pub rose : Rose (call.shelf.load_faults name) (shelf.load_faults name)
  pub same : shelf.kept ≡ call.shelf.kept
  pub is : reply ≡ quiet (ShelfFault (saturated place)) call.console.left

-- the store failed: the shelf's count for its name rose, and no other name changed
pub record FailsStore (call : Call) (shelf : Shelved) (reply : Reply) : Type 0 where
  pub out : List ℕ
  pub classes : List (List ℕ)
  pub command : call.words ≡ infuse_of out classes
  pub is_out : IsName out
  pub are_classes : AreNames classes
  pub files : List (List ℕ)
  pub found : HaveAll call.shelf.kept classes files
  pub accepted : Accepted files
  pub rose : Rose (call.shelf.store_faults out) (shelf.store_faults out)
  pub others : ChangesOnly out call.shelf.kept shelf.kept
  pub is : reply ≡ quiet (ShelfFault 1) call.console.left

-- the reply is one that the call may give, where this is what the shelf is after it
pub data MayReply (call : Call) (shelf : Shelved) (limits : Limits) (reply : Reply) : Type 0 where
  NoCommand : FaultsIn call shelf reply → MayReply call shelf limits reply
  Go : Goes call shelf limits reply → MayReply call shelf limits reply
  Run : Runs call shelf limits reply → MayReply call shelf limits reply
  Infuse : Infuses call shelf reply → MayReply call shelf limits reply
  NoLoad : FailsLoad call shelf reply → MayReply call shelf limits reply
  NoStore : FailsStore call shelf reply → MayReply call shelf limits reply
