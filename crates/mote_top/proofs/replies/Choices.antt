-- Which replies a call may give.
use Rattle.std.proofs.Common.{◌≡◌, ℕ, List, [], ◌∷◌, ◌+◌, Option, inl, inr, refl, ap}
use Rattle.dialogue.specs.Limits.{Limits}
use Rattle.host_face.specs.Shelf.{Files, NeverFell}
use Rattle.host_face.proofs.TalkLemmas.{Rose-then}
use Rattle.mote_top.specs.declared.status.Status.{Status}
use Rattle.mote_top.specs.declared.status.Status.TheVariants.{Done, Words, Refused, ShelfFault, Memory}
use Rattle.mote_top.specs.declared.words.Opts.{Opts}
use Rattle.mote_top.specs.Words.{IsName, AreNames, Setting, AreOptions, infuse_of, run_of, go_of, opts_of, limits_in, FaultsAt}
use Rattle.mote_top.specs.Call.{Shelved, Spoken, call}
use Rattle.mote_top.specs.Reply.{Reply, quiet, HasAt, HaveAll, SetReplies, InfusionReplies, IsInfusionOf, LoadsFrom, MayReply, NoCommand, Go, Run, Infuse, NoLoad, NoStore}
use Rattle.mote_top.specs.Answer.{IsQuiet}
use Rattle.mote_top.specs.Headline.{ChangesOwn}
use Rattle.mote_top.specs.Storing.{FailsAt, FailsToLoad, IsRefusedStatus, IsStored}
use Rattle.mote_top.proofs.replies.Stores.{stored_changes}

limits_are : (settings : List Setting) (opts : Opts) → opts ≡ opts_of settings → limits_in opts ≡ limits_in (opts_of settings)
limits_are settings opts e = ap limits_in e

pub go_may : (settings : List Setting) (classes files : List (List ℕ)) (opts : Opts) → AreOptions settings → opts ≡ opts_of settings → AreNames classes → (before after : Shelved) (console : Spoken)
    → HaveAll before.kept classes files → after.kept ≡ before.kept → (reply : Reply) → SetReplies files (limits_in opts) console.left reply
    → MayReply (call (go_of settings classes) before console) after (limits_in opts) reply
go_may settings classes files opts options opts_are names before after console found same reply replies =
    Go (record { settings = settings; classes = classes; command = refl; options = options; are_classes = names; limits_are = limits_are settings opts opts_are; files = files; found = found; same = same; replies = replies })

pub run_may : (settings : List Setting) (name bytes : List ℕ) (opts : Opts) → AreOptions settings → opts ≡ opts_of settings → IsName name → (before after : Shelved) (console : Spoken)
    → HasAt before.kept name bytes → after.kept ≡ before.kept → (reply : Reply) → InfusionReplies bytes (limits_in opts) console.left reply
    → MayReply (call (run_of name settings) before console) after (limits_in opts) reply
run_may settings name bytes opts options opts_are is_name before after console found same reply replies =
    Run (record { settings = settings; name = name; command = refl; is_name = is_name; options = options; limits_are = limits_are settings opts opts_are; bytes = bytes; found = found; same = same; replies = replies })

-- ---- a load failed

-- of a name of the words
pub load_may : (words names : List (List ℕ)) (first : ℕ) → LoadsFrom words names first → (limits : Limits) (before after : Shelved) → after.kept ≡ before.kept → (status : Status) → FailsToLoad names first before.load_faults after.load_faults status
    → IsQuiet (λ console. MayReply (call words before console) after limits) status
load_may words names first from limits before after same Memory fails = tt
load_may words names first from limits before after same (ShelfFault word) (at, name, there, is, rose) = λ console.
    NoLoad (record {
      name = name;
      place = first + at;
      loads = record { names = names; first = first; from = from; at = at; there = there; place_is = refl };
      rose = rose;
      same = same;
      is = ap (λ (w : ℕ). quiet (ShelfFault w) console.left) is;
    })
load_may words names first from limits before after same _ fails = absurd fails

-- of the one name of run
pub one_load : (name : List ℕ) (before after : List ℕ → ℕ) (status : Status) → FailsAt name 1 before after status → FailsToLoad (name ∷ []) 1 before after status
one_load name before after Memory fails = tt
one_load name before after (ShelfFault word) fails = (0, name, refl, fails.0, fails.1)
one_load name before after _ fails = absurd fails

-- the words are no command
pub words_may : (words : List (List ℕ)) (place : ℕ) (limits : Limits) → FaultsAt words place → (before after : Shelved) (console : Spoken) → after.kept ≡ before.kept
    → MayReply (call words before console) after limits (quiet (Words place) console.left)
words_may words place limits faults before after console same = NoCommand (record { place = place; faults = faults; same = same; is = refl })

-- ---- infuse

-- the set is refused, and nothing was stored
pub infuse_refused_may : (out : List ℕ) (classes files : List (List ℕ)) (limits : Limits) → IsName out → AreNames classes → (before after : Shelved) → HaveAll before.kept classes files → after.kept ≡ before.kept → (status : Status) → IsRefusedStatus files status
    → IsQuiet (λ console. MayReply (call (infuse_of out classes) before console) after limits) status
infuse_refused_may out classes files limits is_out names before after found same Memory is = tt
infuse_refused_may out classes files limits is_out names before after found same (Refused refusal) is = λ console.
    Infuse (record {
      out = out;
      classes = classes;
      command = refl;
      is_out = is_out;
      are_classes = names;
      files = files;
      found = found;
      replies = inr (record { refused = record { refusal = refusal; refused = is; is = refl }; same = same });
    })
infuse_refused_may out classes files limits is_out names before after found same _ is = absurd is

-- the infusion was to be stored, where the shelf kept what it had before the loads
pub infuse_stored_may : (out : List ℕ) (classes files : List (List ℕ)) (infusion : List ℕ) (limits : Limits) → IsName out → AreNames classes → IsInfusionOf files infusion → (before after : Shelved) (faults : List ℕ → ℕ) → HaveAll before.kept classes files
    → NeverFell before.store_faults faults → (status : Status) → IsStored out infusion before.kept after.kept faults after.store_faults status
    → IsQuiet (λ console. MayReply (call (infuse_of out classes) before console) after limits) status
infuse_stored_may out classes files infusion limits is_out names infused before after faults found counts Done stored = λ console.
    Infuse (record {
      out = out;
      classes = classes;
      command = refl;
      is_out = is_out;
      are_classes = names;
      files = files;
      found = found;
      replies = inl (record { bytes = infusion; infusion = infused; stored = stored; is = refl });
    })
infuse_stored_may out classes files infusion limits is_out names infused before after faults found counts Memory stored = tt
infuse_stored_may out classes files infusion limits is_out names infused before after faults found counts (ShelfFault word) stored = λ console.
    NoStore (record {
      out = out;
      classes = classes;
      command = refl;
      is_out = is_out;
      are_classes = names;
      files = files;
      found = found;
      accepted = infused.is_image.accepted;
      rose = Rose-then (before.store_faults out) (faults out) (after.store_faults out) (counts out) stored.2;
      others = stored.1;
      is = ap (λ (w : ℕ). quiet (ShelfFault w) console.left) stored.0;
    })
infuse_stored_may out classes files infusion limits is_out names infused before after faults found counts _ stored = absurd stored

-- whatever the store answers, the set is accepted, and the shelf changed at the name alone
pub infuse_changes : (out : List ℕ) (classes files : List (List ℕ)) (infusion : List ℕ) → IsInfusionOf files infusion → (kept now : Option Files) (before after : List ℕ → ℕ) → HaveAll kept classes files → (status : Status) → IsStored out infusion kept now before after status
    → ChangesOwn (infuse_of out classes) kept now
infuse_changes out classes files infusion infused kept now before after found status stored =
    inr (record {
      out = out;
      classes = classes;
      command = refl;
      files = files;
      found = found;
      accepted = infused.is_image.accepted;
      others = stored_changes out infusion kept now before after status stored;
    })
