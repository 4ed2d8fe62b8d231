-- What a reply that a call may give says of the words, of the shelf, and of what is kept.
use Rattle.std.proofs.Common.{◌≡◌, ℕ, zero, suc, ◌+◌, List, [], ◌∷◌, ◌++◌, length, Option, Some, inl, inr, refl, sym, ap, subst, ◌∙◌, arith}
use Rattle.std.specs.Prelude.{slice_get, codes}
use Rattle.std.specs.FinMap.{get}
use Rattle.dialogue.specs.Limits.{Limits}
use Rattle.host_face.specs.Shelf.{Files}
use Rattle.mote_top.specs.declared.status.Status.{Status}
use Rattle.mote_top.specs.declared.status.Status.TheVariants.{Done, Uncaught, Words, Spent, HeapWanted, StackWanted, Misfit, ShelfFault}
use Rattle.jvm_model.specs.Phases.{saturated}
use Rattle.mote_top.specs.declared.words.Command.{Command}
use Rattle.mote_top.specs.declared.words.Command.TheVariants as commands
use Rattle.mote_top.specs.Words.{IsName, AreNames, Setting, AreOptions, option_words, infuse_of, run_of, go_of, class_place, opts_of, IsCommand, FaultsAt}
use Rattle.mote_top.specs.Call.{Shelved, Call, After}
use Rattle.mote_top.specs.Reply.{Reply, HasAt, HaveAll, IsRunEnd, SetReplies, InfusionReplies, StoreReplies, LoadsFrom, OfGo, OfRun, OfInfuse, Loads, MayReply, NoCommand, Go, Run, Infuse, NoLoad, NoStore}
use Rattle.mote_top.specs.Headline.{GoesOn, RunsOn, InfusesTo, IsAnswer, ShelfFailed}
use Rattle.mote_top.proofs.commands.Commands.{one_slot, go_command, run_command, infuse_command, go_is_no_run, go_is_no_infuse, run_is_no_infuse, one_infuse, one_go, one_run}

-- ---- statuses apart

words_is_shelf : (place word : ℕ) → Words place ≡ ShelfFault word → ⊥
words_is_shelf place word e = cc

same_slot : (a b : ℕ) → Words a ≡ Words b → b ≡ a
same_slot a b e = cc

same_word : (a b : ℕ) → ShelfFault a ≡ ShelfFault b → b ≡ a
same_word a b e = cc

pub status_is : {reply other : Reply} → reply ≡ other → reply.status ≡ other.status
status_is e = ap (λ (r : Reply). r.status) e

-- a status that a command answers once its files are loaded
abbrev IsOfCommand : Status → Type 0
IsOfCommand (Words place) = ⊥
IsOfCommand (ShelfFault word) = ⊥
IsOfCommand _ = Unit {0}

run_end : (status : Status) → IsRunEnd status → IsOfCommand status
run_end Done end = tt
run_end (Uncaught class) end = tt
run_end Spent end = tt
run_end (HeapWanted need live) end = tt
run_end (StackWanted need used) end = tt
run_end (Misfit class place) end = tt
run_end _ end = absurd end

set_status : (files : List (List ℕ)) (limits : Limits) (left : Option (List ℕ)) (reply : Reply) → SetReplies files limits left reply → IsOfCommand reply.status
set_status files limits left reply (inl runs) = run_end reply.status runs.status
set_status files limits left reply (inr refuses) = subst IsOfCommand (sym (status_is refuses.is)) tt

infusion_status : (bytes : List ℕ) (limits : Limits) (left : Option (List ℕ)) (reply : Reply) → InfusionReplies bytes limits left reply → IsOfCommand reply.status
infusion_status bytes limits left reply (inl runs) = run_end reply.status runs.runs.status
infusion_status bytes limits left reply (inr refuses) = subst IsOfCommand (sym (status_is refuses.is)) tt

store_status : (files : List (List ℕ)) (out : List ℕ) (kept now : Option Files) (left : Option (List ℕ)) (reply : Reply) → StoreReplies files out kept now left reply → IsOfCommand reply.status
store_status files out kept now left reply (inl stores) = subst IsOfCommand (sym (status_is stores.is)) tt
store_status files out kept now left reply (inr nothing) = subst IsOfCommand (sym (status_is nothing.refused.is)) tt

no_answer : (status : Status) (word : ℕ) → status ≡ ShelfFault word → IsAnswer status → ⊥
no_answer status word is answer = subst IsAnswer is answer

same_bytes : (a b : List ℕ) → Some a ≡ Some b → a ≡ b
same_bytes a b e = cc

-- what was found at a name is what is kept there
at_name : (kept : Option Files) (files : Files) (name found bytes : List ℕ) → kept ≡ Some files → get files name ≡ Some bytes → HasAt kept name found → found ≡ bytes
at_name kept files name found bytes tells there has =
    let here : HasAt (Some files) name found = subst (λ (k : Option Files). HasAt k name found) tells has in
    same_bytes found bytes (sym here ∙ there)

-- what was found at names is what is kept there
at_each : (kept : Option Files) (files : Files) (names found bytes : List (List ℕ)) → kept ≡ Some files → HaveAll kept names found → HaveAll (Some files) names bytes → found ≡ bytes
at_each kept files [] [] [] tells has there = refl
at_each kept files [] (b ∷ found) bytes tells has there = absurd has
at_each kept files [] [] (b ∷ bytes) tells has there = absurd there
at_each kept files (name ∷ names) [] bytes tells has there = absurd has
at_each kept files (name ∷ names) (a ∷ found) [] tells has there = absurd there
at_each kept files (name ∷ names) (a ∷ found) (b ∷ bytes) tells has there =
    both a b found bytes (at_name kept files name a b tells there.0 has.0) (at_each kept files names found bytes tells has.1 there.1)
  where
    both : (x y : List ℕ) (xs ys : List (List ℕ)) → x ≡ y → xs ≡ ys → x ∷ xs ≡ y ∷ ys
    both x y xs ys p q = cc

pub at_names : (kept : Option Files) (files : Files) (names others found bytes : List (List ℕ)) → kept ≡ Some files → names ≡ others → HaveAll kept names found → HaveAll (Some files) others bytes → found ≡ bytes
at_names kept files names others found bytes tells same has there =
    at_each kept files others found bytes tells (subst (λ (ns : List (List ℕ)). HaveAll kept ns found) same has) there

-- ---- places

slice_after : (xs ys : List (List ℕ)) (at : ℕ) → slice_get (xs ++ ys) (length xs + at) ≡ slice_get ys at
slice_after [] ys at = ap (slice_get ys) (zero_more at)
  where
    zero_more : (n : ℕ) → 0 + n ≡ n
    zero_more n = omega arith
slice_after (x ∷ xs) ys at = ap (slice_get (x ∷ (xs ++ ys))) (one_more (length xs) at) ∙ slice_after xs ys at
  where
    one_more : (m n : ℕ) → suc m + n ≡ suc (m + n)
    one_more m n = omega arith

first_alone : (name other : List ℕ) (others : List (List ℕ)) (at : ℕ) → slice_get (name ∷ []) at ≡ Some other → slice_get (name ∷ others) at ≡ Some other
first_alone name other others zero there = there
first_alone name other others (suc at) there = absurd (no_slice at there)
  where
    no_slice : (n : ℕ) → slice_get {X = List ℕ} [] n ≡ Some other → ⊥
    no_slice n e = cc

module _ (call : Call) (shelf : Shelved) (limits : Limits) (reply : Reply) where
  -- ---- words

  -- a reply of words at fault is theirs
  pub may_words : (place : ℕ) → reply.status ≡ Words place → MayReply call shelf limits reply → FaultsAt call.words place
  may_words place is (NoCommand f) = subst (FaultsAt call.words) (same_slot place f.place (sym is ∙ status_is f.is)) f.faults
  may_words place is (Go go) = absurd (subst IsOfCommand is (set_status go.files limits call.console.left reply go.replies))
  may_words place is (Run run) = absurd (subst IsOfCommand is (infusion_status run.bytes limits call.console.left reply run.replies))
  may_words place is (Infuse infuse) = absurd (subst IsOfCommand is (store_status infuse.files infuse.out call.shelf.kept shelf.kept call.console.left reply infuse.replies))
  may_words place is (NoLoad load) = absurd (words_is_shelf place (saturated load.place) (sym is ∙ status_is load.is))
  may_words place is (NoStore store) = absurd (words_is_shelf place 1 (sym is ∙ status_is store.is))

  no_at : (place : ℕ) → FaultsAt call.words place → (c : Command) → IsCommand call.words c → ⊥
  no_at place faults c is = faults.stops.no_command c is

  no_go : (place : ℕ) → FaultsAt call.words place → (settings : List Setting) (classes : List (List ℕ)) → call.words ≡ go_of settings classes → AreOptions settings → AreNames classes → ⊥
  no_go place faults settings classes are options names = no_at place faults (commands.Go (opts_of settings) (class_place settings)) (go_command call.words settings classes are options names)

  no_run : (place : ℕ) → FaultsAt call.words place → (settings : List Setting) (name : List ℕ) → call.words ≡ run_of name settings → IsName name → AreOptions settings → ⊥
  no_run place faults settings name are is_name options = no_at place faults (commands.Run 1 (opts_of settings)) (run_command call.words name settings are is_name options)

  no_infuse : (place : ℕ) → FaultsAt call.words place → (out : List ℕ) (classes : List (List ℕ)) → call.words ≡ infuse_of out classes → IsName out → AreNames classes → ⊥
  no_infuse place faults out classes are is_out names = no_at place faults (commands.Infuse 1 2) (infuse_command call.words out classes are is_out names)

  no_load : (place : ℕ) → FaultsAt call.words place → (names : List (List ℕ)) (first : ℕ) → LoadsFrom call.words names first → ⊥
  no_load place faults names first (OfGo settings classes are options is) = no_go place faults settings classes are options is
  no_load place faults names first (OfRun name settings are is_name options) = no_run place faults settings name are is_name options
  no_load place faults names first (OfInfuse out classes are is_out is) = no_infuse place faults out classes are is_out is

  -- where the words are no command, the reply says at which place
  pub fault_reply : (place : ℕ) → FaultsAt call.words place → MayReply call shelf limits reply → reply.status ≡ Words place
  fault_reply place faults (NoCommand f) = status_is f.is ∙ ap (λ (p : ℕ). Words p) (one_slot call.words f.place place f.faults faults)
  fault_reply place faults (Go go) = absurd (no_go place faults go.settings go.classes go.command go.options go.are_classes)
  fault_reply place faults (Run run) = absurd (no_run place faults run.settings run.name run.command run.is_name run.options)
  fault_reply place faults (Infuse infuse) = absurd (no_infuse place faults infuse.out infuse.classes infuse.command infuse.is_out infuse.are_classes)
  fault_reply place faults (NoLoad load) = absurd (no_load place faults load.loads.names load.loads.first load.loads.from)
  fault_reply place faults (NoStore store) = absurd (no_infuse place faults store.out store.classes store.command store.is_out store.are_classes)

  -- ---- faults of the shelf

  -- the name that is loaded is at its place
  from_there : (words names : List (List ℕ)) (first : ℕ) (name : List ℕ) (at : ℕ) → LoadsFrom words names first → slice_get names at ≡ Some name → slice_get words (first + at) ≡ Some name
  from_there words names first name at (OfGo settings classes are options is) there =
      ap (λ (ws : List (List ℕ)). slice_get ws (class_place settings + at)) are
      ∙ ap (slice_get (go_of settings classes)) (place_is (length (option_words settings)))
      ∙ slice_after (codes "go" ∷ option_words settings) classes at
      ∙ there
    where
      place_is : (n : ℕ) → 1 + n + at ≡ suc n + at
      place_is n = omega arith
  from_there words names first name at (OfRun other settings are is_name options) there =
      ap (λ (ws : List (List ℕ)). slice_get ws (1 + at)) are ∙ slice_after (codes "run" ∷ []) (other ∷ option_words settings) at ∙ first_alone other name (option_words settings) at there
  from_there words names first name at (OfInfuse out classes are is_out is) there =
      ap (λ (ws : List (List ℕ)). slice_get ws (2 + at)) are ∙ slice_after (codes "infuse" ∷ out ∷ []) classes at ∙ there

  loads_there : (words : List (List ℕ)) (name : List ℕ) (place : ℕ) → Loads words name place → slice_get words place ≡ Some name
  loads_there words name place loads = ap (slice_get words) loads.place_is ∙ from_there words loads.names loads.first name loads.at loads.from loads.there

  pub may_shelf : (after : After) → after.shelf ≡ shelf → (word : ℕ) → reply.status ≡ ShelfFault word → MayReply call shelf limits reply → ShelfFailed call after word
  may_shelf after same word is (NoCommand f) = absurd (words_is_shelf f.place word (sym (status_is f.is) ∙ is))
  may_shelf after same word is (Go go) = absurd (subst IsOfCommand is (set_status go.files limits call.console.left reply go.replies))
  may_shelf after same word is (Run run) = absurd (subst IsOfCommand is (infusion_status run.bytes limits call.console.left reply run.replies))
  may_shelf after same word is (Infuse infuse) = absurd (subst IsOfCommand is (store_status infuse.files infuse.out call.shelf.kept shelf.kept call.console.left reply infuse.replies))
  may_shelf after same word is (NoLoad load) =
      record {
        name = load.name;
        place = load.place;
        word_is = sym (same_word word (saturated load.place) (sym is ∙ status_is load.is));
        there = loads_there call.words load.name load.place load.loads;
        rose = rw same (inr (load.loads, load.rose));
      }
  may_shelf after same word is (NoStore store) =
      record {
        name = store.out;
        place = 1;
        word_is = sym (same_word word 1 (sym is ∙ status_is store.is));
        there = rw store.command refl;
        rose = rw same (inl ((refl, store.classes, store.command), store.rose));
      }

  -- ---- replies to what is given

  -- go on a set that is told
  pub go_on : (files : List (List ℕ)) (others : Limits) → GoesOn call files others → IsAnswer reply.status → MayReply call shelf limits reply → (limits ≡ others) × SetReplies files limits call.console.left reply
  go_on files others given answer (NoCommand f) = absurd (no_go f.place f.faults given.settings given.classes given.command given.options given.are_classes)
  go_on files others given answer (Go go) =
      let one = one_go go.settings given.settings go.classes given.classes go.options given.options go.are_classes given.are_classes (sym go.command ∙ given.command) in
      let same : go.files ≡ files = at_names call.shelf.kept given.kept go.classes given.classes go.files files given.tells one.0 go.found given.found in (
        go.limits_are ∙ one.1 ∙ sym given.limits_are,
        subst (λ (f : List (List ℕ)). SetReplies f limits call.console.left reply) same go.replies,
      )
  go_on files others given answer (Run run) = absurd (go_is_no_run given.settings given.classes run.name run.settings (sym given.command ∙ run.command))
  go_on files others given answer (Infuse infuse) = absurd (go_is_no_infuse given.settings given.classes infuse.out infuse.classes (sym given.command ∙ infuse.command))
  go_on files others given answer (NoLoad load) = absurd (no_answer reply.status (saturated load.place) (status_is load.is) answer)
  go_on files others given answer (NoStore store) = absurd (no_answer reply.status 1 (status_is store.is) answer)

  -- run of bytes that are told
  pub run_on : (bytes : List ℕ) (others : Limits) → RunsOn call bytes others → IsAnswer reply.status → MayReply call shelf limits reply → (limits ≡ others) × InfusionReplies bytes limits call.console.left reply
  run_on bytes others given answer (NoCommand f) = absurd (no_run f.place f.faults given.settings given.name given.command given.is_name given.options)
  run_on bytes others given answer (Go go) = absurd (go_is_no_run go.settings go.classes given.name given.settings (sym go.command ∙ given.command))
  run_on bytes others given answer (Run run) =
      let one = one_run run.settings given.settings run.name given.name run.options given.options (sym run.command ∙ given.command) in
      let same : run.bytes ≡ bytes = at_name call.shelf.kept given.kept run.name run.bytes bytes given.tells (ap (get given.kept) one.0 ∙ given.found) run.found in
      (run.limits_are ∙ one.1 ∙ sym given.limits_are, subst (λ (b : List ℕ). InfusionReplies b limits call.console.left reply) same run.replies)
  run_on bytes others given answer (Infuse infuse) = absurd (run_is_no_infuse given.name given.settings infuse.out infuse.classes (sym given.command ∙ infuse.command))
  run_on bytes others given answer (NoLoad load) = absurd (no_answer reply.status (saturated load.place) (status_is load.is) answer)
  run_on bytes others given answer (NoStore store) = absurd (no_answer reply.status 1 (status_is store.is) answer)

  -- infuse of a set that is told
  pub infuse_on : (files : List (List ℕ)) (out : List ℕ) → InfusesTo call files out → IsAnswer reply.status → MayReply call shelf limits reply → StoreReplies files out call.shelf.kept shelf.kept call.console.left reply
  infuse_on files out given answer (NoCommand f) = absurd (no_infuse f.place f.faults out given.classes given.command given.is_out given.are_classes)
  infuse_on files out given answer (Go go) = absurd (go_is_no_infuse go.settings go.classes out given.classes (sym go.command ∙ given.command))
  infuse_on files out given answer (Run run) = absurd (run_is_no_infuse run.name run.settings out given.classes (sym run.command ∙ given.command))
  infuse_on files out given answer (Infuse infuse) =
      let one = one_infuse infuse.out infuse.classes out given.classes (sym infuse.command ∙ given.command) in
      let same : infuse.files ≡ files = at_names call.shelf.kept given.kept infuse.classes given.classes infuse.files files given.tells one.1 infuse.found given.found in
      let here : StoreReplies files infuse.out call.shelf.kept shelf.kept call.console.left reply = subst (λ (f : List (List ℕ)). StoreReplies f infuse.out call.shelf.kept shelf.kept call.console.left reply) same infuse.replies in
      subst (λ (o : List ℕ). StoreReplies files o call.shelf.kept shelf.kept call.console.left reply) one.0 here
  infuse_on files out given answer (NoLoad load) = absurd (no_answer reply.status (saturated load.place) (status_is load.is) answer)
  infuse_on files out given answer (NoStore store) = absurd (no_answer reply.status 1 (status_is store.is) answer)
