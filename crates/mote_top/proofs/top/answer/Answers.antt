use Rattle.std.proofs.Common.{◌≡◌, ℕ, List, map, sym, ap, subst, ◌∙◌}
use Rattle.std.specs.String.{string_bytes}
use Rattle.mote_top.specs.declared.words.Opts.{Opts}
use Rattle.mote_top.specs.Words.{AreNames, infuse_of, run_of, go_of, opts_for, limits_in, IsInfuse, IsRun, IsGo, IsCommand}
use Rattle.mote_top.specs.Call.{shelved, spoken, call}
use Rattle.mote_top.specs.Reply.{MayReply, dialogue_of}
use Rattle.mote_top.specs.Answer.{Answers}
use Rattle.mote_top.proofs.replies.Answering.{Answers-quiet}
use Rattle.mote_top.proofs.commands.OptionWords.{opts_fit}
use Rattle.mote_top.proofs.commands.Positions.{go_classes, go_within, run_name, infuse_out, infuse_classes, infuse_within}
use Rattle.mote_top.proofs.top.answer.Goals as goal

-- the words are infuse of these names
infuse_words : (words : List (List ℕ)) (o : List ℕ) (ks : List (List ℕ)) (out : List ℕ) (classes : List (List ℕ)) → words ≡ infuse_of out classes → o ≡ out → ks ≡ classes → words ≡ infuse_of o ks
infuse_words words o ks out classes are p q = are ∙ ap (λ (x : List ℕ). infuse_of x classes) (sym p) ∙ ap (λ (xs : List (List ℕ)). infuse_of o xs) (sym q)

pub returns-in-Infuse-clause-replied : goal.returns-in-Infuse-clause-replied
returns-in-Infuse-clause-replied g c =
    let C = g.C.Console in
    let S = g.S.Shelf in
    let words = map string_bytes c.args.words.now in
    let names = map string_bytes c.names_from.result.now in
    let is : IsInfuse words c.in-Infuse.out c.in-Infuse.first = subst (IsCommand words) c.in-Infuse.is c.requires.command in
    let before = shelved S.kept S.load_faults S.store_faults c.args.shelf.now in
    let after = shelved S.kept S.load_faults S.store_faults c.infuse_to.new.shelf in
    let console = spoken C.left C.shown C.noted C.faults C.room c.args.console.now in
    let limits = limits_in (opts_for c.args.command) in
    let out : c.as_str.result.now ≡ is.out_name = c.as_str.ensures.value ∙ infuse_out string_bytes c.args.words.now c.in-Infuse.out c.index-words-out.result is.out_name is.classes c.index-words-out.is is.words_are is.out_is in
    let classes : names ≡ is.classes = infuse_classes string_bytes c.args.words.now c.names_from.result.now c.in-Infuse.first is.out_name is.classes c.names_from.ensures is.words_are is.first_is in
    let said = infuse_words words c.as_str.result.now names is.out_name is.classes is.words_are out classes in
    rw said (Answers-quiet (λ on. MayReply (call (infuse_of c.as_str.result.now names) before on) after limits) console c.infuse_to.result (c.infuse_to.ensures.replied limits))

pub returns-in-Infuse-clause-shelf : goal.returns-in-Infuse-clause-shelf
returns-in-Infuse-clause-shelf g c =
    let words = map string_bytes c.args.words.now in
    let names = map string_bytes c.names_from.result.now in
    let is : IsInfuse words c.in-Infuse.out c.in-Infuse.first = subst (IsCommand words) c.in-Infuse.is c.requires.command in
    let out : c.as_str.result.now ≡ is.out_name = c.as_str.ensures.value ∙ infuse_out string_bytes c.args.words.now c.in-Infuse.out c.index-words-out.result is.out_name is.classes c.index-words-out.is is.words_are is.out_is in
    let classes : names ≡ is.classes = infuse_classes string_bytes c.args.words.now c.names_from.result.now c.in-Infuse.first is.out_name is.classes c.names_from.ensures is.words_are is.first_is in
    let said = infuse_words words c.as_str.result.now names is.out_name is.classes is.words_are out classes in
    rw said (record { kept = c.infuse_to.ensures.kept; loads = c.infuse_to.ensures.loads; stores = c.infuse_to.ensures.stores })

pub returns-in-Run-clause-replied : goal.returns-in-Run-clause-replied
returns-in-Run-clause-replied g c =
    let words = map string_bytes c.args.words.now in
    let is : IsRun words c.in-Run.name c.in-Run.opts = subst (IsCommand words) c.in-Run.is c.requires.command in
    let name : c.as_str-in-Run.result.now ≡ is.name = c.as_str-in-Run.ensures.value ∙ run_name string_bytes c.args.words.now c.in-Run.name c.index-words-name.result is.name is.settings c.index-words-name.is is.words_are is.name_is in
    let said : words ≡ run_of c.as_str-in-Run.result.now is.settings = is.words_are ∙ ap (λ (n : List ℕ). run_of n is.settings) (sym name) in
    let C = g.C.Console in
    let S = g.S.Shelf in
    let before = shelved S.kept S.load_faults S.store_faults c.args.shelf.now in
    let after = shelved S.kept S.load_faults S.store_faults c.run.new.shelf in
    let console = spoken C.left C.shown C.noted C.faults C.room c.args.console.now in
    let new = spoken C.left C.shown C.noted C.faults C.room c.run.new.console in
    let opts : c.in-Run.opts ≡ opts_for c.args.command = sym (ap opts_for c.in-Run.is) in
    rw said (subst (λ (o : Opts). Answers dialogue_of (MayReply (call (run_of c.as_str-in-Run.result.now is.settings) before console) after (limits_in o)) console new c.run.result) opts (c.run.ensures.replied is.settings is.options is.opts_are))

pub returns-in-Go-clause-replied : goal.returns-in-Go-clause-replied
returns-in-Go-clause-replied g c =
    let words = map string_bytes c.args.words.now in
    let names = map string_bytes c.names_from-in-Go.result.now in
    let is : IsGo words c.in-Go.opts c.in-Go.first = subst (IsCommand words) c.in-Go.is c.requires.command in
    let classes : names ≡ is.classes = go_classes string_bytes c.args.words.now c.names_from-in-Go.result.now c.in-Go.first is.settings is.classes c.names_from-in-Go.ensures is.words_are is.first_is in
    let said : words ≡ go_of is.settings names = is.words_are ∙ ap (λ (ns : List (List ℕ)). go_of is.settings ns) (sym classes) in
    let C = g.C.Console in
    let S = g.S.Shelf in
    let before = shelved S.kept S.load_faults S.store_faults c.args.shelf.now in
    let after = shelved S.kept S.load_faults S.store_faults c.go.new.shelf in
    let console = spoken C.left C.shown C.noted C.faults C.room c.args.console.now in
    let new = spoken C.left C.shown C.noted C.faults C.room c.go.new.console in
    let opts : c.in-Go.opts ≡ opts_for c.args.command = sym (ap opts_for c.in-Go.is) in
    rw said (subst (λ (o : Opts). Answers dialogue_of (MayReply (call (go_of is.settings names) before console) after (limits_in o)) console new c.go.result) opts (c.go.ensures.replied is.settings is.options is.opts_are is.first_is))

pub names_from-requires : goal.names_from-requires
names_from-requires g c =
    let words = map string_bytes c.args.words.now in
    let is : IsInfuse words c.in-Infuse.out c.in-Infuse.first = subst (IsCommand words) c.in-Infuse.is c.requires.command in
    infuse_within string_bytes c.args.words.now c.in-Infuse.first is.out_name is.classes is.words_are is.first_is

pub names_from-requires-in-Go : goal.names_from-requires-in-Go
names_from-requires-in-Go g c =
    let words = map string_bytes c.args.words.now in
    let is : IsGo words c.in-Go.opts c.in-Go.first = subst (IsCommand words) c.in-Go.is c.requires.command in
    go_within string_bytes c.args.words.now c.in-Go.first is.settings is.classes is.words_are is.first_is

pub infuse_to-requires-clause-names : goal.infuse_to-requires-clause-names
infuse_to-requires-clause-names g c =
    let words = map string_bytes c.args.words.now in
    let is : IsInfuse words c.in-Infuse.out c.in-Infuse.first = subst (IsCommand words) c.in-Infuse.is c.requires.command in
    let classes = infuse_classes string_bytes c.args.words.now c.names_from.result.now c.in-Infuse.first is.out_name is.classes c.names_from.ensures is.words_are is.first_is in
    subst AreNames (sym classes) is.are_classes

pub go-requires-clause-names : goal.go-requires-clause-names
go-requires-clause-names g c =
    let words = map string_bytes c.args.words.now in
    let is : IsGo words c.in-Go.opts c.in-Go.first = subst (IsCommand words) c.in-Go.is c.requires.command in
    let classes = go_classes string_bytes c.args.words.now c.names_from-in-Go.result.now c.in-Go.first is.settings is.classes c.names_from-in-Go.ensures is.words_are is.first_is in
    subst AreNames (sym classes) is.are_classes

pub go-requires-clause-sizes : goal.go-requires-clause-sizes
go-requires-clause-sizes g c =
    let words = map string_bytes c.args.words.now in
    let is : IsGo words c.in-Go.opts c.in-Go.first = subst (IsCommand words) c.in-Go.is c.requires.command in
    opts_fit is.settings c.in-Go.opts is.options is.opts_are

pub run-requires-clause-sizes : goal.run-requires-clause-sizes
run-requires-clause-sizes g c =
    let words = map string_bytes c.args.words.now in
    let is : IsRun words c.in-Run.name c.in-Run.opts = subst (IsCommand words) c.in-Run.is c.requires.command in
    opts_fit is.settings c.in-Run.opts is.options is.opts_are
