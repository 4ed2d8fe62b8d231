-- The parts of commands: how each begins a command, and what may come after it.
use Rattle.std.proofs.Common.{◌≡◌, ℕ, ◌+◌, ◌<◌, ◌≤◌, ◌^◌, List, [], ◌∷◌, ◌++◌, Option, Some, None, refl, sym, ap, subst, ◌∙◌, append_assoc, arith}
use Rattle.std.specs.Prelude.{codes, decimal}
use Rattle.std.specs.List.{AllByRecursion}
use Rattle.std.specs.Option.{option_to_list}
use Rattle.std.proofs.lemmas.List.{append-nil}
use Rattle.mote_top.specs.declared.words.Command.{Command}
use Rattle.mote_top.specs.declared.words.Command.TheVariants as command
use Rattle.mote_top.specs.declared.words.Opts.{Opts}
use Rattle.mote_top.specs.declared.words.Given.{Given}
use Rattle.mote_top.specs.declared.words.Runs.{Runs}
use Rattle.mote_top.specs.declared.words.Runs.TheVariants.{Infusion, Classes}
use Rattle.mote_top.specs.declared.words.Part.{Part}
use Rattle.mote_top.specs.declared.words.Part.TheVariants as part
use Rattle.mote_top.specs.Words.{IsName, AreNames, Setting, Stack, Ticks, option_words, stacks_in, budgets_in, AreOptions, opts_of, class_place, IsInfuse, IsRun, IsGo, IsCommand, Begins}
use Rattle.mote_top.specs.Parts.{HasGiven, IsHead, HasOptions, HasOption, HasClasses, HasOut, HasOutClasses, IsPart, opts_given, words_given}
use Rattle.mote_top.proofs.commands.OptionWords.{words_more, stacks_more, budgets_more, fit_more, given_options, given_opts, given_place}

-- ---- names

pub any_name : List ℕ
any_name = 0 ∷ []

any_is_name : IsName any_name
unfolding any_name
any_is_name = λ (e : 0 ≡ 45). cc

pub names_all : (names : List (List ℕ)) → AreNames names → AllByRecursion IsName names
names_all [] are = absurd are
names_all (name ∷ names) are = are

pub names_more : (names : List (List ℕ)) (name : List ℕ) → AreNames names → IsName name → AreNames (names ++ name ∷ [])
names_more [] name are is = absurd are
names_more (first ∷ names) name are is = (are.0, all_more names are.1)
  where
    all_more : (others : List (List ℕ)) → AllByRecursion IsName others → AllByRecursion IsName (others ++ name ∷ [])
    all_more [] all = (is, tt)
    all_more (other ∷ others) all = (all.0, all_more others all.1)

-- a name among names
pub name_among : (names : List (List ℕ)) (word : List ℕ) (more : List (List ℕ)) → AllByRecursion IsName (names ++ word ∷ more) → IsName word
name_among [] word more all = all.0
name_among (name ∷ names) word more all = name_among names word more all.1

-- ---- beginnings

pub begins_shorter : (words more : List (List ℕ)) → Begins (words ++ more) → Begins words
begins_shorter words more b = record { more = more ++ b.more; command = b.command; whole = subst (λ (all : List (List ℕ)). IsCommand all b.command) (append_assoc words more b.more) b.whole }

begins_command : (words : List (List ℕ)) (command : Command) → IsCommand words command → Begins words
begins_command words command is = record { more = []; command = command; whole = subst (λ (all : List (List ℕ)). IsCommand all command) (sym (append-nil words)) is }

-- ---- the end of a command

-- after its options run ends, and go has names
abbrev pub IsEnd : Runs → List (List ℕ) → Type 0
IsEnd Infusion names = names ≡ []
IsEnd Classes names = AreNames names

pub end_names : (runs : Runs) (names : List (List ℕ)) → IsEnd runs names → AllByRecursion IsName names
end_names Infusion names is = subst (AllByRecursion IsName) (sym is) tt
end_names Classes names is = names_all names is

-- a head, options and an end are a command
record Whole (words : List (List ℕ)) : Type 0 where
  command : Command
  is : IsCommand words command

whole : (runs : Runs) (head : List (List ℕ)) (settings : List Setting) (names : List (List ℕ)) → IsHead runs head → AreOptions settings → IsEnd runs names → Whole (head ++ (option_words settings ++ names))
whole Infusion head settings names (name, is_name, is) options ends =
    record {
      command = command.Run 1 (opts_of settings);
      is = record {
        name = name;
        settings = settings;
        words_are = ap (λ (h : List (List ℕ)). h ++ (option_words settings ++ names)) is ∙ ap (λ (ns : List (List ℕ)). codes "run" ∷ name ∷ (option_words settings ++ ns)) ends ∙ ap (λ (ws : List (List ℕ)). codes "run" ∷ name ∷ ws) (append-nil (option_words settings));
        is_name = is_name;
        options = options;
        name_is = refl;
        opts_are = refl;
      };
    }
whole Classes head settings names is options ends =
    record {
      command = command.Go (opts_of settings) (class_place settings);
      is = record {
        settings = settings;
        classes = names;
        words_are = ap (λ (h : List (List ℕ)). h ++ (option_words settings ++ names)) is;
        options = options;
        are_classes = ends;
        opts_are = refl;
        first_is = refl;
      };
    }

-- names that end a command
some_end : (runs : Runs) → (names : List (List ℕ)) × IsEnd runs names
some_end Infusion = ([], refl)
some_end Classes = (any_name ∷ [], (any_is_name, tt))

-- options begin a command
pub options_begin : (words : List (List ℕ)) (runs : Runs) (given : Given) → HasOptions words runs given → Begins words
options_begin words runs given o =
    let ends = some_end runs in
    let all = whole runs o.head o.settings ends.0 o.is_head (given_options o.settings given o.has) ends.1 in
    record {
      more = ends.0;
      command = all.command;
      whole = subst (λ (ws : List (List ℕ)). IsCommand ws all.command) (sym (append_assoc o.head (option_words o.settings) ends.0) ∙ ap (λ (ws : List (List ℕ)). ws ++ ends.0) (sym o.words_are)) all.is;
    }

-- ---- one option more

once_more : (given : Option ℕ) (numbers : List ℕ) (number : ℕ) → numbers ≡ option_to_list given → given ≡ None → numbers ++ number ∷ [] ≡ option_to_list (Some number)
once_more given numbers number is none = ap (λ (ns : List ℕ). ns ++ number ∷ []) (is ∙ ap (λ (o : Option ℕ). option_to_list o) none)

nothing_more : (given : Option ℕ) (numbers : List ℕ) → numbers ≡ option_to_list given → numbers ++ [] ≡ option_to_list given
nothing_more given numbers is = append-nil numbers ∙ is

abbrev pub with_stack : Given → ℕ → Given
with_stack given cells = record { stack = Some cells; ticks = given.ticks }

abbrev pub with_ticks : Given → ℕ → Given
with_ticks given ticks = record { stack = given.stack; ticks = Some ticks }

given_stack : (settings : List Setting) (given : Given) (cells : ℕ) → HasGiven settings given → given.stack ≡ None → (64 ≤ cells) × (cells ≤ 32767) → HasGiven (settings ++ Stack cells ∷ []) (with_stack given cells)
given_stack settings given cells has none fits =
    record {
      fit = fit_more settings (Stack cells ∷ []) has.fit (fits, tt);
      stacks = stacks_more settings (Stack cells ∷ []) ∙ once_more given.stack (stacks_in settings) cells has.stacks none;
      budgets = budgets_more settings (Stack cells ∷ []) ∙ nothing_more given.ticks (budgets_in settings) has.budgets;
    }

given_ticks : (settings : List Setting) (given : Given) (ticks : ℕ) → HasGiven settings given → given.ticks ≡ None → ticks < 2 ^ 64 → HasGiven (settings ++ Ticks ticks ∷ []) (with_ticks given ticks)
given_ticks settings given ticks has none fits =
    record {
      fit = fit_more settings (Ticks ticks ∷ []) has.fit (fits, tt);
      stacks = stacks_more settings (Ticks ticks ∷ []) ∙ nothing_more given.stack (stacks_in settings) has.stacks;
      budgets = budgets_more settings (Ticks ticks ∷ []) ∙ once_more given.ticks (budgets_in settings) ticks has.budgets none;
    }

-- the words of an option after words
after_option : (words before head : List (List ℕ)) (settings : List Setting) (option number : List ℕ) (setting : Setting) → words ≡ before ++ option ∷ [] → before ≡ head ++ option_words settings → option_words (setting ∷ []) ≡ option ∷ number ∷ []
    → words ++ number ∷ [] ≡ head ++ option_words (settings ++ setting ∷ [])
after_option words before head settings option number setting are parts is =
    ap (λ (ws : List (List ℕ)). ws ++ number ∷ []) are
    ∙ append_assoc before (option ∷ []) (number ∷ [])
    ∙ ap (λ (ws : List (List ℕ)). ws ++ option ∷ number ∷ []) parts
    ∙ append_assoc head (option_words settings) (option ∷ number ∷ [])
    ∙ ap (λ (ws : List (List ℕ)). head ++ (option_words settings ++ ws)) (sym is)
    ∙ ap (λ (ws : List (List ℕ)). head ++ ws) (sym (words_more settings (setting ∷ [])))

pub stack_given : (words : List (List ℕ)) (runs : Runs) (given : Given) (cells : ℕ) → HasOption words runs given (codes "--stack") → given.stack ≡ None → (64 ≤ cells) × (cells ≤ 32767) → HasOptions (words ++ decimal cells ∷ []) runs (with_stack given cells)
stack_given words runs given cells o none fits =
    let opts = o.options in
    record {
      head = opts.head;
      is_head = opts.is_head;
      settings = opts.settings ++ Stack cells ∷ [];
      has = given_stack opts.settings given cells opts.has none fits;
      words_are = after_option words o.before opts.head opts.settings (codes "--stack") (decimal cells) (Stack cells) o.words_are opts.words_are refl;
    }

pub ticks_given : (words : List (List ℕ)) (runs : Runs) (given : Given) (ticks : ℕ) → HasOption words runs given (codes "--ticks") → given.ticks ≡ None → ticks < 2 ^ 64 → HasOptions (words ++ decimal ticks ∷ []) runs (with_ticks given ticks)
ticks_given words runs given ticks o none fits =
    let opts = o.options in
    record {
      head = opts.head;
      is_head = opts.is_head;
      settings = opts.settings ++ Ticks ticks ∷ [];
      has = given_ticks opts.settings given ticks opts.has none fits;
      words_are = after_option words o.before opts.head opts.settings (codes "--ticks") (decimal ticks) (Ticks ticks) o.words_are opts.words_are refl;
    }

-- ---- names after options

pub first_class : (words : List (List ℕ)) (given : Given) (name : List ℕ) → HasOptions words Classes given → IsName name → HasClasses (words ++ name ∷ []) given
first_class words given name o is = record { before = words; options = o; classes = name ∷ []; are_classes = (is, tt); words_are = refl }

pub next_class : (words : List (List ℕ)) (given : Given) (name : List ℕ) → HasClasses words given → IsName name → HasClasses (words ++ name ∷ []) given
next_class words given name c is =
    record {
      before = c.before;
      options = c.options;
      classes = c.classes ++ name ∷ [];
      are_classes = names_more c.classes name c.are_classes is;
      words_are = ap (λ (ws : List (List ℕ)). ws ++ name ∷ []) c.words_are ∙ append_assoc c.before c.classes (name ∷ []);
    }

pub next_out_class : (words : List (List ℕ)) (name : List ℕ) → HasOutClasses words → IsName name → HasOutClasses (words ++ name ∷ [])
next_out_class words name c is =
    record {
      classes = c.classes ++ name ∷ [];
      are_classes = names_more c.classes name c.are_classes is;
      out = record { out = c.out.out; is_out = c.out.is_out; words_are = ap (λ (ws : List (List ℕ)). ws ++ name ∷ []) c.out.words_are };
    }

pub first_out_class : (words : List (List ℕ)) (name : List ℕ) → HasOut words [] → IsName name → HasOutClasses (words ++ name ∷ [])
first_out_class words name out is =
    record { classes = name ∷ []; are_classes = (is, tt); out = record { out = out.out; is_out = out.is_out; words_are = ap (λ (ws : List (List ℕ)). ws ++ name ∷ []) out.words_are } }

-- ---- the commands that parts are

pub run_whole : (words : List (List ℕ)) (given : Given) (opts : Opts) → opts ≡ opts_given given → HasOptions words Infusion given → IsRun words 1 opts
run_whole words given opts is o =
    record {
      name = o.is_head.0;
      settings = o.settings;
      words_are = o.words_are ∙ ap (λ (h : List (List ℕ)). h ++ option_words o.settings) o.is_head.2;
      is_name = o.is_head.1;
      options = given_options o.settings given o.has;
      name_is = refl;
      opts_are = is ∙ given_opts o.settings given o.has;
    }

pub go_whole : (words : List (List ℕ)) (given : Given) (opts : Opts) (first : ℕ) → opts ≡ opts_given given → first ≡ 1 + words_given given → HasClasses words given → IsGo words opts first
go_whole words given opts first is first_is c =
    let o = c.options in
    record {
      settings = o.settings;
      classes = c.classes;
      words_are = c.words_are ∙ ap (λ (ws : List (List ℕ)). ws ++ c.classes) (o.words_are ∙ ap (λ (h : List (List ℕ)). h ++ option_words o.settings) o.is_head);
      options = given_options o.settings given o.has;
      are_classes = c.are_classes;
      opts_are = is ∙ given_opts o.settings given o.has;
      first_is = first_is ∙ given_place o.settings given o.has;
    }

pub infuse_whole : (words : List (List ℕ)) → HasOutClasses words → IsInfuse words 1 2
infuse_whole words c = record { out_name = c.out.out; classes = c.classes; words_are = c.out.words_are; is_out = c.out.is_out; are_classes = c.are_classes; out_is = refl; first_is = refl }

-- ---- each part begins a command

out_begins : (words : List (List ℕ)) → HasOut words [] → Begins words
out_begins words out = begins_shorter words (any_name ∷ []) (begins_command (words ++ any_name ∷ []) (command.Infuse 1 2) (infuse_whole (words ++ any_name ∷ []) (first_out_class words any_name out any_is_name)))

infuse_begins : (words : List (List ℕ)) → words ≡ codes "infuse" ∷ [] → Begins words
infuse_begins words is = begins_shorter words (any_name ∷ []) (out_begins (words ++ any_name ∷ []) (record { out = any_name; is_out = any_is_name; words_are = ap (λ (ws : List (List ℕ)). ws ++ any_name ∷ []) is }))

abbrev pub no_options : Given
no_options = record { stack = None; ticks = None }

pub no_options_given : HasGiven [] no_options
no_options_given = record { fit = tt; stacks = refl; budgets = refl }

pub run_named : (words : List (List ℕ)) (name : List ℕ) → words ≡ codes "run" ∷ [] → IsName name → HasOptions (words ++ name ∷ []) Infusion no_options
run_named words name is is_name = record { head = codes "run" ∷ name ∷ []; is_head = (name, is_name, refl); settings = []; has = no_options_given; words_are = ap (λ (ws : List (List ℕ)). ws ++ name ∷ []) is }

run_begins : (words : List (List ℕ)) → words ≡ codes "run" ∷ [] → Begins words
run_begins words is = begins_shorter words (any_name ∷ []) (options_begin (words ++ any_name ∷ []) Infusion no_options (run_named words any_name is any_is_name))

pub go_alone : HasOptions (codes "go" ∷ []) Classes no_options
go_alone = record { head = codes "go" ∷ []; is_head = refl; settings = []; has = no_options_given; words_are = refl }

start_begins : (words : List (List ℕ)) → words ≡ [] → Begins words
start_begins words is = subst Begins (sym is) (begins_shorter [] (codes "go" ∷ []) (options_begin (codes "go" ∷ []) Classes no_options go_alone))

pub part_begins : (words : List (List ℕ)) (p : Part) → IsPart words p → Begins words
part_begins words part.Start is = start_begins words is
part_begins words part.Infuse is = infuse_begins words is
part_begins words part.InfuseOut is = out_begins words is
part_begins words part.InfuseClasses is = begins_command words (command.Infuse 1 2) (infuse_whole words is)
part_begins words part.Run is = run_begins words is
part_begins words (part.Options runs given) is = options_begin words runs given is
part_begins words (part.Stack runs given) (is, none) = begins_shorter words (decimal 64 ∷ []) (options_begin (words ++ decimal 64 ∷ []) runs (with_stack given 64) (stack_given words runs given 64 is none (omega arith, omega arith)))
part_begins words (part.Ticks runs given) (is, none) = begins_shorter words (decimal 0 ∷ []) (options_begin (words ++ decimal 0 ∷ []) runs (with_ticks given 0) (ticks_given words runs given 0 is none (omega arith)))
part_begins words (part.GoClasses given) is = begins_command words (command.Go (opts_given given) (1 + words_given given)) (go_whole words given (opts_given given) (1 + words_given given) refl refl is)
