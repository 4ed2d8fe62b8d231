-- What may come after the parts of commands, and words that are no command.
use Rattle.std.proofs.Common.{◌≡◌, ◌≢◌, ℕ, ◌+◌, ◌<◌, ◌≤◌, ◌^◌, List, [], ◌∷◌, ◌++◌, Option, Some, None, length, take, drop, refl, sym, ap, subst, ◌∙◌, append_assoc, take-append-drop, arith}
use Rattle.std.specs.Prelude.{codes, decimal}
use Rattle.std.specs.List.{AllByRecursion}
use Rattle.std.specs.Option.{option_to_list}
use Rattle.std.proofs.lemmas.List.{append-nil}
use Rattle.mote_top.specs.declared.words.Command.{Command}
use Rattle.mote_top.specs.declared.words.Command.TheVariants as command
use Rattle.mote_top.specs.declared.words.Given.{Given}
use Rattle.mote_top.specs.declared.words.Runs.{Runs}
use Rattle.mote_top.specs.declared.words.Runs.TheVariants.{Infusion, Classes}
use Rattle.mote_top.specs.Words.{IsName, AreNames, Setting, Stack, Ticks, option_words, stacks_in, budgets_in, FitsSetting, AreOptions, infuse_of, run_of, go_of, IsCommand, Begins, StopsAt}
use Rattle.mote_top.specs.Parts.{NoneBegins, IsHead, HasOptions, HasOption, HasClasses, HasOut}
use Rattle.mote_top.proofs.commands.OptionWords.{options_apart, no_stack, no_ticks, GoesOnBy, goes_on_by, stacks_more, budgets_more, fit_rest}
use Rattle.mote_top.proofs.commands.WordParts.{names_all, name_among, IsEnd, end_names}

-- ---- the words of a command after its head

-- options and an end
record IsTail (runs : Runs) (tail : List (List ℕ)) : Type 0 where
  settings : List Setting
  options : AreOptions settings
  names : List (List ℕ)
  ends : IsEnd runs names
  tail_is : tail ≡ option_words settings ++ names

run_tail : (name : List ℕ) (tail : List (List ℕ)) (c : Command) → IsCommand (codes "run" ∷ name ∷ tail) c → IsTail Infusion tail
run_tail name tail (command.Infuse out class) is = absurd (apart is.words_are)
  where
    apart : codes "run" ∷ name ∷ tail ≡ infuse_of is.out_name is.classes → ⊥
    apart e = cc
run_tail name tail (command.Go opts class) is = absurd (apart is.words_are)
  where
    apart : codes "run" ∷ name ∷ tail ≡ go_of is.settings is.classes → ⊥
    apart e = cc
run_tail name tail (command.Run slot opts) is = record { settings = is.settings; options = is.options; names = []; ends = refl; tail_is = rest is.words_are ∙ sym (append-nil (option_words is.settings)) }
  where
    rest : codes "run" ∷ name ∷ tail ≡ run_of is.name is.settings → tail ≡ option_words is.settings
    rest e = cc

go_tail : (tail : List (List ℕ)) (c : Command) → IsCommand (codes "go" ∷ tail) c → IsTail Classes tail
go_tail tail (command.Infuse out class) is = absurd (apart is.words_are)
  where
    apart : codes "go" ∷ tail ≡ infuse_of is.out_name is.classes → ⊥
    apart e = cc
go_tail tail (command.Run slot opts) is = absurd (apart is.words_are)
  where
    apart : codes "go" ∷ tail ≡ run_of is.name is.settings → ⊥
    apart e = cc
go_tail tail (command.Go opts class) is = record { settings = is.settings; options = is.options; names = is.classes; ends = is.are_classes; tail_is = rest is.words_are }
  where
    rest : codes "go" ∷ tail ≡ go_of is.settings is.classes → tail ≡ option_words is.settings ++ is.classes
    rest e = cc

head_tail : (runs : Runs) (head tail : List (List ℕ)) (c : Command) → IsHead runs head → IsCommand (head ++ tail) c → IsTail runs tail
head_tail Infusion head tail c (name, is_name, is) whole = run_tail name tail c (subst (λ (h : List (List ℕ)). IsCommand (h ++ tail) c) is whole)
head_tail Classes head tail c is whole = go_tail tail c (subst (λ (h : List (List ℕ)). IsCommand (h ++ tail) c) is whole)

-- ---- what follows options

-- further options, each kind of which was not given before, and an end
pub record Follows (runs : Runs) (given : Given) (tail : List (List ℕ)) : Type 0 where
  pub more : List Setting
  pub fit : AllByRecursion FitsSetting more
  pub one_stack : length (option_to_list given.stack ++ stacks_in more) ≤ 1
  pub one_budget : length (option_to_list given.ticks ++ budgets_in more) ≤ 1
  pub names : List (List ℕ)
  pub ends : IsEnd runs names
  pub tail_is : tail ≡ option_words more ++ names

follows_in : (words : List (List ℕ)) (runs : Runs) (given : Given) (tail : List (List ℕ)) (o : HasOptions words runs given) → (t : IsTail runs (option_words o.settings ++ tail)) → GoesOnBy o.settings t.settings tail t.names → Follows runs given tail
follows_in words runs given tail o t on =
    record {
      more = on.more;
      fit = fit_rest o.settings on.more (subst (λ (ss : List Setting). AllByRecursion FitsSetting ss) on.all_are t.options.fit);
      one_stack =
          subst (λ (ns : List ℕ). length ns ≤ 1)
          (ap (λ (ss : List Setting). stacks_in ss) on.all_are ∙ stacks_more o.settings on.more ∙ ap (λ (ns : List ℕ). ns ++ stacks_in on.more) o.has.stacks) t.options.one_stack;
      one_budget =
          subst (λ (ns : List ℕ). length ns ≤ 1)
          (ap (λ (ss : List Setting). budgets_in ss) on.all_are ∙ budgets_more o.settings on.more ∙ ap (λ (ns : List ℕ). ns ++ budgets_in on.more) o.has.budgets) t.options.one_budget;
      names = t.names;
      ends = t.ends;
      tail_is = on.tail_is;
    }

-- what follows options in a command
pub follows : (words : List (List ℕ)) (runs : Runs) (given : Given) (tail : List (List ℕ)) (c : Command) → HasOptions words runs given → IsCommand (words ++ tail) c → Follows runs given tail
follows words runs given tail c o whole =
    let here : IsCommand (o.head ++ (option_words o.settings ++ tail)) c = subst (λ (ws : List (List ℕ)). IsCommand ws c) (ap (λ (ws : List (List ℕ)). ws ++ tail) o.words_are ∙ append_assoc o.head (option_words o.settings) tail) whole in
    let t = head_tail runs o.head (option_words o.settings ++ tail) c o.is_head here in
    follows_in words runs given tail o t (goes_on_by o.settings t.settings tail t.names o.has.fit t.options.fit (end_names runs t.names t.ends) t.tail_is)

-- what follows options and a word, with the word
follows_option : (words : List (List ℕ)) (runs : Runs) (given : Given) (word : List ℕ) (tail : List (List ℕ)) (c : Command) → HasOption words runs given word → IsCommand (words ++ tail) c → Follows runs given (word ∷ tail)
follows_option words runs given word tail c o whole =
    follows o.before runs given (word ∷ tail) c o.options (subst (λ (ws : List (List ℕ)). IsCommand ws c) (ap (λ (ws : List (List ℕ)). ws ++ tail) o.words_are ∙ append_assoc o.before (word ∷ []) tail) whole)

follows_classes : (words : List (List ℕ)) (given : Given) (tail : List (List ℕ)) (c : Command) (has : HasClasses words given) → IsCommand (words ++ tail) c → Follows Classes given (has.classes ++ tail)
follows_classes words given tail c has whole =
    follows has.before Classes given (has.classes ++ tail) c has.options (subst (λ (ws : List (List ℕ)). IsCommand ws c) (ap (λ (ws : List (List ℕ)). ws ++ tail) has.words_are ∙ append_assoc has.before has.classes tail) whole)

-- ---- the next word

head_is : {A : Type 0} (a b : A) (xs ys : List A) → a ∷ xs ≡ b ∷ ys → a ≡ b
head_is a b xs ys e = cc

second_is : {A : Type 0} (a b c d : A) (xs ys : List A) → a ∷ b ∷ xs ≡ c ∷ d ∷ ys → b ≡ d
second_is a b c d xs ys e = cc

no_item : {A : Type 0} (b : A) (bs : List A) → b ∷ bs ≡ [] → ⊥
no_item b bs e = cc

not_given : (given : Option ℕ) (numbers : List ℕ) (number : ℕ) → length (option_to_list given ++ number ∷ numbers) ≤ 1 → given ≡ None
not_given None numbers number le = refl
not_given (Some first) numbers number le = absurd (omega (arith, le))

-- an option that was not given, or a name of a class
pub data NextWord (runs : Runs) (given : Given) (word : List ℕ) : Type 0 where
  NextStack : word ≡ codes "--stack" → given.stack ≡ None → NextWord runs given word
  NextTicks : word ≡ codes "--ticks" → given.ticks ≡ None → NextWord runs given word
  NextClass : runs ≡ Classes → IsName word → NextWord runs given word

next_in : (runs : Runs) (given : Given) (word : List ℕ) (tail : List (List ℕ)) (more : List Setting) (names : List (List ℕ)) → length (option_to_list given.stack ++ stacks_in more) ≤ 1 → length (option_to_list given.ticks ++ budgets_in more) ≤ 1
    → IsEnd runs names → word ∷ tail ≡ option_words more ++ names → NextWord runs given word
next_in runs given word tail (Stack cells ∷ more) names stack budget ends is = NextStack (head_is word (codes "--stack") tail (decimal cells ∷ (option_words more ++ names)) is) (not_given given.stack (stacks_in more) cells stack)
next_in runs given word tail (Ticks ticks ∷ more) names stack budget ends is = NextTicks (head_is word (codes "--ticks") tail (decimal ticks ∷ (option_words more ++ names)) is) (not_given given.ticks (budgets_in more) ticks budget)
next_in Infusion given word tail [] names stack budget ends is = absurd (no_item word tail (is ∙ ends))
next_in Classes given word tail [] names stack budget ends is = NextClass refl (subst (AllByRecursion IsName) (sym is) (names_all names ends)).0

pub next_word : (words : List (List ℕ)) (runs : Runs) (given : Given) (word : List ℕ) (tail : List (List ℕ)) (c : Command) → HasOptions words runs given → IsCommand (words ++ (word ∷ tail)) c → NextWord runs given word
next_word words runs given word tail c o whole =
    let f = follows words runs given (word ∷ tail) c o whole in
    next_in runs given word tail f.more f.names f.one_stack f.one_budget f.ends f.tail_is

-- a number that may come after --stack, and after --ticks
pub record IsStackNumber (word : List ℕ) : Type 0 where
  pub cells : ℕ
  pub least : 64 ≤ cells
  pub most : cells ≤ 32767
  pub word_is : word ≡ decimal cells

pub record IsTicksNumber (word : List ℕ) : Type 0 where
  pub ticks : ℕ
  pub fits : ticks < 2 ^ 64
  pub word_is : word ≡ decimal ticks

apart_options : (xs ys : List (List ℕ)) → codes "--stack" ∷ xs ≡ codes "--ticks" ∷ ys → ⊥
apart_options xs ys e = options_apart (head_is (codes "--stack") (codes "--ticks") xs ys e)

stack_in : (runs : Runs) (word : List ℕ) (tail : List (List ℕ)) (more : List Setting) (names : List (List ℕ)) → AllByRecursion FitsSetting more → IsEnd runs names → codes "--stack" ∷ word ∷ tail ≡ option_words more ++ names → IsStackNumber word
stack_in runs word tail [] names fit ends is = absurd (no_stack (word ∷ tail) names (end_names runs names ends) is)
stack_in runs word tail (Ticks ticks ∷ more) names fit ends is = absurd (apart_options (word ∷ tail) (decimal ticks ∷ (option_words more ++ names)) is)
stack_in runs word tail (Stack cells ∷ more) names fit ends is = record { cells = cells; least = fit.0.0; most = fit.0.1; word_is = second_is (codes "--stack") word (codes "--stack") (decimal cells) tail (option_words more ++ names) is }

ticks_in : (runs : Runs) (word : List ℕ) (tail : List (List ℕ)) (more : List Setting) (names : List (List ℕ)) → AllByRecursion FitsSetting more → IsEnd runs names → codes "--ticks" ∷ word ∷ tail ≡ option_words more ++ names → IsTicksNumber word
ticks_in runs word tail [] names fit ends is = absurd (no_ticks (word ∷ tail) names (end_names runs names ends) is)
ticks_in runs word tail (Stack cells ∷ more) names fit ends is = absurd (apart_options (decimal cells ∷ (option_words more ++ names)) (word ∷ tail) (sym is))
ticks_in runs word tail (Ticks ticks ∷ more) names fit ends is = record { ticks = ticks; fits = fit.0; word_is = second_is (codes "--ticks") word (codes "--ticks") (decimal ticks) tail (option_words more ++ names) is }

pub stack_number : (words : List (List ℕ)) (runs : Runs) (given : Given) (word : List ℕ) (tail : List (List ℕ)) (c : Command) → HasOption words runs given (codes "--stack") → IsCommand (words ++ (word ∷ tail)) c → IsStackNumber word
stack_number words runs given word tail c o whole =
    let f = follows_option words runs given (codes "--stack") (word ∷ tail) c o whole in stack_in runs word tail f.more f.names f.fit f.ends f.tail_is

pub ticks_number : (words : List (List ℕ)) (runs : Runs) (given : Given) (word : List ℕ) (tail : List (List ℕ)) (c : Command) → HasOption words runs given (codes "--ticks") → IsCommand (words ++ (word ∷ tail)) c → IsTicksNumber word
ticks_number words runs given word tail c o whole =
    let f = follows_option words runs given (codes "--ticks") (word ∷ tail) c o whole in ticks_in runs word tail f.more f.names f.fit f.ends f.tail_is

-- after names of classes come names
all_names : (more : List Setting) (classes names : List (List ℕ)) → AreNames classes → (tail : List (List ℕ)) → AllByRecursion IsName names → classes ++ tail ≡ option_words more ++ names → AllByRecursion IsName (classes ++ tail)
all_names more [] names are tail all is = absurd are
all_names [] (class ∷ classes) names are tail all is = subst (AllByRecursion IsName) (sym is) all
all_names (Stack cells ∷ more) (class ∷ classes) names are tail all is = absurd (no_stack [] (class ∷ []) (are.0, tt) (ap (λ (w : List ℕ). w ∷ []) (sym (head_is class (codes "--stack") (classes ++ tail) (decimal cells ∷ (option_words more ++ names)) is))))
all_names (Ticks ticks ∷ more) (class ∷ classes) names are tail all is = absurd (no_ticks [] (class ∷ []) (are.0, tt) (ap (λ (w : List ℕ). w ∷ []) (sym (head_is class (codes "--ticks") (classes ++ tail) (decimal ticks ∷ (option_words more ++ names)) is))))

pub class_next : (words : List (List ℕ)) (given : Given) (word : List ℕ) (tail : List (List ℕ)) (c : Command) → HasClasses words given → IsCommand (words ++ (word ∷ tail)) c → IsName word
class_next words given word tail c has whole =
    let f = follows_classes words given (word ∷ tail) c has whole in name_among has.classes word tail (all_names f.more has.classes f.names has.are_classes (word ∷ tail) (names_all f.names f.ends) f.tail_is)

-- ---- infuse and run

out_tail : (tail : List (List ℕ)) (c : Command) → IsCommand (codes "infuse" ∷ tail) c → (out : List ℕ) × (classes : List (List ℕ)) × IsName out × AreNames classes × (tail ≡ out ∷ classes)
out_tail tail (command.Run slot opts) is = absurd (apart is.words_are)
  where
    apart : codes "infuse" ∷ tail ≡ run_of is.name is.settings → ⊥
    apart e = cc
out_tail tail (command.Go opts class) is = absurd (apart is.words_are)
  where
    apart : codes "infuse" ∷ tail ≡ go_of is.settings is.classes → ⊥
    apart e = cc
out_tail tail (command.Infuse out class) is = (is.out_name, is.classes, is.is_out, is.are_classes, rest is.words_are)
  where
    rest : codes "infuse" ∷ tail ≡ infuse_of is.out_name is.classes → tail ≡ is.out_name ∷ is.classes
    rest e = cc

tail_is_of : {A : Type 0} (a b : A) (xs ys : List A) → a ∷ xs ≡ b ∷ ys → xs ≡ ys
tail_is_of a b xs ys e = cc

-- after infuse comes a name
pub out_next : (words : List (List ℕ)) (word : List ℕ) (tail : List (List ℕ)) (c : Command) → words ≡ codes "infuse" ∷ [] → IsCommand (words ++ (word ∷ tail)) c → IsName word
out_next words word tail c is whole =
    let p = out_tail (word ∷ tail) c (subst (λ (ws : List (List ℕ)). IsCommand (ws ++ (word ∷ tail)) c) is whole) in
    subst IsName (sym (head_is word p.0 tail p.1 p.4)) p.2

-- after infuse and a name come names
out_classes : (words classes : List (List ℕ)) (tail : List (List ℕ)) (c : Command) → HasOut words classes → IsCommand (words ++ tail) c → AreNames (classes ++ tail)
out_classes words classes tail c out whole =
    let p = out_tail (out.out ∷ (classes ++ tail)) c (subst (λ (ws : List (List ℕ)). IsCommand (ws ++ tail) c) out.words_are whole) in
    subst AreNames (sym (tail_is_of out.out p.0 (classes ++ tail) p.1 p.4)) p.3

pub out_class_next : (words classes : List (List ℕ)) (word : List ℕ) (tail : List (List ℕ)) (c : Command) → HasOut words classes → IsCommand (words ++ (word ∷ tail)) c → IsName word
out_class_next words classes word tail c out whole =
    name_among classes word tail (names_all (classes ++ (word ∷ tail)) (out_classes words classes (word ∷ tail) c out whole))

pub out_no_command : (words : List (List ℕ)) (c : Command) → HasOut words [] → IsCommand words c → ⊥
out_no_command words c out is = out_classes words [] [] c out (subst (λ (ws : List (List ℕ)). IsCommand ws c) (sym (append-nil words)) is)

pub infuse_no_command : (words : List (List ℕ)) (c : Command) → words ≡ codes "infuse" ∷ [] → IsCommand words c → ⊥
infuse_no_command words c is whole =
    let p = out_tail [] c (subst (λ (ws : List (List ℕ)). IsCommand ws c) is whole) in
    no_item p.0 p.1 (sym p.4)

run_name : (tail : List (List ℕ)) (c : Command) → IsCommand (codes "run" ∷ tail) c → (name : List ℕ) × (settings : List Setting) × IsName name × (tail ≡ name ∷ option_words settings)
run_name tail (command.Infuse out class) is = absurd (apart is.words_are)
  where
    apart : codes "run" ∷ tail ≡ infuse_of is.out_name is.classes → ⊥
    apart e = cc
run_name tail (command.Go opts class) is = absurd (apart is.words_are)
  where
    apart : codes "run" ∷ tail ≡ go_of is.settings is.classes → ⊥
    apart e = cc
run_name tail (command.Run slot opts) is = (is.name, is.settings, is.is_name, rest is.words_are)
  where
    rest : codes "run" ∷ tail ≡ run_of is.name is.settings → tail ≡ is.name ∷ option_words is.settings
    rest e = cc

pub run_next : (words : List (List ℕ)) (word : List ℕ) (tail : List (List ℕ)) (c : Command) → words ≡ codes "run" ∷ [] → IsCommand (words ++ (word ∷ tail)) c → IsName word
run_next words word tail c is whole =
    let p = run_name (word ∷ tail) c (subst (λ (ws : List (List ℕ)). IsCommand (ws ++ (word ∷ tail)) c) is whole) in
    subst IsName (sym (head_is word p.0 tail (option_words p.1) p.3)) p.2

pub run_no_command : (words : List (List ℕ)) (c : Command) → words ≡ codes "run" ∷ [] → IsCommand words c → ⊥
run_no_command words c is whole =
    let p = run_name [] c (subst (λ (ws : List (List ℕ)). IsCommand ws c) is whole) in
    no_item p.0 (option_words p.1) (sym p.3)

-- ---- the first word

pub first_is : (first : List ℕ) (others : List (List ℕ)) (c : Command) → IsCommand (first ∷ others) c → first ≢ codes "infuse" → first ≢ codes "run" → first ≢ codes "go" → ⊥
first_is first others (command.Infuse out class) is a b d = a (same is.words_are)
  where
    same : first ∷ others ≡ infuse_of is.out_name is.classes → first ≡ codes "infuse"
    same e = cc
first_is first others (command.Run slot opts) is a b d = b (same is.words_are)
  where
    same : first ∷ others ≡ run_of is.name is.settings → first ≡ codes "run"
    same e = cc
first_is first others (command.Go opts class) is a b d = d (same is.words_are)
  where
    same : first ∷ others ≡ go_of is.settings is.classes → first ≡ codes "go"
    same e = cc

pub start_no_command : (words : List (List ℕ)) (c : Command) → words ≡ [] → IsCommand words c → ⊥
start_no_command words (command.Infuse out class) is whole = no_item (codes "infuse") (whole.out_name ∷ whole.classes) (sym whole.words_are ∙ is)
start_no_command words (command.Run slot opts) is whole = no_item (codes "run") (whole.name ∷ option_words whole.settings) (sym whole.words_are ∙ is)
start_no_command words (command.Go opts class) is whole = no_item (codes "go") (option_words whole.settings ++ whole.classes) (sym whole.words_are ∙ is)

-- ---- options at the end

end_in : (given : Given) (more : List Setting) (names : List (List ℕ)) → AreNames names → [] ≡ option_words more ++ names → ⊥
end_in given [] [] are is = are
end_in given [] (name ∷ names) are is = no_item name names (sym is)
end_in given (Stack cells ∷ more) names are is = no_item (codes "--stack") (decimal cells ∷ (option_words more ++ names)) (sym is)
end_in given (Ticks ticks ∷ more) names are is = no_item (codes "--ticks") (decimal ticks ∷ (option_words more ++ names)) (sym is)

pub options_no_command : (words : List (List ℕ)) (given : Given) (c : Command) → HasOptions words Classes given → IsCommand words c → ⊥
options_no_command words given c o is =
    let f = follows words Classes given [] c o (subst (λ (ws : List (List ℕ)). IsCommand ws c) (sym (append-nil words)) is) in end_in given f.more f.names f.ends f.tail_is

one_word : (word option number : List ℕ) (others : List (List ℕ)) → word ∷ [] ≡ option ∷ number ∷ others → ⊥
one_word word option number others e = no_item number others (sym (tail_is_of word option [] (number ∷ others) e))

-- an option without its number
half_in : (runs : Runs) (word : List ℕ) (more : List Setting) (names : List (List ℕ)) → (AllByRecursion IsName names → word ∷ [] ≡ names → ⊥) → IsEnd runs names → word ∷ [] ≡ option_words more ++ names → ⊥
half_in runs word [] names apart ends is = apart (end_names runs names ends) is
half_in runs word (Stack cells ∷ more) names apart ends is = one_word word (codes "--stack") (decimal cells) (option_words more ++ names) is
half_in runs word (Ticks ticks ∷ more) names apart ends is = one_word word (codes "--ticks") (decimal ticks) (option_words more ++ names) is

half_no_command : (words : List (List ℕ)) (runs : Runs) (given : Given) (word : List ℕ) (c : Command) → ((names : List (List ℕ)) → AllByRecursion IsName names → word ∷ [] ≡ names → ⊥) → HasOption words runs given word → IsCommand words c → ⊥
half_no_command words runs given word c apart o is =
    let f = follows_option words runs given word [] c o (subst (λ (ws : List (List ℕ)). IsCommand ws c) (sym (append-nil words)) is) in half_in runs word f.more f.names (apart f.names) f.ends f.tail_is

pub stack_no_command : (words : List (List ℕ)) (runs : Runs) (given : Given) (c : Command) → HasOption words runs given (codes "--stack") → IsCommand words c → ⊥
stack_no_command words runs given c o is = half_no_command words runs given (codes "--stack") c (no_stack []) o is

pub ticks_no_command : (words : List (List ℕ)) (runs : Runs) (given : Given) (c : Command) → HasOption words runs given (codes "--ticks") → IsCommand words c → ⊥
ticks_no_command words runs given c o is = half_no_command words runs given (codes "--ticks") c (no_ticks []) o is

-- ---- places

-- the words before a place begin a command, and none begins with one word more
pub stops_at_word : (words : List (List ℕ)) (place : ℕ) → place < length words → Begins (take place words) → NoneBegins (take (place + 1) words) → StopsAt words place
stops_at_word words place less begins none =
    record {
      within = omega (arith, less);
      begins = begins;
      stops = λ lt b. none b.more b.command b.whole;
      no_command = λ c is. none (drop (place + 1) words) c (subst (λ (ws : List (List ℕ)). IsCommand ws c) (sym (take-append-drop (place + 1) words)) is);
    }

-- all words begin a command, and are none
pub stops_at_end : (words : List (List ℕ)) → Begins words → ((c : Command) → IsCommand words c → ⊥) → StopsAt words (length words)
stops_at_end words begins none =
    record {
      within = omega arith;
      begins = subst Begins (sym (take_all words)) begins;
      stops = λ less goes_on. absurd (omega (arith, less));
      no_command = none;
    }
  where
    take_all : (all : List (List ℕ)) → take (length all) all ≡ all
    take_all [] = refl
    take_all (word ∷ all) = ap (λ (rest : List (List ℕ)). word ∷ rest) (take_all all)
