-- The words of options are read in one way.
use Rattle.std.proofs.Common.{◌≡◌, ℕ, ◌+◌, ◌*◌, ◌<◌, ◌≤◌, List, [], ◌∷◌, ◌++◌, length, get_or, Option, Some, None, refl, sym, ap, subst, ◌∙◌, arith}
use Rattle.std.specs.Prelude.{codes, decimal, unwrap_or}
use Rattle.std.specs.List.{AllByRecursion}
use Rattle.std.specs.Option.{option_to_list}
use Rattle.std.proofs.lemmas.Fmt.{decimal_injective}
use Rattle.mote_top.specs.declared.words.Given.{Given}
use Rattle.mote_top.specs.declared.words.Opts.{Opts}
use Rattle.mote_top.specs.Words.{IsName, Setting, Stack, Ticks, option_words, stacks_in, budgets_in, FitsSetting, AreOptions, first_or, default_heap, default_stack, default_ticks, opts_of, HasSizes, class_place}
use Rattle.mote_top.specs.Parts.{opts_given, words_of_one, words_given, HasGiven}

-- ---- names and options

-- a name is no option
pub stack_is_no_name : IsName (codes "--stack") → ⊥
stack_is_no_name is = is refl

pub ticks_is_no_name : IsName (codes "--ticks") → ⊥
ticks_is_no_name is = is refl

head_is : {A : Type 0} (a b : A) (xs ys : List A) → a ∷ xs ≡ b ∷ ys → a ≡ b
head_is a b xs ys e = cc

tail_is : {A : Type 0} (a b : A) (xs ys : List A) → a ∷ xs ≡ b ∷ ys → xs ≡ ys
tail_is a b xs ys e = cc

no_item : {A : Type 0} (b : A) (bs : List A) → b ∷ bs ≡ [] → ⊥
no_item b bs e = cc

-- no list of names begins with an option
pub no_stack : (others names : List (List ℕ)) → AllByRecursion IsName names → codes "--stack" ∷ others ≡ names → ⊥
no_stack others [] all e = no_item (codes "--stack") others e
no_stack others (name ∷ names) all e = stack_is_no_name (subst IsName (sym (head_is (codes "--stack") name others names e)) all.0)

pub no_ticks : (others names : List (List ℕ)) → AllByRecursion IsName names → codes "--ticks" ∷ others ≡ names → ⊥
no_ticks others [] all e = no_item (codes "--ticks") others e
no_ticks others (name ∷ names) all e = ticks_is_no_name (subst IsName (sym (head_is (codes "--ticks") name others names e)) all.0)

-- the options are apart
pub options_apart : codes "--stack" ≡ codes "--ticks" → ⊥
options_apart e = let third : 115 ≡ 116 = ap (λ (word : List ℕ). get_or word 2 0) e in omega (arith, third)

apart : (a b : List ℕ) (xs ys : List (List ℕ)) → codes "--stack" ∷ a ∷ xs ≡ codes "--ticks" ∷ b ∷ ys → ⊥
apart a b xs ys e = options_apart (head_is (codes "--stack") (codes "--ticks") (a ∷ xs) (b ∷ ys) e)

-- ---- one way

-- the further options of a longer list, and what follows them
pub record GoesOnBy (settings all : List Setting) (tail names : List (List ℕ)) : Type 0 where
  pub more : List Setting
  pub all_are : all ≡ settings ++ more
  pub tail_is : tail ≡ option_words more ++ names

one_more : (first second : Setting) (settings all : List Setting) (tail names : List (List ℕ)) → second ≡ first → GoesOnBy settings all tail names → GoesOnBy (first ∷ settings) (second ∷ all) tail names
one_more first second settings all tail names same on =
    record {
      more = on.more;
      all_are = ap (λ (s : Setting). s ∷ all) same ∙ ap (λ (ss : List Setting). first ∷ ss) on.all_are;
      tail_is = on.tail_is;
    }

number_of_words : (word a b : List ℕ) (xs ys : List (List ℕ)) → word ∷ a ∷ xs ≡ word ∷ b ∷ ys → a ≡ b
number_of_words word a b xs ys e = cc

rest_of_words : (word a b : List ℕ) (xs ys : List (List ℕ)) → word ∷ a ∷ xs ≡ word ∷ b ∷ ys → xs ≡ ys
rest_of_words word a b xs ys e = cc

small_cells : (cells : ℕ) → (64 ≤ cells) × (cells ≤ 32767) → cells < 18446744073709551616
small_cells cells fits = let most = fits.1 in omega (arith, most)

-- options, what follows them, and longer options and names with the same words
pub goes_on_by : (settings all : List Setting) (tail names : List (List ℕ)) → AllByRecursion FitsSetting settings → AllByRecursion FitsSetting all → AllByRecursion IsName names
    → option_words settings ++ tail ≡ option_words all ++ names → GoesOnBy settings all tail names
goes_on_by [] all tail names fit fits are e = record { more = all; all_are = refl; tail_is = e }
goes_on_by (Stack a ∷ settings) [] tail names fit fits are e = absurd (no_stack (decimal a ∷ (option_words settings ++ tail)) names are e)
goes_on_by (Ticks a ∷ settings) [] tail names fit fits are e = absurd (no_ticks (decimal a ∷ (option_words settings ++ tail)) names are e)
goes_on_by (Stack a ∷ settings) (Ticks b ∷ all) tail names fit fits are e = absurd (apart (decimal a) (decimal b) (option_words settings ++ tail) (option_words all ++ names) e)
goes_on_by (Ticks a ∷ settings) (Stack b ∷ all) tail names fit fits are e = absurd (apart (decimal b) (decimal a) (option_words all ++ names) (option_words settings ++ tail) (sym e))
goes_on_by (Stack a ∷ settings) (Stack b ∷ all) tail names fit fits are e =
    let number = number_of_words (codes "--stack") (decimal a) (decimal b) (option_words settings ++ tail) (option_words all ++ names) e in
    let rest = rest_of_words (codes "--stack") (decimal a) (decimal b) (option_words settings ++ tail) (option_words all ++ names) e in
    let same : a ≡ b = decimal_injective a b (small_cells a fit.0) (small_cells b fits.0) number in
    one_more (Stack a) (Stack b) settings all tail names (ap (λ (n : ℕ). Stack n) (sym same)) (goes_on_by settings all tail names fit.1 fits.1 are rest)
goes_on_by (Ticks a ∷ settings) (Ticks b ∷ all) tail names fit fits are e =
    let number = number_of_words (codes "--ticks") (decimal a) (decimal b) (option_words settings ++ tail) (option_words all ++ names) e in
    let rest = rest_of_words (codes "--ticks") (decimal a) (decimal b) (option_words settings ++ tail) (option_words all ++ names) e in
    let same : a ≡ b = decimal_injective a b fit.0 fits.0 number in
    one_more (Ticks a) (Ticks b) settings all tail names (ap (λ (n : ℕ). Ticks n) (sym same)) (goes_on_by settings all tail names fit.1 fits.1 are rest)

-- options before the same names, or at the end, are the same
append_none : (settings : List Setting) → settings ++ [] ≡ settings
append_none [] = refl
append_none (setting ∷ settings) = ap (λ (ss : List Setting). setting ∷ ss) (append_none settings)

no_more : (more : List Setting) (tail names : List (List ℕ)) → AllByRecursion IsName tail → tail ≡ option_words more ++ names → (more ≡ []) × (tail ≡ names)
no_more [] tail names are e = (refl, e)
no_more (Stack a ∷ more) tail names are e = absurd (no_stack (decimal a ∷ (option_words more ++ names)) tail are (sym e))
no_more (Ticks a ∷ more) tail names are e = absurd (no_ticks (decimal a ∷ (option_words more ++ names)) tail are (sym e))

pub one_reading : (settings all : List Setting) (tail names : List (List ℕ)) → AllByRecursion FitsSetting settings → AllByRecursion FitsSetting all → AllByRecursion IsName tail → AllByRecursion IsName names
    → option_words settings ++ tail ≡ option_words all ++ names → (settings ≡ all) × (tail ≡ names)
one_reading settings all tail names fit fits are others e =
    let on = goes_on_by settings all tail names fit fits others e in
    let none = no_more on.more tail names are on.tail_is in
    (sym (on.all_are ∙ ap (λ (more : List Setting). settings ++ more) none.0 ∙ append_none settings), none.1)

-- ---- longer options

pub words_more : (settings more : List Setting) → option_words (settings ++ more) ≡ option_words settings ++ option_words more
words_more [] more = refl
words_more (Stack a ∷ settings) more = ap (λ (ws : List (List ℕ)). codes "--stack" ∷ decimal a ∷ ws) (words_more settings more)
words_more (Ticks a ∷ settings) more = ap (λ (ws : List (List ℕ)). codes "--ticks" ∷ decimal a ∷ ws) (words_more settings more)

pub stacks_more : (settings more : List Setting) → stacks_in (settings ++ more) ≡ stacks_in settings ++ stacks_in more
stacks_more [] more = refl
stacks_more (Stack a ∷ settings) more = ap (λ (ns : List ℕ). a ∷ ns) (stacks_more settings more)
stacks_more (Ticks a ∷ settings) more = stacks_more settings more

pub budgets_more : (settings more : List Setting) → budgets_in (settings ++ more) ≡ budgets_in settings ++ budgets_in more
budgets_more [] more = refl
budgets_more (Stack a ∷ settings) more = budgets_more settings more
budgets_more (Ticks a ∷ settings) more = ap (λ (ns : List ℕ). a ∷ ns) (budgets_more settings more)

pub fit_more : (settings more : List Setting) → AllByRecursion FitsSetting settings → AllByRecursion FitsSetting more → AllByRecursion FitsSetting (settings ++ more)
fit_more [] more all others = others
fit_more (setting ∷ settings) more all others = (all.0, fit_more settings more all.1 others)

pub fit_rest : (settings more : List Setting) → AllByRecursion FitsSetting (settings ++ more) → AllByRecursion FitsSetting more
fit_rest [] more all = all
fit_rest (setting ∷ settings) more all = fit_rest settings more all.1

-- ---- what is given

one_at_most : {X : Type 0} (o : Option X) → length (option_to_list o) ≤ 1
one_at_most None = omega arith
one_at_most (Some x) = omega arith

-- what is given so far is options of a command
pub given_options : (settings : List Setting) (given : Given) → HasGiven settings given → AreOptions settings
given_options settings given has =
    record {
      fit = has.fit;
      one_stack = subst (λ (ns : List ℕ). length ns ≤ 1) (sym has.stacks) (one_at_most given.stack);
      one_budget = subst (λ (ns : List ℕ). length ns ≤ 1) (sym has.budgets) (one_at_most given.ticks);
    }

first_given : (default : ℕ) (o : Option ℕ) → unwrap_or o default ≡ first_or default (option_to_list o)
first_given default None = refl
first_given default (Some n) = refl

abbrev opts_made : ℕ → ℕ → ℕ → Opts
opts_made heap stack ticks = record { heap = heap; stack = stack; ticks = ticks }

same_opts : (heap a b c d : ℕ) → a ≡ b → c ≡ d → opts_made heap a c ≡ opts_made heap b d
same_opts heap a b c d p q = cc

pub given_opts : (settings : List Setting) (given : Given) → HasGiven settings given → opts_given given ≡ opts_of settings
given_opts settings given has =
    same_opts default_heap (unwrap_or given.stack default_stack) (first_or default_stack (stacks_in settings)) (unwrap_or given.ticks default_ticks) (first_or default_ticks (budgets_in settings))
    (first_given default_stack given.stack ∙ ap (first_or default_stack) (sym has.stacks))
    (first_given default_ticks given.ticks ∙ ap (first_or default_ticks) (sym has.budgets))

-- ---- how many words

count_words : (settings : List Setting) → length (option_words settings) ≡ 2 * length (stacks_in settings) + 2 * length (budgets_in settings)
count_words [] = refl
count_words (Stack a ∷ settings) = let more = count_words settings in omega (arith, more)
count_words (Ticks a ∷ settings) = let more = count_words settings in omega (arith, more)

two_words : {X : Type 0} (o : Option X) → 2 * length (option_to_list o) ≡ words_of_one o
two_words None = refl
two_words (Some x) = refl

pub given_place : (settings : List Setting) (given : Given) → HasGiven settings given → 1 + words_given given ≡ class_place settings
given_place settings given has =
    let count = count_words settings in
    let stacks : 2 * length (stacks_in settings) ≡ words_of_one given.stack = ap (λ (ns : List ℕ). 2 * length ns) has.stacks ∙ two_words given.stack in
    let budgets : 2 * length (budgets_in settings) ≡ words_of_one given.ticks = ap (λ (ns : List ℕ). 2 * length ns) has.budgets ∙ two_words given.ticks in
    omega (arith, count, stacks, budgets)

-- ---- sizes

stack_fits : (settings : List Setting) → AllByRecursion FitsSetting settings → (64 ≤ first_or default_stack (stacks_in settings)) × (first_or default_stack (stacks_in settings) ≤ 32767)
stack_fits [] fit = (omega arith, omega arith)
stack_fits (Stack cells ∷ settings) fit = fit.0
stack_fits (Ticks ticks ∷ settings) fit = stack_fits settings fit.1

-- what options give are sizes of a mote
pub opts_fit : (settings : List Setting) (opts : Opts) → AreOptions settings → opts ≡ opts_of settings → HasSizes opts
opts_fit settings opts options is =
    let fits = stack_fits settings options.fit in
    subst HasSizes (sym is) (record { least_heap = omega arith; greatest_heap = omega arith; least_stack = fits.0; greatest_stack = fits.1 })
