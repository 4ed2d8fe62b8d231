-- The commands, as words. A word is the list of its bytes.
use Rattle.std.specs.Prelude.{◌≡◌, ◌≢◌, ℕ, ◌+◌, ◌^◌, ◌<◌, ◌≤◌, List, [], ◌∷◌, ◌++◌, length, take, codes, decimal}
use Rattle.std.specs.List.{AllByRecursion}
use Rattle.dialogue.specs.Limits.{Limits}
use Rattle.jvm_model.specs.Phases.{saturated}
use Rattle.mote_top.specs.declared.words.Command.{Command}
use Rattle.mote_top.specs.declared.words.Command.TheVariants.{Infuse, Run, Go}
use Rattle.mote_top.specs.declared.words.Opts.{Opts}

-- a name is not empty and does not begin with '-'
abbrev pub IsName : List ℕ → Type 0
IsName [] = ⊥
IsName (first ∷ others) = first ≢ 45

-- one name or more
abbrev pub AreNames : List (List ℕ) → Type 0
AreNames [] = ⊥
AreNames (name ∷ names) = IsName name × AllByRecursion IsName names

-- ---- options

-- one option: so many cells of the stack, or a budget of ticks
pub data Setting : Type 0 where
  Stack : ℕ → Setting
  Ticks : ℕ → Setting

-- an option and its number in decimal
abbrev pub setting_words : Setting → List (List ℕ)
setting_words (Stack cells) = codes "--stack" ∷ decimal cells ∷ []
setting_words (Ticks ticks) = codes "--ticks" ∷ decimal ticks ∷ []

-- options one after the other
abbrev pub option_words : List Setting → List (List ℕ)
option_words [] = []
option_words (setting ∷ settings) = setting_words setting ++ option_words settings

-- the sizes of the stack that options give, and the budgets
abbrev pub stacks_in : List Setting → List ℕ
stacks_in [] = []
stacks_in (Stack cells ∷ settings) = cells ∷ stacks_in settings
stacks_in (Ticks ticks ∷ settings) = stacks_in settings

abbrev pub budgets_in : List Setting → List ℕ
budgets_in [] = []
budgets_in (Stack cells ∷ settings) = budgets_in settings
budgets_in (Ticks ticks ∷ settings) = ticks ∷ budgets_in settings

-- a stack has 64 to 32,767 cells, and a budget is a number of 64 bits
abbrev pub FitsSetting : Setting → Type 0
FitsSetting (Stack cells) = (64 ≤ cells) × (cells ≤ 32767)
FitsSetting (Ticks ticks) = ticks < 2 ^ 64

-- options of a command: each number fits, and each kind is given once at most
pub record AreOptions (settings : List Setting) : Type 0 where
  pub fit : AllByRecursion FitsSetting settings
  pub one_stack : length (stacks_in settings) ≤ 1
  pub one_budget : length (budgets_in settings) ≤ 1

-- the cells of the heap, and those of the stack and the budget where no option gives them
abbrev pub default_heap : ℕ
default_heap = 4096

abbrev pub default_stack : ℕ
default_stack = 1024

abbrev pub default_ticks : ℕ
default_ticks = 100000000

-- the first of these numbers, or the default where there is none
abbrev pub first_or : ℕ → List ℕ → ℕ
first_or default [] = default
first_or default (number ∷ numbers) = number

-- what the options give
abbrev pub opts_of : List Setting → Opts
opts_of settings = record { heap = default_heap; stack = first_or default_stack (stacks_in settings); ticks = first_or default_ticks (budgets_in settings) }

-- what a run with these options may use
abbrev pub limits_in : Opts → Limits
limits_in opts = record { heap = opts.heap; stack = opts.stack; ticks = opts.ticks }

abbrev pub limits_of : List Setting → Limits
limits_of settings = limits_in (opts_of settings)

-- heap and stack are sizes that a mote may have
pub record HasSizes (opts : Opts) : Type 0 where
  pub least_heap : 64 ≤ opts.heap
  pub greatest_heap : opts.heap ≤ 32767
  pub least_stack : 64 ≤ opts.stack
  pub greatest_stack : opts.stack ≤ 32767

-- ---- commands

-- infuse OUT CLASS CLASS ..
abbrev pub infuse_of : List ℕ → List (List ℕ) → List (List ℕ)
infuse_of out classes = codes "infuse" ∷ out ∷ classes

-- run INFUSION OPTIONS
abbrev pub run_of : List ℕ → List Setting → List (List ℕ)
run_of name settings = codes "run" ∷ name ∷ option_words settings

-- go OPTIONS CLASS CLASS ..
abbrev pub go_of : List Setting → List (List ℕ) → List (List ℕ)
go_of settings classes = codes "go" ∷ (option_words settings ++ classes)

-- the place of the first class among the words of go
abbrev pub class_place : List Setting → ℕ
class_place settings = 1 + length (option_words settings)

pub record IsInfuse (words : List (List ℕ)) (out first : ℕ) : Type 0 where
  pub out_name : List ℕ
  pub classes : List (List ℕ)
  pub words_are : words ≡ infuse_of out_name classes
  pub is_out : IsName out_name
  pub are_classes : AreNames classes
  pub out_is : out ≡ 1
  pub first_is : first ≡ 2

pub record IsRun (words : List (List ℕ)) (slot : ℕ) (opts : Opts) : Type 0 where
  pub name : List ℕ
  pub settings : List Setting
  pub words_are : words ≡ run_of name settings
  pub is_name : IsName name
  pub options : AreOptions settings
  pub name_is : slot ≡ 1
  pub opts_are : opts ≡ opts_of settings

pub record IsGo (words : List (List ℕ)) (opts : Opts) (first : ℕ) : Type 0 where
  pub settings : List Setting
  pub classes : List (List ℕ)
  pub words_are : words ≡ go_of settings classes
  pub options : AreOptions settings
  pub are_classes : AreNames classes
  pub opts_are : opts ≡ opts_of settings
  pub first_is : first ≡ class_place settings

-- the words are the command, whose names are places among them
abbrev pub IsCommand : List (List ℕ) → Command → Type 0
IsCommand words (Infuse out first) = IsInfuse words out first
IsCommand words (Run name opts) = IsRun words name opts
IsCommand words (Go opts first) = IsGo words opts first

-- what a run of the command may use; infuse runs nothing
abbrev pub opts_for : Command → Opts
opts_for (Infuse out first) = opts_of []
opts_for (Run name opts) = opts
opts_for (Go opts first) = opts

-- the words begin a command, or are one
pub record Begins (words : List (List ℕ)) : Type 0 where
  pub more : List (List ℕ)
  pub command : Command
  pub whole : IsCommand (words ++ more) command

-- the words are no command, and this is the first place at which no command goes on as they do, or
-- their number where they begin one
pub record StopsAt (words : List (List ℕ)) (place : ℕ) : Type 0 where
  pub within : place ≤ length words
  pub begins : Begins (take place words)
  pub stops : place < length words → Begins (take (place + 1) words) → ⊥
  pub no_command : (command : Command) → IsCommand words command → ⊥

-- the same with the place as a status has it: the greatest number of its field where it is beyond
pub record FaultsAt (words : List (List ℕ)) (place : ℕ) : Type 0 where
  pub at : ℕ
  pub stops : StopsAt words at
  pub place_is : place ≡ saturated at
