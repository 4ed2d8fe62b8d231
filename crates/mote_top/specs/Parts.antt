-- What words so far may be: the beginnings of commands, which reading goes through word by word.
use Rattle.std.specs.Prelude.{◌≡◌, ℕ, ◌+◌, List, [], ◌∷◌, ◌++◌, Option, Some, None, unwrap_or, codes}
use Rattle.std.specs.List.{AllByRecursion}
use Rattle.std.specs.Option.{option_to_list}
use Rattle.mote_top.specs.declared.words.Command.{Command}
use Rattle.mote_top.specs.declared.words.Opts.{Opts}
use Rattle.mote_top.specs.declared.words.Given.{Given}
use Rattle.mote_top.specs.declared.words.Runs.{Runs}
use Rattle.mote_top.specs.declared.words.Runs.TheVariants.{Infusion, Classes}
use Rattle.mote_top.specs.declared.words.Part.{Part}
use Rattle.mote_top.specs.declared.words.Part.TheVariants as part
use Rattle.mote_top.specs.Words.{default_heap, default_stack, default_ticks, IsName, AreNames, Setting, option_words, stacks_in, budgets_in, FitsSetting, IsCommand}

-- no command begins with these words
abbrev pub NoneBegins : List (List ℕ) → Type 0
NoneBegins words = (more : List (List ℕ)) (command : Command) → IsCommand (words ++ more) command → ⊥

-- ---- options

-- what the options of a command that gives these are, and how many words gave them
abbrev pub opts_given : Given → Opts
opts_given given = record { heap = default_heap; stack = unwrap_or given.stack default_stack; ticks = unwrap_or given.ticks default_ticks }

abbrev pub words_of_one : {X : Type 0} → Option X → ℕ
words_of_one None = 0
words_of_one (Some x) = 2

abbrev pub words_given : Given → ℕ
words_given given = words_of_one given.stack + words_of_one given.ticks

-- these options are given so far
pub record HasGiven (settings : List Setting) (given : Given) : Type 0 where
  pub fit : AllByRecursion FitsSetting settings
  pub stacks : stacks_in settings ≡ option_to_list given.stack
  pub budgets : budgets_in settings ≡ option_to_list given.ticks

-- the words before the options: run and a name, or go
abbrev pub IsHead : Runs → List (List ℕ) → Type 0
IsHead Infusion head = (name : List ℕ) × IsName name × (head ≡ codes "run" ∷ name ∷ [])
IsHead Classes head = head ≡ codes "go" ∷ []

-- run or go, and options
pub record HasOptions (words : List (List ℕ)) (runs : Runs) (given : Given) : Type 0 where
  pub head : List (List ℕ)
  pub is_head : IsHead runs head
  pub settings : List Setting
  pub has : HasGiven settings given
  pub words_are : words ≡ head ++ option_words settings

-- the same and a word more
pub record HasOption (words : List (List ℕ)) (runs : Runs) (given : Given) (word : List ℕ) : Type 0 where
  pub before : List (List ℕ)
  pub options : HasOptions before runs given
  pub words_are : words ≡ before ++ word ∷ []

-- go, options and names
pub record HasClasses (words : List (List ℕ)) (given : Given) : Type 0 where
  pub before : List (List ℕ)
  pub options : HasOptions before Classes given
  pub classes : List (List ℕ)
  pub are_classes : AreNames classes
  pub words_are : words ≡ before ++ classes

-- ---- infuse

-- infuse and a name, and names
pub record HasOut (words classes : List (List ℕ)) : Type 0 where
  pub out : List ℕ
  pub is_out : IsName out
  pub words_are : words ≡ codes "infuse" ∷ out ∷ classes

pub record HasOutClasses (words : List (List ℕ)) : Type 0 where
  pub classes : List (List ℕ)
  pub are_classes : AreNames classes
  pub out : HasOut words classes

-- ---- parts

-- the words are this part of a command
abbrev pub IsPart : List (List ℕ) → Part → Type 0
IsPart words part.Start = words ≡ []
IsPart words part.Infuse = words ≡ codes "infuse" ∷ []
IsPart words part.InfuseOut = HasOut words []
IsPart words part.InfuseClasses = HasOutClasses words
IsPart words part.Run = words ≡ codes "run" ∷ []
IsPart words (part.Options runs given) = HasOptions words runs given
IsPart words (part.Stack runs given) = HasOption words runs given (codes "--stack") × (given.stack ≡ None)
IsPart words (part.Ticks runs given) = HasOption words runs given (codes "--ticks") × (given.ticks ≡ None)
IsPart words (part.GoClasses given) = HasClasses words given

-- the word is a name, and the part is this one; or the word is none
abbrev pub IsNamed : List ℕ → Part → Option Part → Type 0
IsNamed word wanted (Some part) = IsName word × (part ≡ wanted)
IsNamed word wanted None = IsName word → ⊥

-- the words are this part, or no command begins so
abbrev pub IsPartOrNone : List (List ℕ) → Option Part → Type 0
IsPartOrNone words (Some part) = IsPart words part
IsPartOrNone words None = NoneBegins words

-- the words are this command, or they are none
abbrev pub IsCommandOrNone : List (List ℕ) → Option Command → Type 0
IsCommandOrNone words (Some command) = IsCommand words command
IsCommandOrNone words None = (command : Command) → IsCommand words command → ⊥
