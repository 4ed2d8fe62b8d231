-- What machines and runs have in common: one machine that follows another, runs that end, and runs without limits.
use Rattle.std.specs.Prelude.{◌≡◌, ℕ, suc, ◌<◌, Bool, true, false, List, [], ◌∷◌, ◌++◌, drop, filter, None}
use Rattle.dialogue.specs.Answers.{Answers}
use Rattle.account.specs.Account.{Event, Get, Put, Collects, Need, Move, Does, Stops, Stuck, Bounds, Standing, Ends, Ended, Spent, HeapWanted, StackWanted, Settled, no_need}
use Rattle.account.specs.Run.{Machine, EndsSo}

-- ---- one machine follows another

-- two moves that need and show the same, and come to what is related
pub data Alike {A E B F : Type 0} (Next : A → B → Type 0) (Same : E → F → Type 0) : Move A E → Move B F → Type 0 where
  BothDo : (need : Need) (events : List Event) (next : A) (other : B) → Next next other → Alike Next Same (Does need events next) (Does need events other)
  BothStop : (need : Need) (events : List Event) (ending : E) (other : F) → Same ending other → Alike Next Same (Stops need events ending) (Stops need events other)

-- moves that need and show nothing, and of whose states the account sees the same
pub data Quietly {State Ending : Type 0} (machine : Machine State Ending) : State → State → Type 0 where
  Rests : (state : State) → Quietly machine state state
  Moves : (state next last : State) → machine.move state ≡ Does no_need [] next → machine.view next ≡ machine.view state → Quietly machine next last → Quietly machine state last

-- where the second machine quietly comes to a state that is related
pub record ComesTo {A B F : Type 0} (second : Machine B F) (Related : A → B → Type 0) (next : A) (other : B) : Type 0 where
  pub last : B
  pub quiet : Quietly second other last
  pub related : Related next last

-- What the second machine does where the first one makes a move: where that needs and shows nothing, it comes quietly to
-- what is related; else it comes quietly to a move that is alike, and from there quietly to what is related.
pub data Matches {A E B F : Type 0} (first : Machine A E) (second : Machine B F) (Related : A → B → Type 0) (Same : E → F → Type 0) (a : A) (b : B) : Type 0 where
  IsQuiet : (next : A) → first.move a ≡ Does no_need [] next → ComesTo second Related next b → Matches first second Related Same a b
  IsLoud : (from : B) → Quietly second b from → Alike (ComesTo second Related) Same (first.move a) (second.move from) → Matches first second Related Same a b

-- the second machine follows the first one: from related states, of which the account sees the same
pub record Follows {A E B F : Type 0} (first : Machine A E) (second : Machine B F) (Related : A → B → Type 0) (Same : E → F → Type 0) : Type 0 where
  pub views : (a : A) (b : B) → Related a b → first.view a ≡ second.view b
  pub matches : (a : A) (b : B) → Related a b → Matches first second Related Same a b

-- two ways to end
pub data EndsAlike {E F : Type 0} (Same : E → F → Type 0) : Ends E → Ends F → Type 0 where
  BothEnded : (ending : E) (other : F) → Same ending other → EndsAlike Same (Ended ending) (Ended other)
  BothSpent : EndsAlike Same Spent Spent
  BothHeap : (need live : ℕ) → EndsAlike Same (HeapWanted need live) (HeapWanted need live)
  BothStack : (need used : ℕ) → EndsAlike Same (StackWanted need used) (StackWanted need used)

-- The run of the second machine from where the second stands ends as that of the first did: with the same events, the
-- same cells in use and ticks used, and in a state to which it came quietly from one that is related.
pub record FollowsTo {A E B F : Type 0} (second : Machine B F) (Related : A → B → Type 0) (Same : E → F → Type 0) (bounds : Bounds) (start : Settled B F) (events : List Event) (last : Standing A) (how : Ends E) : Type 0 where
  pub other_last : Standing B
  pub other_how : Ends F
  pub ends : EndsSo second bounds start events other_last other_how
  pub alike : EndsAlike Same how other_how
  pub used : other_last.used ≡ last.used
  pub ticks : other_last.ticks ≡ last.ticks
  pub from : B
  pub related : Related last.state from
  pub quiet : Quietly second from other_last.state

-- ---- runs that end

-- A machine is never stuck in states of which something holds, which then holds of the next one too; and a move that is
-- no tick lowers a rank. So each run from there ends.
pub record Measured {State Ending : Type 0} (machine : Machine State Ending) (Holds : State → Type 0) : Type 0 where
  pub moves : (state : State) → Holds state → machine.move state ≡ Stuck → ⊥
  pub holds : (state next : State) (need : Need) (events : List Event) → Holds state → machine.move state ≡ Does need events next → Holds next
  pub rank : State → ℕ
  pub falls : (state next : State) (need : Need) (events : List Event) → Holds state → machine.move state ≡ Does need events next → need.tick ≡ false → rank next < rank state

-- ---- answers

-- how many bytes are asked for
abbrev pub asked : List Event → ℕ
asked [] = 0
asked (Get ∷ events) = suc (asked events)
asked (Put byte ∷ events) = asked events
asked (Collects collection ∷ events) = asked events

-- a machine that asks for what is answered, and keeps the rest
pub record Asks {State Ending : Type 0} (machine : Machine State Ending) (answers : State → Answers) : Type 0 where
  pub does : (state next : State) (need : Need) (events : List Event) → machine.move state ≡ Does need events next → answers next ≡ drop (asked events) (answers state)
  pub stops : (state : State) (need : Need) (events : List Event) (ending : Ending) → machine.move state ≡ Stops need events ending → asked events ≡ 0

-- ---- runs without limits of heap and stack

abbrev pub without_limits : Bounds → Bounds
without_limits bounds = record { heap = None; stack = None; ticks = bounds.ticks }

-- an object did not fit the heap, or a frame the stack
abbrev pub is_want : {Ending : Type 0} → Ends Ending → Bool
is_want (Ended ending) = false
is_want Spent = false
is_want (HeapWanted need live) = true
is_want (StackWanted need used) = true

abbrev pub is_shown : Event → Bool
is_shown (Collects collection) = false
is_shown event = true

-- the events but for collections
abbrev pub shown : List Event → List Event
shown events = filter is_shown events

pub record IsPrefix (prefix events : List Event) : Type 0 where
  pub rest : List Event
  pub is : events ≡ prefix ++ rest

-- What a run within limits shows is a prefix of what the run without them shows; unless it ends with a want, it is the
-- same, and ends in the same way.
pub record Cuts {Ending : Type 0} (limited unlimited : List Event) (how other : Ends Ending) : Type 0 where
  pub said : IsPrefix (shown limited) (shown unlimited)
  pub ends : is_want how ≡ false → (shown limited ≡ shown unlimited) × (how ≡ other)
