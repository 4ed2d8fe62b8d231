-- What the turn of a step says of the move of the split machine at the state that the memory stands for.
use Rattle.std.specs.Prelude.{◌≡◌, ℕ, suc, ◌+◌, ◌<◌, Bool, true, false, List, [], Option, Some, None}
use Rattle.dialogue.specs.Answers.{Answers, MayGive}
use Rattle.dialogue.specs.Dialogue.{gets}
use Rattle.library.specs.Classes.{first_own}
use Rattle.image_form.specs.declared.record.Image.{Image}
use Rattle.account.specs.Account.{Event, Need, Does, Stops, no_need}
use Rattle.mote_model.specs.declared.ending.Ending.{Ending}
use Rattle.mote_model.specs.declared.ending.Ending.TheVariants as ending
use Rattle.mote_model.specs.declared.memory.State.{State as Memory}
use Rattle.mote_model.specs.declared.turn.Turn.{Turn}
use Rattle.mote_model.specs.declared.turn.Turn.TheVariants.{On, Throws, Ends}
use Rattle.mote_model.specs.Picture.{Naming, Pictures}
use Rattle.mote_model.specs.SplitMoves.{SplitMove, throws}
use Rattle.mote_model.specs.SplitMoves as split
use Rattle.mote_model.specs.SplitState.{State}

-- one of the ticks that are left is taken, where the step is a tick
abbrev pub TakesTick : Bool → ℕ → ℕ → Type 0
TakesTick true left after = left ≡ suc after
TakesTick false left after = left ≡ after

-- the memory and the ticks that are left are as before
pub record IsUnchanged (old new : Memory) (left after : ℕ) : Type 0 where
  pub memory : new ≡ old
  pub ticks : after ≡ left

-- ---- plain steps, which place nothing and say nothing

module _ (image : Image) (naming : Naming) (size : ℕ) (move : SplitMove) where
  -- the step was done
  pub record PlainGoes (old new : Memory) (left after : ℕ) : Type 0 where
    pub need : Need
    pub next : State
    pub goes : move ≡ Does need [] next
    pub places_nothing : need.placed ≡ None
    pub calls_nothing : need.frame ≡ None
    pub tick : TakesTick need.tick left after
    pub pictures : Pictures image naming size new next
    pub collections : new.collections ≡ old.collections

  -- the step is a tick, and none is left
  pub record PlainSpent (old new : Memory) (left after : ℕ) : Type 0 where
    pub need : Need
    pub next : State
    pub goes : move ≡ Does need [] next
    pub tick : need.tick ≡ true
    pub none : left ≡ 0
    pub same : IsUnchanged old new left after

  -- the machine throws an object of a class of the library, which it makes
  pub record PlainThrows (state : State) (class : ℕ) (old new : Memory) (left after : ℕ) : Type 0 where
    pub is_throw : move ≡ throws image state state.frames class
    pub of_library : class < first_own
    pub same : IsUnchanged old new left after

  abbrev pub PlainEnds : (old new : Memory) (left after : ℕ) → Ending → Type 0
  PlainEnds old new left after ending.Spent = PlainSpent old new left after
  PlainEnds old new left after (ending.Misfit class place) = move ≡ Stops no_need [] (split.Misfit class place)
  PlainEnds old new left after how = ⊥

  -- a plain step answers so
  abbrev pub PlainTurn : (state : State) (old new : Memory) (left after : ℕ) → Turn → Type 0
  PlainTurn state old new left after On = PlainGoes old new left after
  PlainTurn state old new left after (Throws class) = PlainThrows state class old new left after
  PlainTurn state old new left after (Ends how) = PlainEnds old new left after how
