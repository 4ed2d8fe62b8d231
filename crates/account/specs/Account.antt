-- The account of a run, whichever machine runs: what a step needs, in which order its needs are met, and where a run
-- stops for them. A machine's step knows neither budgets nor limits: it answers a move.
use Rattle.std.specs.Prelude.{ℕ, suc, ◌+◌, nat_le, min, Bool, true, false, if◌then◌else◌, List, [], ◌∷◌, ◌++◌, Option, Some, None}
use Rattle.std.specs.Option.{option_map_or}

-- ---- moves

-- A collection: the objects that the references of frames and statics name, in their order, how many objects are
-- reached, and their cells.
pub record Collection : Type 0 where
  pub roots : List ℕ
  pub objects : ℕ
  pub cells : ℕ

-- what is seen of a step: a byte is asked for, a byte is shown, what is not reached is given up
pub data Event : Type 0 where
  Get : Event
  Put : (byte : ℕ) → Event
  Collects : (collection : Collection) → Event

-- the cells of the objects that a step places, a tick, and the cells of a frame
pub record Need : Type 0 where
  pub placed : Option ℕ
  pub tick : Bool
  pub frame : Option ℕ

abbrev pub no_need : Need
no_need = record { placed = None; tick = false; frame = None }

abbrev pub tick_need : Need
tick_need = record { placed = None; tick = true; frame = None }

abbrev pub place_need : ℕ → Need
place_need cells = record { placed = Some cells; tick = false; frame = None }

abbrev pub call_need : ℕ → Need
call_need cells = record { placed = None; tick = true; frame = Some cells }

-- what a step does once its needs are met: it goes on to a state, or it ends the run; or there is no such step
pub data Move (State Ending : Type 0) : Type 0 where
  Does : (need : Need) (events : List Event) (next : State) → Move State Ending
  Stops : (need : Need) (events : List Event) (ending : Ending) → Move State Ending
  Stuck : Move State Ending

-- ---- limits

-- the cells of the heap and of the stack, where there is a limit of them, and the budget of ticks
pub record Bounds : Type 0 where
  pub heap : Option ℕ
  pub stack : Option ℕ
  pub ticks : ℕ

abbrev pub is_within : Option ℕ → ℕ → Bool
is_within bound count = option_map_or (nat_le count) bound true

-- what the account sees of a state: what a collection would be, and the cells of all frames
pub record View : Type 0 where
  pub collection : Collection
  pub frames : ℕ

-- a state, with the cells of the heap that are in use and the ticks that were used
pub record Standing (State : Type 0) : Type 0 where
  pub state : State
  pub used : ℕ
  pub ticks : ℕ

-- how a run ends: as its machine ends it, or for want of ticks, of heap or of stack
pub data Ends (Ending : Type 0) : Type 0 where
  Ended : (ending : Ending) → Ends Ending
  Spent : Ends Ending
  HeapWanted : (need live : ℕ) → Ends Ending
  StackWanted : (need used : ℕ) → Ends Ending

-- what a move comes to within bounds: the run goes on, or it is over, or it is lost
pub data Settled (State Ending : Type 0) : Type 0 where
  Goes : (events : List Event) (next : Standing State) → Settled State Ending
  Over : (events : List Event) (last : Standing State) (how : Ends Ending) → Settled State Ending
  Lost : Settled State Ending

-- ---- the order of needs

-- Objects of so many cells are placed where the cells in use allow it, else after a collection. `before` is in use
-- where the step is then given up, and `after` where it is done.
pub data Placing : Type 0 where
  Places : (events : List Event) (before after : ℕ) → Placing
  Lacks : (collection : Collection) (need : ℕ) → Placing

abbrev pub placing_after : Bounds → Collection → ℕ → Placing
placing_after bounds collection cells =
    if is_within bounds.heap (collection.cells + cells) then Places (Collects collection ∷ []) collection.cells (collection.cells + cells)
    else Lacks collection cells

abbrev pub placing : Bounds → View → ℕ → Option ℕ → Placing
placing bounds view used None = Places [] used used
placing bounds view used (Some cells) = if is_within bounds.heap (used + cells) then Places [] used (used + cells) else placing_after bounds view.collection cells

abbrev pub ticks_after : Bool → ℕ → ℕ
ticks_after tick ticks = if tick then suc ticks else ticks

-- the cells of all frames allow one more frame
abbrev pub has_room : Bounds → View → Option ℕ → Bool
has_room bounds view frame = option_map_or (λ cells. is_within bounds.stack (view.frames + cells)) frame true

abbrev pub frame_cells : Option ℕ → ℕ
frame_cells frame = option_map_or (λ cells. cells) frame 0

abbrev pub standing_at : {State : Type 0} → State → ℕ → ℕ → Standing State
standing_at state used ticks = record { state = state; used = used; ticks = ticks }

-- The tick, then the frame, then the effect. A step that is given up leaves its state, but the collection stays.
abbrev pub after_placing : {State Ending : Type 0} → Bounds → View → Standing State → Need → Placing → (List Event → ℕ → ℕ → Settled State Ending) → Settled State Ending
after_placing bounds view from need (Lacks collection cells) effect =
    Over (Collects collection ∷ []) (standing_at from.state collection.cells from.ticks) (HeapWanted (min cells 4294967295) collection.cells)
after_placing bounds view from need (Places events before after) effect =
    if nat_le (ticks_after need.tick from.ticks) bounds.ticks
    then (if has_room bounds view need.frame then effect events after (ticks_after need.tick from.ticks) else Over events (standing_at from.state before from.ticks) (StackWanted (frame_cells need.frame) view.frames))
    else Over events (standing_at from.state before from.ticks) Spent

abbrev pub meets : {State Ending : Type 0} → Bounds → View → Standing State → Need → (List Event → ℕ → ℕ → Settled State Ending) → Settled State Ending
meets bounds view from need effect = after_placing bounds view from need (placing bounds view from.used need.placed) effect

-- a move within bounds, from where a run stands
abbrev pub settled : {State Ending : Type 0} → Bounds → View → Standing State → Move State Ending → Settled State Ending
settled bounds view from (Does need events next) = meets bounds view from need (λ first used ticks. Goes (first ++ events) (standing_at next used ticks))
settled bounds view from (Stops need events ending) = meets bounds view from need (λ first used ticks. Over (first ++ events) (standing_at from.state used ticks) (Ended ending))
settled bounds view from Stuck = Lost
