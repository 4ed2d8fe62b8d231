-- What the needs of a move come to: they are met, or one of them is not.
use Rattle.std.proofs.Common.{◌≡◌, ℕ, ◌+◌, ◌<◌, ◌≤◌, nat_le, min, Bool, true, false, if◌then◌else◌, List, [], ◌∷◌, ◌++◌, Option, Some, None, refl, ap, ◌∙◌, subst}
use Rattle.std.proofs.lemmas.Bool.{leb-true, leb-false, le-leb}
use Rattle.account.specs.Account.{Event, Collects, Collection, Need, Does, Stops, Stuck, Bounds, View, Standing, Ended, Spent, HeapWanted, StackWanted, Settled, Goes, Over, Lost, Placing, Places, Lacks, is_within, placing, placing_after, ticks_after, has_room, frame_cells, standing_at, after_placing, meets, settled, no_need}
use Rattle.account.specs.Run.{Machine}
use Rattle.account.specs.RunLaws.{asked, shown}
use Rattle.account.proofs.Course.{moved}

-- the needs are met, with these events, so many cells in use and so many ticks used; or a tick, cells of the heap or
-- cells of the stack are lacking
pub data Meeting : Type 0 where
  Met : (events : List Event) (used ticks : ℕ) → Meeting
  LacksTick : (events : List Event) (used : ℕ) → Meeting
  LacksHeap : (collection : Collection) (need : ℕ) → Meeting
  LacksStack : (events : List Event) (used need frames : ℕ) → Meeting

abbrev pub meeting_after : Bounds → View → ℕ → Need → Placing → Meeting
meeting_after bounds view ticks need (Lacks collection cells) = LacksHeap collection (min cells 4294967295)
meeting_after bounds view ticks need (Places events before after) =
    if nat_le (ticks_after need.tick ticks) bounds.ticks
    then (if has_room bounds view need.frame then Met events after (ticks_after need.tick ticks) else LacksStack events before (frame_cells need.frame) view.frames)
    else LacksTick events before

abbrev pub meeting : Bounds → View → ℕ → ℕ → Need → Meeting
meeting bounds view used ticks need = meeting_after bounds view ticks need (placing bounds view used need.placed)

-- the effect where the needs are met, else the end
abbrev pub come_to : {State Ending : Type 0} → Standing State → (List Event → ℕ → ℕ → Settled State Ending) → Meeting → Settled State Ending
come_to from effect (Met events used ticks) = effect events used ticks
come_to from effect (LacksTick events used) = Over events (standing_at from.state used from.ticks) Spent
come_to from effect (LacksHeap collection need) = Over (Collects collection ∷ []) (standing_at from.state collection.cells from.ticks) (HeapWanted need collection.cells)
come_to from effect (LacksStack events used need frames) = Over events (standing_at from.state used from.ticks) (StackWanted need frames)

-- the effects of the two kinds of moves
abbrev pub going_on : {State Ending : Type 0} → List Event → State → List Event → ℕ → ℕ → Settled State Ending
going_on events next first used ticks = Goes (first ++ events) (standing_at next used ticks)

abbrev pub stopping : {State Ending : Type 0} → Standing State → List Event → Ending → List Event → ℕ → ℕ → Settled State Ending
stopping from events ending first used ticks = Over (first ++ events) (standing_at from.state used ticks) (Ended ending)

module _ {State Ending : Type 0} (from : Standing State) (effect : List Event → ℕ → ℕ → Settled State Ending) where
  choose : (has_ticks room : Bool) (met lacks_stack lacks_tick : Meeting)
      → (if has_ticks then (if room then come_to from effect met else come_to from effect lacks_stack) else come_to from effect lacks_tick) ≡ come_to from effect (if has_ticks then (if room then met else lacks_stack) else lacks_tick)
  choose true true met lacks_stack lacks_tick = refl
  choose true false met lacks_stack lacks_tick = refl
  choose false room met lacks_stack lacks_tick = refl

  after_placing-is : (bounds : Bounds) (view : View) (need : Need) (placed : Placing) → after_placing bounds view from need placed effect ≡ come_to from effect (meeting_after bounds view from.ticks need placed)
  after_placing-is bounds view need (Lacks collection cells) = refl
  after_placing-is bounds view need (Places events before after) =
      choose (nat_le (ticks_after need.tick from.ticks) bounds.ticks) (has_room bounds view need.frame) (Met events after (ticks_after need.tick from.ticks)) (LacksStack events before (frame_cells need.frame) view.frames) (LacksTick events before)

  pub meets-is : (bounds : Bounds) (view : View) (need : Need) → meets bounds view from need effect ≡ come_to from effect (meeting bounds view from.used from.ticks need)
  meets-is bounds view need = after_placing-is bounds view need (placing bounds view from.used need.placed)

-- ---- the next move, by what its needs come to

module _ {State Ending : Type 0} (machine : Machine State Ending) (bounds : Bounds) (from : Standing State) where
  abbrev pub meeting_of : Need → Meeting
  meeting_of need = meeting bounds (machine.view from.state) from.used from.ticks need

  pub moved-does : (need : Need) (events : List Event) (next : State) (met : Meeting) → machine.move from.state ≡ Does need events next → meeting_of need ≡ met → moved machine bounds from ≡ come_to from (going_on events next) met
  moved-does need events next met move is =
      ap (settled bounds (machine.view from.state) from) move
      ∙ meets-is from (going_on events next) bounds (machine.view from.state) need
      ∙ ap (come_to from (going_on events next)) is

  pub moved-stops : (need : Need) (events : List Event) (ending : Ending) (met : Meeting) → machine.move from.state ≡ Stops need events ending → meeting_of need ≡ met → moved machine bounds from ≡ come_to from (stopping from events ending) met
  moved-stops need events ending met move is =
      ap (settled bounds (machine.view from.state) from) move
      ∙ meets-is from (stopping from events ending) bounds (machine.view from.state) need
      ∙ ap (come_to from (stopping from events ending)) is

  pub moved-stuck : machine.move from.state ≡ Stuck → moved machine bounds from ≡ Lost
  moved-stuck move = ap (settled bounds (machine.view from.state) from) move

-- ---- what holds of a meeting

-- no byte is asked for, and none is shown
pub record AreSilent (events : List Event) : Type 0 where
  pub asks : asked events ≡ 0
  pub shows : shown events ≡ []

-- collections are all that is said, and ticks are kept
abbrev pub Keeps : Bounds → ℕ → Need → Meeting → Type 0
Keeps bounds ticks need (Met events used after) = AreSilent events × (after ≡ ticks_after need.tick ticks) × (after ≤ bounds.ticks)
Keeps bounds ticks need (LacksTick events used) = AreSilent events × (bounds.ticks < ticks_after need.tick ticks)
Keeps bounds ticks need (LacksHeap collection cells) = Unit {0}
Keeps bounds ticks need (LacksStack events used cells frames) = AreSilent events × (ticks_after need.tick ticks ≤ bounds.ticks)

nothing_silent : AreSilent []
nothing_silent = record { asks = refl; shows = refl }

pub collection_silent : (collection : Collection) → AreSilent (Collects collection ∷ [])
collection_silent collection = record { asks = refl; shows = refl }

abbrev SaysNothing : Placing → Type 0
SaysNothing (Places events before after) = AreSilent events
SaysNothing (Lacks collection need) = Unit {0}

module _ (bounds : Bounds) (view : View) where
  after_silent : (collection : Collection) (cells : ℕ) (fits : Bool) → SaysNothing (if fits then Places (Collects collection ∷ []) collection.cells (collection.cells + cells) else Lacks collection cells)
  after_silent collection cells true = collection_silent collection
  after_silent collection cells false = tt

  fits_silent : (used cells : ℕ) (fits : Bool) → SaysNothing (if fits then Places [] used (used + cells) else placing_after bounds view.collection cells)
  fits_silent used cells true = nothing_silent
  fits_silent used cells false = after_silent view.collection cells (is_within bounds.heap (view.collection.cells + cells))

  placing_silent : (used : ℕ) (placed : Option ℕ) → SaysNothing (placing bounds view used placed)
  placing_silent used None = nothing_silent
  placing_silent used (Some cells) = fits_silent used cells (is_within bounds.heap (used + cells))

  choose_keeps : (ticks : ℕ) (need : Need) (events : List Event) (before after : ℕ) (has_ticks room : Bool) → AreSilent events → nat_le (ticks_after need.tick ticks) bounds.ticks ≡ has_ticks
      → Keeps bounds ticks need (if has_ticks then (if room then Met events after (ticks_after need.tick ticks) else LacksStack events before (frame_cells need.frame) view.frames) else LacksTick events before)
  choose_keeps ticks need events before after true true silent e = (silent, refl, leb-true (ticks_after need.tick ticks) bounds.ticks e)
  choose_keeps ticks need events before after true false silent e = (silent, leb-true (ticks_after need.tick ticks) bounds.ticks e)
  choose_keeps ticks need events before after false room silent e = (silent, leb-false (ticks_after need.tick ticks) bounds.ticks e)

  after_keeps : (ticks : ℕ) (need : Need) (placed : Placing) → SaysNothing placed → Keeps bounds ticks need (meeting_after bounds view ticks need placed)
  after_keeps ticks need (Lacks collection cells) silent = tt
  after_keeps ticks need (Places events before after) silent =
      choose_keeps ticks need events before after (nat_le (ticks_after need.tick ticks) bounds.ticks) (has_room bounds view need.frame) silent refl

  pub meeting_keeps : (used ticks : ℕ) (need : Need) (met : Meeting) → meeting bounds view used ticks need ≡ met → Keeps bounds ticks need met
  meeting_keeps used ticks need met is = subst (Keeps bounds ticks need) is (after_keeps ticks need (placing bounds view used need.placed) (placing_silent used need.placed))

  choose_met : (used ticks : ℕ) (has_ticks : Bool) → has_ticks ≡ true → (if has_ticks then Met [] used ticks else LacksTick [] used) ≡ Met [] used ticks
  choose_met used ticks true e = refl
  choose_met used ticks false e = cc

  -- nothing that is needed is met
  pub no_need-met : (used ticks : ℕ) → ticks ≤ bounds.ticks → meeting bounds view used ticks no_need ≡ Met [] used ticks
  no_need-met used ticks within = choose_met used ticks (nat_le ticks bounds.ticks) (le-leb ticks bounds.ticks within)
