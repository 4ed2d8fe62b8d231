-- Runs of a measured machine end, in a state of which still holds what held of the first one.
use Rattle.std.proofs.Common.{◌≡◌, ℕ, ◌+◌, zero, suc, ◌<◌, ◌≤◌, ◌⊎◌, inl, inr, zero-le, Bool, true, false, List, [], ◌∷◌, ◌++◌, refl, subst, arith}
use Rattle.std.proofs.lemmas.Bool.{cond_both}
use Rattle.account.specs.Account.{Event, Collects, Need, Move, Does, Stops, Stuck, Bounds, Standing, Ends, Ended, Spent, HeapWanted, StackWanted, Settled, Goes, Over, is_within, ticks_after, standing_at}
use Rattle.account.specs.Run.{Machine, EndsSo, begins}
use Rattle.account.specs.RunLaws.{Measured}
use Rattle.account.proofs.Running.{ends_over, ends_with-said}
use Rattle.account.proofs.OneEnd.{one_end}
use Rattle.account.proofs.Course.{moved, Course, Finishes, GoesOn, ends_of-course}
use Rattle.account.proofs.Meeting.{Meeting, Met, LacksTick, LacksHeap, LacksStack, meeting_of, come_to, going_on, stopping, moved-does, moved-stops, meeting_keeps}

-- the run from this beginning ends within its ticks, in a state of which this holds
pub record EndsHolding {State Ending : Type 0} (machine : Machine State Ending) (Holds : State → Type 0) (bounds : Bounds) (start : Settled State Ending) : Type 0 where
  pub events : List Event
  pub last : Standing State
  pub how : Ends Ending
  pub ends : EndsSo machine bounds start events last how
  pub holds : Holds last.state
  pub ticks : last.ticks ≤ bounds.ticks

-- the same, move by move
record Closes {State Ending : Type 0} (machine : Machine State Ending) (Holds : State → Type 0) (bounds : Bounds) (from : Standing State) : Type 0 where
  events : List Event
  last : Standing State
  how : Ends Ending
  course : Course machine bounds last how from events
  holds : Holds last.state
  ticks : last.ticks ≤ bounds.ticks

module _ {State Ending : Type 0} (machine : Machine State Ending) (Holds : State → Type 0) (measured : Measured machine Holds) (bounds : Bounds) where
  abbrev ClosesFrom : Standing State → Type 0
  ClosesFrom = Closes machine Holds bounds

  -- more ticks are used, or as many and the rank is lower
  abbrev IsBelow : Standing State → Standing State → Type 0
  IsBelow next from = (from.ticks < next.ticks) ⊎ ((next.ticks ≡ from.ticks) × (measured.rank next.state < measured.rank from.state))

  abbrev ClosesBelow : Standing State → Type 0
  ClosesBelow from = (next : Standing State) → Holds next.state → next.ticks ≤ bounds.ticks → IsBelow next from → ClosesFrom next

  -- ---- one move

  module _ (from : Standing State) (holds : Holds from.state) (within : from.ticks ≤ bounds.ticks) where
    closes_here : (events : List Event) (used ticks : ℕ) (how : Ends Ending) → ticks ≤ bounds.ticks → moved machine bounds from ≡ Over events (standing_at from.state used ticks) how → ClosesFrom from
    closes_here events used ticks how kept over = record {
      events = events;
      last = standing_at from.state used ticks;
      how = how;
      course = Finishes from events over;
      holds = holds;
      ticks = kept;
    }

    closes_later : (events : List Event) (next : Standing State) → moved machine bounds from ≡ Goes events next → ClosesFrom next → ClosesFrom from
    closes_later events next goes later = record {
      events = events ++ later.events;
      last = later.last;
      how = later.how;
      course = GoesOn from next events later.events goes later.course;
      holds = later.holds;
      ticks = later.ticks;
    }

    by_need : (effect : List Event → ℕ → ℕ → Settled State Ending) (met : Meeting) → moved machine bounds from ≡ come_to from effect met
        → ((events : List Event) (used ticks : ℕ) → met ≡ Met events used ticks → moved machine bounds from ≡ effect events used ticks → ClosesFrom from)
        → ClosesFrom from
    by_need effect (Met events used ticks) moves meets = meets events used ticks refl moves
    by_need effect (LacksTick events used) moves meets = closes_here events used from.ticks Spent within moves
    by_need effect (LacksHeap collection need) moves meets = closes_here (Collects collection ∷ []) collection.cells from.ticks (HeapWanted need collection.cells) within moves
    by_need effect (LacksStack events used need frames) moves meets = closes_here events used from.ticks (StackWanted need frames) within moves

    below : (need : Need) (events : List Event) (next : State) (used ticks : ℕ) → machine.move from.state ≡ Does need events next → (tick : Bool) → need.tick ≡ tick → ticks ≡ ticks_after tick from.ticks → IsBelow (standing_at next used ticks) from
    below need events next used ticks move true is kept = inl (omega arith)
    below need events next used ticks move false is kept = inr (kept, measured.falls from.state next need events holds move is)

    goes_on : (need : Need) (events : List Event) (next : State) → machine.move from.state ≡ Does need events next → ClosesBelow from
        → (first : List Event) (used ticks : ℕ) → meeting_of machine bounds from need ≡ Met first used ticks → moved machine bounds from ≡ going_on events next first used ticks → ClosesFrom from
    goes_on need events next move closes first used ticks is goes =
        let keeps = meeting_keeps bounds (machine.view from.state) from.used from.ticks need (Met first used ticks) is in
        let is_below = below need events next used ticks move need.tick refl keeps.1 in
        let later = closes (standing_at next used ticks) (measured.holds from.state next need events holds move) keeps.2 is_below in
        closes_later (first ++ events) (standing_at next used ticks) goes later

    stops : (need : Need) (events : List Event) (ending : Ending) (first : List Event) (used ticks : ℕ) → meeting_of machine bounds from need ≡ Met first used ticks → moved machine bounds from ≡ stopping from events ending first used ticks → ClosesFrom from
    stops need events ending first used ticks is over =
        let keeps = meeting_keeps bounds (machine.view from.state) from.used from.ticks need (Met first used ticks) is in
        closes_here (first ++ events) used ticks (Ended ending) keeps.2 over

    by_move : ClosesBelow from → (move : Move State Ending) → machine.move from.state ≡ move → ClosesFrom from
    by_move closes (Does need events next) move =
        let met = meeting_of machine bounds from need in
        by_need (going_on events next) met (moved-does machine bounds from need events next met move refl) (goes_on need events next move closes)
    by_move closes (Stops need events ending) move =
        let met = meeting_of machine bounds from need in
        by_need (stopping from events ending) met (moved-stops machine bounds from need events ending met move refl) (stops need events ending)
    by_move closes Stuck move = absurd (measured.moves from.state holds move)

  -- ---- all moves: by the ticks that are left, and then by rank

  abbrev ClosesWithin : ℕ → Type 0
  ClosesWithin left = (from : Standing State) → Holds from.state → from.ticks ≤ bounds.ticks → bounds.ticks < from.ticks + left → ClosesFrom from

  either_way : (next from : Standing State) → (from.ticks < next.ticks → ClosesFrom next) → (next.ticks ≡ from.ticks → measured.rank next.state < measured.rank from.state → ClosesFrom next) → IsBelow next from → ClosesFrom next
  either_way next from fewer lower (inl more) = fewer more
  either_way next from fewer lower (inr same) = lower same.0 same.1

  by_rank : (left : ℕ) → ClosesWithin left → (bound : ℕ) (from : Standing State) → Holds from.state → from.ticks ≤ bounds.ticks → bounds.ticks < from.ticks + suc left → measured.rank from.state < bound → ClosesFrom from
  by_rank left fewer zero from holds within enough low = absurd (omega arith)
  by_rank left fewer (suc bound) from holds within enough low =
      let closes : ClosesBelow from = λ next holds within. either_way next from (λ more. fewer next holds within (omega arith)) (λ same lower. by_rank left fewer bound next holds within (omega arith) (omega arith)) in
      by_move from holds within closes (machine.move from.state) refl

  by_ticks : (left : ℕ) → ClosesWithin left
  by_ticks zero from holds within enough = absurd (omega arith)
  by_ticks (suc left) from holds within enough = by_rank left (by_ticks left) (suc (measured.rank from.state)) from holds within enough (omega arith)

  -- ---- what other crates cite

  pub measured_ends : (said : List Event) (state : State) (used ticks : ℕ) → Holds state → ticks ≤ bounds.ticks → EndsHolding machine Holds bounds (Goes said (standing_at state used ticks))
  measured_ends said state used ticks holds within =
      let closes = by_ticks (suc bounds.ticks) (standing_at state used ticks) holds within (omega arith) in
      record {
        events = said ++ closes.events;
        last = closes.last;
        how = closes.how;
        ends = ends_with-said machine bounds said (standing_at state used ticks) closes.events closes.last closes.how (ends_of-course machine bounds closes.last closes.how (standing_at state used ticks) closes.events closes.course);
        holds = closes.holds;
        ticks = closes.ticks;
      }

  pub measured_ends_from-beginning : (cells live : ℕ) (state : State) → Holds state → EndsHolding machine Holds bounds (begins bounds cells live state)
  measured_ends_from-beginning cells live state holds =
      cond_both (is_within bounds.stack cells) (Goes [] (standing_at state live 0)) (Over [] (standing_at state live 0) (StackWanted cells 0)) (EndsHolding machine Holds bounds)
      (λ _. measured_ends [] state live 0 holds zero-le)
      (λ _. record {
        events = [];
        last = standing_at state live 0;
        how = StackWanted cells 0;
        ends = ends_over machine bounds [] (standing_at state live 0) (StackWanted cells 0);
        holds = holds;
        ticks = zero-le;
      })

  -- the end that is known is the end
  known_end : (start : Settled State Ending) (events : List Event) (last : Standing State) (how : Ends Ending) → EndsHolding machine Holds bounds start → EndsSo machine bounds start events last how → Holds last.state × (last.ticks ≤ bounds.ticks)
  known_end start events last how known ends =
      let same = one_end machine bounds start known.events events known.last last known.how how known.ends ends in
      subst (λ at. Holds at.state × (at.ticks ≤ bounds.ticks)) same.1 (known.holds, known.ticks)

  pub last_holds : (said : List Event) (state : State) (used ticks : ℕ) (events : List Event) (last : Standing State) (how : Ends Ending) → Holds state → ticks ≤ bounds.ticks → EndsSo machine bounds (Goes said (standing_at state used ticks)) events last how → Holds last.state × (last.ticks ≤ bounds.ticks)
  last_holds said state used ticks events last how holds within ends =
      known_end (Goes said (standing_at state used ticks)) events last how (measured_ends said state used ticks holds within) ends

  pub last_holds_from-beginning : (cells live : ℕ) (state : State) (events : List Event) (last : Standing State) (how : Ends Ending) → Holds state → EndsSo machine bounds (begins bounds cells live state) events last how → Holds last.state × (last.ticks ≤ bounds.ticks)
  last_holds_from-beginning cells live state events last how holds ends =
      known_end (begins bounds cells live state) events last how (measured_ends_from-beginning cells live state holds) ends
