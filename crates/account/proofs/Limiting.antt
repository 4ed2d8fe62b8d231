-- A run within limits of heap and stack shows no more than the run without them.
use Rattle.std.proofs.Common.{◌≡◌, ℕ, ◌+◌, ◌<◌, ◌≤◌, nat_le, Bool, true, false, if◌then◌else◌, List, [], ◌∷◌, ◌++◌, Option, Some, None, append_assoc, append-nil, refl, sym, ap, ◌∙◌, subst}
use Rattle.std.proofs.lemmas.Bool.{le-leb, lt-leb}
use Rattle.std.proofs.lemmas.List.Elements.{filter-append}
use Rattle.account.specs.Account.{Event, Collects, Need, Move, Does, Stops, Stuck, Bounds, View, Standing, Ends, Ended, Spent, HeapWanted, StackWanted, Settled, Goes, Over, Lost, Places, is_within, placing, ticks_after, has_room, frame_cells, standing_at}
use Rattle.account.specs.Run.{Machine, EndsSo, begins}
use Rattle.account.specs.RunLaws.{without_limits, is_want, is_shown, shown, Cuts}
use Rattle.account.proofs.Running.{ended_so}
use Rattle.account.proofs.Course.{moved, Course, Finishes, GoesOn, course_of, course-goes, course-over}
use Rattle.account.proofs.Meeting.{Meeting, Met, LacksTick, LacksHeap, LacksStack, AreSilent, Keeps, collection_silent, meeting, meeting_after, come_to, going_on, stopping, moved-does, moved-stops, moved-stuck, meeting_keeps}

-- ---- needs without limits

-- the cells in use once objects are placed
abbrev used_after : ℕ → Option ℕ → ℕ
used_after used None = used
used_after used (Some cells) = used + cells

module _ (bounds : Bounds) (view : View) where
  abbrev free : Bounds
  free = without_limits bounds

  placed_free : (used : ℕ) (placed : Option ℕ) → placing free view used placed ≡ Places [] used (used_after used placed)
  placed_free used None = refl
  placed_free used (Some cells) = refl

  room_free : (frame : Option ℕ) → has_room free view frame ≡ true
  room_free None = refl
  room_free (Some cells) = refl

  choose_met : (has_ticks room : Bool) (met lacks_stack lacks_tick : Meeting) → has_ticks ≡ true → room ≡ true → (if has_ticks then (if room then met else lacks_stack) else lacks_tick) ≡ met
  choose_met true true met lacks_stack lacks_tick e f = refl
  choose_met true false met lacks_stack lacks_tick e f = cc
  choose_met false room met lacks_stack lacks_tick e f = cc

  choose_lacking : (has_ticks : Bool) (met lacks_tick : Meeting) → has_ticks ≡ false → (if has_ticks then met else lacks_tick) ≡ lacks_tick
  choose_lacking true met lacks_tick e = cc
  choose_lacking false met lacks_tick e = refl

  -- where ticks are left, all needs are met
  met_free : (used ticks : ℕ) (need : Need) → ticks_after need.tick ticks ≤ bounds.ticks → meeting free view used ticks need ≡ Met [] (used_after used need.placed) (ticks_after need.tick ticks)
  met_free used ticks need within =
      ap (meeting_after free view ticks need) (placed_free used need.placed)
      ∙ choose_met (nat_le (ticks_after need.tick ticks) bounds.ticks) (has_room free view need.frame) (Met [] (used_after used need.placed) (ticks_after need.tick ticks)) (LacksStack [] used (frame_cells need.frame) view.frames) (LacksTick [] used) (le-leb (ticks_after need.tick ticks) bounds.ticks within) (room_free need.frame)

  lacks_free : (used ticks : ℕ) (need : Need) → bounds.ticks < ticks_after need.tick ticks → meeting free view used ticks need ≡ LacksTick [] used
  lacks_free used ticks need over =
      ap (meeting_after free view ticks need) (placed_free used need.placed)
      ∙ choose_lacking (nat_le (ticks_after need.tick ticks) bounds.ticks) (if has_room free view need.frame then Met [] (used_after used need.placed) (ticks_after need.tick ticks) else LacksStack [] used (frame_cells need.frame) view.frames) (LacksTick [] used) (lt-leb (ticks_after need.tick ticks) bounds.ticks over)

-- ---- what is shown

pub shown-append : (first second : List Event) → shown (first ++ second) ≡ shown first ++ shown second
shown-append first second = filter-append is_shown first second

pub shown-after_silent : (first events : List Event) → AreSilent first → shown (first ++ events) ≡ shown events
shown-after_silent first events silent = shown-append first events ∙ ap (λ before. before ++ shown events) silent.shows

-- more on both sides
cuts_after : {Ending : Type 0} (said other_said rest other_rest : List Event) (how other_how : Ends Ending) → shown said ≡ shown other_said → Cuts rest other_rest how other_how → Cuts (said ++ rest) (other_said ++ other_rest) how other_how
cuts_after said other_said rest other_rest how other_how same cuts = record {
  said = record {
    rest = cuts.said.rest;
    is = shown-append other_said other_rest
        ∙ ap (λ before. before ++ shown other_rest) (sym same)
        ∙ ap (λ after. shown said ++ after) cuts.said.is
        ∙ sym (append_assoc (shown said) (shown rest) cuts.said.rest)
        ∙ ap (λ before. before ++ cuts.said.rest) (sym (shown-append said rest));
  };
  ends = λ wanted.
      let same_end = cuts.ends wanted in
      (shown-append said rest ∙ ap (λ before. before ++ shown rest) same ∙ ap (λ after. shown other_said ++ after) same_end.0 ∙ sym (shown-append other_said other_rest), same_end.1);
}

-- both end alike
cuts_alike : {Ending : Type 0} (said other_said : List Event) (how other_how : Ends Ending) → shown said ≡ shown other_said → how ≡ other_how → Cuts said other_said how other_how
cuts_alike said other_said how other_how same ends = record { said = record { rest = []; is = sym same ∙ sym (append-nil (shown said)) }; ends = λ wanted. (same, ends) }

-- a want ends with nothing more said
cuts_wanting : {Ending : Type 0} (said other_said : List Event) (how other_how : Ends Ending) → AreSilent said → is_want how ≡ true → Cuts said other_said how other_how
cuts_wanting said other_said how other_how silent want = record {
  said = record { rest = shown other_said; is = ap (λ before. before ++ shown other_said) (sym silent.shows) };
  ends = λ unwanted. absurd cc;
}

-- ---- both runs

module _ {State Ending : Type 0} (machine : Machine State Ending) (bounds : Bounds) (other_last : Standing State) (other_how : Ends Ending) where
  abbrev Unlimited : Standing State → List Event → Type 0
  Unlimited = Course machine (without_limits bounds) other_last other_how

  abbrev Later : List Event → Ends Ending → Standing State → Type 0
  Later rest how next = (used : ℕ) (other_rest : List Event) → Unlimited (standing_at next.state used next.ticks) other_rest → Cuts rest other_rest how other_how

  -- what is to be shown where the move within limits comes to this
  abbrev Target : List Event → List Event → Ends Ending → Settled State Ending → Type 0
  Target other_events rest how (Goes events next) = Later rest how next → Cuts (events ++ rest) other_events how other_how
  Target other_events rest how (Over events last way) = Cuts events other_events way other_how
  Target other_events rest how Lost = Unit {0}

  module _ (from : Standing State) (used : ℕ) (other_events : List Event) (course : Unlimited (standing_at from.state used from.ticks) other_events) (rest : List Event) (how : Ends Ending) where
    abbrev other : Standing State
    other = standing_at from.state used from.ticks

    -- the unlimited run stops where a tick is lacking
    spent_alike : (events : List Event) → AreSilent events → moved machine (without_limits bounds) other ≡ Over [] other Spent → Cuts events other_events Spent other_how
    spent_alike events silent over =
        let same = course-over machine (without_limits bounds) other_last other_how other other [] other_events Spent over course in
        cuts_alike events other_events Spent other_how (silent.shows ∙ ap shown (sym same.0)) (sym same.2)

    by_need : (need : Need) (effect other_effect : List Event → ℕ → ℕ → Settled State Ending) (met : Meeting) → Keeps bounds from.ticks need met
        → ((other_met : Meeting) → meeting (without_limits bounds) (machine.view from.state) used from.ticks need ≡ other_met → moved machine (without_limits bounds) other ≡ come_to other other_effect other_met)
        → ((events : List Event) (used_here used_there ticks : ℕ) → AreSilent events → moved machine (without_limits bounds) other ≡ other_effect [] used_there ticks → Target other_events rest how (effect events used_here ticks))
        → Target other_events rest how (come_to from effect met)
    by_need need effect other_effect (Met events used_here ticks) keeps moves meets =
        let within : ticks_after need.tick from.ticks ≤ bounds.ticks = subst (λ count. count ≤ bounds.ticks) keeps.1 keeps.2 in
        let goes = moves (Met [] (used_after used need.placed) (ticks_after need.tick from.ticks)) (met_free bounds (machine.view from.state) used from.ticks need within) in
        meets events used_here (used_after used need.placed) ticks keeps.0 (goes ∙ ap (other_effect [] (used_after used need.placed)) (sym keeps.1))
    by_need need effect other_effect (LacksTick events used_here) keeps moves meets =
        spent_alike events keeps.0 (moves (LacksTick [] used) (lacks_free bounds (machine.view from.state) used from.ticks need keeps.1))
    by_need need effect other_effect (LacksHeap collection cells) keeps moves meets =
        cuts_wanting (Collects collection ∷ []) other_events (HeapWanted cells collection.cells) other_how (collection_silent collection) refl
    by_need need effect other_effect (LacksStack events used_here cells frames) keeps moves meets =
        cuts_wanting events other_events (StackWanted cells frames) other_how keeps.0 refl

    both_go : (events first : List Event) (next : State) (used_here used_there ticks : ℕ) → AreSilent first → moved machine (without_limits bounds) other ≡ Goes events (standing_at next used_there ticks) → Target other_events rest how (going_on events next first used_here ticks)
    both_go events first next used_here used_there ticks silent goes later =
        let found = course-goes machine (without_limits bounds) other_last other_how other (standing_at next used_there ticks) events other_events goes course in
        let cuts = cuts_after (first ++ events) events rest found.0 how other_how (shown-after_silent first events silent) (later used_there found.0 found.2) in
        subst (λ all. Cuts ((first ++ events) ++ rest) all how other_how) (sym found.1) cuts

    both_stop : (events first : List Event) (ending : Ending) (used_here used_there ticks : ℕ) → AreSilent first → moved machine (without_limits bounds) other ≡ Over events (standing_at from.state used_there ticks) (Ended ending) → Target other_events rest how (stopping from events ending first used_here ticks)
    both_stop events first ending used_here used_there ticks silent over =
        let same = course-over machine (without_limits bounds) other_last other_how other (standing_at from.state used_there ticks) events other_events (Ended ending) over course in
        cuts_alike (first ++ events) other_events (Ended ending) other_how (shown-after_silent first events silent ∙ ap shown (sym same.0)) (sym same.2)

    by_move : (move : Move State Ending) → machine.move from.state ≡ move → Target other_events rest how (moved machine bounds from)
    by_move (Does need events next) move =
        let met = meeting bounds (machine.view from.state) from.used from.ticks need in
        let keeps = meeting_keeps bounds (machine.view from.state) from.used from.ticks need met refl in
        let moves = λ (other_met : Meeting) (is : meeting (without_limits bounds) (machine.view from.state) used from.ticks need ≡ other_met). moved-does machine (without_limits bounds) other need events next other_met move is in
        let goes = λ (first : List Event) (used_here used_there ticks : ℕ). both_go events first next used_here used_there ticks in
        subst (Target other_events rest how) (sym (moved-does machine bounds from need events next met move refl)) (by_need need (going_on events next) (going_on events next) met keeps moves goes)
    by_move (Stops need events ending) move =
        let met = meeting bounds (machine.view from.state) from.used from.ticks need in
        let keeps = meeting_keeps bounds (machine.view from.state) from.used from.ticks need met refl in
        let moves = λ (other_met : Meeting) (is : meeting (without_limits bounds) (machine.view from.state) used from.ticks need ≡ other_met). moved-stops machine (without_limits bounds) other need events ending other_met move is in
        let stops = λ (first : List Event) (used_here used_there ticks : ℕ). both_stop events first ending used_here used_there ticks in
        subst (Target other_events rest how) (sym (moved-stops machine bounds from need events ending met move refl)) (by_need need (stopping from events ending) (stopping other events ending) met keeps moves stops)
    by_move Stuck move = subst (Target other_events rest how) (sym (moved-stuck machine bounds from move)) tt

  by_course : (last : Standing State) (how : Ends Ending) (from : Standing State) (events : List Event) → Course machine bounds last how from events → Later events how from
  by_course last how _ _ (Finishes from events over) used other_events course =
      subst (Target other_events [] how) over (by_move from used other_events course [] how (machine.move from.state) refl)
  by_course last how _ _ (GoesOn from next events rest goes limited) used other_events course =
      subst (Target other_events rest how) goes (by_move from used other_events course rest how (machine.move from.state) refl) (by_course last how next rest limited)

  begins_cut : (fits : Bool) (cells live : ℕ) (state : State) (events other_events : List Event) (last : Standing State) (how : Ends Ending)
      → EndsSo machine bounds (if fits then Goes [] (standing_at state live 0) else Over [] (standing_at state live 0) (StackWanted cells 0)) events last how
      → Unlimited (standing_at state live 0) other_events
      → Cuts events other_events how other_how
  begins_cut true cells live state events other_events last how ends course =
      by_course last how (standing_at state live 0) events (course_of machine bounds last how (standing_at state live 0) events ends) live other_events course
  begins_cut false cells live state events other_events last how ends course =
      let same : Over [] (standing_at state live 0) (StackWanted cells 0) ≡ Over events last how = ended_so machine bounds [] (standing_at state live 0) (StackWanted cells 0) events last how ends in
      subst (Target other_events [] how) same (cuts_wanting [] other_events (StackWanted cells 0) other_how (record { asks = refl; shows = refl }) refl)

-- the run within limits is cut from the run without them
pub limits_cut : {State Ending : Type 0} (machine : Machine State Ending) (bounds : Bounds) (cells live : ℕ) (state : State) (events other_events : List Event) (last other_last : Standing State) (how other_how : Ends Ending)
    → EndsSo machine bounds (begins bounds cells live state) events last how
    → EndsSo machine (without_limits bounds) (begins (without_limits bounds) cells live state) other_events other_last other_how
    → Cuts events other_events how other_how
limits_cut machine bounds cells live state events other_events last other_last how other_how ends other_ends =
    begins_cut machine bounds other_last other_how (is_within bounds.stack cells) cells live state events other_events last how ends (
    course_of machine (without_limits bounds) other_last other_how (standing_at state live 0) other_events other_ends
    )
