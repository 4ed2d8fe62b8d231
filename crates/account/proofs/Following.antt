-- Where one machine follows another, the second ends as the first.
use Rattle.std.proofs.Common.{◌≡◌, ℕ, ◌≤◌, zero-le, Bool, true, false, if◌then◌else◌, List, [], ◌∷◌, ◌++◌, refl, sym, ap, ◌∙◌, subst}
use Rattle.account.specs.Account.{Event, Collects, Need, Move, Bounds, Standing, Ends, Ended, Spent, HeapWanted, StackWanted, Settled, Goes, Over, Lost, is_within, standing_at, no_need}
use Rattle.account.specs.Run.{Machine, EndsSo, begins}
use Rattle.account.specs.RunLaws.{Alike, BothDo, BothStop, Quietly, Rests, Moves, ComesTo, Matches, IsQuiet, IsLoud, Follows, EndsAlike, BothEnded, BothSpent, BothHeap, BothStack, FollowsTo}
use Rattle.account.proofs.Running.{ended_so, ends_over, ends_with-said, ends_without-said}
use Rattle.account.proofs.Course.{moved, Course, Finishes, GoesOn, course_of, ends_of-course}
use Rattle.account.proofs.Meeting.{Meeting, Met, LacksTick, LacksHeap, LacksStack, meeting, come_to, going_on, stopping, moved-does, moved-stops, meeting_keeps, no_need-met}

-- `FollowsTo`, with the moves of the second machine one by one
record Followed {A E B F : Type 0} (second : Machine B F) (Related : A → B → Type 0) (Same : E → F → Type 0) (bounds : Bounds) (start : Standing B) (events : List Event) (last : Standing A) (how : Ends E) : Type 0 where
  other_last : Standing B
  other_how : Ends F
  course : Course second bounds other_last other_how start events
  alike : EndsAlike Same how other_how
  used : other_last.used ≡ last.used
  ticks : other_last.ticks ≡ last.ticks
  from : B
  related : Related last.state from
  quiet : Quietly second from other_last.state

-- ---- quiet moves

module _ {State Ending : Type 0} (machine : Machine State Ending) where
  pub quiet-view : (state last : State) → Quietly machine state last → machine.view last ≡ machine.view state
  quiet-view _ _ (Rests state) = refl
  quiet-view _ _ (Moves state next last move view quiet) = quiet-view next last quiet ∙ view

  -- they change neither the cells in use nor the ticks used
  pub quiet-course : (bounds : Bounds) (state from : State) (used ticks : ℕ) (events : List Event) (last : Standing State) (how : Ends Ending) → ticks ≤ bounds.ticks → Quietly machine state from → Course machine bounds last how (standing_at from used ticks) events → Course machine bounds last how (standing_at state used ticks) events
  quiet-course bounds _ _ used ticks events last how within (Rests state) course = course
  quiet-course bounds _ _ used ticks events last how within (Moves state next from move view quiet) course =
      let moves = moved-does machine bounds (standing_at state used ticks) no_need [] next (Met [] used ticks) move (no_need-met bounds (machine.view state) used ticks within) in
      GoesOn (standing_at state used ticks) (standing_at next used ticks) [] events moves (quiet-course bounds next from used ticks events last how within quiet course)

-- ---- the simulation

module _ {A E B F : Type 0} (first : Machine A E) (second : Machine B F) (Related : A → B → Type 0) (Same : E → F → Type 0) (follows : Follows first second Related Same) (bounds : Bounds) where
  abbrev FollowedTo : Standing B → List Event → Standing A → Ends E → Type 0
  FollowedTo = Followed second Related Same bounds

  quietly_before : (b c : B) (used ticks : ℕ) (events : List Event) (last : Standing A) (how : Ends E) → ticks ≤ bounds.ticks → Quietly second b c → FollowedTo (standing_at c used ticks) events last how → FollowedTo (standing_at b used ticks) events last how
  quietly_before b c used ticks events last how within quiet later = record {
    other_last = later.other_last;
    other_how = later.other_how;
    course = quiet-course second bounds b c used ticks events later.other_last later.other_how within quiet later.course;
    alike = later.alike;
    used = later.used;
    ticks = later.ticks;
    from = later.from;
    related = later.related;
    quiet = later.quiet;
  }

  move_before : (start next : Standing B) (events rest : List Event) (last : Standing A) (how : Ends E) → moved second bounds start ≡ Goes events next → FollowedTo next rest last how → FollowedTo start (events ++ rest) last how
  move_before start next events rest last how moves later = record {
    other_last = later.other_last;
    other_how = later.other_how;
    course = GoesOn start next events rest moves later.course;
    alike = later.alike;
    used = later.used;
    ticks = later.ticks;
    from = later.from;
    related = later.related;
    quiet = later.quiet;
  }

  abbrev Later : List Event → Standing A → Ends E → Standing A → Type 0
  Later rest last how next = (b : B) → Related next.state b → next.ticks ≤ bounds.ticks → FollowedTo (standing_at b next.used next.ticks) rest last how

  -- what is to be shown where the first machine's move comes to this
  abbrev Target : Standing B → List Event → Standing A → Ends E → Settled A E → Type 0
  Target start rest last how (Goes events next) = Later rest last how next → FollowedTo start (events ++ rest) last how
  Target start rest last how (Over events ended way) = FollowedTo start events ended way
  Target start rest last how Lost = Unit {0}

  module _ (from : Standing A) (b c : B) (related : Related from.state b) (within : from.ticks ≤ bounds.ticks) (quiet : Quietly second b c) (rest : List Event) (last : Standing A) (how : Ends E) where
    abbrev quiet_from : Standing B
    quiet_from = standing_at b from.used from.ticks

    abbrev loud : Standing B
    loud = standing_at c from.used from.ticks

    -- both end here
    ends_here : (events : List Event) (used ticks : ℕ) (way : Ends E) (other_way : Ends F) → EndsAlike Same way other_way → moved second bounds loud ≡ Over events (standing_at c used ticks) other_way → FollowedTo quiet_from events (standing_at from.state used ticks) way
    ends_here events used ticks way other_way alike over = record {
      other_last = standing_at c used ticks;
      other_how = other_way;
      course = quiet-course second bounds b c from.used from.ticks events (standing_at c used ticks) other_way within quiet (Finishes loud events over);
      alike = alike;
      used = refl;
      ticks = refl;
      from = b;
      related = related;
      quiet = quiet;
    }

    by_need : (effect : List Event → ℕ → ℕ → Settled A E) (other_effect : List Event → ℕ → ℕ → Settled B F) (met : Meeting) → moved second bounds loud ≡ come_to loud other_effect met
        → ((events : List Event) (used ticks : ℕ) → met ≡ Met events used ticks → Target quiet_from rest last how (effect events used ticks))
        → Target quiet_from rest last how (come_to from effect met)
    by_need effect other_effect (Met events used ticks) moves goes = goes events used ticks refl
    by_need effect other_effect (LacksTick events used) moves goes = ends_here events used from.ticks Spent Spent BothSpent moves
    by_need effect other_effect (LacksHeap collection need) moves goes =
        ends_here (Collects collection ∷ []) collection.cells from.ticks (HeapWanted need collection.cells) (HeapWanted need collection.cells) (BothHeap need collection.cells) moves
    by_need effect other_effect (LacksStack events used need frames) moves goes =
        ends_here events used from.ticks (StackWanted need frames) (StackWanted need frames) (BothStack need frames) moves

    -- the needs of both come to the same
    same_meeting : (need : Need) → meeting bounds (second.view c) from.used from.ticks need ≡ meeting bounds (first.view from.state) from.used from.ticks need
    same_meeting need = ap (λ view. meeting bounds view from.used from.ticks need) (quiet-view second b c quiet ∙ sym (follows.views from.state b related))

    both_go : (events said : List Event) (next : A) (other : B) (used ticks : ℕ) → ComesTo second Related next other → ticks ≤ bounds.ticks → moved second bounds loud ≡ Goes (said ++ events) (standing_at other used ticks) → Target quiet_from rest last how (going_on events next said used ticks)
    both_go events said next other used ticks comes kept goes later =
        let from_related = later comes.last comes.related kept in
        let from_other = quietly_before other comes.last used ticks rest last how kept comes.quiet from_related in
        let from_loud = move_before loud (standing_at other used ticks) (said ++ events) rest last how goes from_other in
        quietly_before b c from.used from.ticks ((said ++ events) ++ rest) last how within quiet from_loud

    loudly : (move : Move A E) (other_move : Move B F) → first.move from.state ≡ move → second.move c ≡ other_move → Alike (ComesTo second Related) Same move other_move → Target quiet_from rest last how (moved first bounds from)
    loudly _ _ is other_is (BothDo need events next other comes) =
        let met = meeting bounds (first.view from.state) from.used from.ticks need in
        let moves = moved-does first bounds from need events next met is refl in
        let other_moves = moved-does second bounds loud need events other met other_is (same_meeting need) in
        let kept = meeting_keeps bounds (first.view from.state) from.used from.ticks need in
        let go = λ (said : List Event) (used ticks : ℕ) (is_met : met ≡ Met said used ticks). both_go events said next other used ticks comes (kept (Met said used ticks) is_met).2 (other_moves ∙ ap (come_to loud (going_on events other)) is_met) in
        subst (Target quiet_from rest last how) (sym moves) (by_need (going_on events next) (going_on events other) met other_moves go)
    loudly _ _ is other_is (BothStop need events ending other same) =
        let met = meeting bounds (first.view from.state) from.used from.ticks need in
        let moves = moved-stops first bounds from need events ending met is refl in
        let other_moves = moved-stops second bounds loud need events other met other_is (same_meeting need) in
        let stop = λ (said : List Event) (used ticks : ℕ) (is_met : met ≡ Met said used ticks). ends_here (said ++ events) used ticks (Ended ending) (Ended other) (BothEnded ending other same) (other_moves ∙ ap (come_to loud (stopping loud events other)) is_met) in
        subst (Target quiet_from rest last how) (sym moves) (by_need (stopping from events ending) (stopping loud events other) met other_moves stop)

  followed : (from : Standing A) (b : B) → Related from.state b → from.ticks ≤ bounds.ticks → (rest : List Event) (last : Standing A) (how : Ends E) → Matches first second Related Same from.state b → Target (standing_at b from.used from.ticks) rest last how (moved first bounds from)
  followed from b related within rest last how (IsQuiet next move comes) =
      let moves = moved-does first bounds from no_need [] next (Met [] from.used from.ticks) move (no_need-met bounds (first.view from.state) from.used from.ticks within) in
      subst (Target (standing_at b from.used from.ticks) rest last how) (sym moves) (λ later. quietly_before b comes.last from.used from.ticks rest last how within comes.quiet (later comes.last comes.related within))
  followed from b related within rest last how (IsLoud c quiet alike) =
      loudly from b c related within quiet rest last how (first.move from.state) (second.move c) refl refl alike

  follow : (last : Standing A) (how : Ends E) (from : Standing A) (events : List Event) → Course first bounds last how from events → Later events last how from
  follow last how _ _ (Finishes from events over) b related within =
      subst (Target (standing_at b from.used from.ticks) [] last how) over (followed from b related within [] last how (follows.matches from.state b related))
  follow last how _ _ (GoesOn from next events rest goes course) b related within =
      subst (Target (standing_at b from.used from.ticks) rest last how) goes (followed from b related within rest last how (follows.matches from.state b related)) (follow last how next rest course)

  -- ---- what other crates cite

  pub follows_to : (said : List Event) (a : A) (b : B) (used ticks : ℕ) (events : List Event) (last : Standing A) (how : Ends E) → Related a b → ticks ≤ bounds.ticks → EndsSo first bounds (Goes said (standing_at a used ticks)) events last how → FollowsTo second Related Same bounds (Goes said (standing_at b used ticks)) events last how
  follows_to said a b used ticks events last how related within ends =
      let after = ends_without-said first bounds said (standing_at a used ticks) events last how ends in
      let other = follow last how (standing_at a used ticks) after.rest (course_of first bounds last how (standing_at a used ticks) after.rest after.ends) b related within in
      let other_ends = ends_with-said second bounds said (standing_at b used ticks) after.rest other.other_last other.other_how (ends_of-course second bounds other.other_last other.other_how (standing_at b used ticks) after.rest other.course) in
      record {
        other_last = other.other_last;
        other_how = other.other_how;
        ends = subst (λ all. EndsSo second bounds (Goes said (standing_at b used ticks)) all other.other_last other.other_how) (sym after.is) other_ends;
        alike = other.alike;
        used = other.used;
        ticks = other.ticks;
        from = other.from;
        related = other.related;
        quiet = other.quiet;
      }

  -- where the first run is over at once, so is the second
  abbrev IsFollowed : Settled B F → Settled A E → Type 0
  IsFollowed beginning (Over events last how) = FollowsTo second Related Same bounds beginning events last how
  IsFollowed beginning progress = Unit {0}

  wants_alike : (cells live : ℕ) (a : A) (b : B) → Related a b → IsFollowed (Over [] (standing_at b live 0) (StackWanted cells 0)) (Over [] (standing_at a live 0) (StackWanted cells 0))
  wants_alike cells live a b related = record {
    other_last = standing_at b live 0;
    other_how = StackWanted cells 0;
    ends = ends_over second bounds [] (standing_at b live 0) (StackWanted cells 0);
    alike = BothStack cells 0;
    used = refl;
    ticks = refl;
    from = b;
    related = related;
    quiet = Rests b;
  }

  begins_alike : (fits : Bool) (cells live : ℕ) (a : A) (b : B) (events : List Event) (last : Standing A) (how : Ends E) → Related a b
      → EndsSo first bounds (if fits then Goes [] (standing_at a live 0) else Over [] (standing_at a live 0) (StackWanted cells 0)) events last how
      → FollowsTo second Related Same bounds (if fits then Goes [] (standing_at b live 0) else Over [] (standing_at b live 0) (StackWanted cells 0)) events last how
  begins_alike true cells live a b events last how related ends = follows_to [] a b live 0 events last how related zero-le ends
  begins_alike false cells live a b events last how related ends =
      let same : Over [] (standing_at a live 0) (StackWanted cells 0) ≡ Over events last how = ended_so first bounds [] (standing_at a live 0) (StackWanted cells 0) events last how ends in
      subst (IsFollowed (Over [] (standing_at b live 0) (StackWanted cells 0))) same (wants_alike cells live a b related)

  pub follows_from-beginning : (cells live : ℕ) (a : A) (b : B) (events : List Event) (last : Standing A) (how : Ends E) → Related a b → EndsSo first bounds (begins bounds cells live a) events last how → FollowsTo second Related Same bounds (begins bounds cells live b) events last how
  follows_from-beginning cells live a b events last how related ends = begins_alike (is_within bounds.stack cells) cells live a b events last how related ends
