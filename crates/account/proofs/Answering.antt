-- What is asked of a console, and what is left of its answers.
use Rattle.std.proofs.Common.{◌≡◌, ℕ, ◌+◌, suc, Bool, true, false, if◌then◌else◌, List, [], ◌∷◌, ◌++◌, drop, refl, sym, ap, ◌∙◌, subst, arith}
use Rattle.std.proofs.lemmas.List.{drop-drop}
use Rattle.std.proofs.lemmas.List.Concat.{flat_map-append}
use Rattle.dialogue.specs.Answers.{Answers}
use Rattle.dialogue.specs.Dialogue.{gets, noting, gets-noting}
use Rattle.dialogue.proofs.Gets.{gets-append}
use Rattle.account.specs.Account.{Event, Get, Put, Collects, Need, Move, Does, Stops, Stuck, Bounds, Standing, Ends, Settled, Goes, Over, Lost, StackWanted, is_within, standing_at}
use Rattle.account.specs.Run.{Machine, EndsSo, begins}
use Rattle.account.specs.Dialogue.{items_of, dialogue_of, collect_line}
use Rattle.account.specs.RunLaws.{Asks, asked, shown}
use Rattle.account.proofs.Running.{ended_so}
use Rattle.account.proofs.Course.{moved, Course, Finishes, GoesOn, course_of}
use Rattle.account.proofs.Meeting.{Meeting, Met, LacksTick, LacksHeap, LacksStack, AreSilent, Keeps, meeting_of, come_to, going_on, stopping, moved-does, moved-stops, moved-stuck, meeting_keeps}

-- ---- events

pub asked-append : (first second : List Event) → asked (first ++ second) ≡ asked first + asked second
asked-append [] second = omega arith
asked-append (Get ∷ events) second = let e = asked-append events second in omega (arith, e)
asked-append (Put byte ∷ events) second = asked-append events second
asked-append (Collects collection ∷ events) second = asked-append events second

pub asked-after_silent : (first events : List Event) → AreSilent first → asked (first ++ events) ≡ asked events
asked-after_silent first events silent = let e = asked-append first events in let f = silent.asks in omega arith

-- ---- the dialogue of events

pub dialogue_of-append : (noted : Bool) (first second : List Event) → dialogue_of noted (first ++ second) ≡ dialogue_of noted first ++ dialogue_of noted second
dialogue_of-append noted first second = flat_map-append (items_of noted) first second

-- a dialogue without notes of collections is that of what is shown
pub dialogue_of-shown : (events : List Event) → dialogue_of false events ≡ dialogue_of false (shown events)
dialogue_of-shown [] = refl
dialogue_of-shown (Get ∷ events) = ap (λ items. items_of false Get ++ items) (dialogue_of-shown events)
dialogue_of-shown (Put byte ∷ events) = ap (λ items. items_of false (Put byte) ++ items) (dialogue_of-shown events)
dialogue_of-shown (Collects collection ∷ events) = dialogue_of-shown events

gets-collection : (noted : Bool) (bytes : List ℕ) → gets (if noted then noting bytes else []) ≡ 0
gets-collection true bytes = gets-noting bytes
gets-collection false bytes = refl

-- a dialogue asks for as many bytes as its events
pub gets-dialogue_of : (noted : Bool) (events : List Event) → gets (dialogue_of noted events) ≡ asked events
gets-dialogue_of noted [] = refl
gets-dialogue_of noted (Get ∷ events) = ap suc (gets-dialogue_of noted events)
gets-dialogue_of noted (Put byte ∷ events) = gets-dialogue_of noted events
gets-dialogue_of noted (Collects collection ∷ events) =
    let line = collect_line collection in
    gets-append (if noted then noting line else []) (dialogue_of noted events)
    ∙ ap (λ count. count + gets (dialogue_of noted events)) (gets-collection noted line)
    ∙ (let e = gets-dialogue_of noted events in omega arith)

-- ---- what is left of the answers

module _ {State Ending : Type 0} (machine : Machine State Ending) (answers : State → Answers) (asks : Asks machine answers) (bounds : Bounds) where
  -- the answers left where a move comes to this
  abbrev Leaves : Answers → Settled State Ending → Type 0
  Leaves before (Goes events next) = answers next.state ≡ drop (asked events) before
  Leaves before (Over events last how) = answers last.state ≡ drop (asked events) before
  Leaves before Lost = Unit {0}

  nothing_asked : (events : List Event) (left : Answers) → asked events ≡ 0 → left ≡ drop (asked events) left
  nothing_asked events left none = ap (λ count. drop count left) (sym none)

  by_need : (from : Standing State) (need : Need) (effect : List Event → ℕ → ℕ → Settled State Ending) (met : Meeting) → Keeps bounds from.ticks need met
      → ((events : List Event) (used ticks : ℕ) → AreSilent events → Leaves (answers from.state) (effect events used ticks))
      → Leaves (answers from.state) (come_to from effect met)
  by_need from need effect (Met events used ticks) keeps leaves = leaves events used ticks keeps.0
  by_need from need effect (LacksTick events used) keeps leaves = nothing_asked events (answers from.state) keeps.0.asks
  by_need from need effect (LacksHeap collection cells) keeps leaves = refl
  by_need from need effect (LacksStack events used cells frames) keeps leaves = nothing_asked events (answers from.state) keeps.0.asks

  goes_on : (from : Standing State) (need : Need) (events : List Event) (next : State) → machine.move from.state ≡ Does need events next → (first : List Event) (used ticks : ℕ) → AreSilent first → Leaves (answers from.state) (going_on events next first used ticks)
  goes_on from need events next move first used ticks silent =
      asks.does from.state next need events move
      ∙ ap (λ count. drop count (answers from.state)) (sym (asked-after_silent first events silent))

  stops : (from : Standing State) (need : Need) (events : List Event) (ending : Ending) → machine.move from.state ≡ Stops need events ending → (first : List Event) (used ticks : ℕ) → AreSilent first → Leaves (answers from.state) (stopping from events ending first used ticks)
  stops from need events ending move first used ticks silent =
      nothing_asked (first ++ events) (answers from.state) (asked-after_silent first events silent ∙ asks.stops from.state need events ending move)

  by_move : (from : Standing State) (move : Move State Ending) → machine.move from.state ≡ move → Leaves (answers from.state) (moved machine bounds from)
  by_move from (Does need events next) move =
      let met = meeting_of machine bounds from need in
      let keeps = meeting_keeps bounds (machine.view from.state) from.used from.ticks need met refl in
      subst (Leaves (answers from.state)) (sym (moved-does machine bounds from need events next met move refl)) (by_need from need (going_on events next) met keeps (goes_on from need events next move))
  by_move from (Stops need events ending) move =
      let met = meeting_of machine bounds from need in
      let keeps = meeting_keeps bounds (machine.view from.state) from.used from.ticks need met refl in
      subst (Leaves (answers from.state)) (sym (moved-stops machine bounds from need events ending met move refl)) (by_need from need (stopping from events ending) met keeps (stops from need events ending move))
  by_move from Stuck move = subst (Leaves (answers from.state)) (sym (moved-stuck machine bounds from move)) tt

  by_course : (last : Standing State) (how : Ends Ending) (from : Standing State) (events : List Event) → Course machine bounds last how from events → answers last.state ≡ drop (asked events) (answers from.state)
  by_course last how _ _ (Finishes from events over) = subst (Leaves (answers from.state)) over (by_move from (machine.move from.state) refl)
  by_course last how _ _ (GoesOn from next events rest goes course) =
      let first : answers next.state ≡ drop (asked events) (answers from.state) = subst (Leaves (answers from.state)) goes (by_move from (machine.move from.state) refl) in
      by_course last how next rest course
      ∙ ap (drop (asked rest)) first
      ∙ drop-drop (asked rest) (asked events) (answers from.state)
      ∙ ap (λ count. drop count (answers from.state)) (sym (asked-append events rest))

  pub answers_left : (state : State) (used ticks : ℕ) (events : List Event) (last : Standing State) (how : Ends Ending) → EndsSo machine bounds (Goes [] (standing_at state used ticks)) events last how → answers last.state ≡ drop (asked events) (answers state)
  answers_left state used ticks events last how ends = by_course last how (standing_at state used ticks) events (course_of machine bounds last how (standing_at state used ticks) events ends)

  begins_so : (fits : Bool) (cells live : ℕ) (state : State) (events : List Event) (last : Standing State) (how : Ends Ending)
      → EndsSo machine bounds (if fits then Goes [] (standing_at state live 0) else Over [] (standing_at state live 0) (StackWanted cells 0)) events last how
      → answers last.state ≡ drop (asked events) (answers state)
  begins_so true cells live state events last how ends = answers_left state live 0 events last how ends
  begins_so false cells live state events last how ends =
      let same : Over [] (standing_at state live 0) (StackWanted cells 0) ≡ Over events last how = ended_so machine bounds [] (standing_at state live 0) (StackWanted cells 0) events last how ends in
      subst (Leaves (answers state)) same refl

  pub answers_left_from-beginning : (cells live : ℕ) (state : State) (events : List Event) (last : Standing State) (how : Ends Ending) → EndsSo machine bounds (begins bounds cells live state) events last how → answers last.state ≡ drop (asked events) (answers state)
  answers_left_from-beginning cells live state events last how ends = begins_so (is_within bounds.stack cells) cells live state events last how ends
