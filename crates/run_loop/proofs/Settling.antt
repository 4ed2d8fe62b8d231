-- What a move comes to within limits, where no cell of the heap is in use.
use Rattle.std.proofs.Common.{◌≡◌, ℕ, ◌+◌, ◌<◌, ◌≤◌, Bool, true, false, if◌then◌else◌, List, [], Some, None, ap, ap₂, ◌∙◌, arith}
use Rattle.std.proofs.lemmas.Bool.{le-leb, lt-leb}
use Rattle.account.specs.Account.{Event, Need, Does, Stops, Bounds, Standing, Ended, Spent, StackWanted, Goes, Over, is_within, ticks_after, has_room, frame_cells, standing_at, Places, placing, placing_after, no_need}
use Rattle.account.specs.Run.{Machine}
use Rattle.account.proofs.Course.{moved}
use Rattle.account.proofs.Meeting.{Meeting, Met, LacksTick, LacksStack, meeting_after, meeting_of, moved-does, moved-stops, no_need-met}

module _ {State Ending : Type 0} (machine : Machine State Ending) (bounds : Bounds) (state : State) (ticks : ℕ) where
  -- where the run stands
  abbrev pub here : Standing State
  here = standing_at state 0 ticks

  abbrev by_tests : Need → Bool → Bool → Meeting
  by_tests need has_ticks room =
      if has_ticks then (if room then Met [] 0 (ticks_after need.tick ticks) else LacksStack [] 0 (frame_cells need.frame) (machine.view state).frames) else LacksTick [] 0

  -- nothing is placed
  by_placing : (need : Need) → need.placed ≡ None → meeting_of machine bounds here need ≡ meeting_after bounds (machine.view state) ticks need (placing bounds (machine.view state) 0 None)
  by_placing need none = ap (λ placed. meeting_after bounds (machine.view state) ticks need (placing bounds (machine.view state) 0 placed)) none

  -- ---- a move that goes on

  pub goes_on : (need : Need) (events : List Event) (next : State) → machine.move state ≡ Does need events next → need.placed ≡ None → ticks_after need.tick ticks ≤ bounds.ticks → has_room bounds (machine.view state) need.frame ≡ true
      → moved machine bounds here ≡ Goes events (standing_at next 0 (ticks_after need.tick ticks))
  goes_on need events next move none within room =
      moved-does machine bounds here need events next (Met [] 0 (ticks_after need.tick ticks)) move (by_placing need none ∙ ap₂ (by_tests need) (le-leb (ticks_after need.tick ticks) bounds.ticks within) room)

  pub lacks_tick : (need : Need) (events : List Event) (next : State) → machine.move state ≡ Does need events next → need.placed ≡ None → bounds.ticks < ticks_after need.tick ticks
      → moved machine bounds here ≡ Over [] (standing_at state 0 ticks) Spent
  lacks_tick need events next move none more =
      moved-does machine bounds here need events next (LacksTick [] 0) move
      (by_placing need none ∙ ap (λ has_ticks. by_tests need has_ticks (has_room bounds (machine.view state) need.frame)) (lt-leb (ticks_after need.tick ticks) bounds.ticks more))

  pub lacks_stack : (need : Need) (events : List Event) (next : State) → machine.move state ≡ Does need events next → need.placed ≡ None → ticks_after need.tick ticks ≤ bounds.ticks → has_room bounds (machine.view state) need.frame ≡ false
      → moved machine bounds here ≡ Over [] (standing_at state 0 ticks) (StackWanted (frame_cells need.frame) (machine.view state).frames)
  lacks_stack need events next move none within room =
      moved-does machine bounds here need events next (LacksStack [] 0 (frame_cells need.frame) (machine.view state).frames) move
      (by_placing need none ∙ ap₂ (by_tests need) (le-leb (ticks_after need.tick ticks) bounds.ticks within) room)

  -- ---- a move that ends the run

  pub ends_it : (how : Ending) → machine.move state ≡ Stops no_need [] how → ticks ≤ bounds.ticks → moved machine bounds here ≡ Over [] (standing_at state 0 ticks) (Ended how)
  ends_it how move within = moved-stops machine bounds here no_need [] how (Met [] 0 ticks) move (no_need-met bounds (machine.view state) 0 ticks within)

  -- an object of so many cells is placed first
  pub throws_it : (cells heap : ℕ) (how : Ending) → machine.move state ≡ Stops (record { placed = Some cells; tick = false; frame = None }) [] how → bounds.heap ≡ Some heap → cells ≤ heap → ticks ≤ bounds.ticks
      → moved machine bounds here ≡ Over [] (standing_at state (0 + cells) ticks) (Ended how)
  throws_it cells heap how move limit fits within =
      let need : Need = record { placed = Some cells; tick = false; frame = None } in
      let view = machine.view state in
      let enough : is_within bounds.heap (0 + cells) ≡ true = ap (λ bound. is_within bound (0 + cells)) limit ∙ le-leb (0 + cells) heap (omega arith) in
      moved-stops machine bounds here need [] how (Met [] (0 + cells) ticks) move
      (ap (λ has_room. meeting_after bounds view ticks need (if has_room then Places [] 0 (0 + cells) else placing_after bounds view.collection cells)) enough
      ∙ ap (λ has_ticks. if has_ticks then Met [] (0 + cells) ticks else LacksTick [] 0) (le-leb ticks bounds.ticks within))
