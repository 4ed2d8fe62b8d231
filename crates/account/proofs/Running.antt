-- Runs: more moves, what was said before, and one move on.
use Rattle.std.proofs.Common.{◌≡◌, ℕ, ◌+◌, zero, suc, List, [], ◌++◌, refl, sym, ap, ◌∙◌, add-zero, add-suc, append_assoc, append-nil}
use Rattle.account.specs.Account.{Event, Bounds, Standing, Ends, Settled, Goes, Over, Lost, settled}
use Rattle.account.specs.Run.{Machine, after_events, advance, run_from, EndsSo}

-- the run from this beginning ends so, but for what was said before
pub record EndsAfter {State Ending : Type 0} (machine : Machine State Ending) (bounds : Bounds) (start : Settled State Ending) (said events : List Event) (last : Standing State) (how : Ends Ending) : Type 0 where
  pub rest : List Event
  pub is : events ≡ said ++ rest
  pub ends : EndsSo machine bounds start rest last how

-- ---- what was said before

pub after_events-append : {State Ending : Type 0} (first second : List Event) (start : Settled State Ending) → after_events (first ++ second) start ≡ after_events first (after_events second start)
after_events-append first second (Goes events next) = ap (λ all. Goes all next) (append_assoc first second events)
after_events-append first second (Over events last how) = ap (λ all. Over all last how) (append_assoc first second events)
after_events-append first second Lost = refl

-- what went on or is over after events went on or was over before them
over_before : {State Ending : Type 0} (said events : List Event) (last : Standing State) (how : Ends Ending) (progress : Settled State Ending) → after_events said progress ≡ Over events last how → (rest : List Event) × (events ≡ said ++ rest) × (progress ≡ Over rest last how)
over_before said events last how (Goes first next) e = absurd cc
over_before said events last how (Over first other_last other_how) e =
    let same : events ≡ said ++ first = cc in
    let is_last : other_last ≡ last = cc in
    let is_how : other_how ≡ how = cc in
    (first, same, cc)
over_before said events last how Lost e = absurd cc

module _ {State Ending : Type 0} (machine : Machine State Ending) (bounds : Bounds) where
  pub advance-after_events : (said : List Event) (start : Settled State Ending) → advance machine bounds (after_events said start) ≡ after_events said (advance machine bounds start)
  advance-after_events said (Goes events from) = after_events-append said events (settled bounds (machine.view from.state) from (machine.move from.state))
  advance-after_events said (Over events last how) = refl
  advance-after_events said Lost = refl

  pub run_from-after_events : (said : List Event) (start : Settled State Ending) (moves : ℕ) → run_from machine bounds (after_events said start) moves ≡ after_events said (run_from machine bounds start moves)
  run_from-after_events said start zero = refl
  run_from-after_events said start (suc moves) =
      ap (advance machine bounds) (run_from-after_events said start moves)
      ∙ advance-after_events said (run_from machine bounds start moves)

  pub run_from-said : (said : List Event) (from : Standing State) (moves : ℕ) → run_from machine bounds (Goes said from) moves ≡ after_events said (run_from machine bounds (Goes [] from) moves)
  run_from-said said from moves =
      ap (λ all. run_from machine bounds (Goes all from) moves) (sym (append-nil said))
      ∙ run_from-after_events said (Goes [] from) moves

  -- the same number of moves from there, but for what was said before
  pub over_without-said : (said events : List Event) (from last : Standing State) (how : Ends Ending) (moves : ℕ) → run_from machine bounds (Goes said from) moves ≡ Over events last how → (rest : List Event) × (events ≡ said ++ rest) × (run_from machine bounds (Goes [] from) moves ≡ Over rest last how)
  over_without-said said events from last how moves over =
      over_before said events last how (run_from machine bounds (Goes [] from) moves) (sym (run_from-said said from moves) ∙ over)

  pub ends_after-events : (said : List Event) (start : Settled State Ending) (rest : List Event) (last : Standing State) (how : Ends Ending) → EndsSo machine bounds start rest last how → EndsSo machine bounds (after_events said start) (said ++ rest) last how
  ends_after-events said start rest last how ends = record {
    moves = ends.moves;
    over = run_from-after_events said start ends.moves ∙ ap (after_events said) ends.over;
  }

  pub ends_before-events : (said : List Event) (start : Settled State Ending) (events : List Event) (last : Standing State) (how : Ends Ending) → EndsSo machine bounds (after_events said start) events last how → EndsAfter machine bounds start said events last how
  ends_before-events said start events last how ends =
      let found = over_before said events last how (run_from machine bounds start ends.moves) (sym (run_from-after_events said start ends.moves) ∙ ends.over) in
      record { rest = found.0; is = found.1; ends = record { moves = ends.moves; over = found.2 } }

  pub ends_with-said : (said : List Event) (from : Standing State) (rest : List Event) (last : Standing State) (how : Ends Ending) → EndsSo machine bounds (Goes [] from) rest last how → EndsSo machine bounds (Goes said from) (said ++ rest) last how
  ends_with-said said from rest last how ends = record {
    moves = ends.moves;
    over = run_from-said said from ends.moves ∙ ap (after_events said) ends.over;
  }

  pub ends_without-said : (said : List Event) (from : Standing State) (events : List Event) (last : Standing State) (how : Ends Ending) → EndsSo machine bounds (Goes said from) events last how → EndsAfter machine bounds (Goes [] from) said events last how
  ends_without-said said from events last how ends =
      let found = over_without-said said events from last how ends.moves ends.over in
      record { rest = found.0; is = found.1; ends = record { moves = ends.moves; over = found.2 } }

  -- ---- more moves

  -- moves, and then more moves
  pub run_from-more : (start : Settled State Ending) (moves more : ℕ) → run_from machine bounds start (moves + more) ≡ run_from machine bounds (run_from machine bounds start moves) more
  run_from-more start moves zero = ap (run_from machine bounds start) (add-zero moves)
  run_from-more start moves (suc more) =
      ap (run_from machine bounds start) (add-suc moves more)
      ∙ ap (advance machine bounds) (run_from-more start moves more)

  -- the first move, and then the others
  pub run_from-first : (start : Settled State Ending) (moves : ℕ) → run_from machine bounds start (suc moves) ≡ run_from machine bounds (advance machine bounds start) moves
  run_from-first start zero = refl
  run_from-first start (suc moves) = ap (advance machine bounds) (run_from-first start moves)

  -- after an end nothing changes
  pub run_from-ended : (events : List Event) (last : Standing State) (how : Ends Ending) (moves : ℕ) → run_from machine bounds (Over events last how) moves ≡ Over events last how
  run_from-ended events last how zero = refl
  run_from-ended events last how (suc moves) = ap (advance machine bounds) (run_from-ended events last how moves)

  pub run_from-lost : (moves : ℕ) → run_from machine bounds Lost moves ≡ Lost
  run_from-lost zero = refl
  run_from-lost (suc moves) = ap (advance machine bounds) (run_from-lost moves)

  pub run_from-over : (start : Settled State Ending) (events : List Event) (last : Standing State) (how : Ends Ending) (moves more : ℕ) → run_from machine bounds start moves ≡ Over events last how → run_from machine bounds start (moves + more) ≡ Over events last how
  run_from-over start events last how moves more over =
      run_from-more start moves more
      ∙ ap (λ from. run_from machine bounds from more) over
      ∙ run_from-ended events last how more

  -- ---- runs that join

  -- a run that is over ends so
  pub ends_over : (events : List Event) (last : Standing State) (how : Ends Ending) → EndsSo machine bounds (Over events last how) events last how
  ends_over events last how = record { moves = 0; over = refl }

  -- and in no other way
  pub ended_so : (said : List Event) (at : Standing State) (way : Ends Ending) (events : List Event) (last : Standing State) (how : Ends Ending) → EndsSo machine bounds (Over said at way) events last how → Over said at way ≡ Over events last how
  ended_so said at way events last how ends = sym (run_from-ended said at way ends.moves) ∙ ends.over

  -- moves, and then a run that ends
  pub ends_joined : (start later : Settled State Ending) (moves : ℕ) (events : List Event) (last : Standing State) (how : Ends Ending) → run_from machine bounds start moves ≡ later → EndsSo machine bounds later events last how → EndsSo machine bounds start events last how
  ends_joined start later moves events last how comes ends = record {
    moves = moves + ends.moves;
    over = run_from-more start moves ends.moves
        ∙ ap (λ from. run_from machine bounds from ends.moves) comes
        ∙ ends.over;
  }

  -- one move on
  pub ends_advanced : (start : Settled State Ending) (events : List Event) (last : Standing State) (how : Ends Ending) → EndsSo machine bounds (advance machine bounds start) events last how → EndsSo machine bounds start events last how
  ends_advanced start events last how ends = ends_joined start (advance machine bounds start) 1 events last how refl ends

  pub ends_moved : (said events : List Event) (from next last : Standing State) (all : List Event) (how : Ends Ending) → settled bounds (machine.view from.state) from (machine.move from.state) ≡ Goes events next → EndsSo machine bounds (Goes (said ++ events) next) all last how → EndsSo machine bounds (Goes said from) all last how
  ends_moved said events from next last all how moves ends =
      ends_joined (Goes said from) (Goes (said ++ events) next) 1 all last how (ap (after_events said) moves) ends
