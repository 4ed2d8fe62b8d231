-- A run that has come so far, and ends with the next step.
use Rattle.std.proofs.Common.{◌≡◌, ℕ, ◌+◌, suc, ◌<◌, ◌≤◌, ◌⊎◌, inl, inr, Bool, true, false, nat_lt, if◌then◌else◌, List, [], ◌++◌, length, replicate, Option, None, refl, sym, ap, ap₂, subst, ◌∙◌, append-nil, arith}
use Rattle.std.proofs.lemmas.Bool.{lt-ltb}
use Rattle.dialogue.specs.Answers.{Answers, MayGive}
use Rattle.dialogue.specs.Dialogue.{gets}
use Rattle.host_face.specs.Talk.{Talked, BrokeOff, without_first}
use Rattle.host_face.proofs.TalkLemmas.{BrokeOff-prefix, BrokeOff-then}
use Rattle.library.specs.Classes.{first_own}
use Rattle.account.specs.Account.{Event, Bounds, Standing, Ends, Ended, Spent, StackWanted, Settled, Goes, Over, ticks_after, has_room, call_need, standing_at}
use Rattle.account.specs.Dialogue.{dialogue_of}
use Rattle.account.specs.Run.{advance, after_events, run_from}
use Rattle.account.proofs.Answering.{dialogue_of-append, gets-dialogue_of}
use Rattle.account.proofs.Course.{moved}
use Rattle.account.proofs.Ending.{EndsHolding, measured_ends}
use Rattle.account.proofs.Running.{EndsAfter, ends_joined, ends_without-said}
use Rattle.image_form.specs.declared.record.Image.{Image}
use Rattle.image_form.specs.Library.{refs_of, nums_of}
use Rattle.mote_model.specs.declared.ending.Ending.{Ending}
use Rattle.mote_model.specs.declared.ending.Ending.TheVariants as ending
use Rattle.mote_model.specs.declared.memory.State.{State as Memory}
use Rattle.mote_model.specs.declared.turn.Turn.{Turn}
use Rattle.mote_model.specs.declared.turn.Turn.TheVariants.{On, Throws}
use Rattle.mote_model.specs.Picture.{IsNaming}
use Rattle.mote_model.specs.State.{Reference}
use Rattle.mote_model.specs.SplitMoves as split
use Rattle.mote_model.specs.SplitState.{State, object_cells}
use Rattle.mote_model.specs.SplitStep.{machine}
use Rattle.mote_model.specs.SplitTypes.{new_object}
use Rattle.split_safety.specs.Ready.{Shown}
use Rattle.split_safety.specs.Reached.{IsReached}
use Rattle.split_safety.specs.Safety.{StaysReached}
use Rattle.split_safety.proofs.moves.AllMoves.{moves_stay}
use Rattle.run_measures.proofs.SplitMeasure.{split_is_measured}
use Rattle.mote_call.specs.CallTurns.{with_answers, MustEnd, CallGoes, CallSpent, CallWants, CallBreaks}
use Rattle.mote_call.proofs.GivenAnswers.{some_answers, may-some}
use Rattle.run_loop.specs.Ran.{Start, Stands, later, limits, IsEnding, RunsFrom, RanTo, Failed, Ran}
use Rattle.run_loop.specs.StepTurns.{ThrowEnds, StepEnds, StepTurn}
use Rattle.run_loop.proofs.CallForms.{moves_modestly}
use Rattle.run_loop.proofs.Coming.{Coming, ComesTo, reached_with, pictures_with}
use Rattle.run_loop.proofs.ReadBack.{bound_at, state_in, seen, pictures_at_all}
use Rattle.run_loop.proofs.Settling.{goes_on, lacks_tick, lacks_stack, ends_it, throws_it}

of_library : (class own : ℕ) → class < first_own → (if nat_lt class first_own then 0 else own) ≡ 0
of_library class own below = ap (λ is. if is then 0 else own) (lt-ltb class first_own below)

-- an object of a class of the library has no fields
library_cells : (image : Image) (class : ℕ) → class < first_own → object_cells (new_object image class) ≤ 64
library_cells image class below =
    let refs : refs_of image.types class ≡ 0 = of_library class _ below in
    let cells : nums_of image.types class ≡ 0 = of_library class _ below in
    let counted : ℕ → ℕ → ℕ = λ refs cells. let nulls : List Reference = replicate refs None in let zeros : List ℕ = replicate cells 0 in 2 + (length nulls + length zeros) in
    let all : object_cells (new_object image class) ≡ 2 = ap₂ counted refs cells in
    omega (arith, all)

module _ {C : Type 0} (left shown noted : C → Option (List ℕ)) (faults : C → ℕ) (room : C → Option ℕ) (start : Start) (ticks : ℕ) (is : IsNaming start.at.naming) (heap : 64 ≤ start.heap) where
  abbrev image : Image
  image = start.at.image

  abbrev bounds : Bounds
  bounds = limits start.at start.heap ticks

  abbrev ComingTo : C → C → Memory → ℕ → Type 0
  ComingTo = Coming left shown noted faults room start ticks

  abbrev RanSo : C → C → Memory → Ending → Type 0
  RanSo = RanTo left shown noted faults room start ticks

  module _ (old now new : C) (memory after : Memory) (rest less : ℕ) (coming : ComingTo old now memory rest) where
    abbrev state : State
    state = state_in start memory

    within : coming.used ≤ ticks
    within = let budget = coming.budget in omega arith

    -- ---- what is said of all ends

    module _ (others : Answers) (may : MayGive (left now) others) where
      abbrev come : ComesTo start ticks (left old) coming.events (with_answers (state_in start memory) others) coming.used
      come = coming.comes others may

      abbrev here : Standing State
      here = standing_at (with_answers (state_in start memory) others) 0 coming.used

      runs_over : (last : Standing State) (how : Ends split.Ending) → moved (machine image) bounds here ≡ Over [] last how → RunsFrom start.at start.heap ticks come.answers coming.events last how
      runs_over last how over =
          subst (λ events. RunsFrom start.at start.heap ticks come.answers events last how) (append-nil coming.events)
          (record { moves = suc come.moves; over = ap (advance (machine image) bounds) come.run ∙ ap (after_events coming.events) over })

      ran_to : (last : Standing State) (ends : Ends split.Ending) (how : Ending) → moved (machine image) bounds here ≡ Over [] last ends → IsEnding ends how → new ≡ now → (how ≡ ending.Spent → Stands (later start.at last.state) after)
          → RanSo old new after how
      ran_to last ends how over ending_is quiet stands = record {
        answers = come.answers;
        may = come.may;
        events = coming.events;
        last = last;
        ends = ends;
        runs = runs_over last ends over;
        ending_is = ending_is;
        talked = subst (λ console. Talked shown noted faults room old console (dialogue_of false coming.events)) (sym quiet) coming.talked;
        rest = ap left quiet ∙ coming.asked_for;
        stands = stands;
      }

    -- ---- the endings

    ends_done : MustEnd image (state_in start memory) split.Done → new ≡ now → RanSo old new after ending.Done
    ends_done must quiet =
        let others = some_answers (left now) in
        ran_to others (may-some (left now)) (standing_at (with_answers state others) 0 coming.used) (Ended split.Done) ending.Done
        (ends_it (machine image) bounds (with_answers state others) coming.used split.Done (must others) within) refl quiet (λ spent. absurd cc)

    ends_thrown : (class : ℕ) → ThrowEnds left shown noted faults room (seen start memory) class memory after now new rest less → RanSo old new after (ending.Uncaught class)
    ends_thrown class throw =
        let others = some_answers (left now) in
        let cells = object_cells (new_object image class) in
        let small = library_cells image class throw.of_library in
        ran_to others (may-some (left now)) (standing_at (with_answers state others) (0 + cells) coming.used) (Ended (split.Uncaught class)) (ending.Uncaught class)
        (throws_it (machine image) bounds (with_answers state others) coming.used cells start.heap (split.Uncaught class) (throw.ends others) refl (omega (arith, small, heap)) within) refl throw.quiet (λ spent. absurd cc)

    ends_spent : CallSpent left shown noted faults room (seen start memory) memory after now new rest less → RanSo old new after ending.Spent
    ends_spent spent =
        let moves = spent.moves in
        let here = with_answers state moves.answers in
        let nothing = (moves_modestly image coming.stands.sound here (reached_with image state moves.answers coming.stands.reached) spent.need spent.events moves.next moves.goes).0 in
        let more : ticks < ticks_after spent.need.tick coming.used = let budget = coming.budget in let none = spent.none in subst (λ tick. ticks < ticks_after tick coming.used) (sym spent.tick) (omega arith) in
        ran_to moves.answers moves.may (standing_at here 0 coming.used) Spent ending.Spent
        (lacks_tick (machine image) bounds here coming.used spent.need spent.events moves.next moves.goes nothing more) refl spent.quiet
        (λ told. subst (Stands (later start.at here)) (sym spent.same.memory) (record {
          sound = coming.stands.sound;
          reached = reached_with image state moves.answers coming.stands.reached;
          pictures = pictures_with image start.at.naming start.at.size memory state moves.answers (pictures_at_all image start.at.naming is (bound_at start) start.at.size memory state coming.stands.pictures);
        }))

    ends_wanted : (need used : ℕ) → CallWants left shown noted faults room (seen start memory) need used memory after now new rest less → RanSo old new after (ending.StackWanted need used)
    ends_wanted need used wants =
        let moves = wants.moves in
        let here = with_answers state moves.answers in
        let enough : suc coming.used ≤ ticks = let budget = coming.budget in let there = wants.there in omega arith in
        ran_to moves.answers moves.may (standing_at here 0 coming.used) (StackWanted need ((machine image).view here).frames) (ending.StackWanted need used)
        (lacks_stack (machine image) bounds here coming.used (call_need need) [] moves.next moves.goes refl enough wants.lacks) (ap (ending.StackWanted need) wants.used_is) wants.quiet (λ spent. absurd cc)

    -- ---- the console failed, and the run goes on in the definitions

    tick_fits : (tick : Bool) → (tick ≡ true → 0 < rest) → ticks_after tick coming.used ≤ ticks
    tick_fits true there = let budget = coming.budget in let more = there refl in omega arith
    tick_fits false there = within

    -- what broke off in the last move broke off in all of the run
    broke_in : (events rest all : List Event) → all ≡ (coming.events ++ events) ++ rest → BrokeOff left shown noted faults room now new (dialogue_of false events) → BrokeOff left shown noted faults room old new (dialogue_of false all)
    broke_in events rest all is broke =
        let first = dialogue_of false coming.events in
        let second = dialogue_of false events in
        let third = dialogue_of false rest in
        let items : dialogue_of false all ≡ (first ++ second) ++ third =
        ap (dialogue_of false) is ∙ dialogue_of-append false (coming.events ++ events) rest ∙ ap (λ before. before ++ third) (dialogue_of-append false coming.events events) in
        let asked_for : left now ≡ without_first (gets first) (left old) = coming.asked_for ∙ ap (λ count. without_first count (left old)) (sym (gets-dialogue_of false coming.events)) in
        subst (BrokeOff left shown noted faults room old new) (sym items)
        (BrokeOff-prefix left shown noted faults room old new (first ++ second) third (BrokeOff-then left shown noted faults room old now new first second asked_for coming.talked broke))

    module _ (breaks : CallBreaks left shown noted faults room (seen start memory) now new rest) where
      abbrev failing : State
      failing = with_answers (state_in start memory) breaks.moves.answers

      abbrev start_of : ComesTo start ticks (left old) coming.events (with_answers (state_in start memory) breaks.moves.answers) coming.used
      start_of = coming.comes breaks.moves.answers breaks.moves.may

      abbrev begin : Settled State split.Ending
      begin = Goes [] (standing_at (with_answers start.at.state (coming.comes breaks.moves.answers breaks.moves.may).answers) 0 0)

      abbrev behind : Standing State
      behind = standing_at breaks.moves.next 0 (ticks_after breaks.need.tick coming.used)

      fits : ticks_after breaks.need.tick coming.used ≤ ticks
      fits = tick_fits breaks.need.tick breaks.there

      reached_behind : IsReached image breaks.moves.next
      reached_behind = subst (StaysReached image) breaks.moves.goes (moves_stay image coming.stands.sound failing (reached_with image state breaks.moves.answers coming.stands.reached))

      settles : moved (machine image) bounds (standing_at failing 0 coming.used) ≡ Goes breaks.events behind
      settles = goes_on (machine image) bounds failing coming.used breaks.need breaks.events breaks.moves.next breaks.moves.goes breaks.places_nothing fits (ap (has_room bounds ((machine image).view failing)) breaks.calls_nothing)

      comes_behind : run_from (machine image) bounds begin (suc start_of.moves) ≡ Goes (coming.events ++ breaks.events) behind
      comes_behind = ap (advance (machine image) bounds) start_of.run ∙ ap (after_events coming.events) settles

      end : EndsHolding (machine image) (IsReached image) bounds (Goes (coming.events ++ breaks.events) behind)
      end = measured_ends (machine image) (IsReached image) (split_is_measured image coming.stands.sound) bounds (coming.events ++ breaks.events) breaks.moves.next 0 (ticks_after breaks.need.tick coming.used) reached_behind fits

      parts : EndsAfter (machine image) bounds (Goes [] behind) (coming.events ++ breaks.events) end.events end.last end.how
      parts = ends_without-said (machine image) bounds (coming.events ++ breaks.events) behind end.events end.last end.how end.ends

      ends_broken : Failed left shown noted faults room start ticks old new
      ends_broken = record {
        answers = start_of.answers;
        may = start_of.may;
        events = end.events;
        last = end.last;
        ends = end.how;
        runs = ends_joined (machine image) bounds begin (Goes (coming.events ++ breaks.events) behind) (suc start_of.moves) end.events end.last end.how comes_behind end.ends;
        broke = broke_in breaks.events parts.rest end.events parts.is breaks.broke;
      }

    pub ran : (how : Ending) → StepEnds left shown noted faults room (seen start memory) memory after now new rest less how → Ran left shown noted faults room start ticks old new after how
    ran ending.Done ends = ends_done ends.0 ends.1
    ran (ending.Uncaught class) ends = ends_thrown class ends
    ran ending.Spent ends = ends_spent ends
    ran (ending.HeapWanted need live) ends = absurd ends
    ran (ending.StackWanted need used) ends = ends_wanted need used ends
    ran ending.ConsoleFault ends = ends_broken ends.0
    ran (ending.Misfit class place) ends = absurd ends

-- a turn that is no end goes on, since none throws
module _ {C : Type 0} (left shown noted : C → Option (List ℕ)) (faults : C → ℕ) (room : C → Option ℕ) (at : Shown) (memory after : Memory) (now new : C) (rest less : ℕ) where
  pub goes_on_so : (turn : Turn) → ((turn ≡ On) ⊎ ((class : ℕ) × (turn ≡ Throws class))) → StepTurn left shown noted faults room at memory after now new rest less turn → CallGoes left shown noted faults room at memory after now new rest less
  goes_on_so turn (inl on) step = subst (StepTurn left shown noted faults room at memory after now new rest less) on step
  goes_on_so turn (inr throws) step = absurd (subst (StepTurn left shown noted faults room at memory after now new rest less) throws.1 step)
