-- How far a run has come: the invariant of the loop.
use Rattle.std.proofs.Common.{◌≡◌, ℕ, ◌+◌, ◌*◌, suc, ◌<◌, ◌≤◌, Bool, true, false, List, [], ◌++◌, Option, None, refl, sym, ap, subst, ◌∙◌, arith}
use Rattle.dialogue.specs.Answers.{Answers, MayGive}
use Rattle.host_face.specs.Talk.{Talked, without_first}
use Rattle.host_face.proofs.TalkLemmas.{Talked-nothing, Talked-then, without_first-none, without_first-then}
use Rattle.account.specs.Account.{Event, Goes, ticks_after, standing_at}
use Rattle.account.specs.Dialogue.{dialogue_of}
use Rattle.account.specs.Run.{advance, after_events, run_from}
use Rattle.account.specs.RunLaws.{asked}
use Rattle.account.proofs.Answering.{asked-append, dialogue_of-append}
use Rattle.account.proofs.Course.{moved}
use Rattle.image_form.specs.declared.record.Image.{Image}
use Rattle.mote_model.specs.declared.memory.State.{State as Memory}
use Rattle.mote_model.specs.Picture.{Naming, IsNaming, Pictures}
use Rattle.mote_model.specs.SplitState.{State}
use Rattle.mote_model.specs.SplitStep.{machine}
use Rattle.mote_model.specs.Turns.{TakesTick}
use Rattle.split_safety.specs.Reached.{IsReached}
use Rattle.split_safety.specs.Safety.{StaysReached}
use Rattle.split_safety.proofs.moves.AllMoves.{moves_stay}
use Rattle.run_measures.proofs.SplitMeasure.{falls}
use Rattle.run_measures.proofs.SplitRank.{rank_of}
use Rattle.mote_call.specs.CallTurns.{with_answers, MovesFrom, CallGoes}
use Rattle.mote_call.proofs.GivenAnswers.{some_answers, may-some}
use Rattle.run_loop.specs.Ran.{Start, Stands, limits}
use Rattle.run_loop.proofs.CallForms.{moves_modestly}
use Rattle.run_loop.proofs.ReadBack.{bound_at, naming_at, state_in, seen, state_back, pictures_below}
use Rattle.run_loop.proofs.Settling.{goes_on}

-- ---- answers change nothing of what a memory stands for

pub reached_with : (image : Image) (state : State) (answers : Answers) → IsReached image state → IsReached image (with_answers state answers)
reached_with image state answers reached = record {
  frame = reached.frame;
  others = reached.others;
  frames_are = reached.frames_are;
  running = reached.running;
  waiting = reached.waiting;
  ref_statics = reached.ref_statics;
  cell_statics = reached.cell_statics;
  are_cells = reached.are_cells;
}

pub reached_without : (image : Image) (state : State) (answers : Answers) → IsReached image (with_answers state answers) → IsReached image state
reached_without image state answers reached = record {
  frame = reached.frame;
  others = reached.others;
  frames_are = reached.frames_are;
  running = reached.running;
  waiting = reached.waiting;
  ref_statics = reached.ref_statics;
  cell_statics = reached.cell_statics;
  are_cells = reached.are_cells;
}

pub pictures_with : (image : Image) (naming : Naming) (size : ℕ) (memory : Memory) (state : State) (answers : Answers) → Pictures image naming size memory state → Pictures image naming size memory (with_answers state answers)
pictures_with image naming size memory state answers pictures = record {
  naming_is = pictures.naming_is;
  region = pictures.region;
  ref_statics = pictures.ref_statics;
  cell_statics = pictures.cell_statics;
  kept_frames = pictures.kept_frames;
  kept_statics = pictures.kept_statics;
}

-- ---- how far

-- moves that lead from the start to a state, on answers that the console might give then
pub record ComesTo (start : Start) (ticks : ℕ) (before : Option (List ℕ)) (events : List Event) (state : State) (used : ℕ) : Type 0 where
  pub answers : Answers
  pub may : MayGive before answers
  pub moves : ℕ
  pub run : run_from (machine start.at.image) (limits start.at start.heap ticks) (Goes [] (standing_at (with_answers start.at.state answers) 0 0)) moves ≡ Goes events (standing_at state 0 used)

module _ {C : Type 0} (left shown noted : C → Option (List ℕ)) (faults : C → ℕ) (room : C → Option ℕ) (start : Start) (ticks : ℕ) where
  -- The memory stands for a state to which the run comes, whatever the console may still give. What the run showed before
  -- was said, and what it asked for is no more left; so many ticks are left too.
  pub record Coming (old now : C) (memory : Memory) (rest : ℕ) : Type 0 where
    pub stands : Stands (seen start memory) memory
    pub events : List Event
    pub used : ℕ
    pub budget : used + rest ≡ ticks
    pub comes : (others : Answers) → MayGive (left now) others → ComesTo start ticks (left old) events (with_answers (state_in start memory) others) used
    pub talked : Talked shown noted faults room old now (dialogue_of false events)
    pub asked_for : left now ≡ without_first (asked events) (left old)

-- the ticks that are left, each of which stands for more than one frame's code, and the code behind the pcs
abbrev pub measure : Start → Memory → ℕ → ℕ
measure start memory rest = rest * 65537 + rank_of start.at.image (state_in start memory).frames

module _ {C : Type 0} (left shown noted : C → Option (List ℕ)) (faults : C → ℕ) (room : C → Option ℕ) (start : Start) (ticks : ℕ) (is : IsNaming start.at.naming) where
  abbrev image : Image
  image = start.at.image

  abbrev ComingTo : C → C → Memory → ℕ → Type 0
  ComingTo = Coming left shown noted faults room start ticks

  -- what the state is that a memory stands for
  stands_for : (memory : Memory) (state : State) → Stands start.at memory → Pictures image (naming_at start) start.at.size memory state → IsReached image state → state_in start memory ≡ with_answers state [] → Stands (seen start memory) memory
  stands_for memory state stands pictures reached state_is = record {
    sound = stands.sound;
    reached = subst (IsReached image) (sym state_is) (reached_with image state [] reached);
    pictures = subst (Pictures image (naming_at start) start.at.size memory) (sym state_is) (pictures_with image (naming_at start) start.at.size memory state [] pictures);
  }

  -- ---- the start

  module _ (console : C) (memory : Memory) (stands : Stands start.at memory) where
    below : Pictures image (naming_at start) start.at.size memory start.at.state
    below = pictures_below image start.at.naming is (bound_at start) start.at.size memory start.at.state (omega arith) (omega arith) stands.pictures

    start_is : state_in start memory ≡ with_answers start.at.state []
    start_is = state_back start is memory start.at.state below stands.reached refl

    pub coming_start : ComingTo console console memory ticks
    coming_start = record {
      stands = stands_for memory start.at.state stands below stands.reached start_is;
      events = [];
      used = 0;
      budget = omega arith;
      comes = λ others may. record { answers = others; may = may; moves = 0; run = ap (λ state. Goes [] (standing_at (with_answers state others) 0 0)) (sym start_is) };
      talked = Talked-nothing shown noted faults room console;
      asked_for = without_first-none (left console);
    }

  -- ---- one step more

  tick_used : (tick : Bool) (used rest less : ℕ) → TakesTick tick rest less → used + rest ≡ ticks → ticks_after tick used + less ≡ ticks
  tick_used true used rest less takes budget = omega arith
  tick_used false used rest less takes budget = omega arith

  tick_lowers : (tick : Bool) (rest less before after : ℕ) → TakesTick tick rest less → after ≤ 65536 + before → (tick ≡ false → after < before) → less * 65537 + after < rest * 65537 + before
  tick_lowers true rest less before after takes raised falls = omega arith
  tick_lowers false rest less before after takes raised falls = let lower = falls refl in omega arith

  module _ (old now later : C) (memory after : Memory) (rest less : ℕ) (coming : ComingTo old now memory rest) (goes : CallGoes left shown noted faults room (seen start memory) memory after now later rest less) where
    abbrev state : State
    state = state_in start memory

    abbrev spent : ℕ
    spent = ticks_after goes.need.tick coming.used

    budget_kept : spent + less ≡ ticks
    budget_kept = tick_used goes.need.tick coming.used rest less goes.tick coming.budget

    -- the move, on some answers
    some : MovesFrom image state (left now) goes.need goes.events goes.next (some_answers (left later))
    some = goes.goes (some_answers (left later)) (may-some (left later))

    reached_now : IsReached image (with_answers state some.answers)
    reached_now = reached_with image state some.answers coming.stands.reached

    reached_next : IsReached image goes.next
    reached_next =
        reached_without image goes.next (some_answers (left later))
        (subst (StaysReached image) some.goes (moves_stay image coming.stands.sound (with_answers state some.answers) reached_now))

    modest : (goes.need.placed ≡ None) × (goes.next.objects ≡ state.objects) × (rank_of image goes.next.frames ≤ 65536 + rank_of image state.frames)
    modest = moves_modestly image coming.stands.sound (with_answers state some.answers) reached_now goes.need goes.events (with_answers goes.next (some_answers (left later))) some.goes

    next_is : state_in start after ≡ with_answers goes.next []
    next_is = state_back start is after goes.next goes.pictures reached_next modest.1

    settles : (others : Answers) (from : MovesFrom image state (left now) goes.need goes.events goes.next others)
        → moved (machine image) (limits start.at start.heap ticks) (standing_at (with_answers state from.answers) 0 coming.used) ≡ Goes goes.events (standing_at (with_answers goes.next others) 0 spent)
    settles others from =
        goes_on (machine image) (limits start.at start.heap ticks) (with_answers state from.answers) coming.used goes.need goes.events (with_answers goes.next others) from.goes goes.places_nothing (omega (arith, budget_kept)) goes.fits

    comes_on : (others : Answers) → MayGive (left later) others → ComesTo start ticks (left old) (coming.events ++ goes.events) (with_answers (state_in start after) others) spent
    comes_on others may =
        let from = goes.goes others may in
        let come = coming.comes from.answers from.may in
        record {
          answers = come.answers;
          may = come.may;
          moves = suc come.moves;
          run = ap (advance (machine image) (limits start.at start.heap ticks)) come.run
              ∙ ap (after_events coming.events) (settles others from)
              ∙ ap (λ state. Goes (coming.events ++ goes.events) (standing_at (with_answers state others) 0 spent)) (sym next_is);
        }

    pub coming_on : ComingTo old later after less
    coming_on = record {
      stands = record {
        sound = coming.stands.sound;
        reached = subst (IsReached image) (sym next_is) (reached_with image goes.next [] reached_next);
        pictures = subst (Pictures image (naming_at start) start.at.size after) (sym next_is) (pictures_with image (naming_at start) start.at.size after goes.next [] goes.pictures);
      };
      events = coming.events ++ goes.events;
      used = spent;
      budget = budget_kept;
      comes = comes_on;
      talked = subst (Talked shown noted faults room old later) (sym (dialogue_of-append false coming.events goes.events))
          (Talked-then shown noted faults room old now later (dialogue_of false coming.events) (dialogue_of false goes.events) coming.talked goes.talked);
      asked_for = subst (λ count. left later ≡ without_first count (left old)) (sym (asked-append coming.events goes.events))
          (without_first-then (asked coming.events) (asked goes.events) (left old) (left now) (left later) coming.asked_for goes.asked_for);
    }

    pub measure_falls : measure start after less < measure start memory rest
    measure_falls =
        subst (λ (next : State). less * 65537 + rank_of image next.frames < measure start memory rest) (sym next_is)
        (tick_lowers goes.need.tick rest less (rank_of image state.frames) (rank_of image goes.next.frames) goes.tick modest.2
        (λ quiet. falls image coming.stands.sound (with_answers state some.answers) reached_now (with_answers goes.next (some_answers (left later))) goes.need goes.events some.goes quiet))
