-- A turn that says nothing, over a console.
use Rattle.std.proofs.Common.{ℕ, List, [], Option, refl}
use Rattle.host_face.proofs.TalkLemmas.{Talked-nothing, without_first-none}
use Rattle.account.specs.Account.{Need}
use Rattle.mote_model.specs.declared.ending.Ending.TheVariants.{Done, Spent, StackWanted, Uncaught, HeapWanted, ConsoleFault, Misfit}
use Rattle.mote_model.specs.declared.memory.State.{State as Memory}
use Rattle.mote_model.specs.declared.turn.Turn.{Turn}
use Rattle.mote_model.specs.declared.turn.Turn.TheVariants.{On, Throws, Ends}
use Rattle.mote_model.specs.SplitState.{State}
use Rattle.split_safety.specs.Ready.{Shown}
use Rattle.mote_call.specs.CallTurns.{CallTurn, MayMove, with_answers}
use Rattle.mote_call.specs.Quiet.{MustDo, QuietTurn}
use Rattle.mote_call.proofs.GivenAnswers.{some_answers, may-some}

may_move : (at : Shown) (need : Need) (next : State) → MustDo at need next → (before : Option (List ℕ)) → MayMove at.image at.state before need []
may_move at need next goes before = record {
  next = with_answers next (some_answers before);
  answers = some_answers before;
  may = may-some before;
  goes = goes (some_answers before);
}

module _ {C : Type 0} (left shown noted : C → Option (List ℕ)) (faults : C → ℕ) (room : C → Option ℕ) (at : Shown) (old new : Memory) (console : C) (ticks rest : ℕ) where
  pub over_console : (turn : Turn) → QuietTurn at old new ticks rest turn → CallTurn left shown noted faults room at old new console console ticks rest turn
  over_console On quiet = record {
    need = quiet.need;
    events = [];
    next = quiet.next;
    goes = λ others may. record { answers = others; may = may; goes = quiet.goes others };
    places_nothing = quiet.places_nothing;
    fits = quiet.fits;
    tick = quiet.tick;
    talked = Talked-nothing shown noted faults room console;
    asked_for = without_first-none (left console);
    pictures = quiet.pictures;
    collections = quiet.collections;
  }
  over_console (Throws class) quiet = quiet
  over_console (Ends Done) quiet = (quiet.0, refl, quiet.1)
  over_console (Ends Spent) quiet = record {
    need = quiet.need;
    events = [];
    moves = may_move at quiet.need quiet.next quiet.goes (left console);
    tick = quiet.tick;
    none = quiet.none;
    same = quiet.same;
    quiet = refl;
  }
  over_console (Ends (StackWanted need used)) quiet = record {
    moves = may_move at _ quiet.next quiet.goes (left console);
    there = quiet.there;
    lacks = quiet.lacks;
    used_is = quiet.used_is;
    same = quiet.same;
    quiet = refl;
  }
  over_console (Ends (Uncaught class)) quiet = quiet
  over_console (Ends (HeapWanted need live)) quiet = quiet
  over_console (Ends ConsoleFault) quiet = absurd quiet
  over_console (Ends (Misfit class place)) quiet = quiet
