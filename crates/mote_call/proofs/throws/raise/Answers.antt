use Rattle.std.proofs.Common.{[], ◌∷◌, length, List, Option, Some, refl, ap}
use Rattle.mote_model.specs.State.{Frame}
use Rattle.mote_model.specs.SplitMoves.{SplitMove, after_search}
use Rattle.mote_model.specs.SplitState.{object_cells, with_objects}
use Rattle.mote_model.specs.SplitTypes.{new_object}
use Rattle.split_safety.proofs.moves.Throwing.{none_catches}
use Rattle.mote_call.specs.CallTurns.{with_answers}
use Rattle.mote_call.proofs.throws.raise.Goals as goal

pub returns : goal.returns
returns g c =
    let shown = g.shown in
    let object = new_object shown.image c.args.class in
    record {
      ends = λ answers.
          let state = with_answers shown.state answers in
          let search : Option (List Frame) → SplitMove = λ found. after_search (Some (object_cells object)) (with_objects state (object ∷ [])) c.args.class found in
          ap search (none_catches shown.image c.requires.0 c.args.class (length state.objects) state.frames);
      turn_is = refl;
      same = record { memory = refl; ticks = refl };
    }
