-- The states in which both runs start match, and the runs begin alike.
use Rattle.std.proofs.Common.{refl, sym, ap, ◌∙◌}
use Rattle.mote_model.specs.SplitRun as split
use Rattle.mote_model.specs.SplitState.{method_at, frame_cells}
use Rattle.account.specs.Run.{begins}
use Rattle.typed_machine.specs.TypedRun.{start_state, start_main}
use Rattle.match_states.specs.Setting.{id_for}
use Rattle.match_starts.specs.Started.{StatesStart, RunsStartAlike}
use Rattle.match_starts.proofs.StartFrames.{main_method, main_body, main_id, frames_start}
use Rattle.match_starts.proofs.StartStatics.{statics_start}

pub states_start : StatesStart
states_start setting compiled start =
    let is = main_body setting compiled start in
    record {
      method = main_method setting compiled start;
      there = ap (method_at setting.image) (main_id setting compiled start ∙ ap (id_for setting) (sym is.1)) ∙ is.0.method;
      cells = sym is.0.cells ∙ ap setting.world.frame_cells is.1;
      match = λ answers. record {
        fits = start.fits answers;
        frames = (frames_start setting compiled start, tt);
        objects = tt;
        statics = statics_start setting compiled;
        answers = refl;
      };
    }

pub runs_start_alike : RunsStartAlike
runs_start_alike setting compiled start bounds answers =
    let both = states_start setting compiled start in
    record {
      cells = frame_cells both.method;
      state = start_state setting.world start.main answers;
      other = split.start_state setting.image both.method answers;
      match = both.match answers;
      begins_typed =
          ap (start_main setting.world bounds answers) start.found
          ∙ ap (λ cells. begins bounds cells 0 (start_state setting.world start.main answers)) (sym both.cells);
      begins_split = ap (split.start_main setting.image bounds answers) both.there;
    }
