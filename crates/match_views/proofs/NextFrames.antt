-- States that match when their frames change, and nothing else.
use Rattle.std.proofs.Common.{List, ◌∷◌}
use Rattle.jvm_model.specs.Bodies.{AreEach}
use Rattle.mote_model.specs.State.{Frame as SplitFrame}
use Rattle.mote_model.specs.SplitState as split
use Rattle.typed_machine.specs.TypedState.{Frame, State, with_frames}
use Rattle.type_safety.specs.Fitting.{StateFits}
use Rattle.match_states.specs.Setting.{Setting}
use Rattle.match_states.specs.MatchedFrames.{YoungestMatches, WaitingMatches, FramesMatch}
use Rattle.match_states.specs.Followed.{StatesMatch}

module _ (setting : Setting) where
  -- ---- frames

  -- the frames below the youngest one wait, whichever frame it is
  pub others_wait : (frame : Frame) (frames : List Frame) (other : SplitFrame) (others : List SplitFrame) → FramesMatch setting (frame ∷ frames) (other ∷ others) → AreEach (WaitingMatches setting) frames others
  others_wait frame frames other others match = match.1

  -- another youngest frame of each
  pub next_youngest : (frame next : Frame) (frames : List Frame) (other next_other : SplitFrame) (others : List SplitFrame) → FramesMatch setting (frame ∷ frames) (other ∷ others)
      → YoungestMatches setting next next_other → FramesMatch setting (next ∷ frames) (next_other ∷ others)
  next_youngest frame next frames other next_other others match youngest = (youngest, match.1)

  -- a frame more of each, for which the youngest one waits
  pub frame_more : (frame waiting next : Frame) (frames : List Frame) (other waiting_other next_other : SplitFrame) (others : List SplitFrame)
      → FramesMatch setting (frame ∷ frames) (other ∷ others) → WaitingMatches setting waiting waiting_other → YoungestMatches setting next next_other
      → FramesMatch setting (next ∷ waiting ∷ frames) (next_other ∷ waiting_other ∷ others)
  frame_more frame waiting next frames other waiting_other next_other others match waits youngest = (youngest, (waits, match.1))

  -- without the youngest frame of each, where the one below it goes on
  pub frame_less : (frame below next : Frame) (frames : List Frame) (other below_other next_other : SplitFrame) (others : List SplitFrame)
      → FramesMatch setting (frame ∷ below ∷ frames) (other ∷ below_other ∷ others) → YoungestMatches setting next next_other → FramesMatch setting (next ∷ frames) (next_other ∷ others)
  frame_less frame below next frames other below_other next_other others match youngest = (youngest, match.1.1)

  -- ---- states

  -- other frames of each that match, which fit their types
  pub states_with_frames : (state : State) (other : split.State) (frames : List Frame) (others : List SplitFrame) → StatesMatch setting state other
      → StateFits setting.world setting.tables (with_frames state frames) → FramesMatch setting frames others → StatesMatch setting (with_frames state frames) (split.with_frames other others)
  states_with_frames state other frames others match fits same =
      record { fits = fits; frames = same; objects = match.objects; statics = match.statics; answers = match.answers }
