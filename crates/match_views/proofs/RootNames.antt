-- The references of matching states: those of all frames, the oldest first, and those of the statics.
use Rattle.std.proofs.Common.{◌≡◌, ℕ, List, [], ◌∷◌, ◌++◌, reverse, sym, ap, ◌∙◌}
use Rattle.std.specs.List.{flat_map}
use Rattle.jvm_model.specs.Bodies.{AreEach}
use Rattle.jvm_model.specs.ImageNumbering.{static_fields}
use Rattle.mote_model.specs.State.{Frame as SplitFrame, whole}
use Rattle.mote_model.specs.SplitState as split
use Rattle.mote_model.specs.SplitState.{names_of}
use Rattle.typed_machine.specs.TypedState.{Frame, State}
use Rattle.match_states.specs.Setting.{Setting}
use Rattle.match_states.specs.MatchedFrames.{WaitingMatches, FramesMatch}
use Rattle.match_states.specs.MatchedObjects.{references_in}
use Rattle.match_states.specs.Followed.{StatesMatch}
use Rattle.typed_machine.specs.TypedView.{frame_names, roots_of}
use Rattle.match_views.proofs.MatchedLists.{AreSame, each_so, all_so, same_turned}
use Rattle.match_views.proofs.FrameNames.{youngest_names, waiting_names}

abbrev names_in_frame : SplitFrame → List ℕ
names_in_frame frame = names_of (whole frame.refs)

-- ---- frames

module _ (setting : Setting) where
  pub names_of_waiting : (frames : List Frame) (others : List SplitFrame) → AreEach (WaitingMatches setting) frames others → AreSame (frame_names setting.world) names_in_frame frames others
  names_of_waiting frames others each =
      each_so (λ frame. Unit {0}) (WaitingMatches setting) (λ frame other. frame_names setting.world frame ≡ names_in_frame other) (λ frame other one is. waiting_names setting frame other is) frames others
      (all_so (λ frame. Unit {0}) (λ frame. tt) frames) each

  pub names_of_frames : (frames : List Frame) (others : List SplitFrame) → FramesMatch setting frames others → AreSame (frame_names setting.world) names_in_frame frames others
  names_of_frames [] [] match = tt
  names_of_frames [] (other ∷ others) match = absurd match
  names_of_frames (frame ∷ frames) [] match = absurd match
  names_of_frames (frame ∷ frames) (other ∷ others) match = (youngest_names setting frame other match.0, names_of_waiting frames others match.1)

  -- ---- states

  pub roots-same : (state : State) (other : split.State) → StatesMatch setting state other → roots_of setting.world state ≡ split.roots_of other
  roots-same state other match =
      ap (λ names. names ++ names_of (references_in state.statics (static_fields setting.world.files)))
      (same_turned (frame_names setting.world) names_in_frame state.frames other.frames (names_of_frames state.frames other.frames match.frames))
      ∙ ap (λ references. flat_map names_in_frame (reverse other.frames) ++ names_of references) (sym match.statics.refs_are)
