-- The split machine follows the typed one, from states that match.
use Rattle.std.specs.Prelude.{◌≡◌, ℕ, List, Option, Some}
use Rattle.std.specs.List.{AllByRecursion}
use Rattle.class_tree.specs.Subtypes.{class_type}
use Rattle.account.specs.RunLaws.{Follows}
use Rattle.jvm_model.specs.ImageNumbering.{type_id}
use Rattle.mote_model.specs.SplitMoves as split
use Rattle.mote_model.specs.SplitState.{State as SplitState}
use Rattle.mote_model.specs.SplitStep.{machine as split_machine}
use Rattle.typed_machine.specs.TypedMoves.{Ending, Done, Uncaught}
use Rattle.typed_machine.specs.TypedState.{State}
use Rattle.type_safety.specs.Fitting.{StateFits}
use Rattle.match_states.specs.Setting.{Setting, IsCompiled, IsWide}
use Rattle.match_states.specs.MatchedFrames.{FramesMatch}
use Rattle.match_states.specs.MatchedObjects.{ObjectsMatch, StaticsMatch}
use Rattle.typed_machine.specs.TypedView.{machine}

-- the states match, and the typed one fits the types of its methods
pub record StatesMatch (setting : Setting) (state : State) (other : SplitState) : Type 0 where
  pub fits : StateFits setting.world setting.tables state
  pub frames : FramesMatch setting state.frames other.frames
  pub objects : ObjectsMatch setting state.objects other.objects
  pub statics : StaticsMatch setting state.statics other.ref_statics other.cell_statics
  pub answers : other.answers ≡ state.answers

-- the same ending; what is thrown is of the type that its class has as its id
pub data EndingsMatch (setting : Setting) : Ending → split.Ending → Type 0 where
  BothDone : EndingsMatch setting Done split.Done
  BothUncaught : (class : ℕ) → EndingsMatch setting (Uncaught class) (split.Uncaught (type_id setting.numbering.types (class_type class)))

-- the machine of the image follows the typed machine of the set
abbrev pub SplitFollows : Setting → Type 0
SplitFollows setting = Follows (machine setting.world) (split_machine setting.image) (StatesMatch setting) (EndingsMatch setting)
