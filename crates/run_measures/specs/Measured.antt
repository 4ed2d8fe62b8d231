-- Both machines are measured: they are never stuck in states that runs come to, and a move that is no tick lowers a rank.
use Rattle.account.specs.RunLaws.{Measured}
use Rattle.image_form.specs.declared.record.Image.{Image}
use Rattle.mote_model.specs.SplitStep as split
use Rattle.typed_machine.specs.TypedView as typed
use Rattle.typed_machine.specs.TypedWorld.{World}
use Rattle.type_safety.specs.Fitting.{Tables, StateFits}
use Rattle.type_safety.specs.Safety.{IsSet}
use Rattle.split_safety.specs.Reached.{IsReached}
use Rattle.split_safety.specs.Safety.{IsSound}

-- the machine of a sound image, in its reached states
abbrev pub SplitIsMeasured : Type 0
SplitIsMeasured = (image : Image) → IsSound image → Measured (split.machine image) (IsReached image)

-- the typed machine of a set, in the states that fit its types
abbrev pub TypedIsMeasured : Type 0
TypedIsMeasured = (world : World) (tables : Tables) → IsSet world tables → Measured (typed.machine world) (StateFits world tables)
