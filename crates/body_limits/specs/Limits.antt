-- What the bodies of a set keep to, where the phases of the set up to that of types have no refusal.
use Rattle.std.specs.Prelude.{◌≡◌, ℕ, ◌+◌, ◌<◌, ◌≤◌, if◌then◌else◌, List, length}
use Rattle.std.specs.List.{AllByRecursion, Contains}
use Rattle.code_reach.specs.Reached.{RisesFrom}
use Rattle.body_form.specs.declared.body.Body.{Body}
use Rattle.jvm_model.specs.declared.numbers.FieldPlace.{FieldPlace}
use Rattle.jvm_model.specs.ImageEmission.{code_of}
use Rattle.jvm_model.specs.WidthsFrame.{plan_of}
use Rattle.expansion.specs.Expanding.{KeepsCounts}
use Rattle.expansion.specs.Seen.{KeepsRows}
use Rattle.typed_machine.specs.TypedWorld.{World}
use Rattle.type_safety.specs.Fitting.{Tables}
use Rattle.type_safety.specs.Safety.{IsTyped}
use Rattle.match_states.specs.Setting.{Setting, table_for, plan_for, source_for}
use Rattle.match_code.specs.Standing.{AreInRange}

-- each body of such a set is so
abbrev pub OfEachBody : (Body → Type 0) → Type 0
OfEachBody Is = (files : List (List ℕ)) (world : World) (tables : Tables) → IsTyped files world tables → (body : Body) → Contains world.bodies body → Is body

-- the pcs of the instructions rise
abbrev pub PcsRise : Type 0
PcsRise = OfEachBody (λ body. RisesFrom 0 body.ops)

-- the rows of each switch keep to what machine instructions ask of rows
abbrev pub RowsAreKept : Type 0
RowsAreKept = OfEachBody (λ body. AllByRecursion (λ x. KeepsRows x.1) body.ops)

-- the arguments of each call and the rows of each switch are as few as machine instructions count
abbrev pub CountsAreKept : Type 0
CountsAreKept = OfEachBody (λ body. AllByRecursion (λ x. KeepsCounts x.1) body.ops)

-- at most 255 arguments, the object that the method is called on among them
abbrev pub HasFewParameters : Body → Type 0
HasFewParameters body = (if body.instance then 1 else 0) + length body.params ≤ 255

abbrev pub ParametersAreFew : Type 0
ParametersAreFew = OfEachBody HasFewParameters

-- ---- the numbers of machine instructions

-- the image of a body keeps to the limits of images
pub record KeepsImageLimits (setting : Setting) (body : Body) : Type 0 where
  -- the body is laid out by its types
  pub plan : plan_for setting body ≡ plan_of body (table_for setting body) (plan_for setting body).narrow
  -- with the four cells of its header its frame has at most 32,767 cells
  pub frame : (plan_for setting body).body ≤ 32763
  -- the ids of types, which begin at 32, fit two bytes
  pub types : length setting.numbering.types < 65504
  -- so do the ids of methods, which begin there too
  pub methods : length setting.numbering.methods < 65504
  -- the numbers of selectors fit two bytes
  pub selectors : length setting.numbering.selectors < 65536
  -- so do the places of fields and statics
  pub places : AllByRecursion (λ (field : FieldPlace). field.place < 65536) setting.numbering.fields
  -- the code has at most 65,535 bytes
  pub code : length (code_of (source_for setting body)) ≤ 65535

-- where the image of a body of such a set keeps to its limits, the numbers of the body's machine instructions are of
-- their types
abbrev pub NumbersAreInRange : Type 0
NumbersAreInRange = (files : List (List ℕ)) (setting : Setting) → IsTyped files setting.world setting.tables → (body : Body) → Contains setting.world.bodies body → KeepsImageLimits setting body → AreInRange setting body
