-- A set with what is inferred and laid out of it, and its image.
use Rattle.std.specs.Prelude.{◌≡◌, ℕ, List, [], Option, Some}
use Rattle.std.specs.List.{AllByRecursion}
use Rattle.class_pool.specs.declared.types.MemberId.{MemberId}
use Rattle.image_form.specs.declared.record.Image.{Image}
use Rattle.body_form.specs.declared.body.Body.{Body}
use Rattle.jvm_model.specs.declared.plan.Plan.{Plan}
use Rattle.jvm_model.specs.TypesRight.{Table}
use Rattle.jvm_model.specs.WidthsShapes.{Widths, widths_of}
use Rattle.jvm_model.specs.WidthsFrame.{plan_of}
use Rattle.jvm_model.specs.ImageNumbering.{Numbering, numbering_of, ids_of, method_id}
use Rattle.jvm_model.specs.ImageEmission.{Source, source_of, method_of}
use Rattle.jvm_model.specs.ImageTables.{image_with}
use Rattle.mote_model.specs.SplitState.{method_at, frame_cells}
use Rattle.typed_machine.specs.TypedWorld.{World}
use Rattle.type_safety.specs.Fitting.{Tables}
use Rattle.type_safety.specs.Safety.{IsSet}
use Rattle.type_safety.specs.Safety as safety

-- the classes and bodies of a set, the types and the layout of each body, the numbers of what is named, and the image
pub record Setting : Type 0 where
  pub world : World
  pub tables : Tables
  pub plans : MemberId → Plan
  pub numbering : Numbering
  pub image : Image

abbrev pub table_for : Setting → Body → Table
table_for setting body = setting.tables (safety.method_of body)

abbrev pub plan_for : Setting → Body → Plan
plan_for setting body = setting.plans (safety.method_of body)

-- what a body is expanded by
abbrev pub source_for : Setting → Body → Source
source_for setting body = source_of body (table_for setting body) (plan_for setting body) (ids_of setting.numbering)

abbrev pub widths_for : Setting → Body → Widths
widths_for setting body = (source_for setting body).widths

abbrev pub id_for : Setting → MemberId → ℕ
id_for setting member = method_id setting.numbering.methods member

-- a body is laid out by its types, and its code stands in the image at its id
pub record IsCompiledBody (setting : Setting) (body : Body) : Type 0 where
  pub plan : plan_for setting body ≡ plan_of body (table_for setting body) (plan_for setting body).narrow
  pub method : method_at setting.image (id_for setting (safety.method_of body)) ≡ Some (method_of (source_for setting body))
  pub cells : setting.world.frame_cells (safety.method_of body) ≡ frame_cells (method_of (source_for setting body))

-- typed code, with its image
pub record IsCompiled (setting : Setting) : Type 0 where
  pub typed : IsSet setting.world setting.tables
  pub numbering : setting.numbering ≡ numbering_of setting.world.files setting.world.bodies setting.world.main
  pub image : setting.image ≡ image_with setting.world.files setting.numbering setting.image.methods
  pub bodies : AllByRecursion (IsCompiledBody setting) setting.world.bodies

-- each whole number of a body has two cells
abbrev pub IsWide : Setting → Body → Type 0
IsWide setting body = (plan_for setting body).narrow ≡ []
