-- The depths of operands over the machine instructions of an expansion, and where these lead.
use Rattle.std.specs.Prelude.{◌≡◌, ℕ, true, List, [], ◌∷◌, map}
use Rattle.image_instr.specs.declared.insn.Kind.{Kind}
use Rattle.image_instr.specs.declared.insn.Width.TheVariants as width
use Rattle.image_form.specs.declared.record.Image.{Image}
use Rattle.image_form.specs.declared.record.Method.{Method}
use Rattle.image_check.specs.Code.{targets}
use Rattle.image_check.specs.Visits.{Depth, depth, suffix, moved_by, HasOperands, ReturnsResult, goes_on}
use Rattle.body_form.specs.declared.op.Op.{Op}
use Rattle.body_form.specs.declared.types.VType.{VType}
use Rattle.body_form.specs.Flow as flow
use Rattle.jvm_model.specs.ImageExpansion.{Emitted, refs_in, cells_in}
use Rattle.jvm_model.specs.WidthsShapes.{shape_of}

-- ---- depths

-- the depth of operands of these shapes
abbrev pub depth_of : List Kind → Depth
depth_of shapes = depth (refs_in shapes) (cells_in shapes)

-- the shapes of values of these types, where each whole number has two cells
abbrev pub wide : List VType → List Kind
wide types = map (shape_of width.Two) types

-- the depth behind these machine instructions
unfoldable pub depth_behind : Image → Depth → List Emitted → Depth
depth_behind image d [] = d
depth_behind image d (emitted ∷ rest) = depth_behind image (suffix (moved_by image emitted.0) d) rest

-- each of them has its operands, and a return gives the method's result
unfoldable pub GoWell : Image → Method → Depth → List Emitted → Type 0
GoWell image method d [] = Unit {0}
GoWell image method d (emitted ∷ rest) =
    HasOperands (moved_by image emitted.0) d × ReturnsResult method emitted.0 × GoWell image method (suffix (moved_by image emitted.0) d) rest

-- they have their operands, from a depth of operands of these types on, and behind them the depth is that of these
pub record MoveRight (image : Image) (method : Method) (before : List VType) (emitted : List Emitted) (after : List VType) : Type 0 where
  pub well : GoWell image method (depth_of (wide before)) emitted
  pub behind : depth_behind image (depth_of (wide before)) emitted ≡ depth_of (wide after)

-- ---- control

-- All but the last go on to the next and jump nowhere; the last leads where the instruction of the body leads. Where there
-- are none, the instruction goes on.
unfoldable pub LeadAs : (ℕ → ℕ) → Op → List Emitted → Type 0
LeadAs offset instruction [] = (flow.goes_on instruction ≡ true) × (flow.targets instruction ≡ [])
LeadAs offset instruction (emitted ∷ []) =
    (goes_on emitted.0 ≡ flow.goes_on instruction) × (targets emitted.0 emitted.1 ≡ map offset (flow.targets instruction))
LeadAs offset instruction (emitted ∷ next ∷ rest) =
    (goes_on emitted.0 ≡ true) × (targets emitted.0 emitted.1 ≡ []) × LeadAs offset instruction (next ∷ rest)
