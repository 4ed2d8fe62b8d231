-- What is known of a body of an accepted set, and what follows for the machine instructions of its instructions.
use Rattle.std.specs.Prelude.{◌≡◌, ◌⊎◌, ℕ, ◌≤◌, true, false, List, [], ◌∷◌, length, Option, Some}
use Rattle.std.specs.List.{AllByRecursion, Contains}
use Rattle.image_instr.specs.declared.insn.Width.TheVariants as width
use Rattle.image_instr.specs.declared.insn.MInsn.TheVariants as insns
use Rattle.image_form.specs.declared.record.Image.{Image}
use Rattle.image_form.specs.declared.record.Method.{Method}
use Rattle.image_check.specs.Ids.{HasIds, called_by}
use Rattle.class_pool.specs.declared.descriptor.Kind.{Kind as DeclaredKind}
use Rattle.class_pool.specs.Descriptors.{HasDims}
use Rattle.class_file.specs.declared.record.ClassFile.{ClassFile}
use Rattle.body_form.specs.declared.body.Body.{Body}
use Rattle.body_form.specs.declared.op.Op.{Op}
use Rattle.body_form.specs.declared.op.Op.TheVariants as op
use Rattle.body_form.specs.declared.types.VFrame.{VFrame}
use Rattle.body_form.specs.Flow.{goes_on}
use Rattle.jvm_model.specs.ImageEmission.{code_of, method_of, offset_of}
use Rattle.jvm_model.specs.ImageExpansion.{Emitted, Ids, Locals, expanded}
use Rattle.jvm_model.specs.TypesRight.{IsRight}
use Rattle.jvm_model.specs.TypesRules.{frame_after, op_at}
use Rattle.jvm_model.specs.WidthsFrame.{result_code, signature_used}
use Rattle.jvm_model.specs.WidthsShapes.{Point}
use Rattle.type_safety.specs.Facts.{BodyFacts}
use Rattle.match_states.specs.Setting.{IsCompiled, IsWide, Setting, source_for, table_for}
use Rattle.match_code.specs.Standing.{AreInsns, emitted_at, fills_for}
use Rattle.split_safety.specs.Runs.{runs_so_far}
use Rattle.typed_machine.specs.TypedWorld.{pc_after}
use Rattle.set_compile.specs.Settings.{setting_of}
use Rattle.set_image.specs.Linked.{Linked, bodies_of}
use Rattle.set_image.specs.LinkRefusals.{IsAccepted, is_built}
use Rattle.image_rules.specs.Depths.{LeadAs, MoveRight, wide}

-- ---- declared types

-- a result that is an array has a dimension
abbrev pub ResultHasDims : Option DeclaredKind → Type 0
ResultHasDims result = (k : DeclaredKind) → result ≡ Some k → HasDims k

-- each array among the types that an instruction declares, in a method with this result, has a dimension
abbrev pub HaveDims : Option DeclaredKind → Op → Type 0
HaveDims result (op.Return of) = ResultHasDims result
HaveDims result (op.GetStatic used) = HasDims used.kind
HaveDims result (op.PutStatic used) = HasDims used.kind
HaveDims result (op.CallStatic used) = AllByRecursion HasDims used.descriptor.params × ResultHasDims used.descriptor.result
HaveDims result instruction = Unit {0}

-- ---- what is known of a body

-- a body of an accepted set
pub record IsOfAccepted (setting : Setting) (body : Body) : Type 0 where
  pub compiled : IsCompiled setting
  pub of_set : Contains setting.world.bodies body
  pub facts : BodyFacts setting.world body
  -- an array among its parameters has a dimension
  pub params : AllByRecursion HasDims body.params
  pub right : IsRight setting.world.files body (table_for setting body)
  -- an instruction that types do not reach stands there as nop
  pub known : (pc : ℕ) (instruction : Op) → op_at body.ops pc ≡ Some instruction → (instruction ≡ op.Nop) ⊎ ((frame : VFrame) × (table_for setting body pc ≡ Some frame))
  pub wide : IsWide setting body
  pub built : AllByRecursion (λ x. is_built x.1 ≡ true) body.ops
  -- and so has an array among the types that an instruction declares
  pub dims : (pc : ℕ) (instruction : Op) → op_at body.ops pc ≡ Some instruction → HaveDims body.result instruction
  pub handlers : body.handlers ≡ []
  pub insns : AreInsns setting body
  pub fits : length (code_of (source_for setting body)) ≤ 65535

-- each body of an accepted set is so
abbrev pub BodiesAreAccepted : Type 0
BodiesAreAccepted =
    (files : List (List ℕ)) (linked : Linked) → IsAccepted files linked → AllByRecursion (IsOfAccepted (setting_of linked)) (bodies_of linked)

-- ---- what follows

-- the machine instructions of an instruction lead where it leads
abbrev pub ExpansionsLeadAs : Type 0
ExpansionsLeadAs =
    (setting : Setting) (body : Body) → IsOfAccepted setting body → (pc : ℕ) (instruction : Op) → op_at body.ops pc ≡ Some instruction
    → LeadAs (offset_of (source_for setting body)) instruction (emitted_at setting body pc instruction)

-- what they name is there, and the machine runs them; so are those that extend parameters
abbrev pub NamesWell : Setting → Body → Emitted → Type 0
NamesWell setting body emitted = HasIds setting.image (method_of (source_for setting body)) emitted.0 × (runs_so_far emitted.0 ≡ true)

abbrev pub ExpansionsNameWell : Type 0
ExpansionsNameWell =
    (setting : Setting) (body : Body) → IsOfAccepted setting body → (pc : ℕ) (instruction : Op) → op_at body.ops pc ≡ Some instruction
    → AllByRecursion (NamesWell setting body) (emitted_at setting body pc instruction)

abbrev pub FillsNameWell : Type 0
FillsNameWell = (setting : Setting) (body : Body) → IsOfAccepted setting body → AllByRecursion (NamesWell setting body) (fills_for setting body)

-- ---- going on to the next machine instruction

-- an instruction stands at the pc, and its types are known
pub record IsKnownAt (setting : Setting) (body : Body) (pc : ℕ) : Type 0 where
  pub instruction : Op
  pub at : op_at body.ops pc ≡ Some instruction
  pub frame : VFrame
  pub types : table_for setting body pc ≡ Some frame

-- from a pc on, the next pc with a machine instruction, whose offset is the same, and of which something holds
pub record ComesTo (setting : Setting) (body : Body) (Holds : ℕ → Type 0) (pc : ℕ) : Type 0 where
  pub to : ℕ
  pub is : IsKnownAt setting body to
  pub emitted : Emitted
  pub rest : List Emitted
  pub here : emitted_at setting body to is.instruction ≡ emitted ∷ rest
  pub offset : offset_of (source_for setting body) to ≡ offset_of (source_for setting body) pc
  pub holds : Holds to

-- what is kept where an instruction without machine instructions goes on to the next one
abbrev pub IsKept : Setting → Body → (ℕ → Type 0) → Type 0
IsKept setting body Holds =
    (pc next : ℕ) (is : IsKnownAt setting body pc) → emitted_at setting body pc is.instruction ≡ [] → pc_after body.ops pc ≡ Some next → IsKnownAt setting body next → Holds pc → Holds next

-- from each pc whose types are known control comes to a machine instruction
abbrev pub KnownComeOn : Type 1
KnownComeOn =
    (setting : Setting) (body : Body) → IsOfAccepted setting body → (Holds : ℕ → Type 0) → IsKept setting body Holds → (pc : ℕ) → IsKnownAt setting body pc → Holds pc
    → ComesTo setting body Holds pc

-- ---- depths

-- what an instruction calls has the signature of the method that it names
abbrev pub CallsAs : Image → Ids → Op → Type 0
CallsAs image ids (op.CallStatic used) = called_by image (insns.CallS (ids.method used.method)) ≡ signature_used false used
CallsAs image ids instruction = Unit {0}

-- around an instruction there are such operands before and after it
pub record IsAround (instruction : Op) (before after : VFrame) (point : Point) : Type 0 where
  pub before_is : point.before ≡ wide before.stack
  pub after_is : goes_on instruction ≡ true → point.after ≡ wide after.stack

-- Where the rule of an instruction holds in a frame, its machine instructions have their operands, and lead to the depth of
-- the frame after it. Each whole number has two cells.
abbrev pub ExpansionsMoveRight : Type 0
ExpansionsMoveRight =
    (files : List ClassFile) (body : Body) (pc : ℕ) (instruction : Op) (before after : VFrame) → is_built instruction ≡ true → frame_after files body pc instruction before ≡ Some after
    → HaveDims body.result instruction
    → (image : Image) (method : Method) → method.sig.result ≡ result_code body.result
    → (locals : Locals) → ((local : ℕ) → locals.width local ≡ width.Two)
    → (ids : Ids) → CallsAs image ids instruction
    → (offset : ℕ → ℕ) (point : Point) → IsAround instruction before after point
    → MoveRight image method before.stack (expanded locals ids offset body.result point instruction) after.stack
