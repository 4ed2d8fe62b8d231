-- Why a set has no image: a form that is not built, a frame that is too large, too many of one kind, or code that is too
-- long, each tested over the whole set before the next.
use Rattle.std.specs.Prelude.{◌≡◌, ◌⊎◌, ℕ, ◌-◌, Bool, true, false, nat_lt, if◌then◌else◌, List, [], ◌∷◌, length, Option, Some, None, option_map, slice_get}
use Rattle.std.specs.List.{filter_map}
use Rattle.std.specs.Option.{option_or}
use Rattle.library.specs.Classes.{first_own}
use Rattle.class_file.specs.declared.record.ClassFile.{ClassFile}
use Rattle.image_form.specs.declared.record.Image.{Image}
use Rattle.body_form.specs.declared.body.Body.{Body}
use Rattle.body_form.specs.declared.op.Op.{Op}
use Rattle.body_form.specs.declared.op.Op.TheVariants as op
use Rattle.body_form.specs.Flow.{Ops}
use Rattle.jvm_model.specs.declared.refusal.Cause.{Cause}
use Rattle.jvm_model.specs.declared.refusal.Cause.TheVariants as cause
use Rattle.jvm_model.specs.declared.refusal.Refusal.{Refusal}
use Rattle.jvm_model.specs.Phases.{refusal_of_insn, saturated, too_many}
use Rattle.jvm_model.specs.WidthsShapes.{widths_of}
use Rattle.jvm_model.specs.WidthsFrame.{frame_cells, most_frame_cells}
use Rattle.jvm_model.specs.ImageEmission.{code_of, most_code_bytes}
use Rattle.jvm_model.specs.ImageLimits.{first_excess}
use Rattle.jvm_model.specs.ImageNumbering.{Numbering}
use Rattle.set_image.specs.Linked.{Linked, IsOfFiles, Typed, bodies_of, source_by, numbering_in, image_in}

-- ---- the form that is built

-- whole numbers, locals, operands, branches, statics, and calls of static methods
abbrev pub is_built : Op → Bool
is_built op.Nop = true
is_built (op.Const constant) = true
is_built (op.Load of local) = true
is_built (op.Store of local) = true
is_built (op.Inc local amount) = true
is_built (op.Stack form) = true
is_built (op.Bin operation) = true
is_built (op.Unary operation) = true
is_built (op.If condition target) = true
is_built (op.IfCmp condition target) = true
is_built (op.IfRef condition target) = true
is_built (op.Goto target) = true
is_built (op.Switch form default rows) = true
is_built (op.Return of) = true
is_built (op.GetStatic used) = true
is_built (op.PutStatic used) = true
is_built (op.CallStatic used) = true
is_built instruction = false

-- the pc of the first of these instructions that is none of them
unfoldable pub first_outside : Ops → Option ℕ
first_outside [] = None
first_outside (x ∷ ops) = if is_built x.1 then first_outside ops else Some x.0

-- an exception table is of no form that is built; it is told at pc 0
abbrev pub outside_body : Body → Option ℕ
outside_body body = if nat_lt 0 (length body.handlers) then Some 0 else first_outside body.ops

-- ---- refusals of a body

-- the refusal of a body at a pc, with a value
abbrev pub refusal_of_body : Cause → Body → ℕ → ℕ → Refusal
refusal_of_body why body pc value = refusal_of_insn why (body.class - first_own) body.method pc value

abbrev pub form_refusal : Body → Option Refusal
form_refusal body = option_map (λ pc. refusal_of_body cause.Unbuilt body pc 0) (outside_body body)

-- the cells of its frame
abbrev pub cells_in : Typed → ℕ
cells_in typed = let body = typed.body in frame_cells body (widths_of [] typed.table body.ops) typed.table

abbrev pub frame_refusal : Typed → Option Refusal
frame_refusal typed = if nat_lt most_frame_cells (cells_in typed) then Some (refusal_of_body cause.FrameTooLarge typed.body 0 (cells_in typed)) else None

-- the bytes of its code
abbrev pub bytes_in : Numbering → Typed → ℕ
bytes_in numbering typed = length (code_of (source_by numbering typed))

abbrev pub length_refusal : Numbering → Typed → Option Refusal
length_refusal numbering typed =
    if nat_lt most_code_bytes (bytes_in numbering typed) then Some (refusal_of_body cause.CodeTooLong typed.body 0 (saturated (bytes_in numbering typed))) else None

-- ---- refusals of a set

-- the refusal of the first of these that has one
abbrev pub first_of : {X : Type 0} → (X → Option Refusal) → List X → Option Refusal
first_of refusal items = slice_get (filter_map refusal items) 0

-- the refusal of the first count that is above its limit
abbrev pub count_refusal : List ClassFile → Numbering → Option Refusal
count_refusal classes numbering = option_map (λ count. too_many count.0 count.1) (first_excess classes numbering)

-- the first refusal of them all
abbrev pub link_refusal : Linked → Option Refusal
link_refusal linked =
    option_or (first_of form_refusal (bodies_of linked))
    (option_or (first_of frame_refusal linked.code) (option_or (count_refusal linked.classes (numbering_in linked)) (first_of (length_refusal (numbering_in linked)) linked.code)))

-- ---- what is answered

-- the set has no refusal, and this is its image
pub record IsLinkedImage (linked : Linked) (image : Image) : Type 0 where
  pub accepted : link_refusal linked ≡ None
  pub image_is : image ≡ image_in linked

-- there was no memory, or this is the refusal of the set
abbrev pub IsLinkRefusal : Linked → Refusal → Type 0
IsLinkRefusal linked why = (why.cause ≡ cause.Memory) ⊎ (link_refusal linked ≡ Some why)

-- the set is that of files that no phase refuses
pub record IsAccepted (files : List (List ℕ)) (linked : Linked) : Type 0 where
  pub of_files : IsOfFiles files linked
  pub accepted : link_refusal linked ≡ None
