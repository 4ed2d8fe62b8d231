-- The cells of a method's frame: four of its header, those of its locals, and the greatest number of operand cells at any
-- point of any expansion.
use Rattle.std.specs.Prelude.{ℕ, ◌+◌, ◌-◌, max, Bool, true, false, if◌then◌else◌, List, [], ◌∷◌, ◌++◌, map, filter, length, Option, Some, None, unwrap_or}
use Rattle.std.specs.Option.{option_map_or}
use Rattle.std.specs.List.{flat_map, sum_by, fold}
use Rattle.class_pool.specs.declared.descriptor.Descriptor.{Descriptor}
use Rattle.class_pool.specs.declared.descriptor.Kind.{Kind as DeclaredKind}
use Rattle.image_instr.specs.declared.insn.Kind.{Kind}
use Rattle.image_instr.specs.declared.insn.Kind.TheVariants as kind
use Rattle.image_instr.specs.declared.insn.MInsn.TheVariants as insns
use Rattle.image_instr.specs.declared.signature.Effect.{Effect}
use Rattle.image_instr.specs.declared.signature.Sig.{Sig}
use Rattle.image_instr.specs.Effect.{effect_of}
use Rattle.image_form.specs.Library.{signature}
use Rattle.body_form.specs.declared.body.Body.{Body}
use Rattle.body_form.specs.declared.op.MethodUse.{MethodUse}
use Rattle.body_form.specs.declared.op.Op.{Op}
use Rattle.body_form.specs.declared.op.Op.TheVariants as op
use Rattle.jvm_model.specs.declared.entries.Entry.{Entry}
use Rattle.jvm_model.specs.declared.plan.Fill.{Fill}
use Rattle.jvm_model.specs.declared.plan.Plan.{Plan}
use Rattle.jvm_model.specs.Initialisers.{is_reference_kind}
use Rattle.jvm_model.specs.TypesRight.{Table}
use Rattle.jvm_model.specs.WidthsShapes.{Widths, widths_of, shapes_at, point_at}
use Rattle.jvm_model.specs.WidthsSlots.{passed_cells, locals_of, slot_of, slot_count, cell_of, cell_count, fills_of}
use Rattle.jvm_model.specs.ImageExpansion.{Emitted, Locals, Ids, kind_in, refs_in, cells_in, expanded}

-- ---- signatures

-- the code of a result: 0 none, 1 a reference, 2 one cell, 3 two
abbrev pub code_of_kind : Kind → ℕ
code_of_kind kind.Ref = 1
code_of_kind kind.One = 2
code_of_kind kind.Two = 3

abbrev pub result_code : Option DeclaredKind → ℕ
result_code result = option_map_or (λ k. code_of_kind (kind_in k)) result 0

-- what a method takes and gives: the object that it is called on, where it has one, and its parameters
abbrev pub signature_for : Bool → List DeclaredKind → Option DeclaredKind → Sig
signature_for instance params result =
    signature ((if instance then 1 else 0) + length (filter is_reference_kind params)) (sum_by passed_cells params) (result_code result)

abbrev pub signature_used : Bool → MethodUse → Sig
signature_used instance used = signature_for instance used.descriptor.params used.descriptor.result

-- of the method that an instruction calls
abbrev pub call_signature : Op → Sig
call_signature (op.CallStatic used) = signature_used false used
call_signature (op.CallVirtual used) = signature_used true used
call_signature (op.CallSpecial used) = signature_used true used
call_signature (op.CallInterface used) = signature_used true used
call_signature instruction = signature 0 0 0

-- ---- operands

-- the cells of both halves
abbrev pub popped : Effect → ℕ
popped effect = effect.ref_pop + effect.cell_pop

abbrev pub pushed : Effect → ℕ
pushed effect = effect.ref_push + effect.cell_push

abbrev pub height_after : Sig → ℕ → Emitted → ℕ
height_after sig height emitted = (height - popped (effect_of emitted.0 sig)) + pushed (effect_of emitted.0 sig)

-- the greatest number of operand cells before, between and after these instructions
unfoldable pub most_operands : Sig → ℕ → List Emitted → ℕ
most_operands sig height [] = height
most_operands sig height (emitted ∷ rest) = max height (most_operands sig (height_after sig height emitted) rest)

abbrev pub operand_cells : List Kind → ℕ
operand_cells shapes = refs_in shapes + cells_in shapes

-- ids and offsets do not count for it
abbrev pub no_ids : Ids
no_ids = record { static = λ member. 0; field = λ member. 0; type = λ type. 0; method = λ member. 0; selector = λ used. 0 }

abbrev pub locals_in : Body → Widths → Locals
locals_in body widths = record { slot = slot_of body; cell = λ local. unwrap_or (cell_of body widths local) 0; width = widths.local }

-- at an instruction that is reached
abbrev pub most_at : Body → Widths → Table → ℕ × Op → ℕ
most_at body widths table x =
    option_map_or (λ frame. most_operands (call_signature x.1) (operand_cells (shapes_at widths table x.0)) (expanded (locals_in body widths) no_ids (λ pc. 0) body.result (point_at body.ops widths table x.0) x.1)) (table x.0) 0

-- what extends parameters at entry
abbrev pub fill_insns : Fill → List Emitted
fill_insns fill =
    (insns.Load kind.One fill.from, []) ∷ (if fill.zero then insns.Zx else insns.Sx, []) ∷ (insns.Store kind.Two fill.to, []) ∷ []

abbrev pub greatest : List ℕ → ℕ
greatest numbers = fold max 0 numbers

abbrev pub most_in : Body → Widths → Table → ℕ
most_in body widths table =
    max (most_operands (signature 0 0 0) 0 (flat_map fill_insns (fills_of body widths))) (greatest (map (most_at body widths table) body.ops))

-- ---- the frame

abbrev pub body_cells : Body → Widths → Table → ℕ
body_cells body widths table = slot_count body + (cell_count body widths + most_in body widths table)

abbrev pub frame_cells : Body → Widths → Table → ℕ
frame_cells body widths table = 4 + body_cells body widths table

-- the most cells of a frame
abbrev pub most_frame_cells : ℕ
most_frame_cells = 32767

-- how the frame of a method is laid out, with these types and whole numbers of one cell
abbrev pub plan_with : Body → Table → List Entry → Widths → Plan
plan_with body table narrow widths =
    record {
      narrow = narrow;
      refs = map (slot_of body) (locals_of body);
      cells = map (cell_of body widths) (locals_of body);
      fills = fills_of body widths;
      ref_locals = slot_count body;
      cell_locals = cell_count body widths;
      body = body_cells body widths table;
    }

abbrev pub plan_of : Body → Table → List Entry → Plan
plan_of body table narrow = plan_with body table narrow (widths_of narrow table body.ops)
