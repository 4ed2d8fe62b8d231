-- The code of a method: its instructions in order of pc, each expanded, behind what extends its parameters at entry.
use Rattle.std.specs.Prelude.{ℕ, ◌+◌, nat_lt, if◌then◌else◌, List, [], ◌∷◌, ◌++◌, map, filter, length, Option, Some, None, option_and_then, slice_get, unwrap_or}
use Rattle.std.specs.Option.{option_map_or}
use Rattle.std.specs.List.{flat_map}
use Rattle.image_form.specs.declared.record.HandlerEntry.{HandlerEntry}
use Rattle.image_form.specs.declared.record.Method.{Method}
use Rattle.class_tree.specs.Subtypes.{class_type}
use Rattle.body_form.specs.declared.body.Body.{Body}
use Rattle.body_form.specs.declared.body.Guard.{Guard}
use Rattle.body_form.specs.declared.op.Op.{Op}
use Rattle.body_form.specs.Flow.{Ops}
use Rattle.jvm_model.specs.declared.plan.Fill.{Fill}
use Rattle.jvm_model.specs.declared.plan.Plan.{Plan}
use Rattle.jvm_model.specs.TypesRight.{Table}
use Rattle.jvm_model.specs.WidthsShapes.{Widths, widths_of, point_at}
use Rattle.jvm_model.specs.WidthsFrame.{signature_for, fill_insns}
use Rattle.jvm_model.specs.ImageExpansion.{Emitted, Locals, Ids, expanded, bytes_of}

-- ---- one instruction

-- the locals as a plan has them
abbrev pub locals_by : Plan → Widths → Locals
locals_by plan widths =
    record {
      slot = λ local. option_and_then (λ slot. slot) (slice_get plan.refs local);
      cell = λ local. unwrap_or (option_and_then (λ cell. cell) (slice_get plan.cells local)) 0;
      width = widths.local;
    }

-- what a method is expanded by: its body, its types and widths, its plan, and the ids of what it names
pub record Source : Type 0 where
  pub body : Body
  pub table : Table
  pub widths : Widths
  pub plan : Plan
  pub ids : Ids

abbrev pub source_of : Body → Table → Plan → Ids → Source
source_of body table plan ids = record { body = body; table = table; widths = widths_of plan.narrow table body.ops; plan = plan; ids = ids }

-- the machine instructions of the instruction at a pc, where these are the offsets of pcs
abbrev pub expansion_at : Source → (ℕ → ℕ) → ℕ × Op → List Emitted
expansion_at source offset x =
    expanded (locals_by source.plan source.widths) source.ids offset source.body.result (point_at source.body.ops source.widths source.table x.0) x.1

abbrev pub bytes_at : Source → (ℕ → ℕ) → ℕ × Op → List ℕ
bytes_at source offset x = bytes_of (expansion_at source offset x)

-- how many bytes they are; where jumps lead does not count for it
abbrev pub size_at : Source → ℕ × Op → ℕ
size_at source x = length (bytes_at source (λ pc. 0) x)

-- ---- the code

abbrev pub fill_bytes : Source → List ℕ
fill_bytes source = bytes_of (flat_map fill_insns source.plan.fills)

-- the bytes of all of these instructions whose pc is below this one
unfoldable pub size_below : Source → Ops → ℕ → ℕ
size_below source [] pc = 0
size_below source (x ∷ ops) pc = if nat_lt x.0 pc then size_at source x + size_below source ops pc else 0

-- the offset of a pc, behind what extends parameters
abbrev pub offset_of : Source → ℕ → ℕ
offset_of source pc = length (fill_bytes source) + size_below source source.body.ops pc

abbrev pub code_of : Source → List ℕ
code_of source = fill_bytes source ++ flat_map (bytes_at source (offset_of source)) source.body.ops

-- ---- handlers

-- the id of the class that a row catches, or the number that stands for any
abbrev pub caught_id : Source → Guard → ℕ
caught_id source guard = option_map_or (λ class. source.ids.type (class_type class)) guard.class 65535

abbrev pub handler_of : Source → Guard → HandlerEntry
handler_of source guard =
    record {
      start = offset_of source guard.start;
      end = offset_of source guard.end;
      target = offset_of source guard.target;
      class = caught_id source guard;
    }

-- a row that covers no machine instruction is left out
abbrev pub handlers_of : Source → List HandlerEntry
handlers_of source = filter (λ handler. nat_lt handler.start handler.end) (map (handler_of source) source.body.handlers)

-- ---- the method

abbrev pub method_of : Source → Method
method_of source =
    record {
      sig = signature_for source.body.instance source.body.params source.body.result;
      ref_locals = source.plan.ref_locals;
      cell_locals = source.plan.cell_locals;
      body = source.plan.body;
      code = code_of source;
      handlers = handlers_of source;
    }

-- the most bytes of a method's code
abbrev pub most_code_bytes : ℕ
most_code_bytes = 65535
