-- What the code of a method is made of, and what is known of it.
use Rattle.std.specs.Prelude.{◌≡◌, ℕ, ◌+◌, ◌<◌, ◌≤◌, Bool, true, if◌then◌else◌, List, map, length, get_or}
use Rattle.std.specs.List.{AllByRecursion, AllPairs}
use Rattle.code_reach.specs.Reached.{RisesFrom}
use Rattle.image_instr.specs.declared.insn.Width.{Width}
use Rattle.image_instr.specs.declared.insn.Width.TheVariants as width
use Rattle.body_form.specs.declared.body.Body.{Body}
use Rattle.jvm_model.specs.declared.entries.Entry.{Entry}
use Rattle.jvm_model.specs.declared.ids.Ids.{Ids}
use Rattle.jvm_model.specs.declared.plan.Plan.{Plan}
use Rattle.jvm_model.specs.ImageEmission.{Source, source_of, locals_by, code_of, most_code_bytes}
use Rattle.jvm_model.specs.ImageNumbering.{ids_of}
use Rattle.jvm_model.specs.NumberedIds.{numbers_of}
use Rattle.jvm_model.specs.WidthsShapes.{Point, point_at}
use Rattle.type_table.specs.Types.{Rows, table_of}
use Rattle.expansion.specs.Expanding.{KeepsCounts}
use Rattle.expansion.specs.Seen.{KeepsRows}
use Rattle.flow_split.specs.Splits.{comes_before}
use Rattle.infuse_emit.specs.declared.parts.Parts.{Parts}
use Rattle.infuse_emit.specs.declared.refusal.EmitRefusal.{EmitRefusal}
use Rattle.infuse_emit.specs.declared.refusal.EmitRefusal.TheVariants.{CodeTooLong, Memory}
use Rattle.infuse_emit.specs.Instruction.{Seen}
use Rattle.infuse_emit.specs.Offsets.{offset_in}

-- what a method is expanded by, with these rows of types and numbers of what it names
abbrev pub source_by : Body → Rows → Plan → Ids → Source
source_by body rows plan ids = source_of body (table_of rows) plan (ids_of (numbers_of ids))

abbrev pub source_in : Parts → Source
source_in parts = source_by parts.body.now parts.types.now parts.plan.now parts.ids.now

-- the pcs of rows, each with how many operands there are
abbrev pub heights_in : Rows → List (ℕ × ℕ)
heights_in rows = map (λ row. (row.0, length row.1.stack)) rows

-- the ids of types and methods and the numbers of selectors fit two bytes
pub record FitIds (ids : Ids) : Type 0 where
  pub types : length ids.types < 65504
  pub methods : length ids.methods < 65504
  pub selectors : length ids.selectors < 65536

-- the entries are in order, each once
abbrev pub AreRising : List Entry → Type 0
AreRising entries = AllPairs (λ first second. comes_before first second ≡ true) entries

-- one cell where this is so, and else this width
abbrev pub one_where : Bool → Width → Width
one_where one otherwise = if one then width.One else otherwise

-- the instructions keep to what machine instructions count
abbrev pub KeepLimits : Body → Type 0
KeepLimits body = AllByRecursion (λ x. KeepsCounts x.1 × KeepsRows x.1) body.ops

-- what was computed of the types and the widths is theirs
pub record AreParts (parts : Parts) : Type 0 where
  pub rise : RisesFrom 0 parts.types.now
  pub order : let plan = parts.plan.now in AreRising plan.narrow
  pub ids : FitIds parts.ids.now
  pub heights : parts.heights.now ≡ heights_in parts.types.now
  pub widths : (local : ℕ) → let source = source_in parts in get_or parts.widths.now local width.Two ≡ source.widths.local local

-- the point of the instruction at a pc
abbrev pub point_in : Parts → ℕ → Point
point_in parts pc = let source = source_in parts in point_at source.body.ops source.widths source.table pc

-- of what the bytes of the instruction at a pc are told, where these are the offsets of instructions
abbrev pub seen_in : Parts → List ℕ → ℕ → Seen
seen_in parts offsets pc =
    let source = source_in parts in
    record { locals = locals_by source.plan source.widths; ids = source.ids; offset = offset_in source.body.ops offsets; point = point_in parts pc }

-- at most 255 arguments, the object that the method is called on among them
abbrev pub HasFewParameters : Body → Type 0
HasFewParameters body = (if body.instance then 1 else 0) + length body.params ≤ 255

-- the code has so many bytes, which exceed the limit, or there was no memory
abbrev pub IsTooLong : Source → EmitRefusal → Type 0
IsTooLong source (CodeTooLong method bytes) = (method ≡ (let body = source.body in body.method)) × (bytes ≡ length (code_of source)) × (most_code_bytes < bytes)
IsTooLong source Memory = Unit {0}
