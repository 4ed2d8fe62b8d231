-- The depths over the machine instructions of a body, those that extend its parameters among them, fit the cells of its frame.
use Rattle.std.proofs.Common.{◌≡◌, ℕ, ◌≤◌, Bool, true, false, if◌then◌else◌, max, List, [], ◌∷◌, map, Option, refl, sym, ap, subst, ◌∙◌, arith}
use Rattle.std.specs.List.{AllByRecursion, flat_map, fold}
use Rattle.std.specs.Option.{option_map_or}
use Rattle.std.proofs.lemmas.List.Concat.{flat_map-cons}
use Rattle.image_instr.specs.declared.insn.Kind.{Kind}
use Rattle.image_instr.specs.declared.insn.Kind.TheVariants as kind
use Rattle.image_instr.specs.declared.insn.MInsn.TheVariants as insns
use Rattle.image_instr.specs.declared.signature.Effect.{Effect}
use Rattle.image_form.specs.declared.record.Image.{Image}
use Rattle.image_form.specs.declared.record.Method.{Method}
use Rattle.image_form.specs.Library.{signature}
use Rattle.image_check.specs.Visits.{Depth, FitsBody, HasOperands, empty}
use Rattle.body_form.specs.declared.body.Body.{Body}
use Rattle.body_form.specs.declared.types.VFrame.{VFrame}
use Rattle.jvm_model.specs.declared.plan.Fill.{Fill}
use Rattle.jvm_model.specs.declared.plan.Plan.{Plan}
use Rattle.jvm_model.specs.ImageEmission.{locals_by, method_of, offset_of}
use Rattle.jvm_model.specs.ImageExpansion.{Emitted, expanded}
use Rattle.jvm_model.specs.WidthsFrame.{body_cells, call_signature, fill_insns, greatest, locals_in, most_at, most_in, most_operands, no_ids, operand_cells, plan_of}
use Rattle.jvm_model.specs.WidthsShapes.{point_at, shapes_at}
use Rattle.jvm_model.specs.WidthsSlots.{cell_count, fills_of, slot_count}
use Rattle.type_rounds.proofs.tables.Lists.{all_from}
use Rattle.type_rounds.proofs.tables.Starts.{holds_at}
use Rattle.match_states.specs.Setting.{Setting, plan_for, source_for, table_for, widths_for}
use Rattle.match_code.specs.Standing.{emitted_at, fills_for}
use Rattle.match_code.proofs.CodeMoves.{compiled_body}
use Rattle.image_rules.specs.Depths.{GoWell, depth_behind, depth_of, wide}
use Rattle.image_rules.specs.Parts.{IsKnownAt, IsOfAccepted}
use Rattle.image_rules.proofs.CalledEffects.{MovesBy, all_move}
use Rattle.image_rules.proofs.KnownSteps.{ExpansionsCallAs, is_built_at}
use Rattle.image_rules.proofs.MostOperands.{Fits, StayWithin, same_most, within_most}
use Rattle.image_rules.proofs.WideShapes.{shapes_known}

-- ---- the greatest of some numbers

from_start : (start : ℕ) (numbers : List ℕ) → start ≤ fold max start numbers
from_start start [] = omega arith
from_start start (number ∷ numbers) = omega (arith, from_start (max start number) numbers)

each_below : (start : ℕ) (numbers : List ℕ) → AllByRecursion (λ number. number ≤ fold max start numbers) numbers
each_below start [] = tt
each_below start (number ∷ numbers) = (omega (arith, from_start (max start number) numbers), each_below (max start number) numbers)

-- ---- what extends parameters

-- they have their operands, and leave none
record FillsGo (image : Image) (method : Method) (list : List Emitted) : Type 0 where
  pub well : GoWell image method empty list
  pub behind : depth_behind image empty list ≡ empty
  pub moves : AllByRecursion (MovesBy image (signature 0 0 0)) list

takes_all : {effect : Effect} {d : Depth} → effect.ref_pop ≡ d.refs → effect.cell_pop ≡ d.cells → HasOperands effect d
takes_all {effect} {d} refs cells = record { refs = omega (arith, refs); cells = omega (arith, cells) }

one_fill : (image : Image) (method : Method) (zero : Bool) (from to : ℕ) (rest : List Emitted) → FillsGo image method rest
    → FillsGo image method ((insns.Load kind.One from, []) ∷ (if zero then insns.Zx else insns.Sx, []) ∷ (insns.Store kind.Two to, []) ∷ rest)
unfolding GoWell depth_behind
one_fill image method true from to rest go =
    record {
      well = (takes_all refl refl, tt, (takes_all refl refl, tt, (takes_all refl refl, tt, go.well)));
      behind = go.behind;
      moves = (refl, (refl, (refl, go.moves)));
    }
one_fill image method false from to rest go =
    record {
      well = (takes_all refl refl, tt, (takes_all refl refl, tt, (takes_all refl refl, tt, go.well)));
      behind = go.behind;
      moves = (refl, (refl, (refl, go.moves)));
    }

no_fills : (image : Image) (method : Method) → FillsGo image method []
unfolding GoWell depth_behind
no_fills image method = record { well = tt; behind = refl; moves = tt }

fills_go : (image : Image) (method : Method) (fills : List Fill) → FillsGo image method (flat_map fill_insns fills)
fills_go image method [] = no_fills image method
fills_go image method (fill ∷ fills) =
    subst (FillsGo image method) (sym (flat_map-cons fill_insns fill fills))
    (one_fill image method fill.zero fill.from fill.to (flat_map fill_insns fills) (fills_go image method fills))

-- ---- the body

module _ (setting : Setting) (body : Body) (of : IsOfAccepted setting body) where
  -- the greatest number of operand cells of the body
  abbrev pub most : ℕ
  most = most_in body (widths_for setting body) (table_for setting body)

  abbrev pub method : Method
  method = method_of (source_for setting body)

  plan_is : plan_for setting body ≡ plan_of body (table_for setting body) (plan_for setting body).narrow
  plan_is = (compiled_body setting of.compiled body of.of_set).plan

  -- the frame has room for so many
  pub fits_body : (d : Depth) → Fits most d → FitsBody method d
  fits_body d fits =
      let refs : (plan_for setting body).ref_locals ≡ slot_count body = ap (λ (plan : Plan). plan.ref_locals) plan_is in
      let cells : (plan_for setting body).cell_locals ≡ cell_count body (widths_for setting body) = ap (λ (plan : Plan). plan.cell_locals) plan_is in
      let all : (plan_for setting body).body ≡ body_cells body (widths_for setting body) (table_for setting body) = ap (λ (plan : Plan). plan.body) plan_is in
      omega (arith, refs, cells, all, fits)

  -- ---- expansions

  most_here : (pc : ℕ) (is : IsKnownAt setting body pc) → most_at body (widths_for setting body) (table_for setting body) (pc, is.instruction) ≤ most
  most_here pc is =
      let at = most_at body (widths_for setting body) (table_for setting body) in
      let numbers = map at body.ops in
      let low = holds_at (λ x. at x ≤ greatest numbers) body.ops (all_from (λ number. number ≤ greatest numbers) at body.ops (each_below 0 numbers)) pc is.instruction is.at in
      omega (arith, low)

  most_emitted : (pc : ℕ) (is : IsKnownAt setting body pc)
      → most_operands (call_signature is.instruction) (operand_cells (wide is.frame.stack)) (emitted_at setting body pc is.instruction) ≤ most
  most_emitted pc is =
      let source = source_for setting body in
      let widths = widths_for setting body in
      let table = table_for setting body in
      let sig = call_signature is.instruction in
      let point = point_at body.ops widths table pc in
      let by_plan = locals_by source.plan widths in
      let by_body = locals_in body widths in
      let plain = expanded by_body no_ids (λ (to : ℕ). 0) body.result point is.instruction in
      let same : most_operands sig (operand_cells (wide is.frame.stack)) (emitted_at setting body pc is.instruction) ≡ most_operands sig (operand_cells (wide is.frame.stack)) plain =
      same_most sig by_plan.slot by_body.slot by_plan.cell by_body.cell widths.local source.ids no_ids (offset_of source) (λ (to : ℕ). 0) body.result point
      (operand_cells (wide is.frame.stack)) is.instruction
      (is_built_at setting body of pc is.instruction is.at)
      in
      let counted : most_at body widths table (pc, is.instruction) ≡ most_operands sig (operand_cells (wide is.frame.stack)) plain =
      ap (λ (o : Option VFrame). option_map_or (λ (f : VFrame). most_operands sig (operand_cells (shapes_at widths table pc)) plain) o 0) is.types
      ∙ ap (λ (shapes : List Kind). most_operands sig (operand_cells shapes) plain) (shapes_known setting body of.wide pc is.frame is.types)
      in
      omega (arith, same, counted, most_here pc is)

  -- over the machine instructions of a known instruction
  pub known_within : ExpansionsCallAs → (pc : ℕ) (is : IsKnownAt setting body pc)
      → GoWell setting.image method (depth_of (wide is.frame.stack)) (emitted_at setting body pc is.instruction)
      → StayWithin most setting.image (depth_of (wide is.frame.stack)) (emitted_at setting body pc is.instruction)
  known_within calls pc is well =
      let source = source_for setting body in
      let widths = widths_for setting body in
      within_most setting.image method (call_signature is.instruction) most (depth_of (wide is.frame.stack)) (emitted_at setting body pc is.instruction)
      (all_move setting.image (locals_by source.plan widths) source.ids (offset_of source) body.result (point_at body.ops widths (table_for setting body) pc) is.instruction
      (is_built_at setting body of pc is.instruction is.at) (calls setting body of pc is.instruction is.at))
      well (most_emitted pc is)

  -- ---- at entry

  fills_are : fills_for setting body ≡ flat_map fill_insns (fills_of body (widths_for setting body))
  fills_are = ap (λ (plan : Plan). flat_map fill_insns plan.fills) plan_is

  entry_go : FillsGo setting.image method (fills_for setting body)
  entry_go = fills_go setting.image method (source_for setting body).plan.fills

  pub entry_well : GoWell setting.image method empty (fills_for setting body)
  entry_well = entry_go.well

  pub entry_behind : depth_behind setting.image empty (fills_for setting body) ≡ empty
  entry_behind = entry_go.behind

  pub entry_within : StayWithin most setting.image empty (fills_for setting body)
  entry_within =
      let numbers = ap (λ (list : List Emitted). most_operands (signature 0 0 0) 0 list) fills_are in
      within_most setting.image method (signature 0 0 0) most empty (fills_for setting body) entry_go.moves entry_go.well (omega (arith, numbers))
