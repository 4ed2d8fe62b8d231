-- The slots and cells of the locals that instructions name are within those of the frame.
use Rattle.std.proofs.Common.{◌≡◌, inl, inr, ℕ, ℤ, ◌+◌, ◌<◌, ◌≤◌, Bool, true, false, ◌&&◌, ◌||◌, not, nat_eq, nat_le, nat_lt, cond, List, [], ◌∷◌, ◌++◌, length, slice_get, Option, Some, None, unwrap_or, refl, sym, ap, subst, ◌∙◌, arith}
use Rattle.std.specs.List.{position_or_len}
use Rattle.std.specs.Option.{option_map_or, option_or}
use Rattle.std.proofs.lemmas.Bool.{cases_Bool, and_parts, leb-true, ltb-true}
use Rattle.std.proofs.lemmas.Bool.Decides.{nat_tests}
use Rattle.std.proofs.lemmas.Option.{none-some, same_Some, slice_get_within}
use Rattle.insn_form.specs.declared.ValueKind.{ValueKind}
use Rattle.insn_form.specs.declared.ValueKind.TheVariants as value_kind
use Rattle.image_instr.specs.declared.insn.Kind.TheVariants as kind
use Rattle.image_instr.specs.declared.insn.MInsn.TheVariants as insns
use Rattle.image_instr.specs.declared.insn.Width.{Width}
use Rattle.image_instr.specs.declared.insn.Width.TheVariants as width
use Rattle.image_form.specs.declared.record.Method.{Method}
use Rattle.image_check.specs.Ids.{HasLocal, kind_of}
use Rattle.body_form.specs.declared.body.Body.{Body}
use Rattle.body_form.specs.declared.op.Op.{Op}
use Rattle.body_form.specs.declared.op.Op.TheVariants as op
use Rattle.body_form.specs.declared.types.VFrame.{VFrame}
use Rattle.body_form.specs.declared.types.VType.{VType}
use Rattle.body_form.specs.Flow.{goes_on}
use Rattle.jvm_model.specs.declared.plan.Plan.{Plan}
use Rattle.jvm_model.specs.ImageEmission.{locals_by, method_of}
use Rattle.jvm_model.specs.ImageExpansion.{Locals, alone, load, store}
use Rattle.jvm_model.specs.Initialisers.{is_whole_kind}
use Rattle.jvm_model.specs.TypesFrames.{is_int}
use Rattle.jvm_model.specs.TypesRules.{Change, change_of, has_kind, is_within, is_last, increment, op_at, plain}
use Rattle.jvm_model.specs.TypesRules as rules
use Rattle.jvm_model.specs.WidthsShapes.{Widths, kind_of_width}
use Rattle.jvm_model.specs.WidthsSlots.{first_cell, room_cells, passed_cells, parameter_at, is_parameter, is_reference_parameter, is_store, is_stored, passed, extended, stored, reference_locals, slot_of, slot_count, cell_of, cell_count}
use Rattle.match_states.specs.Setting.{Setting, table_for, plan_for, source_for, widths_for}
use Rattle.match_code.proofs.CodeMoves.{compiled_body}
use Rattle.follow_operands.proofs.LocalRooms.{or_second, room_cell}
use Rattle.follow_operands.proofs.LocalRules.{where_true, and_then_some}
use Rattle.follow_operands.proofs.ReferenceSlots.{is_slotted, has_slot}
use Rattle.follow_operands.proofs.SlottedTables.{body_slotted}
use Rattle.follow_operands.proofs.WideLocals.{any_there, cells_inside, source_cell, source_slot, stored_cell, two_cells_wide}
use Rattle.follow_calls.proofs.CalledRooms.{room_by_test}
use Rattle.image_rules.specs.Parts.{IsOfAccepted}
use Rattle.image_rules.proofs.names.NumberTables.{numbered_types}
use Rattle.image_rules.proofs.names.NumberTypes.{is_numbered}
use Rattle.image_rules.proofs.names.Plain.{AreWell, IsWell}

-- ---- what rules say of locals

loaded : (frame : VFrame) (k : ValueKind) (found : Option VType) (change : Change) → rules.load frame k found ≡ Some change → (type : VType) × (found ≡ Some type) × (has_kind k type ≡ true)
loaded frame k None change is = absurd (none-some change is)
loaded frame k (Some type) change is = (type, refl, (where_true (has_kind k type) (plain frame [] (type ∷ [])) change is).0)

counted : (frame : VFrame) (found : Option VType) (change : Change) → increment frame found ≡ Some change → (type : VType) × (found ≡ Some type) × (is_int type ≡ true)
counted frame None change is = absurd (none-some change is)
counted frame (Some type) change is = (type, refl, (where_true (is_int type) (plain frame [] []) change is).0)

stored_low : (frame : VFrame) (k : ValueKind) (local : ℕ) (stack : List VType) (change : Change) → rules.store frame k local stack ≡ Some change → local < length frame.locals
stored_low frame k local [] change is = absurd (none-some change is)
stored_low frame k local (type ∷ stack) change is =
    ltb-true local (length frame.locals) (and_parts (has_kind k type) (nat_lt local (length frame.locals)) (where_true (has_kind k type && nat_lt local (length frame.locals)) _ change is).0).1

-- ---- slots and cells

placed : (at count place : ℕ) (within : Bool) → nat_lt at count ≡ within → cond within (Some at) None ≡ Some place → place < count
placed at count place true within is =
    let same : at ≡ place = same_Some at place is in
    let low : at < count = ltb-true at count within in
    omega (arith, same, low)
placed at count place false within is = absurd (none-some place is)

slot_within : (body : Body) (local slot : ℕ) → slot_of body local ≡ Some slot → slot < slot_count body
slot_within body local slot is = placed (position_or_len (nat_eq local) (reference_locals body)) (slot_count body) slot _ refl is

later_found : (found lower : Option ℕ) (cell : ℕ) → lower ≡ Some cell → (some : ℕ) × (option_or found lower ≡ Some some)
later_found None lower cell is = (cell, is)
later_found (Some some) lower cell is = (some, refl)

-- a local that is a whole number has cells
pub numbered_cell : (body : Body) (widths : Widths) → ((local : ℕ) → widths.local local ≡ width.Two) → (local : ℕ) → local < body.max_locals → is_numbered body local ≡ true → (cell : ℕ) × (cell_of body widths local ≡ Some cell)
numbered_cell body widths two local low is =
    elim (cases_Bool (is_parameter is_whole_kind body local)) [
      | inl parameter ↦
          let size : ℕ → ℕ = λ other. option_map_or passed_cells (parameter_at body other) 0 in
          let found = room_cell 0 (passed body) local (room_by_test size (is_parameter is_whole_kind body) body.max_locals local low ∙ parameter) in
          later_found (first_cell (room_cells (passed body)) (extended body widths ++ stored body widths) local) (first_cell 0 (passed body) local) found.0 found.1
      | inr other ↦ stored_cell body widths two local low (sym (ap (λ (b : Bool). b || is_stored value_kind.Int body local) other) ∙ is)
    ]

module _ (setting : Setting) (body : Body) (is : IsOfAccepted setting body) where
  abbrev locals : Locals
  locals = locals_by (plan_for setting body) (widths_for setting body)

  abbrev method : Method
  method = method_of (source_for setting body)

  pub two_cells : (local : ℕ) → (widths_for setting body).local local ≡ width.Two
  two_cells local = two_cells_wide setting body is.wide local

  slots_are : method.ref_locals ≡ slot_count body
  slots_are = ap (λ (plan : Plan). plan.ref_locals) (compiled_body setting is.compiled body is.of_set).plan

  pub cells_are : method.cell_locals ≡ cell_count body (widths_for setting body)
  cells_are = ap (λ (plan : Plan). plan.cell_locals) (compiled_body setting is.compiled body is.of_set).plan

  module _ (local : ℕ) (low : local < body.max_locals) where
    slot_there : (slot : ℕ) → locals.slot local ≡ Some slot → HasLocal method kind.Ref slot
    slot_there slot has =
        let within = slot_within body local slot (sym (source_slot setting is.compiled body is.of_set local low) ∙ has) in
        let count = slots_are in
        omega (arith, within, count)

    named_slot : is_slotted body local ≡ true → HasLocal method kind.Ref (unwrap_or (locals.slot local) 0)
    named_slot slotted =
        let found = has_slot body local low slotted in
        let has = source_slot setting is.compiled body is.of_set local low ∙ found.1 in
        subst (λ (o : Option ℕ). HasLocal method kind.Ref (unwrap_or o 0)) (sym has) (slot_there found.0 has)

    named_cells : (found : (cell : ℕ) × (cell_of body (widths_for setting body) local ≡ Some cell)) → locals.cell local + 1 < method.cell_locals
    named_cells found =
        let inside = cells_inside body (widths_for setting body) two_cells local low found.0 found.1 in
        let same = source_cell setting is.compiled body is.of_set local low found.0 found.1 in
        let count = cells_are in
        omega (arith, inside, same, count)

    two_there : locals.cell local + 1 < method.cell_locals → HasLocal method (kind_of_width (locals.width local)) (locals.cell local)
    two_there there = subst (λ (w : Width). HasLocal method (kind_of_width w) (locals.cell local)) (sym (two_cells local)) there

    count_there : locals.cell local + 1 < method.cell_locals → HasLocal method (kind_of (locals.width local)) (locals.cell local)
    count_there there = subst (λ (w : Width). HasLocal method (kind_of w) (locals.cell local)) (sym (two_cells local)) there

  -- ---- the rule of an instruction

  record RuleAt (pc : ℕ) (instruction : Op) : Type 0 where
    pub types : VFrame
    pub at : table_for setting body pc ≡ Some types
    pub few : length types.locals ≤ body.max_locals
    pub change : Change
    pub rule : change_of setting.world.files body pc instruction types ≡ Some change

  rule_at : (pc : ℕ) (instruction : Op) → op_at body.ops pc ≡ Some instruction → (instruction ≡ op.Nop → ⊥) → RuleAt pc instruction
  rule_at pc instruction at other =
      elim (is.known pc instruction at) [
        | inl nop ↦ absurd (other nop)
        | inr found ↦
            let types = found.0 in
            let holds = is.right.rules pc instruction types at found.1 in
            let parts = where_true (is_within body types && not (goes_on instruction && is_last body.ops pc)) _ holds.after holds.rule in
            let change = and_then_some (change_of setting.world.files body pc instruction types) _ holds.after parts.1 in
            let within = (and_parts (is_within body types) (not (goes_on instruction && is_last body.ops pc)) parts.0).0 in
            record {
              types = types;
              at = found.1;
              few = leb-true (length types.locals) body.max_locals (and_parts (nat_le (length types.stack) body.max_stack) (nat_le (length types.locals) body.max_locals) within).1;
              change = change.0;
              rule = change.1;
            }
      ]

  low_local : (pc : ℕ) (instruction : Op) (rule : RuleAt pc instruction) (local : ℕ) → local < length rule.types.locals → local < body.max_locals
  low_local pc instruction rule local low = let few = rule.few in omega (arith, low, few)

  -- ---- loads, stores and increments

  module _ (pc : ℕ) (local : ℕ) where
    pub load_well : (k : ValueKind) → op_at body.ops pc ≡ Some (op.Load k local) → IsWell setting.image method (load locals k local, [])
    load_well value_kind.Ref at =
        let rule = rule_at pc (op.Load value_kind.Ref local) at (λ nop. cc) in
        let found = loaded rule.types value_kind.Ref (slice_get rule.types.locals local) rule.change rule.rule in
        let low = low_local pc (op.Load value_kind.Ref local) rule local (slice_get_within rule.types.locals local found.0 found.1) in
        (named_slot local low (body_slotted setting is.compiled body is.of_set pc rule.types rule.at local found.0 found.1 found.2), refl)
    load_well value_kind.Int at =
        let rule = rule_at pc (op.Load value_kind.Int local) at (λ nop. cc) in
        let found = loaded rule.types value_kind.Int (slice_get rule.types.locals local) rule.change rule.rule in
        let low = low_local pc (op.Load value_kind.Int local) rule local (slice_get_within rule.types.locals local found.0 found.1) in
        let numbered = numbered_types setting body is pc rule.types rule.at local found.0 found.1 found.2 in
        (two_there local low (named_cells local low (numbered_cell body (widths_for setting body) two_cells local low numbered)), refl)

    pub count_well : (amount : ℤ) → op_at body.ops pc ≡ Some (op.Inc local amount) → IsWell setting.image method (insns.Inc (locals.width local) (locals.cell local) amount, [])
    count_well amount at =
        let rule = rule_at pc (op.Inc local amount) at (λ nop. cc) in
        let found = counted rule.types (slice_get rule.types.locals local) rule.change rule.rule in
        let low = low_local pc (op.Inc local amount) rule local (slice_get_within rule.types.locals local found.0 found.1) in
        let numbered = numbered_types setting body is pc rule.types rule.at local found.0 found.1 found.2 in
        (count_there local low (named_cells local low (numbered_cell body (widths_for setting body) two_cells local low numbered)), refl)

    cleared : (found : Option ℕ) → ((slot : ℕ) → found ≡ Some slot → HasLocal method kind.Ref slot) → AreWell setting.image method (option_map_or (λ slot. alone (insns.RClear slot)) found [])
    cleared None there = tt
    cleared (Some slot) there = ((there slot refl, refl), tt)

    pub store_well : (k : ValueKind) → op_at body.ops pc ≡ Some (op.Store k local) → AreWell setting.image method (store locals k local)
    store_well value_kind.Ref at =
        let rule = rule_at pc (op.Store value_kind.Ref local) at (λ nop. cc) in
        let low = low_local pc (op.Store value_kind.Ref local) rule local (stored_low rule.types value_kind.Ref local rule.types.stack rule.change rule.rule) in
        let stores = any_there (is_store value_kind.Ref local) pc (op.Store value_kind.Ref local) (λ pc. grind (arith, nat_tests)) body.ops at in
        ((named_slot local low (or_second (is_reference_parameter body local) (is_stored value_kind.Ref body local) stores), refl), tt)
    store_well value_kind.Int at =
        let rule = rule_at pc (op.Store value_kind.Int local) at (λ nop. cc) in
        let low = low_local pc (op.Store value_kind.Int local) rule local (stored_low rule.types value_kind.Int local rule.types.stack rule.change rule.rule) in
        let stores = any_there (is_store value_kind.Int local) pc (op.Store value_kind.Int local) (λ pc. grind (arith, nat_tests)) body.ops at in
        ((two_there local low (named_cells local low (stored_cell body (widths_for setting body) two_cells local low stores)), refl), cleared (locals.slot local) (slot_there local low))
