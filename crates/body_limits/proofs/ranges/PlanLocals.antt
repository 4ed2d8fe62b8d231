-- The slots and cells of locals are within the frame of which the plan lays them out.
use Rattle.std.proofs.Common.{◌≡◌, ℕ, ◌+◌, ◌^◌, ◌<◌, ◌≤◌, Bool, true, false, nat_eq, nat_lt, cond, if◌then◌else◌, List, [], ◌∷◌, ◌++◌, map, filter, slice_get, Option, Some, None, option_map, option_and_then, unwrap_or, refl, sym, ap, subst, ◌∙◌, arith}
use Rattle.std.specs.List.{flat_map}
use Rattle.std.specs.Option.{option_or, option_map_or}
use Rattle.std.proofs.lemmas.Bool.{ltb-true}
use Rattle.std.proofs.lemmas.List.Concat.{flat_map-cons}
use Rattle.std.proofs.lemmas.List.Sums.{sum_by-cons}
use Rattle.std.proofs.lemmas.Option.{slice_get-map}
use Rattle.insn_form.specs.declared.ValueKind.{ValueKind}
use Rattle.insn_form.specs.declared.ValueKind.TheVariants as value_kind
use Rattle.image_instr.specs.declared.insn.MInsn.TheVariants as insns
use Rattle.image_instr.specs.Insn.{HasRanges}
use Rattle.body_form.specs.declared.body.Body.{Body}
use Rattle.jvm_model.specs.declared.entries.Entry.{Entry}
use Rattle.jvm_model.specs.TypesRight.{Table}
use Rattle.jvm_model.specs.WidthsShapes.{Widths}
use Rattle.jvm_model.specs.WidthsSlots.{Room, room_cells, first_cell, locals_of, slot_of, slot_count, passed, extended, stored, is_extended, cell_of, cell_count, fill_of}
use Rattle.jvm_model.specs.WidthsFrame.{plan_with, fill_insns}
use Rattle.jvm_model.specs.ImageExpansion.{Locals, alone, load, store}
use Rattle.jvm_model.specs.ImageEmission.{locals_by}
use Rattle.type_safety.proofs.fitting.SetLists.{none_some, same_some}
use Rattle.body_limits.proofs.ranges.Plain.{InRange, both}

-- ---- what fits

-- slots and cells fit two bytes
pub record LocalsFit (locals : Locals) : Type 0 where
  pub slot : (local slot : ℕ) → locals.slot local ≡ Some slot → slot < 2 ^ 16
  pub cell : (local : ℕ) → locals.cell local < 2 ^ 16

slot_or_first : (o : Option ℕ) → ((slot : ℕ) → o ≡ Some slot → slot < 2 ^ 16) → unwrap_or o 0 < 2 ^ 16
slot_or_first None fits = omega arith
slot_or_first (Some slot) fits = fits slot refl

pub load_in : (locals : Locals) → LocalsFit locals → (k : ValueKind) (local : ℕ) → HasRanges (load locals k local)
load_in locals fits value_kind.Ref local = slot_or_first (locals.slot local) (fits.slot local)
load_in locals fits value_kind.Int local = fits.cell local

cleared_in : (o : Option ℕ) → ((slot : ℕ) → o ≡ Some slot → slot < 2 ^ 16) → InRange (option_map_or (λ slot. alone (insns.RClear slot)) o [])
cleared_in None fits = tt
cleared_in (Some slot) fits = ((fits slot refl, tt), tt)

pub store_in : (locals : Locals) → LocalsFit locals → (k : ValueKind) (local : ℕ) → InRange (store locals k local)
store_in locals fits value_kind.Ref local = ((slot_or_first (locals.slot local) (fits.slot local), tt), tt)
store_in locals fits value_kind.Int local = ((fits.cell local, tt), cleared_in (locals.slot local) (fits.slot local))

-- ---- places in lists

placed : (at count place : ℕ) (within : Bool) → nat_lt at count ≡ within → cond within (Some at) None ≡ Some place → place < count
placed at count place true within is =
    let same : at ≡ place = same_some at place is in
    let low : at < count = ltb-true at count within in
    omega (arith, same, low)
placed at count place false within is = none_some place is

-- a first cell is among those of the rooms, or behind them
cell_low : (from : ℕ) (rooms : List Room) (local cell : ℕ) → first_cell from rooms local ≡ Some cell → cell ≤ from + room_cells rooms
unfolding first_cell
cell_low from [] local cell is = none_some cell is
cell_low from (room ∷ rooms) local cell is = by_local (nat_eq room.0 local) (cell_low (from + room.1) rooms local cell) is
  where
    all : room_cells (room ∷ rooms) ≡ room.1 + room_cells rooms
    all = sum_by-cons (λ (r : Room). r.1) room rooms

    by_local : (here : Bool) → (first_cell (from + room.1) rooms local ≡ Some cell → cell ≤ from + room.1 + room_cells rooms) → (if here then Some from else first_cell (from + room.1) rooms local) ≡ Some cell → cell ≤ from + room_cells (room ∷ rooms)
    by_local true later is =
        let same : from ≡ cell = same_some from cell is in
        omega (arith, same)
    by_local false later is =
        let rest = later is in
        omega (arith, rest, all)

-- ---- the plan

module _ (body : Body) (widths : Widths) where
  slot_low : (local slot : ℕ) (o : Option ℕ) → option_and_then (λ s. s) (option_map (slot_of body) o) ≡ Some slot → slot < slot_count body
  slot_low local slot None is = none_some slot is
  slot_low local slot (Some at) is = placed _ (slot_count body) slot _ refl is

  first_low : (cell : ℕ) → (local : ℕ) → first_cell 0 (passed body) local ≡ Some cell → cell ≤ cell_count body widths
  first_low cell local is =
      let low = cell_low 0 (passed body) local cell is in
      omega (arith, low)

  second_low : (cell : ℕ) → (local : ℕ) → first_cell (room_cells (passed body)) (extended body widths ++ stored body widths) local ≡ Some cell → cell ≤ cell_count body widths
  second_low cell local is = cell_low (room_cells (passed body)) (extended body widths ++ stored body widths) local cell is

  either_low : (first second : Option ℕ) (cell : ℕ) → ((c : ℕ) → first ≡ Some c → c ≤ cell_count body widths) → ((c : ℕ) → second ≡ Some c → c ≤ cell_count body widths) → option_or first second ≡ Some cell → cell ≤ cell_count body widths
  either_low None second cell one two is = two cell is
  either_low (Some c) second cell one two is = one cell is

  local_low : (local cell : ℕ) → cell_of body widths local ≡ Some cell → cell ≤ cell_count body widths
  local_low local cell is =
      either_low (first_cell (room_cells (passed body)) (extended body widths ++ stored body widths) local) (first_cell 0 (passed body) local) cell (λ c e. second_low c local e) (λ c e. first_low c local e) is

  or_first_low : (o : Option ℕ) → ((cell : ℕ) → o ≡ Some cell → cell ≤ cell_count body widths) → unwrap_or o 0 ≤ cell_count body widths
  or_first_low None low = omega arith
  or_first_low (Some cell) low = low cell refl

  named_low : (o : Option ℕ) → unwrap_or (option_and_then (λ c. c) (option_map (cell_of body widths) o)) 0 ≤ cell_count body widths
  named_low None = omega arith
  named_low (Some local) = or_first_low (cell_of body widths local) (local_low local)

  -- ---- what extends parameters

  module _ (frame : cell_count body widths < 2 ^ 16) where
    fill_in : (local : ℕ) → InRange (fill_insns (fill_of body widths local))
    fill_in local =
        let from = or_first_low (first_cell 0 (passed body) local) (λ c e. first_low c local e) in
        let to = or_first_low (cell_of body widths local) (local_low local) in
        ((omega (arith, from, frame), tt), ((by_sign (fill_of body widths local).zero, tt), ((omega (arith, to, frame), tt), tt)))
      where
        by_sign : (zero : Bool) → HasRanges (if zero then insns.Zx else insns.Sx)
        by_sign true = tt
        by_sign false = tt

    fills_in : (locals : List ℕ) → InRange (flat_map fill_insns (map (fill_of body widths) locals))
    fills_in [] = tt
    fills_in (local ∷ locals) =
        subst InRange (sym (flat_map-cons fill_insns (fill_of body widths local) (map (fill_of body widths) locals)))
        (both (fill_insns (fill_of body widths local)) (flat_map fill_insns (map (fill_of body widths) locals)) (fill_in local) (fills_in locals))

module _ (body : Body) (table : Table) (narrow : List Entry) (widths : Widths) (frame : (plan_with body table narrow widths).body ≤ 32763) where
  -- where a plan lays out a frame that is not too large, its slots and cells fit
  pub plan_fits : (seen : Widths) → LocalsFit (locals_by (plan_with body table narrow widths) seen)
  plan_fits seen =
      record {
        slot = λ local slot is.
            let low = slot_low body widths local slot (slice_get (locals_of body) local) (ap (option_and_then (λ s. s)) (sym (slice_get-map (slot_of body) (locals_of body) local)) ∙ is) in
            omega (arith, low, frame);
        cell = λ local.
            let low = named_low body widths (slice_get (locals_of body) local) in
            let same = ap (λ (o : Option (Option ℕ)). unwrap_or (option_and_then (λ c. c) o) 0) (slice_get-map (cell_of body widths) (locals_of body) local) in
            omega (arith, low, same, frame);
      }

  pub plan_fills : InRange (flat_map fill_insns (plan_with body table narrow widths).fills)
  plan_fills = fills_in body widths (omega (arith, frame)) (filter (is_extended body widths) (locals_of body))
