-- What extends parameters reads a cell of a parameter that is passed, and writes two cells of a local.
use Rattle.std.proofs.Common.{◌≡◌, ℕ, ◌+◌, ◌<◌, ◌≤◌, Bool, true, false, ◌||◌, nat_eq, cond, if◌then◌else◌, List, [], ◌∷◌, map, filter, Option, Some, None, unwrap_or, refl, sym, ap, subst, ◌∙◌, arith}
use Rattle.std.specs.List.{AllByRecursion, flat_map}
use Rattle.std.specs.Option.{option_map_or}
use Rattle.std.proofs.lemmas.Bool.{and_parts, false≢true}
use Rattle.std.proofs.lemmas.List.Concat.{flat_map-cons}
use Rattle.std.proofs.lemmas.List.Sums.{sum_by-cons}
use Rattle.std.proofs.lemmas.Option.{none-some, same_Some}
use Rattle.class_pool.specs.declared.descriptor.Kind.{Kind}
use Rattle.class_pool.specs.declared.descriptor.Kind.TheVariants as declared
use Rattle.insn_form.specs.declared.ValueKind.TheVariants as value_kind
use Rattle.image_instr.specs.declared.insn.MInsn.TheVariants as insns
use Rattle.image_form.specs.declared.record.Method.{Method}
use Rattle.body_form.specs.declared.body.Body.{Body}
use Rattle.jvm_model.specs.declared.plan.Plan.{Plan}
use Rattle.jvm_model.specs.ImageEmission.{method_of}
use Rattle.jvm_model.specs.ImageExpansion.{Emitted}
use Rattle.jvm_model.specs.Initialisers.{is_whole_kind}
use Rattle.jvm_model.specs.WidthsFrame.{fill_insns}
use Rattle.jvm_model.specs.WidthsShapes.{Widths}
use Rattle.jvm_model.specs.WidthsSlots.{Room, room_cells, first_cell, passed_cells, is_small, is_two, parameter_at, is_parameter, is_stored, locals_of, passed, is_extended, fill_of}
use Rattle.flow_split.proofs.CellsPlaced.{small_whole}
use Rattle.match_states.specs.Setting.{Setting, source_for, widths_for}
use Rattle.match_code.specs.Standing.{fills_for}
use Rattle.match_code.proofs.CodeMoves.{compiled_body}
use Rattle.follow_operands.proofs.LocalRooms.{room_cell, rooms_of}
use Rattle.follow_operands.proofs.WideLocals.{cells_inside}
use Rattle.follow_calls.proofs.CalledRooms.{all_filtered, room_by_test}
use Rattle.image_rules.specs.Parts.{IsOfAccepted, FillsNameWell}
use Rattle.image_rules.proofs.names.Locals.{cells_are, numbered_cell, two_cells}
use Rattle.image_rules.proofs.names.NumberTypes.{is_numbered}
use Rattle.image_rules.proofs.names.Plain.{AreWell, IsWell, both}

-- ---- cells of rooms

-- each room has a cell
abbrev AreSome : List Room → Type 0
AreSome rooms = AllByRecursion (λ (room : Room). 1 ≤ room.1) rooms

some_one : (size : ℕ → ℕ) (local : ℕ) (kept : List ℕ) → AreSome (rooms_of size kept) → (passes : Bool) → (passes ≡ true → 1 ≤ size local) → AreSome (rooms_of size (cond passes (local ∷ kept) kept))
some_one size local kept rest true here = (here refl, rest)
some_one size local kept rest false here = rest

some_rooms : (size : ℕ → ℕ) (test : ℕ → Bool) → ((local : ℕ) → test local ≡ true → 1 ≤ size local) → (locals : List ℕ) → AreSome (rooms_of size (filter test locals))
some_rooms size test some [] = tt
some_rooms size test some (local ∷ locals) = some_one size local (filter test locals) (some_rooms size test some locals) (test local) (some local)

within_here : (from local cell : ℕ) (room : Room) (rooms : List Room) → 1 ≤ room.1 → (first_cell (from + room.1) rooms local ≡ Some cell → cell + 1 ≤ from + room.1 + room_cells rooms)
    → (is : Bool) → (if is then Some from else first_cell (from + room.1) rooms local) ≡ Some cell → cell + 1 ≤ from + room_cells (room ∷ rooms)
within_here from local cell room rooms some later true found =
    let same : from ≡ cell = same_Some from cell found in
    let all = sum_by-cons (λ (room : Room). room.1) room rooms in
    omega (arith, same, some, all)
within_here from local cell room rooms some later false found =
    let rest = later found in
    let all = sum_by-cons (λ (room : Room). room.1) room rooms in
    omega (arith, rest, all)

cell_inside : (from : ℕ) (rooms : List Room) (local cell : ℕ) → AreSome rooms → first_cell from rooms local ≡ Some cell → cell + 1 ≤ from + room_cells rooms
unfolding first_cell
cell_inside from [] local cell some found = absurd (none-some cell found)
cell_inside from (room ∷ rooms) local cell some found = within_here from local cell room rooms some.0 (cell_inside (from + room.1) rooms local cell some.1) (nat_eq room.0 local) found

-- ---- a parameter that is extended

some_cells : (k : Kind) → is_whole_kind k ≡ true → 1 ≤ passed_cells k
some_cells declared.Byte whole = omega arith
some_cells declared.Char whole = omega arith
some_cells declared.Short whole = omega arith
some_cells declared.Int whole = omega arith
some_cells declared.Boolean whole = omega arith
some_cells k whole = absurd (false≢true whole)

some_passed : (found : Option Kind) → option_map_or is_whole_kind found false ≡ true → 1 ≤ option_map_or passed_cells found 0
some_passed None whole = absurd (false≢true whole)
some_passed (Some k) whole = some_cells k whole

whole_where : (found : Option Kind) → option_map_or is_small found false ≡ true → option_map_or is_whole_kind found false ≡ true
whole_where None small = small
whole_where (Some k) small = small_whole k small

module _ (setting : Setting) (body : Body) (is : IsOfAccepted setting body) where
  abbrev method : Method
  method = method_of (source_for setting body)

  abbrev widths : Widths
  widths = widths_for setting body

  abbrev Well : List Emitted → Type 0
  Well list = AreWell setting.image method list

  module _ (local : ℕ) (low : local < body.max_locals) (extends : is_extended body widths local ≡ true) where
    whole : is_parameter is_whole_kind body local ≡ true
    whole = whole_where (parameter_at body local) (and_parts (is_parameter is_small body local) (is_two (widths.local local)) extends).0

    from_there : (fill_of body widths local).from < method.cell_locals
    from_there =
        let size : ℕ → ℕ = λ other. option_map_or passed_cells (parameter_at body other) 0 in
        let found = room_cell 0 (passed body) local (room_by_test size (is_parameter is_whole_kind body) body.max_locals local low ∙ whole) in
        let inside = cell_inside 0 (passed body) local found.0 (some_rooms size (is_parameter is_whole_kind body) (λ other passes. some_passed (parameter_at body other) passes) (locals_of body)) found.1 in
        let at : (fill_of body widths local).from ≡ found.0 = ap (λ (o : Option ℕ). unwrap_or o 0) found.1 in
        let count = cells_are setting body is in
        omega (arith, inside, at, count)

    to_there : (fill_of body widths local).to + 1 < method.cell_locals
    to_there =
        let two = two_cells setting body is in
        let numbered : is_numbered body local ≡ true = ap (λ (b : Bool). b || is_stored value_kind.Int body local) whole in
        let found = numbered_cell body widths two local low numbered in
        let inside = cells_inside body widths two local low found.0 found.1 in
        let at : (fill_of body widths local).to ≡ found.0 = ap (λ (o : Option ℕ). unwrap_or o 0) found.1 in
        let count = cells_are setting body is in
        omega (arith, inside, at, count)

    fill_well : Well (fill_insns (fill_of body widths local))
    fill_well = ((from_there, refl), (by_sign (fill_of body widths local).zero, ((to_there, refl), tt)))
      where
        by_sign : (zero : Bool) → IsWell setting.image method (if zero then insns.Zx else insns.Sx, [])
        by_sign true = (tt, refl)
        by_sign false = (tt, refl)

  all_fill : (locals : List ℕ) → AllByRecursion (λ local. Well (fill_insns (fill_of body widths local))) locals → Well (flat_map fill_insns (map (fill_of body widths) locals))
  all_fill [] all = tt
  all_fill (local ∷ locals) all =
      subst Well (sym (flat_map-cons fill_insns (fill_of body widths local) (map (fill_of body widths) locals)))
      (both setting.image method (fill_insns (fill_of body widths local)) (flat_map fill_insns (map (fill_of body widths) locals)) all.0 (all_fill locals all.1))

  fills_well : Well (fills_for setting body)
  fills_well =
      let fills = all_filtered (λ local. Well (fill_insns (fill_of body widths local))) (is_extended body widths) 0 body.max_locals (λ local low extends. fill_well local (omega (arith, low)) extends) in
      subst (λ (plan : Plan). Well (flat_map fill_insns plan.fills)) (sym (compiled_body setting is.compiled body is.of_set).plan) (all_fill (filter (is_extended body widths) (locals_of body)) fills)

pub fills_name_well : FillsNameWell
fills_name_well setting body is = fills_well setting body is
