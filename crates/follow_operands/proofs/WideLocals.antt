-- Locals of wide bodies: their cells do not overlap, and what is stored as a whole number has two.
use Rattle.std.proofs.Common.{◌≡◌, ◌⊎◌, inl, inr, ℕ, ◌+◌, ◌<◌, ◌≤◌, Bool, true, false, ◌&&◌, ◌||◌, not, nat_eq, if◌then◌else◌, List, [], ◌∷◌, ◌++◌, filter, Option, Some, None, option_and_then, unwrap_or, refl, sym, ap, subst, ◌∙◌, arith}
use Rattle.std.specs.Prelude.{slice_get}
use Rattle.std.specs.List.{list_any, Contains}
use Rattle.std.specs.Option.{option_map_or, option_or}
use Rattle.std.proofs.lemmas.Bool.{cases_Bool, eqb-true}
use Rattle.std.proofs.lemmas.List.Folds.{list_any-append}
use Rattle.std.proofs.lemmas.Option.{none-some, same_Some}
use Rattle.class_pool.specs.declared.descriptor.Kind.{Kind}
use Rattle.class_pool.specs.declared.descriptor.Kind.TheVariants as declared
use Rattle.insn_form.specs.declared.ValueKind.TheVariants as value_kind
use Rattle.image_instr.specs.declared.insn.Width.{Width}
use Rattle.image_instr.specs.declared.insn.Width.TheVariants as width
use Rattle.image_instr.specs.Effect.{cells_in}
use Rattle.body_form.specs.declared.body.Body.{Body}
use Rattle.body_form.specs.declared.op.Op.{Op}
use Rattle.body_form.specs.declared.op.Op.TheVariants as op
use Rattle.body_form.specs.Flow.{Ops}
use Rattle.jvm_model.specs.declared.plan.Plan.{Plan}
use Rattle.jvm_model.specs.Initialisers.{is_whole_kind}
use Rattle.jvm_model.specs.TypesRight.{Table}
use Rattle.jvm_model.specs.TypesRules.{op_at}
use Rattle.jvm_model.specs.WidthsShapes.{Widths, width_where, stores_one, local_width}
use Rattle.jvm_model.specs.WidthsSlots.{Room, room_cells, first_cell, is_two, passed_cells, is_small, parameter_at, is_parameter, is_stored, locals_of, passed, is_extended, extended, stored, cell_of, cell_count, slot_of}
use Rattle.match_states.specs.Setting.{Setting, IsCompiled, IsWide, table_for, plan_for, widths_for}
use Rattle.jvm_model.specs.ImageEmission.{locals_by}
use Rattle.match_code.proofs.CodeMoves.{compiled_body}
use Rattle.follow_operands.proofs.LocalRooms.{is_in, in_all, in_filter, or_second, AreWide, has_room, rooms_of, has_room_of, wide_rooms, wide_both, room_cell, cell_within, AreApart, cells_apart}
use Rattle.follow_operands.proofs.DistinctLocals.{and_none}
use Rattle.follow_operands.proofs.SetLocals.{of_local}

-- ---- widths

-- nothing is stored in one cell where no number has one
stores_none : (table : Table) (local : ℕ) (x : ℕ × Op) → stores_one [] table local x ≡ false
stores_none table local (pc, op.Store value_kind.Int other) = and_none (nat_eq other local) false refl
stores_none table local (pc, instruction) = refl

none_stores : (table : Table) (local : ℕ) (ops : Ops) → list_any (stores_one [] table local) ops ≡ false
none_stores table local [] = refl
none_stores table local (x ∷ ops) = ap (λ (b : Bool). b || list_any (stores_one [] table local) ops) (stores_none table local x) ∙ none_stores table local ops

pub two_cells_wide : (setting : Setting) (body : Body) → IsWide setting body → (local : ℕ) → (widths_for setting body).local local ≡ width.Two
two_cells_wide setting body wide local =
    ap (λ narrow. local_width narrow (table_for setting body) body.ops local) wide ∙ ap width_where (none_stores (table_for setting body) local body.ops)

-- ---- what is stored

stored_here : (test : ℕ × Op → Bool) (at pc : ℕ) (first instruction : Op) (ops : Ops) → ((pc : ℕ) → test (pc, instruction) ≡ true) → (op_at ops at ≡ Some instruction → list_any test ops ≡ true)
    → (is : Bool) → (if is then Some first else op_at ops at) ≡ Some instruction → list_any test ((pc, first) ∷ ops) ≡ true
stored_here test at pc first instruction ops passes later true there =
    ap (λ (one : Op). test (pc, one) || list_any test ops) (same_Some first instruction there) ∙ ap (λ (b : Bool). b || list_any test ops) (passes pc)
stored_here test at pc first instruction ops passes later false there = or_second (test (pc, first)) (list_any test ops) (later there)

-- an instruction that is there passes its test
pub any_there : (test : ℕ × Op → Bool) (at : ℕ) (instruction : Op) → ((pc : ℕ) → test (pc, instruction) ≡ true) → (ops : Ops) → op_at ops at ≡ Some instruction → list_any test ops ≡ true
unfolding op_at
any_there test at instruction passes [] there = absurd (none-some instruction there)
any_there test at instruction passes ((pc, first) ∷ ops) there =
    stored_here test at pc first instruction ops passes (any_there test at instruction passes ops) (nat_eq pc at) there

-- ---- cells

-- a whole parameter that is not small is passed in two cells
passed_two : (kind : Option Kind) → option_map_or is_whole_kind kind false ≡ true → option_map_or is_small kind false ≡ false → 2 ≤ option_map_or passed_cells kind 0
passed_two None whole small = absurd cc
passed_two (Some declared.Int) whole small = omega arith
passed_two (Some kind) whole small = absurd cc

module _ (body : Body) (widths : Widths) (two : (local : ℕ) → widths.local local ≡ width.Two) where
  abbrev upper : List Room
  upper = extended body widths ++ stored body widths

  wide_upper : (local : ℕ) → AreWide local upper
  wide_upper local =
      let in_two : (other : ℕ) → 2 ≤ cells_in (widths.local other) = λ other. let is : cells_in (widths.local other) ≡ 2 = ap cells_in (two other) in omega (arith, is) in
      wide_both local (extended body widths) (stored body widths)
      (wide_rooms (λ other. 2) (is_extended body widths) local (λ other is same. omega arith) (locals_of body))
      (wide_rooms (λ other. cells_in (widths.local other)) (λ other. not (is_parameter is_whole_kind body other) && is_stored value_kind.Int body other) local (λ other is same. in_two other) (locals_of body))

  not_small : (small : Bool) (of : Width) → of ≡ width.Two → (small && is_two of) ≡ false → small ≡ false
  not_small true of is none = sym (ap is_two is) ∙ none
  not_small false of is none = refl

  wide_passed : (local : ℕ) → is_extended body widths local ≡ false → AreWide local (passed body)
  wide_passed local plain =
      let large = not_small (is_parameter is_small body local) (widths.local local) (two local) plain in
      wide_rooms (λ other. option_map_or passed_cells (parameter_at body other) 0) (is_parameter is_whole_kind body) local
      (λ other is same.
      let local_is : local ≡ other = sym (eqb-true other local same) in
      passed_two (parameter_at body other) is (subst (λ (l : ℕ). is_parameter is_small body l ≡ false) local_is large)) (locals_of body)

  module _ (local : ℕ) (low : local < body.max_locals) where
    -- it has a room where a test of it says so
    room_where : (size : ℕ → ℕ) (test : ℕ → Bool) → test local ≡ true → has_room local (rooms_of size (filter test (locals_of body))) ≡ true
    room_where size test is =
        has_room_of size local (filter test (locals_of body)) ∙ in_filter test local (locals_of body)
        ∙ ap (λ (b : Bool). b && is_in local (locals_of body)) is ∙ in_all body.max_locals local low

    room_above : (first second : List Room) → has_room local second ≡ true → has_room local (first ++ second) ≡ true
    room_above first second is = list_any-append (λ (room : Room). nat_eq room.0 local) first second ∙ or_second (has_room local first) (has_room local second) is

    room_below : (first second : List Room) → has_room local first ≡ true → has_room local (first ++ second) ≡ true
    room_below first second is = list_any-append (λ (room : Room). nat_eq room.0 local) first second ∙ ap (λ (b : Bool). b || has_room local second) is

    -- its cells are among the upper ones, or among those of a parameter that is passed in two
    abbrev Lies : ℕ → Type 0
    Lies cell = (first_cell (room_cells (passed body)) upper local ≡ Some cell) ⊎ ((first_cell 0 (passed body) local ≡ Some cell) × AreWide local (passed body))

    lies_in : (cell : ℕ) (found : Option ℕ) → first_cell (room_cells (passed body)) upper local ≡ found → option_or found (first_cell 0 (passed body) local) ≡ Some cell → Lies cell
    lies_in cell (Some other) there is = inl (there ∙ is)
    lies_in cell None there is =
        let plain : is_extended body widths local ≡ false =
        elim (cases_Bool (is_extended body widths local)) [
          | inl extends ↦
              let found = room_cell (room_cells (passed body)) upper local (room_below (extended body widths) (stored body widths) (room_where (λ other. 2) (is_extended body widths) extends)) in
              absurd (none-some found.0 (sym there ∙ found.1))
          | inr plain ↦ plain
        ] in
        inr (is, wide_passed local plain)

    pub lies : (cell : ℕ) → cell_of body widths local ≡ Some cell → Lies cell
    lies cell is = lies_in cell (first_cell (room_cells (passed body)) upper local) refl is

    -- its two cells are within those of the frame
    pub cells_inside : (cell : ℕ) → cell_of body widths local ≡ Some cell → cell + 2 ≤ cell_count body widths
    cells_inside cell is =
        elim (lies cell is) [
          | inl above ↦ (cell_within (room_cells (passed body)) upper local cell (wide_upper local) above).high
          | inr below ↦ let within = cell_within 0 (passed body) local cell below.1 below.0 in let high = within.high in omega (arith, high)
        ]

    either_found : (found : Option ℕ) (cell : ℕ) → (some : ℕ) × (option_or found (Some cell) ≡ Some some)
    either_found (Some some) cell = (some, refl)
    either_found None cell = (cell, refl)

    first_found : (found lower : Option ℕ) (cell : ℕ) → found ≡ Some cell → option_or found lower ≡ Some cell
    first_found found lower cell is = ap (λ (o : Option ℕ). option_or o lower) is

    -- a local that is stored as a whole number has cells
    pub stored_cell : is_stored value_kind.Int body local ≡ true → (cell : ℕ) × (cell_of body widths local ≡ Some cell)
    stored_cell stores =
        elim (cases_Bool (is_parameter is_whole_kind body local)) [
          | inl parameter ↦
              let found = room_cell 0 (passed body) local (room_where (λ other. option_map_or passed_cells (parameter_at body other) 0) (is_parameter is_whole_kind body) parameter) in
              let some = either_found (first_cell (room_cells (passed body)) upper local) found.0 in
              (some.0, ap (λ (o : Option ℕ). option_or (first_cell (room_cells (passed body)) upper local) o) found.1 ∙ some.1)
          | inr other ↦
              let test : (not (is_parameter is_whole_kind body local) && is_stored value_kind.Int body local) ≡ true = ap (λ (b : Bool). not b && is_stored value_kind.Int body local) other ∙ stores in
              let above = room_where (λ other. cells_in (widths.local other)) (λ other. not (is_parameter is_whole_kind body other) && is_stored value_kind.Int body other) test in
              let found = room_cell (room_cells (passed body)) upper local (room_above (extended body widths) (stored body widths) above) in
              (found.0, first_found (first_cell (room_cells (passed body)) upper local) (first_cell 0 (passed body) local) found.0 found.1)
        ]

  -- two locals do not share a cell
  pub locals_apart : (local beside : ℕ) → (local ≡ beside → ⊥) → local < body.max_locals → beside < body.max_locals → (cell other : ℕ) → cell_of body widths local ≡ Some cell → cell_of body widths beside ≡ Some other → AreApart cell other
  locals_apart local beside differ low low_beside cell other is is_beside = by_places (lies local low cell is) (lies beside low_beside other is_beside)
    where
      by_places : Lies local low cell → Lies beside low_beside other → AreApart cell other
      by_places (inl above) (inl also) = cells_apart local beside differ cell other (room_cells (passed body)) upper (wide_upper local) (wide_upper beside) above also
      by_places (inr below) (inr also) = cells_apart local beside differ cell other 0 (passed body) below.1 also.1 below.0 also.0
      by_places (inr below) (inl above) =
          let first = (cell_within 0 (passed body) local cell below.1 below.0).high in
          let second = (cell_within (room_cells (passed body)) upper beside other (wide_upper beside) above).low in
          inl (omega (arith, first, second))
      by_places (inl above) (inr below) =
          let first = (cell_within 0 (passed body) beside other below.1 below.0).high in
          let second = (cell_within (room_cells (passed body)) upper local cell (wide_upper local) above).low in
          inr (omega (arith, first, second))

-- ---- as code has them

module _ (setting : Setting) (compiled : IsCompiled setting) (body : Body) (of_set : Contains setting.world.bodies body) (local : ℕ) (low : local < body.max_locals) where
  pub source_cell : (cell : ℕ) → cell_of body (widths_for setting body) local ≡ Some cell → (locals_by (plan_for setting body) (widths_for setting body)).cell local ≡ cell
  source_cell cell is =
      let plan = (compiled_body setting compiled body of_set).plan in
      ap (λ (plan : Plan). unwrap_or (option_and_then (λ (cell : Option ℕ). cell) (slice_get plan.cells local)) 0) plan
      ∙ ap (λ found. unwrap_or (option_and_then (λ (cell : Option ℕ). cell) found) 0) (of_local (cell_of body (widths_for setting body)) body.max_locals local low)
      ∙ ap (λ (found : Option ℕ). unwrap_or found 0) is

  pub source_slot : (locals_by (plan_for setting body) (widths_for setting body)).slot local ≡ slot_of body local
  source_slot =
      let plan = (compiled_body setting compiled body of_set).plan in
      ap (λ (plan : Plan). option_and_then (λ (slot : Option ℕ). slot) (slice_get plan.refs local)) plan
      ∙ ap (λ found. option_and_then (λ (slot : Option ℕ). slot) found) (of_local (slot_of body) body.max_locals local low)
