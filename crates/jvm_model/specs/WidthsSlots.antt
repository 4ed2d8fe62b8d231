-- Where the locals of a method stand in its frame: each reference local has a slot, and each local that holds whole
-- numbers has cells. A parameter of a small type is passed in one cell; where its local has two, it has two more.
use Rattle.std.specs.Prelude.{ℕ, zero, suc, ◌+◌, ◌-◌, Bool, true, false, ◌&&◌, not, nat_eq, nat_lt, if◌then◌else◌, List, [], ◌∷◌, ◌++◌, map, filter, length, position, Option, Some, None, unwrap_or, slice_get}
use Rattle.std.specs.Option.{option_map_or, option_or}
use Rattle.std.specs.List.{list_any, range_with_len, sum_by}
use Rattle.class_pool.specs.declared.descriptor.Kind.{Kind}
use Rattle.class_pool.specs.declared.descriptor.Kind.TheVariants as declared
use Rattle.insn_form.specs.declared.ValueKind.{ValueKind}
use Rattle.insn_form.specs.declared.ValueKind.TheVariants as value_kind
use Rattle.image_instr.specs.declared.insn.Width.{Width}
use Rattle.image_instr.specs.declared.insn.Width.TheVariants as width
use Rattle.image_instr.specs.Effect.{cells_in}
use Rattle.body_form.specs.declared.body.Body.{Body}
use Rattle.body_form.specs.declared.op.Op.{Op}
use Rattle.body_form.specs.declared.op.Op.TheVariants as op
use Rattle.jvm_model.specs.declared.plan.Fill.{Fill}
use Rattle.jvm_model.specs.Initialisers.{is_whole_kind, is_reference_kind}
use Rattle.jvm_model.specs.WidthsShapes.{Widths}

-- ---- parameters

-- the cells in which a parameter is passed: two of an int, one of a small type, none of a reference
abbrev pub passed_cells : Kind → ℕ
passed_cells declared.Int = 2
passed_cells kind = if is_whole_kind kind then 1 else 0

abbrev pub is_small : Kind → Bool
is_small kind = nat_eq (passed_cells kind) 1

abbrev pub is_char : Kind → Bool
is_char declared.Char = true
is_char kind = false

-- the local of the first parameter
abbrev pub first_parameter : Body → ℕ
first_parameter body = if body.instance then 1 else 0

-- the type of the parameter that a local is
abbrev pub parameter_at : Body → ℕ → Option Kind
parameter_at body local = if nat_lt local (first_parameter body) then None else slice_get body.params (local - first_parameter body)

abbrev pub is_parameter : (Kind → Bool) → Body → ℕ → Bool
is_parameter is body local = option_map_or is (parameter_at body local) false

-- a parameter that is a reference, or the object that the method is called on
abbrev pub is_reference_parameter : Body → ℕ → Bool
is_reference_parameter body local = if nat_lt local (first_parameter body) then true else is_parameter is_reference_kind body local

-- ---- what is stored

abbrev pub is_store : ValueKind → ℕ → ℕ × Op → Bool
is_store value_kind.Int local (pc, op.Store value_kind.Int other) = nat_eq other local
is_store value_kind.Ref local (pc, op.Store value_kind.Ref other) = nat_eq other local
is_store kind local (pc, instruction) = false

-- an instruction that is reached stores so in the local; one that is not reached is a nop
abbrev pub is_stored : ValueKind → Body → ℕ → Bool
is_stored kind body local = list_any (is_store kind local) body.ops

abbrev pub locals_of : Body → List ℕ
locals_of body = range_with_len 0 body.max_locals

-- ---- slots of references

-- the locals with slots, in order of these: the parameters that are references, then the others that are stored as such
abbrev pub reference_locals : Body → List ℕ
reference_locals body =
    filter (is_reference_parameter body) (locals_of body)
    ++ filter (λ local. not (is_reference_parameter body local) && is_stored value_kind.Ref body local) (locals_of body)

abbrev pub slot_of : Body → ℕ → Option ℕ
slot_of body local = position (nat_eq local) (reference_locals body)

abbrev pub slot_count : Body → ℕ
slot_count body = length (reference_locals body)

-- ---- cells of whole numbers

-- a local with so many cells
abbrev pub Room : Type 0
Room = ℕ × ℕ

abbrev pub room_cells : List Room → ℕ
room_cells rooms = sum_by (λ room. room.1) rooms

-- the first cell of a local, where these are given cells one after the other from a cell on
unfoldable pub first_cell : ℕ → List Room → ℕ → Option ℕ
first_cell from [] local = None
first_cell from (room ∷ rooms) local = if nat_eq room.0 local then Some from else first_cell (from + room.1) rooms local

-- the parameters that are whole numbers, as they are passed
abbrev pub passed : Body → List Room
passed body = map (λ local. (local, option_map_or passed_cells (parameter_at body local) 0)) (filter (is_parameter is_whole_kind body) (locals_of body))

abbrev pub is_two : Width → Bool
is_two width.Two = true
is_two width.One = false

-- the locals of small parameters that have two cells
abbrev pub is_extended : Body → Widths → ℕ → Bool
is_extended body widths local = is_parameter is_small body local && is_two (widths.local local)

abbrev pub extended : Body → Widths → List Room
extended body widths = map (λ local. (local, 2)) (filter (is_extended body widths) (locals_of body))

-- the locals that are no such parameters and are stored as whole numbers
abbrev pub stored : Body → Widths → List Room
stored body widths =
    map (λ local. (local, cells_in (widths.local local)))
    (filter (λ local. not (is_parameter is_whole_kind body local) && is_stored value_kind.Int body local) (locals_of body))

-- the first cell of a local: of a small parameter that has two cells more, the first of these
abbrev pub cell_of : Body → Widths → ℕ → Option ℕ
cell_of body widths local =
    option_or (first_cell (room_cells (passed body)) (extended body widths ++ stored body widths) local) (first_cell 0 (passed body) local)

abbrev pub cell_count : Body → Widths → ℕ
cell_count body widths = room_cells (passed body) + room_cells (extended body widths ++ stored body widths)

-- ---- what is extended at entry

abbrev pub fill_of : Body → Widths → ℕ → Fill
fill_of body widths local =
    record {
      from = unwrap_or (first_cell 0 (passed body) local) 0;
      to = unwrap_or (cell_of body widths local) 0;
      zero = is_parameter is_char body local;
    }

abbrev pub fills_of : Body → Widths → List Fill
fills_of body widths = map (fill_of body widths) (filter (is_extended body widths) (locals_of body))
