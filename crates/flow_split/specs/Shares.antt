-- What locals take of a frame, and where they stand in it one after the other.
use Rattle.std.specs.Prelude.{◌≡◌, ℕ, ◌+◌, nat_lt, if◌then◌else◌, Bool, ◌&&◌, not, List, map, take, length, slice_index_or, Option, Some, None}
use Rattle.std.specs.List.{sum_by, range_with_len}
use Rattle.std.specs.Option.{option_map_or}
use Rattle.body_form.specs.declared.body.Body.{Body}
use Rattle.insn_form.specs.declared.ValueKind.TheVariants as value_kind
use Rattle.jvm_model.specs.WidthsShapes.{Widths}
use Rattle.jvm_model.specs.WidthsSlots.{locals_of, parameter_at, is_parameter, passed_cells, is_reference_parameter, is_extended, is_stored}
use Rattle.jvm_model.specs.Initialisers.{is_whole_kind}
use Rattle.image_instr.specs.Effect.{cells_in}
use Rattle.flow_split.specs.declared.shares.Share.{Share}

-- the positions that these locals take as parameters, as parameters that are extended, and as locals that are stored
abbrev pub passed_in : List Share → ℕ
passed_in shares = sum_by (λ share. share.passed) shares

abbrev pub extended_in : List Share → ℕ
extended_in shares = sum_by (λ share. share.extended) shares

abbrev pub stored_in : List Share → ℕ
stored_in shares = sum_by (λ share. share.stored) shares

abbrev pub total_in : List Share → ℕ
total_in shares = passed_in shares + (extended_in shares + stored_in shares)

-- the first position of a local after these, where all take so many as parameters and as parameters that are extended
abbrev pub first_position : ℕ → ℕ → List Share → Share → Option ℕ
first_position passed extended before share =
    if nat_lt 0 share.extended then Some (passed + extended_in before)
    else if nat_lt 0 share.stored then Some ((passed + extended) + stored_in before)
    else if nat_lt 0 share.passed then Some (passed_in before)
    else None

-- the first position of a local, by its index
abbrev pub position_at : List Share → ℕ → Option ℕ
position_at shares local = first_position (passed_in shares) (extended_in shares) (take local shares) (slice_index_or shares local (record { passed = 0; extended = 0; stored = 0 }))

-- of each
abbrev pub positions_of : List Share → List (Option ℕ)
positions_of shares = map (position_at shares) (range_with_len 0 (length shares))

-- a mark for each of so many locals
abbrev pub AreMarks : ℕ → (ℕ → Bool) → List Bool → Type 0
AreMarks count test marks = marks ≡ map test (range_with_len 0 count)

-- what a local takes of the slots of references: one as a parameter, or one as a local that is stored
abbrev pub slot_share : Body → ℕ → Share
slot_share body local =
    record {
      passed = if is_reference_parameter body local then 1 else 0;
      extended = 0;
      stored = if not (is_reference_parameter body local) && is_stored value_kind.Ref body local then 1 else 0;
    }

abbrev pub slot_shares_of : Body → List Share
slot_shares_of body = map (slot_share body) (locals_of body)

-- what a local takes of the cells of whole numbers
abbrev pub cell_share : Body → Widths → ℕ → Share
cell_share body widths local =
    record {
      passed = option_map_or passed_cells (parameter_at body local) 0;
      extended = if is_extended body widths local then 2 else 0;
      stored = if not (is_parameter is_whole_kind body local) && is_stored value_kind.Int body local then cells_in (widths.local local) else 0;
    }

abbrev pub cell_shares_of : Body → Widths → List Share
cell_shares_of body widths = map (cell_share body widths) (locals_of body)
