-- Rows by their index, and how many operands they have.
use Rattle.std.proofs.Common.{◌≡◌, ℕ, zero, suc, ◌+◌, true, false, cond, nat_eq, List, [], ◌∷◌, ◌++◌, length, take, subst, add-one, slice_get, Option, Some, None, option_map, refl, sym, ap, ◌∙◌}
use Rattle.std.specs.Option.{option_map_or, option_to_list}
use Rattle.code_reach.specs.Reached.{RisesFrom}
use Rattle.code_reach.specs.Visits.{pcs_of, index_of}
use Rattle.body_form.specs.declared.types.VFrame.{VFrame}
use Rattle.jvm_model.specs.WidthsShapes.{types_at}
use Rattle.type_table.specs.Types.{Rows, table_of}
use Rattle.infuse_emit.specs.declared.parts.Parts.{Parts}
use Rattle.infuse_emit.specs.Parts.{heights_in, AreParts}

pub heights_rise : (low : ℕ) (rows : Rows) → RisesFrom low rows → RisesFrom low (heights_in rows)
heights_rise low [] rise = tt
heights_rise low (row ∷ rows) rise = (rise.0, heights_rise (suc row.0) rows rise.1)

-- the frame before an instruction is that of the row at its index
frame_found : (rows : Rows) (pc : ℕ) → table_of rows pc ≡ option_map (λ (row : ℕ × VFrame). row.1) (slice_get rows (index_of (pcs_of (heights_in rows)) pc))
unfolding table_of index_of
frame_found [] pc = refl
frame_found ((at, frame) ∷ rows) pc =
    elim (nat_eq at pc) as (λ b. cond b (Some frame) (table_of rows pc)
    ≡ option_map (λ (r : ℕ × VFrame). r.1) (slice_get ((at, frame) ∷ rows) (cond b 0 (suc (index_of (pcs_of (heights_in rows)) pc))))) [
      | true ↦ refl
      | false ↦ frame_found rows pc
    ]

through : {X : Type 0} (f : VFrame → X) (none : X) (found : Option (ℕ × VFrame)) → option_map_or f (option_map (λ (row : ℕ × VFrame). row.1) found) none ≡ option_map_or (λ (row : ℕ × VFrame). f row.1) found none
through f none None = refl
through f none (Some row) = refl

-- what is read of the frame before an instruction
pub read_of_row : {X : Type 0} (f : VFrame → X) (none : X) (rows : Rows) (pc : ℕ) → option_map_or f (table_of rows pc) none ≡ option_map_or (λ (row : ℕ × VFrame). f row.1) (slice_get rows (index_of (pcs_of (heights_in rows)) pc)) none
read_of_row {X} f none rows pc = ap (λ (o : Option VFrame). option_map_or f o none) (frame_found rows pc) ∙ through f none (slice_get rows (index_of (pcs_of (heights_in rows)) pc))

height_at_index : (rows : Rows) (index : ℕ) → option_map_or (λ (row : ℕ × ℕ). row.1) (slice_get (heights_in rows) index) 0 ≡ length (option_map_or (λ (row : ℕ × VFrame). row.1.stack) (slice_get rows index) [])
height_at_index [] index = refl
height_at_index (row ∷ rows) zero = refl
height_at_index (row ∷ rows) (suc index) = height_at_index rows index

-- how many operands stand before an instruction
pub height_found : (rows : Rows) (pc : ℕ) → option_map_or (λ (row : ℕ × ℕ). row.1) (slice_get (heights_in rows) (index_of (pcs_of (heights_in rows)) pc)) 0 ≡ length (types_at (table_of rows) pc)
height_found rows pc =
    height_at_index rows (index_of (pcs_of (heights_in rows)) pc) ∙ sym (ap length (read_of_row (λ (frame : VFrame). frame.stack) [] rows pc))

-- of what was computed of the rows
pub parts_rise : (parts : Parts) → AreParts parts → RisesFrom 0 parts.heights.now
parts_rise parts are = subst (λ (list : List (ℕ × ℕ)). RisesFrom 0 list) (sym are.heights) (heights_rise 0 parts.types.now are.rise)

taken_of : (count : ℕ) (found : Option VFrame) → option_map_or (λ (frame : VFrame). take count frame.stack) found [] ≡ take count (option_map_or (λ (frame : VFrame). frame.stack) found [])
taken_of zero None = refl
taken_of (suc count) None = refl
taken_of count (Some frame) = refl

-- the top operands before an instruction are those of the row at its index
pub operands_read : (heights : List (ℕ × ℕ)) (rows : Rows) (pc count index : ℕ) → heights ≡ heights_in rows → index ≡ index_of (pcs_of heights) pc
    → option_map_or (λ (row : ℕ × VFrame). take count row.1.stack) (slice_get rows index) [] ≡ take count (types_at (table_of rows) pc)
operands_read heights rows pc count index same at =
    ap (λ i. option_map_or (λ (row : ℕ × VFrame). take count row.1.stack) (slice_get rows i) []) (at ∙ ap (λ (list : List (ℕ × ℕ)). index_of (pcs_of list) pc) same)
    ∙ sym (read_of_row (λ (frame : VFrame). take count frame.stack) [] rows pc)
    ∙ taken_of count (table_of rows pc)

one_row : (rows : Rows) (i : ℕ) → heights_in (take (suc i) rows) ≡ heights_in (take i rows) ++ option_to_list (option_map (λ (row : ℕ × VFrame). (row.0, length row.1.stack)) (slice_get rows i))
one_row [] zero = refl
one_row [] (suc i) = refl
one_row (row ∷ rows) zero = refl
one_row (row ∷ rows) (suc i) = ap (λ (list : List (ℕ × ℕ)). (row.0, length row.1.stack) ∷ list) (one_row rows i)

-- one more row
pub height_more : (rows : Rows) (i : ℕ) → heights_in (take (i + 1) rows) ≡ heights_in (take i rows) ++ option_to_list (option_map (λ (row : ℕ × VFrame). (row.0, length row.1.stack)) (slice_get rows i))
height_more rows i = ap (λ n. heights_in (take n rows)) (add-one i) ∙ one_row rows i
