-- Rows by pc, and what is known by them.
use Rattle.std.specs.Prelude.{◌≡◌, ℕ, nat_lt, List, [], Some, slice_get}
use Rattle.std.specs.Option.{option_map_or}
use Rattle.std.specs.List.{count_by}
use Rattle.image_instr.specs.declared.insn.Kind.{Kind}
use Rattle.body_form.specs.declared.types.VFrame.{VFrame}
use Rattle.jvm_model.specs.declared.entries.Entry.{Entry}
use Rattle.jvm_model.specs.TypesRight.{Table}
use Rattle.type_table.specs.Types.{Rows, table_of}
use Rattle.flow_split.specs.Totals.{shapes_before}

-- how many rows have lower pcs
abbrev pub rows_before : Rows → ℕ → ℕ
rows_before rows pc = count_by (λ row. nat_lt row.0 pc) rows

-- the row at the index is that of the pc
pub record IsRow (rows : Rows) (index pc : ℕ) : Type 0 where
  pub frame : VFrame
  pub found : slice_get rows index ≡ Some (pc, frame)
  pub known : table_of rows pc ≡ Some frame

-- the shapes of the operands before the instruction at a pc, the top first; none where it has no types
abbrev pub shapes_where : List Entry → Table → ℕ → List Kind
shapes_where narrow table pc = option_map_or (λ frame. shapes_before narrow pc frame.stack) (table pc) []
