-- What is measured of a method before its frame is laid out.
use Rattle.std.specs.Prelude.{◌≡◌, ℕ, ◌+◌, ◌≤◌, length}
use Rattle.body_form.specs.declared.body.Body.{Body}
use Rattle.jvm_model.specs.TypesRight.{Table}
use Rattle.jvm_model.specs.WidthsShapes.{Widths}
use Rattle.jvm_model.specs.WidthsFrame.{most_in}
use Rattle.flow_split.specs.declared.frame.Measured.{Measured}
use Rattle.flow_split.specs.Shares.{slot_shares_of, cell_shares_of, total_in}

-- what each local takes of the slots and of the cells, and the greatest number of operand cells
pub record IsMeasured (body : Body) (table : Table) (widths : Widths) (measured : Measured) : Type 0 where
  pub slots : measured.slots.items ≡ slot_shares_of body
  pub cells : measured.cells.items ≡ cell_shares_of body widths
  pub most : measured.most ≡ most_in body widths table

-- there are as many locals as a number of two bytes counts
pub record AreFew (measured : Measured) : Type 0 where
  pub slots : length measured.slots.items ≤ 65535
  pub cells : length measured.cells.items ≤ 65535

-- the cells of the frame, its header among them
abbrev pub cells_measured : Measured → ℕ
cells_measured measured = 4 + (total_in measured.slots.items + (total_in measured.cells.items + measured.most))
