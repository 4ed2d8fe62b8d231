-- What is asked of the types and of the whole numbers of one cell, and what is answered.
use Rattle.std.specs.Prelude.{◌≡◌, ◌-◌, ◌<◌, Bool, true, false, ◌&&◌, ◌||◌, not, nat_eq, nat_lt, if◌then◌else◌, List, length, get_or, IfSome}
use Rattle.std.specs.Option.{option_map_or}
use Rattle.std.specs.List.{AllByRecursion, AllPairs}
use Rattle.code_reach.specs.Reached.{RisesFrom}
use Rattle.body_form.specs.declared.body.Body.{Body}
use Rattle.body_form.specs.declared.types.VFrame.{VFrame}
use Rattle.body_form.specs.declared.types.VType.TheVariants as known
use Rattle.body_form.specs.Flow.{IsStart}
use Rattle.jvm_model.specs.declared.entries.Entry.{Entry}
use Rattle.jvm_model.specs.TypesFrames.{is_int}
use Rattle.jvm_model.specs.TypesRight.{Table}
use Rattle.jvm_model.specs.WidthsShapes.{widths_of}
use Rattle.jvm_model.specs.WidthsFrame.{frame_cells, most_frame_cells}
use Rattle.type_table.specs.Types.{Rows, table_of}
use Rattle.flow_split.specs.Around.{local_named}
use Rattle.flow_split.specs.declared.refusal.SplitRefusal.{SplitRefusal}
use Rattle.flow_split.specs.declared.refusal.SplitRefusal.TheVariants.{FrameTooLarge, Memory}

-- ---- what is asked

-- the pcs of the rows rise, and each is that of an instruction
pub record AreRows (body : Body) (rows : Rows) : Type 0 where
  pub rise : RisesFrom 0 rows
  pub starts : AllByRecursion (λ row. IsStart body.ops row.0) rows

-- each local that an instruction with types names is one of the method's
abbrev pub AreNamed : Body → Rows → Type 0
AreNamed body rows = AllByRecursion (λ x. IfSome (table_of rows x.0) (λ frame. IfSome (local_named x.1) (λ local. local < body.max_locals))) body.ops

-- the first entry comes before the second: by pc, then locals before operands, then place
abbrev pub comes_before : Entry → Entry → Bool
comes_before first second =
    nat_lt first.pc second.pc
    || (nat_eq first.pc second.pc
    && ((not first.operand && second.operand)
    || ((if first.operand then second.operand else not second.operand) && nat_lt first.place second.place)))

-- the local or the operand of the entry is an int in the frame; operands count from the bottom
abbrev pub is_int_in : Entry → VFrame → Bool
is_int_in entry frame =
    if entry.operand then nat_lt entry.place (length frame.stack) && is_int (get_or frame.stack (length frame.stack - 1 - entry.place) known.Top)
    else is_int (get_or frame.locals entry.place known.Top)

-- the entries are in order, each once, and each is an int before an instruction that has types
pub record AreEntries (rows : Rows) (narrow : List Entry) : Type 0 where
  pub order : AllPairs (λ first second. comes_before first second ≡ true) narrow
  pub ints : AllByRecursion (λ entry. option_map_or (is_int_in entry) (table_of rows entry.pc) false ≡ true) narrow

-- ---- what is refused

-- the frame has so many cells, which exceed the limit, or there was no memory
abbrev pub IsTooLarge : Body → Table → List Entry → SplitRefusal → Type 0
IsTooLarge body table narrow (FrameTooLarge method cells) =
    (method ≡ body.method) × (cells ≡ frame_cells body (widths_of narrow table body.ops) table) × (most_frame_cells < cells)
IsTooLarge body table narrow Memory = Unit {0}
