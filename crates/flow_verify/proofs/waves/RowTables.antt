-- The rows of known frames: they are in order of pc, and a table has what is known before each instruction.
use Rattle.std.proofs.Common.{◌≡◌, ℕ, suc, ◌<◌, ◌≤◌, true, false, inl, inr, [], ◌∷◌, length, get_or, Option, Some, None, IfSome, option_and_then, nat_eq, if◌then◌else◌, refl, sym, ap, ◌∙◌, arith}
use Rattle.std.specs.List.{AllByRecursion, filter_map, zip}
use Rattle.std.proofs.lemmas.Bool.{cases_Bool, eqb-true}
use Rattle.std.proofs.lemmas.Bool.Decides.{nat_tests}
use Rattle.code_reach.specs.Reached.{RisesFrom}
use Rattle.body_form.specs.declared.op.Op.{Op}
use Rattle.body_form.specs.declared.types.VFrame.{VFrame}
use Rattle.body_form.specs.Flow.{Ops, pc_at}
use Rattle.jvm_model.specs.TypesRules.{op_at}
use Rattle.jvm_model.specs.TypesRight.{Table}
use Rattle.type_table.specs.Frames.{Stored, IsFrame, frame_of}
use Rattle.type_rounds.proofs.tables.Starts.{op_none, op_here, op_later}
use Rattle.type_table.specs.Types.{Rows, table_of}
use Rattle.flow_verify.specs.declared.frames.Known.{Known}
use Rattle.flow_verify.specs.KnownFrames.{Entries, frame_at}
use Rattle.flow_verify.specs.KnownRows.{row_of, known_rows}

-- ---- each frame is in the store

abbrev AreThere : Stored → Entries → Type 0
AreThere stored entries = (position : ℕ) → IfSome (get_or entries position None) (λ known. IsFrame stored known.frame)

pub rows_there : (stored : Stored) (ops : Ops) (entries : Entries) → AreThere stored entries → AllByRecursion (λ row. IsFrame stored row.1) (filter_map row_of (zip ops entries))
rows_there stored [] entries there = tt
rows_there stored (x ∷ ops) [] there = tt
rows_there stored (x ∷ ops) (None ∷ entries) there = rows_there stored ops entries (λ position. there (suc position))
rows_there stored (x ∷ ops) (Some known ∷ entries) there = (there 0, rows_there stored ops entries (λ position. there (suc position)))

-- ---- in order

later : (low lower : ℕ) (rows : Rows) → lower ≤ low → RisesFrom low rows → RisesFrom lower rows
later low lower [] le rise = tt
later low lower (row ∷ rows) le rise = (omega (arith, rise.0), rise.1)

pub rows_rise : (low : ℕ) (ops : Ops) (stored : Stored) (entries : Entries) → RisesFrom low ops → RisesFrom low (known_rows ops stored entries)
rows_rise low [] stored entries rise = tt
rows_rise low (x ∷ ops) stored [] rise = tt
rows_rise low (x ∷ ops) stored (None ∷ entries) rise = later (suc x.0) low (known_rows ops stored entries) (omega (arith, rise.0)) (rows_rise (suc x.0) ops stored entries rise.1)
rows_rise low (x ∷ ops) stored (Some known ∷ entries) rise = (rise.0, rows_rise (suc x.0) ops stored entries rise.1)

-- ---- step by step

pub table_none : (at : ℕ) → table_of [] at ≡ None
unfolding table_of
table_none at = refl

pub table_here : (pc at : ℕ) (frame : VFrame) (rows : Rows) → nat_eq pc at ≡ true → table_of ((pc, frame) ∷ rows) at ≡ Some frame
unfolding table_of
table_here pc at frame rows e = ap (λ b. if b then Some frame else table_of rows at) e

pub table_later : (pc at : ℕ) (frame : VFrame) (rows : Rows) → nat_eq pc at ≡ false → table_of ((pc, frame) ∷ rows) at ≡ table_of rows at
unfolding table_of
table_later pc at frame rows e = ap (λ b. if b then Some frame else table_of rows at) e

-- below the first pc there is none
none_below : (low at : ℕ) (rows : Rows) → RisesFrom low rows → at < low → table_of rows at ≡ None
none_below low at [] rise lt = table_none at
none_below low at (row ∷ rows) rise lt =
    table_later row.0 at row.1 rows (grind (arith, nat_tests, rise.0)) ∙ none_below (suc row.0) at rows rise.1 (omega (arith, rise.0))

-- ---- the table of the rows

-- what is known at each instruction is in a table
abbrev pub AreIn : Table → Ops → Stored → Entries → Type 0
AreIn table ops stored entries = (position : ℕ) → position < length ops → frame_at stored entries position ≡ table (pc_at ops position)

rest_in : (table : Table) (x : ℕ × Op) (ops : Ops) (stored : Stored) (entry : Option Known) (entries : Entries) → AreIn table (x ∷ ops) stored (entry ∷ entries) → AreIn table ops stored entries
rest_in table x ops stored entry entries is position within = is (suc position) (omega (arith, within))

-- the table at the instructions
abbrev pub at_ops : Table → Ops → Table
at_ops table ops pc = option_and_then (λ _. table pc) (op_at ops pc)

pub rows_table : (low : ℕ) (table : Table) (ops : Ops) (stored : Stored) (entries : Entries) → RisesFrom low ops → length entries ≡ length ops → AreIn table ops stored entries
    → (pc : ℕ) → table_of (known_rows ops stored entries) pc ≡ at_ops table ops pc
rows_table low table [] stored entries rise count is pc = table_none pc ∙ sym (ap (option_and_then (λ _. table pc)) (op_none pc))
rows_table low table (x ∷ ops) stored [] rise count is pc = absurd (omega (arith, count))
rows_table low table (x ∷ ops) stored (None ∷ entries) rise count is pc =
    let more = rows_table (suc x.0) table ops stored entries rise.1 (omega (arith, count)) (rest_in table x ops stored None entries is) in
    elim (cases_Bool (nat_eq x.0 pc)) [
      | inl same ↦
          let at : pc ≡ x.0 = sym (eqb-true x.0 pc same) in
          let none : table pc ≡ None = ap table at ∙ sym (is 0 (omega arith)) in
          none_below (suc x.0) pc (known_rows ops stored entries) (rows_rise (suc x.0) ops stored entries rise.1) (omega (arith, at))
          ∙ sym (ap (option_and_then (λ _. table pc)) (op_here x.0 pc x.1 ops same) ∙ none)
      | inr other ↦ more pc ∙ sym (ap (option_and_then (λ _. table pc)) (op_later x.0 pc x.1 ops other))
    ]
rows_table low table (x ∷ ops) stored (Some known ∷ entries) rise count is pc =
    let frame = frame_of stored known.frame in
    let rows = known_rows ops stored entries in
    elim (cases_Bool (nat_eq x.0 pc)) [
      | inl same ↦
          let at : pc ≡ x.0 = sym (eqb-true x.0 pc same) in
          let has : table pc ≡ Some frame = ap table at ∙ sym (is 0 (omega arith)) in
          table_here x.0 pc frame rows same ∙ sym (ap (option_and_then (λ _. table pc)) (op_here x.0 pc x.1 ops same) ∙ has)
      | inr other ↦
          table_later x.0 pc frame rows other
          ∙ rows_table (suc x.0) table ops stored entries rise.1 (omega (arith, count)) (rest_in table x ops stored (Some known) entries is) pc
          ∙ sym (ap (option_and_then (λ _. table pc)) (op_later x.0 pc x.1 ops other))
    ]
