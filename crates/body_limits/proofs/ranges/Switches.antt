-- The numbers of a switch are of their types: its default, its keys, its targets, and how many rows it has.
use Rattle.std.proofs.Common.{ℕ, ◌^◌, ◌<◌, List, [], ◌∷◌, length, map, arith, FitsSigned, w32}
use Rattle.std.specs.List.{AllByRecursion}
use Rattle.std.proofs.lemmas.Int.{ints}
use Rattle.insn_form.specs.declared.SwitchForm.{SwitchForm}
use Rattle.insn_form.specs.declared.SwitchForm.TheVariants as switch
use Rattle.insn_form.specs.declared.SwitchRow.{SwitchRow}
use Rattle.image_instr.specs.declared.insn.Width.{Width}
use Rattle.image_instr.specs.Insn.{HasRowRanges}
use Rattle.jvm_model.specs.ImageExpansion.{moved_row, low_key, switch_insn}
use Rattle.type_safety.specs.Facts.{SwitchFits}
use Rattle.match_code.specs.Standing.{IsInRange}

low_fits : (rows : List SwitchRow) → AllByRecursion (λ row. FitsSigned w32 row.key) rows → FitsSigned w32 (low_key rows)
low_fits [] keys = omega (arith, ints)
low_fits (row ∷ rows) keys = keys.0

module _ (offset : ℕ → ℕ) (fits : (pc : ℕ) → offset pc < 2 ^ 16) where
  rows_fit : (rows : List SwitchRow) → AllByRecursion (λ row. FitsSigned w32 row.key) rows → AllByRecursion HasRowRanges (map (moved_row offset) rows)
  rows_fit [] keys = tt
  rows_fit (row ∷ rows) keys = ((keys.0, fits row.target), rows_fit rows keys.1)

  pub switch_in : (form : SwitchForm) (width : Width) (default : ℕ) (rows : List SwitchRow) → SwitchFits form rows → length rows < 2 ^ 16 → IsInRange (switch_insn form width (offset default) rows, map (moved_row offset) rows)
  switch_in switch.Lookup width default rows keys few = ((fits default, few), rows_fit rows keys.0)
  switch_in switch.Table width default rows keys few = ((fits default, low_fits rows keys.0, few), rows_fit rows keys.0)
