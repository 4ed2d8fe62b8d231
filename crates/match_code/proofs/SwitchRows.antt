-- The rows of a switch of a set keep to the limits of machine instructions.
use Rattle.std.proofs.Common.{ℕ, ℤ, pos, List, [], ◌∷◌, map, Option, Some, None, arith}
use Rattle.std.specs.Prelude.{◌+ℤ◌}
use Rattle.std.proofs.lemmas.List.{length-map}
use Rattle.image_instr.specs.Insn as image
use Rattle.insn_form.specs.declared.SwitchForm.{SwitchForm}
use Rattle.insn_form.specs.declared.SwitchForm.TheVariants as switch
use Rattle.insn_form.specs.declared.SwitchRow.{SwitchRow}
use Rattle.body_form.specs.declared.op.Op.{Op}
use Rattle.body_form.specs.declared.op.Op.TheVariants as op
use Rattle.jvm_model.specs.ImageExpansion.{moved_row}
use Rattle.typed_machine.specs.TypedWorld.{World}
use Rattle.type_safety.specs.Facts.{KeysRise, KeysFollow, SwitchFits, Named}
use Rattle.expansion.specs.Seen.{KeepsRows}

keys_rise : (before : Option ℤ) (rows : List SwitchRow) → KeysRise before rows → image.KeysRise before (map (moved_row (λ pc. 0)) rows)
keys_rise before [] rise = tt
keys_rise None (row ∷ rows) rise = (tt, keys_rise (Some row.key) rows rise.1)
keys_rise (Some key) (row ∷ rows) rise = (rise.0, keys_rise (Some row.key) rows rise.1)

keys_follow : (key : ℤ) (rows : List SwitchRow) → KeysFollow key rows → image.KeysFollow key (map (moved_row (λ pc. 0)) rows)
keys_follow key [] follow = tt
keys_follow key (row ∷ rows) follow = (follow.0, keys_follow (key +ℤ pos 1) rows follow.1)

switch_keeps : (form : SwitchForm) (default : ℕ) (rows : List SwitchRow) → SwitchFits form rows → KeepsRows (op.Switch form default rows)
switch_keeps switch.Lookup default rows fits = (tt, (length-map rows (moved_row (λ pc. 0)), keys_rise None rows fits.1))
switch_keeps switch.Table default [] fits = absurd fits.1
switch_keeps switch.Table default (row ∷ rows) fits = ((omega arith, fits.1.1), (length-map (row ∷ rows) (moved_row (λ pc. 0)), keys_follow row.key (row ∷ rows) fits.1.0))

pub rows_keep : (world : World) (own : ℕ) (instruction : Op) → Named world own instruction → KeepsRows instruction
rows_keep world own (op.Switch form default rows) named = switch_keeps form default rows named
rows_keep world own instruction named = tt
