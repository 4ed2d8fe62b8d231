-- The keys of a switch that is read have 32 bits, and are in order.
use Rattle.std.proofs.Common.{ℤ, pos, List, [], ◌∷◌, Option, Some, None, arith}
use Rattle.std.specs.Prelude.{◌+ℤ◌}
use Rattle.insn_form.specs.declared.SwitchForm.{SwitchForm}
use Rattle.insn_form.specs.declared.SwitchForm.TheVariants as switch
use Rattle.insn_form.specs.declared.SwitchRow.{SwitchRow}
use Rattle.class_code.proofs.Numbers.{Rising, Following, InOrder, IsSwitch}
use Rattle.type_safety.specs.Facts.{KeysRise, KeysFollow, KeysInOrder, SwitchFits}

keys_rise : (before : Option ℤ) (rows : List SwitchRow) → Rising before rows → KeysRise before rows
keys_rise before [] rise = tt
keys_rise None (row ∷ rows) rise = (tt, keys_rise (Some row.key) rows rise.1)
keys_rise (Some key) (row ∷ rows) rise = (rise.0, keys_rise (Some row.key) rows rise.1)

keys_follow : (key : ℤ) (rows : List SwitchRow) → Following key rows → KeysFollow key rows
keys_follow key [] follow = tt
keys_follow key (row ∷ rows) follow = (follow.0, keys_follow (key +ℤ pos 1) rows follow.1)

in_order : (form : SwitchForm) (rows : List SwitchRow) → InOrder form rows → KeysInOrder form rows
in_order switch.Lookup rows order = keys_rise None rows order
in_order switch.Table [] order = let some = order.some in absurd (omega (arith, some))
in_order switch.Table (row ∷ rows) order = (keys_follow row.key (row ∷ rows) order.follow, order.last)

pub switch_fits : (form : SwitchForm) (rows : List SwitchRow) → IsSwitch form rows → SwitchFits form rows
switch_fits form rows is = (is.keys, in_order form rows is.order)
