-- What a stack instruction makes of the operands, and where a switch leads.
use Rattle.std.specs.Prelude.{ℕ, ℤ, if◌then◌else◌, List, [], ◌∷◌, Option, Some, None}
use Rattle.std.specs.Ordering.{int_eq}
use Rattle.insn_form.specs.declared.StackForm.{StackForm}
use Rattle.insn_form.specs.declared.StackForm.TheVariants.{Pop, Pop2, Dup, DupX1, DupX2, Dup2, Dup2X1, Dup2X2, Swap}
use Rattle.insn_form.specs.declared.SwitchRow.{SwitchRow}
use Rattle.jvm_model.specs.State.{Value}

-- the operands after a stack instruction, the top first, each value in one place
abbrev pub restacked : StackForm → List Value → Option (List Value)
restacked Pop (a ∷ rest) = Some rest
restacked Pop2 (a ∷ b ∷ rest) = Some rest
restacked Dup (a ∷ rest) = Some (a ∷ a ∷ rest)
restacked DupX1 (a ∷ b ∷ rest) = Some (a ∷ b ∷ a ∷ rest)
restacked DupX2 (a ∷ b ∷ c ∷ rest) = Some (a ∷ b ∷ c ∷ a ∷ rest)
restacked Dup2 (a ∷ b ∷ rest) = Some (a ∷ b ∷ a ∷ b ∷ rest)
restacked Dup2X1 (a ∷ b ∷ c ∷ rest) = Some (a ∷ b ∷ c ∷ a ∷ b ∷ rest)
restacked Dup2X2 (a ∷ b ∷ c ∷ d ∷ rest) = Some (a ∷ b ∷ c ∷ d ∷ a ∷ b ∷ rest)
restacked Swap (a ∷ b ∷ rest) = Some (b ∷ a ∷ rest)
restacked _ _ = None

-- the target of the row with this key
abbrev pub row_target : ℤ → List SwitchRow → Option ℕ
row_target key [] = None
row_target key (row ∷ rows) = if int_eq row.key key then Some row.target else row_target key rows
