-- Where a switch jumps to.
use Rattle.std.specs.Prelude.{ℕ, ℤ, Bool, true, false, if◌then◌else◌, List, [], ◌∷◌, drop, IsTrue, IsSomeAnd}
use Rattle.std.specs.Ordering.{int_eq}
use Rattle.byteorder.specs.Endian.{big_number}
use Rattle.image_instr.specs.declared.insn.SwitchRow.{SwitchRow}
use Rattle.image_instr.specs.declared.insn.MInsn.{MInsn}
use Rattle.image_instr.specs.declared.insn.MInsn.TheVariants.{Switch, Table}
use Rattle.image_instr.specs.Reading.{key_in, rows_in, targets_in, insn_at}

abbrev pub is_switch : MInsn → Bool
is_switch (Switch width default count) = true
is_switch (Table width default low count) = true
is_switch _ = false

-- a switch or a table is at the prefix of the bytes
abbrev pub IsSwitchFirst : List ℕ → Type 0
IsSwitchFirst bytes = IsSomeAnd (insn_at bytes) (λ found. IsTrue (is_switch found.0))

-- a switch or a table is at the place
abbrev pub IsSwitchAt : List ℕ → ℕ → Type 0
IsSwitchAt code pc = IsSwitchFirst (drop pc code)

abbrev pub default_of : MInsn → ℕ
default_of (Switch width default count) = default
default_of (Table width default low count) = default
default_of _ = 0

-- the target of the row with the key, or else the default
abbrev pub target_in : ℕ → List SwitchRow → ℤ → ℕ
target_in default [] key = default
target_in default (row ∷ rows) key = if int_eq row.key key then row.target else target_in default rows key

-- the same in the operands of a switch, and of a table
abbrev pub rows_target : List ℕ → ℤ → ℕ
rows_target operands key = target_in (big_number 2 operands) (rows_in (big_number 2 (drop 2 operands)) (drop 4 operands)) key

abbrev pub targets_target : List ℕ → ℤ → ℕ
targets_target operands key =
    target_in (big_number 2 operands) (targets_in (key_in (drop 2 operands)) (big_number 2 (drop 6 operands)) (drop 8 operands)) key
