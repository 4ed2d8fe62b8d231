-- The targets of an instruction by their number.
use Rattle.std.specs.Prelude.{◌≡◌, ℕ, ◌+◌, if◌then◌else◌, List, drop, Some}
use Rattle.image_instr.specs.declared.insn.MInsn.{MInsn}
use Rattle.image_instr.specs.declared.insn.MInsn.TheVariants.{Jz, JCmp, RJ, Goto, Switch, Table}
use Rattle.image_instr.specs.Reading.{insn_at}
use Rattle.image_check.specs.Visits.{goes_on}

-- how many targets an instruction has
abbrev pub target_count : MInsn → ℕ
target_count (Jz width condition target) = 1
target_count (JCmp width condition target) = 1
target_count (RJ test target) = 1
target_count (Goto target) = 1
target_count (Switch width default count) = count + 1
target_count (Table width default low count) = count + 1
target_count _ = 0

-- the instruction is at the offset
abbrev pub HoldsAt : List ℕ → ℕ → MInsn → Type 0
HoldsAt code pc insn = (size : ℕ) × (insn_at (drop pc code) ≡ Some (insn, size))

-- how many successors an instruction has
abbrev pub successor_count : MInsn → ℕ
successor_count insn = if goes_on insn then target_count insn + 1 else target_count insn
