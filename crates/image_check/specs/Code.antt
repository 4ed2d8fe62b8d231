-- The code of a method as its instructions, one after the other, each with its offset in bytes from the
-- code's start.
use Rattle.std.specs.Prelude.{◌≡◌, ℕ, ◌+◌, List, [], ◌∷◌, map, drop, Some}
use Rattle.std.specs.List.{Contains, AllByRecursion}
use Rattle.image_instr.specs.declared.insn.SwitchRow.{SwitchRow}
use Rattle.image_instr.specs.declared.insn.MInsn.{MInsn}
use Rattle.image_instr.specs.declared.insn.MInsn.TheVariants.{Jz, JCmp, RJ, Goto, Switch, Table}
use Rattle.image_instr.specs.Reading.{insn_at, rows_at}

-- offsets with the instructions that stand there
abbrev pub Insns : Type 0
Insns = List (ℕ × MInsn)

-- The instructions stand one after the other in the bytes, which begin at pc. Behind them the bytes
-- `left` begin, at `next`.
abbrev pub AreIn : ℕ → List ℕ → Insns → ℕ → List ℕ → Type 0
AreIn pc bytes [] next left = (next ≡ pc) × (left ≡ bytes)
AreIn pc bytes ((at, insn) ∷ insns) next left =
    (at ≡ pc) × (size : ℕ) × (insn_at bytes ≡ Some (insn, size)) × AreIn (pc + size) (drop size bytes) insns next left

-- the code is these instructions
abbrev pub CodeIs : List ℕ → Insns → Type 0
CodeIs code insns = (end : ℕ) × AreIn 0 code insns end []

-- an instruction is at the offset
abbrev pub IsStart : Insns → ℕ → Type 0
IsStart insns pc = Contains (map (λ x. x.0) insns) pc

-- where an instruction with these rows may jump
abbrev pub targets : MInsn → List SwitchRow → List ℕ
targets (Jz width condition target) rows = target ∷ []
targets (JCmp width condition target) rows = target ∷ []
targets (RJ test target) rows = target ∷ []
targets (Goto target) rows = target ∷ []
targets (Switch width default count) rows = default ∷ map (λ row. row.target) rows
targets (Table width default low count) rows = default ∷ map (λ row. row.target) rows
targets _ rows = []

-- the same of the instruction at an offset, whose rows stand in the code
abbrev pub targets_at : List ℕ → ℕ × MInsn → List ℕ
targets_at code x = targets x.1 (rows_at x.1 (drop x.0 code))

-- the instruction jumps to starts alone
abbrev pub JumpsToStarts : List ℕ → Insns → ℕ × MInsn → Type 0
JumpsToStarts code insns x = AllByRecursion (IsStart insns) (targets_at code x)
