-- The machine instructions that the machine runs so far, by the step that runs them.
use Rattle.std.specs.Prelude.{Bool, true, false, ◌||◌, nat_le, nat_lt, if◌then◌else◌}
use Rattle.library.specs.Classes.{first_own}
use Rattle.image_instr.specs.declared.insn.MInsn.{MInsn}
use Rattle.image_instr.specs.declared.insn.MInsn.TheVariants as insns

-- whole numbers, locals, operands, jumps and statics
abbrev pub is_plain : MInsn → Bool
is_plain (insns.Const1 value) = true
is_plain (insns.Const2 value) = true
is_plain (insns.Small1 value) = true
is_plain (insns.Small2 value) = true
is_plain (insns.Mid2 value) = true
is_plain insns.Null = true
is_plain (insns.Load k at) = true
is_plain (insns.Store k at) = true
is_plain (insns.RClear at) = true
is_plain (insns.Inc w at amount) = true
is_plain (insns.RDupX m n) = true
is_plain (insns.DupX m n) = true
is_plain (insns.RPop count) = true
is_plain (insns.Pop count) = true
is_plain insns.RSwap = true
is_plain (insns.Swap m n) = true
is_plain (insns.Drop above) = true
is_plain (insns.Bin w operation) = true
is_plain (insns.Neg w) = true
is_plain insns.Sx = true
is_plain insns.Zx = true
is_plain insns.Sb = true
is_plain insns.Bit = true
is_plain (insns.Jz w condition target) = true
is_plain (insns.JCmp w condition target) = true
is_plain (insns.RJ test target) = true
is_plain (insns.Goto target) = true
is_plain (insns.Switch w default count) = true
is_plain (insns.Table w default low count) = true
is_plain (insns.GetS k at) = true
is_plain (insns.PutS k at) = true
is_plain insn = false

-- returns, and calls of static methods: those with code, and write, read and print
abbrev pub is_static_call : MInsn → Bool
is_static_call (insns.Ret kept) = true
is_static_call (insns.CallS id) = if nat_lt id first_own then nat_le 1 id else true
is_static_call insn = false

-- the machine runs the instruction
abbrev pub is_built : MInsn → Bool
is_built insn = is_plain insn || is_static_call insn
