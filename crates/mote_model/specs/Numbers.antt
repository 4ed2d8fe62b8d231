-- The operations and the conditions on whole numbers that machine instructions name.
use Rattle.cell_num.specs.declared.arithmetic.BinOp.{BinOp}
use Rattle.cell_num.specs.declared.arithmetic.BinOp.TheVariants as op
use Rattle.cell_num.specs.declared.conditions.Cond.{Cond}
use Rattle.cell_num.specs.declared.conditions.Cond.TheVariants as cond
use Rattle.image_instr.specs.declared.insn.Operation.{Operation}
use Rattle.image_instr.specs.declared.insn.Operation.TheVariants as operation
use Rattle.image_instr.specs.declared.insn.Condition.{Condition}
use Rattle.image_instr.specs.declared.insn.Condition.TheVariants as condition

-- the operation on ints that an instruction names
abbrev pub op_of : Operation → BinOp
op_of operation.Add = op.Add
op_of operation.Sub = op.Sub
op_of operation.Mul = op.Mul
op_of operation.Div = op.Div
op_of operation.Rem = op.Rem
op_of operation.Shl = op.Shl
op_of operation.Shr = op.Shr
op_of operation.Ushr = op.Ushr
op_of operation.And = op.And
op_of operation.Or = op.Or
op_of operation.Xor = op.Xor

-- the condition on ints that an instruction names
abbrev pub cond_of : Condition → Cond
cond_of condition.Eq = cond.Eq
cond_of condition.Ne = cond.Ne
cond_of condition.Lt = cond.Lt
cond_of condition.Ge = cond.Ge
cond_of condition.Gt = cond.Gt
cond_of condition.Le = cond.Le
