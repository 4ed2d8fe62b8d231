-- The table of instructions (JVMS 6.5), family by family, by rising opcode. An opcode decides what its
-- operands are. A family that reads an opcode of its range answers the instruction and the bytes after
-- it, or why none stands there: the opcode is left out, or the bytes are none of the Java standard.
use Rattle.std.specs.Prelude.{ℕ, ℤ, zero, suc, pos, ◌+◌, ◌-◌, ◌%◌, ◌+ℤ◌, ◌-ℤ◌, Bool, true, ◌&&◌, ◌||◌, ◌==◌, nat_le, if◌then◌else◌, List, [], ◌∷◌, Option, Some, None, Result, Ok, Err}
use Rattle.std.specs.Int.{w64, cast_unsigned}
use Rattle.std.specs.Int.Signed.{lt_z}
use Rattle.cell_num.specs.declared.arithmetic.BinOp.{BinOp}
use Rattle.cell_num.specs.declared.arithmetic.BinOp.TheVariants as op
use Rattle.cell_num.specs.declared.conditions.Cond.{Cond}
use Rattle.cell_num.specs.declared.conditions.Cond.TheVariants as cond
use Rattle.cell_num.specs.declared.conversions.Conv.TheVariants as conv
use Rattle.class_code.specs.declared.refusal.Fault.{Fault}
use Rattle.class_code.specs.declared.refusal.Fault.TheVariants.{Unsupported, BadCode}
use Rattle.insn_form.specs.declared.ValueKind.TheVariants as value
use Rattle.insn_form.specs.declared.StackForm.{StackForm}
use Rattle.insn_form.specs.declared.StackForm.TheVariants as form
use Rattle.insn_form.specs.declared.RefCond.{RefCond}
use Rattle.insn_form.specs.declared.RefCond.TheVariants as ref
use Rattle.insn_form.specs.declared.SwitchForm.TheVariants as switch
use Rattle.insn_form.specs.declared.SwitchRow.{SwitchRow}
use Rattle.insn_form.specs.declared.ElementKind.TheVariants as element
use Rattle.class_code.specs.declared.insn.ArrayKind.{ArrayKind}
use Rattle.class_code.specs.declared.insn.ArrayKind.TheVariants as array
use Rattle.class_code.specs.declared.insn.Insn.{Insn}
use Rattle.class_code.specs.declared.insn.Insn.TheVariants.{Nop, Null, Push, Ldc, Load, Store, Inc, Stack, Bin, Neg, Convert, If, IfCmp, IfRef, Goto, Switch, Return, GetStatic, PutStatic, GetField, PutField, CallVirtual, CallSpecial, CallStatic, CallInterface, New, NewArray, NewRefArray, ArrayLength, ArrayLoad, ArrayStore, Throw, CheckCast, InstanceOf, MultiArray}
use Rattle.byte_read.specs.Reading.{◌>>=◌}
use Rattle.class_code.specs.Operands.{u1_at, u2_at, i1_at, i2_at, i4_at, slice_at, target, target_at, far_target_at}

-- an instruction and the bytes after it, or a fault
abbrev pub Prefix : Type 0
Prefix = Result (Insn × List ℕ) Fault

-- the opcode is one of the Java standard that is left out
abbrev pub left_out : ℕ → Prefix
left_out opcode = Err (Unsupported opcode)

abbrev pub is_within : ℕ → ℕ → ℕ → Bool
is_within low high n = nat_le low n && nat_le n high

-- an instruction with one operand
abbrev pub with_u1 : (ℕ → Insn) → List ℕ → Prefix
with_u1 insn operands = u1_at operands >>= λ x. Ok (insn x.0, x.1)

abbrev pub with_u2 : (ℕ → Insn) → List ℕ → Prefix
with_u2 insn operands = u2_at operands >>= λ x. Ok (insn x.0, x.1)

-- ---- constants, 0 to 20

unfoldable pub constant : ℕ → List ℕ → Prefix
constant opcode operands =
    if opcode == 0 then Ok (Nop, operands)  -- nop
    else (if opcode == 1 then Ok (Null, operands)  -- aconst_null
    else (if is_within 2 8 opcode then Ok (Push (pos opcode -ℤ pos 3), operands)  -- iconst_m1 2 to iconst_5 8
    else (if opcode == 16 then (i1_at operands >>= λ x. Ok (Push x.0, x.1))  -- bipush
    else (if opcode == 17 then (i2_at operands >>= λ x. Ok (Push x.0, x.1))  -- sipush
    else (if opcode == 18 then with_u1 Ldc operands  -- ldc
    else (if opcode == 19 then with_u2 Ldc operands  -- ldc_w
    else left_out opcode))))))  -- lconst_0 9 to dconst_1 15, ldc2_w 20

-- ---- loads, 21 to 53

unfoldable pub load : ℕ → List ℕ → Prefix
load opcode operands =
    if opcode == 21 then with_u1 (Load value.Int) operands  -- iload
    else (if opcode == 25 then with_u1 (Load value.Ref) operands  -- aload
    else (if is_within 26 29 opcode then Ok (Load value.Int (opcode - 26), operands)  -- iload_0 26 to iload_3 29
    else (if is_within 42 45 opcode then Ok (Load value.Ref (opcode - 42), operands)  -- aload_0 42 to aload_3 45
    else left_out opcode)))  -- lload 22 to dload 24, lload_0 30 to dload_3 41

unfoldable pub array_load : ℕ → List ℕ → Prefix
array_load opcode operands =
    if opcode == 46 then Ok (ArrayLoad element.Int, operands)  -- iaload
    else (if opcode == 50 then Ok (ArrayLoad element.Ref, operands)  -- aaload
    else (if opcode == 51 then Ok (ArrayLoad element.Byte, operands)  -- baload
    else (if opcode == 52 then Ok (ArrayLoad element.Char, operands)  -- caload
    else (if opcode == 53 then Ok (ArrayLoad element.Short, operands)  -- saload
    else left_out opcode))))  -- laload 47 to daload 49

-- ---- stores, 54 to 86

unfoldable pub store : ℕ → List ℕ → Prefix
store opcode operands =
    if opcode == 54 then with_u1 (Store value.Int) operands  -- istore
    else (if opcode == 58 then with_u1 (Store value.Ref) operands  -- astore
    else (if is_within 59 62 opcode then Ok (Store value.Int (opcode - 59), operands)  -- istore_0 59 to istore_3 62
    else (if is_within 75 78 opcode then Ok (Store value.Ref (opcode - 75), operands)  -- astore_0 75 to astore_3 78
    else left_out opcode)))  -- lstore 55 to dstore 57, lstore_0 63 to dstore_3 74

unfoldable pub array_store : ℕ → List ℕ → Prefix
array_store opcode operands =
    if opcode == 79 then Ok (ArrayStore element.Int, operands)  -- iastore
    else (if opcode == 83 then Ok (ArrayStore element.Ref, operands)  -- aastore
    else (if opcode == 84 then Ok (ArrayStore element.Byte, operands)  -- bastore
    else (if opcode == 85 then Ok (ArrayStore element.Char, operands)  -- castore
    else (if opcode == 86 then Ok (ArrayStore element.Short, operands)  -- sastore
    else left_out opcode))))  -- lastore 80 to dastore 82

-- ---- the stack, 87 to 95

unfoldable pub stack_form : ℕ → StackForm
stack_form opcode =
    if opcode == 87 then form.Pop  -- pop
    else (if opcode == 88 then form.Pop2  -- pop2
    else (if opcode == 89 then form.Dup  -- dup
    else (if opcode == 90 then form.DupX1  -- dup_x1
    else (if opcode == 91 then form.DupX2  -- dup_x2
    else (if opcode == 92 then form.Dup2  -- dup2
    else (if opcode == 93 then form.Dup2X1  -- dup2_x1
    else (if opcode == 94 then form.Dup2X2  -- dup2_x2
    else form.Swap)))))))  -- swap 95

-- ---- whole numbers, 96 to 132

-- the operation of an opcode that has two operands
unfoldable pub operation : ℕ → Option BinOp
operation opcode =
    if opcode == 96 then Some op.Add  -- iadd
    else (if opcode == 100 then Some op.Sub  -- isub
    else (if opcode == 104 then Some op.Mul  -- imul
    else (if opcode == 108 then Some op.Div  -- idiv
    else (if opcode == 112 then Some op.Rem  -- irem
    else (if opcode == 120 then Some op.Shl  -- ishl
    else (if opcode == 122 then Some op.Shr  -- ishr
    else (if opcode == 124 then Some op.Ushr  -- iushr
    else (if opcode == 126 then Some op.And  -- iand
    else (if opcode == 128 then Some op.Or  -- ior
    else (if opcode == 130 then Some op.Xor  -- ixor
    else None))))))))))

abbrev pub binary : ℕ → List ℕ → Option BinOp → Prefix
binary opcode operands None = left_out opcode  -- those of long, float and double
binary opcode operands (Some operation) = Ok (Bin operation, operands)

unfoldable pub increment : List ℕ → Prefix
increment operands = do
  local ← u1_at operands
  amount ← i1_at local.1
  Ok (Inc local.0 amount.0, amount.1)

unfoldable pub math : ℕ → List ℕ → Prefix
math opcode operands =
    if opcode == 116 then Ok (Neg, operands)  -- ineg
    else (if opcode == 132 then increment operands  -- iinc
    else binary opcode operands (operation opcode))

-- ---- conversions, 133 to 152

unfoldable pub conversion : ℕ → List ℕ → Prefix
conversion opcode operands =
    if opcode == 145 then Ok (Convert conv.Byte, operands)  -- i2b
    else (if opcode == 146 then Ok (Convert conv.Char, operands)  -- i2c
    else (if opcode == 147 then Ok (Convert conv.Short, operands)  -- i2s
    else left_out opcode))  -- i2l 133 to d2f 144, lcmp 148 to dcmpg 152

-- ---- jumps, 153 to 166, and 198 and 199

-- the conditions in the order of the opcodes
unfoldable pub condition : ℕ → Cond
condition code =
    if code == 0 then cond.Eq
    else (if code == 1 then cond.Ne
    else (if code == 2 then cond.Lt
    else (if code == 3 then cond.Ge
    else (if code == 4 then cond.Gt
    else cond.Le))))

unfoldable pub ref_condition : ℕ → RefCond
ref_condition opcode =
    if opcode == 165 then ref.Eq  -- if_acmpeq
    else (if opcode == 166 then ref.Ne  -- if_acmpne
    else (if opcode == 198 then ref.Null  -- ifnull
    else ref.NonNull))  -- ifnonnull 199

-- the jump of an opcode to a target
unfoldable pub jump : ℕ → ℕ → Insn
jump opcode target =
    if is_within 153 158 opcode then If (condition (opcode - 153)) target  -- ifeq 153 to ifle 158
    else (if is_within 159 164 opcode then IfCmp (condition (opcode - 159)) target  -- if_icmpeq 159 to if_icmple 164
    else IfRef (ref_condition opcode) target)

unfoldable pub branch : ℕ → ℕ → List ℕ → Prefix
branch pc opcode operands = target_at pc operands >>= λ x. Ok (jump opcode x.0, x.1)

-- ---- switches, 170 and 171

abbrev pub are_zero : List ℕ → Bool
are_zero [] = true
are_zero (byte ∷ bytes) = byte == 0 && are_zero bytes

-- the bytes of zero up to the next place that is a multiple of four
unfoldable pub padding_at : ℕ → List ℕ → Result (List ℕ) Fault
padding_at pc operands = do
  padding ← slice_at (3 - pc % 4) operands
  if are_zero padding.0 then Ok padding.1 else Err BadCode

-- so many targets, of keys that follow one another from the one after so many
unfoldable pub table_rows : ℕ → ℤ → ℕ → ℕ → List ℕ → Result (List SwitchRow × List ℕ) Fault
table_rows pc low index zero bytes = Ok ([], bytes)
table_rows pc low index (suc count) bytes = do
  target ← far_target_at pc bytes
  rows ← table_rows pc low (index + 1) count target.1
  Ok (record { key = low +ℤ pos index; target = target.0 } ∷ rows.0, rows.1)

-- how many keys there are from low to high, which is not below it
abbrev pub span : ℤ → ℤ → ℕ
span low high = cast_unsigned w64 (high -ℤ low) + 1

unfoldable pub tableswitch : ℕ → List ℕ → Prefix
tableswitch pc operands = do
  padded ← padding_at pc operands
  default ← far_target_at pc padded
  low ← i4_at default.1
  high ← i4_at low.1
  rows ← (if lt_z high.0 low.0 then Err BadCode else table_rows pc low.0 0 (span low.0 high.0) high.1)
  Ok (Switch switch.Table default.0 rows.0, rows.1)

-- the key is above the one before it, where there is one
abbrev pub is_above : Option ℤ → ℤ → Bool
is_above None key = true
is_above (Some before) key = lt_z before key

unfoldable pub lookup_row : ℕ → Option ℤ → List ℕ → Result (SwitchRow × List ℕ) Fault
lookup_row pc before bytes = do
  key ← i4_at bytes
  target ← far_target_at pc key.1
  if is_above before key.0 then Ok (record { key = key.0; target = target.0 }, target.1) else Err BadCode

-- so many rows, of which the keys rise
unfoldable pub lookup_rows : ℕ → Option ℤ → ℕ → List ℕ → Result (List SwitchRow × List ℕ) Fault
lookup_rows pc before zero bytes = Ok ([], bytes)
lookup_rows pc before (suc count) bytes = do
  row ← lookup_row pc before bytes
  rows ← lookup_rows pc (Some row.0.key) count row.1
  Ok (row.0 ∷ rows.0, rows.1)

unfoldable pub lookupswitch : ℕ → List ℕ → Prefix
lookupswitch pc operands = do
  padded ← padding_at pc operands
  default ← far_target_at pc padded
  count ← i4_at default.1
  rows ← (if lt_z count.0 (pos 0) then Err BadCode else lookup_rows pc None (cast_unsigned w64 count.0) count.1)
  Ok (Switch switch.Lookup default.0 rows.0, rows.1)

-- ---- control, 167 to 177

unfoldable pub control : ℕ → ℕ → List ℕ → Prefix
control pc opcode operands =
    if opcode == 167 then (target_at pc operands >>= λ x. Ok (Goto x.0, x.1))  -- goto
    else (if opcode == 170 then tableswitch pc operands  -- tableswitch
    else (if opcode == 171 then lookupswitch pc operands  -- lookupswitch
    else (if opcode == 172 then Ok (Return (Some value.Int), operands)  -- ireturn
    else (if opcode == 176 then Ok (Return (Some value.Ref), operands)  -- areturn
    else (if opcode == 177 then Ok (Return None, operands)  -- return
    else left_out opcode)))))  -- jsr 168, ret 169, lreturn 173 to dreturn 175

-- ---- references, 178 to 195

-- the index, the count of argument places, and a byte of zero
unfoldable pub call_interface : List ℕ → Prefix
call_interface operands = do
  method ← u2_at operands
  count ← u1_at method.1
  zero_byte ← u1_at count.1
  if zero_byte.0 == 0 then Ok (CallInterface method.0 count.0, zero_byte.1) else Err BadCode

-- the instruction of an opcode that names a field or a method
unfoldable pub member_insn : ℕ → ℕ → Insn
member_insn opcode index =
    if opcode == 178 then GetStatic index  -- getstatic
    else (if opcode == 179 then PutStatic index  -- putstatic
    else (if opcode == 180 then GetField index  -- getfield
    else (if opcode == 181 then PutField index  -- putfield
    else (if opcode == 182 then CallVirtual index  -- invokevirtual
    else (if opcode == 183 then CallSpecial index  -- invokespecial
    else CallStatic index)))))  -- invokestatic 184

unfoldable pub member : ℕ → List ℕ → Prefix
member opcode operands =
    if opcode == 185 then call_interface operands  -- invokeinterface
    else (if opcode == 186 then left_out opcode  -- invokedynamic
    else with_u2 (member_insn opcode) operands)

-- the elements of an array by their number
unfoldable pub array_kind : ℕ → Result ArrayKind Fault
array_kind code =
    if code == 4 then Ok array.Boolean
    else (if code == 5 then Ok array.Char
    else (if code == 8 then Ok array.Byte
    else (if code == 9 then Ok array.Short
    else (if code == 10 then Ok array.Int
    else (if code == 6 || code == 7 || code == 11 then Err (Unsupported 188)  -- float, double, long
    else Err BadCode)))))

unfoldable pub new_array : List ℕ → Prefix
new_array operands = do
  code ← u1_at operands
  kind ← array_kind code.0
  Ok (NewArray kind, code.1)

-- the instruction of an opcode that names a class
unfoldable pub class_insn : ℕ → ℕ → Insn
class_insn opcode index =
    if opcode == 187 then New index  -- new
    else (if opcode == 189 then NewRefArray index  -- anewarray
    else (if opcode == 192 then CheckCast index  -- checkcast
    else InstanceOf index))  -- instanceof 193

unfoldable pub object : ℕ → List ℕ → Prefix
object opcode operands =
    if opcode == 188 then new_array operands  -- newarray
    else (if opcode == 190 then Ok (ArrayLength, operands)  -- arraylength
    else (if opcode == 191 then Ok (Throw, operands)  -- athrow
    else (if is_within 194 195 opcode then left_out opcode  -- monitorenter 194, monitorexit 195
    else with_u2 (class_insn opcode) operands)))

-- ---- extended, 196 to 201

unfoldable pub wide_increment : List ℕ → Prefix
wide_increment operands = do
  local ← u2_at operands
  amount ← i2_at local.1
  Ok (Inc local.0 amount.0, amount.1)

-- the opcode after wide, which has a local in two bytes
unfoldable pub widened : ℕ → List ℕ → Prefix
widened opcode operands =
    if opcode == 21 then with_u2 (Load value.Int) operands  -- iload
    else (if opcode == 25 then with_u2 (Load value.Ref) operands  -- aload
    else (if opcode == 54 then with_u2 (Store value.Int) operands  -- istore
    else (if opcode == 58 then with_u2 (Store value.Ref) operands  -- astore
    else (if opcode == 132 then wide_increment operands  -- iinc
    else (if is_within 22 24 opcode || is_within 55 57 opcode || opcode == 169 then left_out opcode  -- lload to dload, lstore to dstore, ret
    else Err BadCode)))))

unfoldable pub wide : List ℕ → Prefix
wide operands = u1_at operands >>= λ x. widened x.0 x.1

unfoldable pub multi_array : List ℕ → Prefix
multi_array operands = do
  class ← u2_at operands
  dims ← u1_at class.1
  Ok (MultiArray class.0 dims.0, dims.1)

unfoldable pub goto_w : ℕ → List ℕ → Prefix
goto_w pc operands = far_target_at pc operands >>= λ x. Ok (Goto x.0, x.1)

unfoldable pub extended : ℕ → ℕ → List ℕ → Prefix
extended pc opcode operands =
    if opcode == 196 then wide operands  -- wide
    else (if opcode == 197 then multi_array operands  -- multianewarray
    else (if opcode == 198 then branch pc opcode operands  -- ifnull
    else (if opcode == 199 then branch pc opcode operands  -- ifnonnull
    else (if opcode == 200 then goto_w pc operands  -- goto_w
    else (if opcode == 201 then left_out opcode  -- jsr_w
    else Err BadCode)))))  -- reserved

-- ---- the whole table

unfoldable pub by_opcode : ℕ → ℕ → List ℕ → Prefix
by_opcode pc opcode operands =
    if nat_le opcode 20 then constant opcode operands
    else (if nat_le opcode 45 then load opcode operands
    else (if nat_le opcode 53 then array_load opcode operands
    else (if nat_le opcode 78 then store opcode operands
    else (if nat_le opcode 86 then array_store opcode operands
    else (if nat_le opcode 95 then Ok (Stack (stack_form opcode), operands)
    else (if nat_le opcode 132 then math opcode operands
    else (if nat_le opcode 152 then conversion opcode operands
    else (if nat_le opcode 166 then branch pc opcode operands
    else (if nat_le opcode 177 then control pc opcode operands
    else (if nat_le opcode 186 then member opcode operands
    else (if nat_le opcode 195 then object opcode operands
    else extended pc opcode operands)))))))))))

-- the instruction at the prefix of the bytes, which begin at pc
unfoldable pub insn_at : ℕ → List ℕ → Prefix
insn_at pc [] = Err BadCode
insn_at pc (opcode ∷ operands) = by_opcode pc opcode operands
