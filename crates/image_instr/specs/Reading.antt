-- Reading as a function on lists: the instruction at the prefix of the bytes, and how many bytes it has.
use Rattle.std.specs.Prelude.{ℕ, ℤ, pos, zero, suc, ◌+◌, ◌+ℤ◌, ◌-◌, ◌*◌, ◌/◌, ◌%◌, ◌^◌, Bool, true, ◌&&◌, ◌==◌, nat_lt, nat_le, if◌then◌else◌, List, [], ◌∷◌, length, drop, slice_get, Option, Some, None, option_map, option_and_then}
use Rattle.std.specs.Int.{w8, w16, w32, cast_signed}
use Rattle.std.specs.Int.Signed.{lt_z, le_z}
use Rattle.byteorder.specs.Endian.{big_number}
use Rattle.image_instr.specs.declared.insn.Kind.{Kind}
use Rattle.image_instr.specs.declared.insn.Kind.TheVariants as kind
use Rattle.image_instr.specs.declared.insn.Width.{Width}
use Rattle.image_instr.specs.declared.insn.Width.TheVariants as width
use Rattle.image_instr.specs.declared.insn.Operation.{Operation}
use Rattle.image_instr.specs.declared.insn.Operation.TheVariants as operation
use Rattle.image_instr.specs.declared.insn.Condition.{Condition}
use Rattle.image_instr.specs.declared.insn.Condition.TheVariants as condition
use Rattle.image_instr.specs.declared.insn.RefTest.{RefTest}
use Rattle.image_instr.specs.declared.insn.RefTest.TheVariants as test
use Rattle.image_instr.specs.declared.insn.Element.TheVariants as element
use Rattle.image_instr.specs.declared.insn.SwitchRow.{SwitchRow}
use Rattle.image_instr.specs.declared.insn.MInsn.{MInsn}
use Rattle.image_instr.specs.declared.insn.MInsn.TheVariants.{Const1, Const2, Small1, Small2, Mid2, Null, Load, Store, RClear, Inc, RDupX, DupX, RPop, Pop, RSwap, Swap, Drop, Bin, Neg, Sx, Zx, Sb, Bit, Jz, JCmp, RJ, Goto, Switch, Table, Ret, GetS, PutS, GetF, PutF, NewArr, Multi, ALen, ALoad, AStore, New, Cast, Inst, Throw, CallS, CallX, CallV, CallI}

-- ---- operands

abbrev pub u1_in : List ℕ → Option ℕ
u1_in operands = slice_get operands 0

abbrev pub u2_in : List ℕ → Option ℕ
u2_in operands = if nat_lt (length operands) 2 then None else Some (big_number 2 operands)

abbrev pub u4_in : List ℕ → Option ℕ
u4_in operands = if nat_lt (length operands) 4 then None else Some (big_number 4 operands)

abbrev pub i1_in : List ℕ → Option ℤ
i1_in operands = option_map (cast_signed w8) (u1_in operands)

abbrev pub i2_in : List ℕ → Option ℤ
i2_in operands = option_map (cast_signed w16) (u2_in operands)

abbrev pub i4_in : List ℕ → Option ℤ
i4_in operands = option_map (cast_signed w32) (u4_in operands)

-- an index, and the size of an instruction that ends with it
abbrev pub index_in : List ℕ → Option (ℕ × ℕ)
index_in [] = None
index_in (byte ∷ bytes) =
    if nat_lt byte 255 then Some (byte, 2)
    else option_and_then (λ n. if nat_le 255 n then Some (n, 4) else None) (u2_in bytes)

-- the high and the low half of a byte
abbrev pub halves_in : List ℕ → Option (ℕ × ℕ)
halves_in operands = option_map (λ byte. (byte / 16, byte % 16)) (u1_in operands)

-- an instruction and its size, where there is one
abbrev pub Found : Type 0
Found = Option (MInsn × ℕ)

-- ---- families

abbrev pub load_in : Kind → List ℕ → Found
load_in kind operands = option_map (λ local. (Load kind local.0, local.1)) (index_in operands)

abbrev pub store_in : Kind → List ℕ → Found
store_in kind operands = option_map (λ local. (Store kind local.0, local.1)) (index_in operands)

abbrev pub rclear_in : List ℕ → Found
rclear_in operands = option_map (λ local. (RClear local.0, local.1)) (index_in operands)

abbrev pub inc_in : Width → List ℕ → Found
inc_in width operands =
    option_and_then (λ local. option_map (λ amount. (Inc width local.0 amount, local.1 + 2)) (i2_in (drop (local.1 - 1) operands))) (index_in operands)

abbrev pub rdupx_in : List ℕ → Found
rdupx_in operands =
    option_and_then (λ part. if (nat_le 1 part.0 && nat_le part.0 2) && nat_le part.1 2 then Some (RDupX part.0 part.1, 2) else None) (halves_in operands)

abbrev pub dupx_in : List ℕ → Found
dupx_in operands =
    option_and_then (λ part. if (nat_le 1 part.0 && nat_le part.0 4) && nat_le part.1 4 then Some (DupX part.0 part.1, 2) else None) (halves_in operands)

abbrev pub rpop_in : List ℕ → Found
rpop_in operands =
    option_and_then (λ count. if nat_le 1 count && nat_le count 4 then Some (RPop count, 2) else None) (u1_in operands)

abbrev pub pop_in : List ℕ → Found
pop_in operands =
    option_and_then (λ count. if nat_le 1 count && nat_le count 4 then Some (Pop count, 2) else None) (u1_in operands)

abbrev pub swap_in : List ℕ → Found
swap_in operands =
    option_and_then (λ part. if (nat_le 1 part.0 && nat_le part.0 2) && (nat_le 1 part.1 && nat_le part.1 2) then Some (Swap part.0 part.1, 2) else None) (halves_in operands)

abbrev pub drop_in : List ℕ → Found
drop_in operands = option_map (λ above. (Drop above.0, above.1)) (index_in operands)

-- the operation of a code, 0 to 10
abbrev pub operation_of : ℕ → Operation
operation_of code =
    if code == 0 then operation.Add
    else (if code == 1 then operation.Sub
    else (if code == 2 then operation.Mul
    else (if code == 3 then operation.Div
    else (if code == 4 then operation.Rem
    else (if code == 5 then operation.Shl
    else (if code == 6 then operation.Shr
    else (if code == 7 then operation.Ushr
    else (if code == 8 then operation.And
    else (if code == 9 then operation.Or else operation.Xor)))))))))

-- the condition of a code, 0 to 5
abbrev pub condition_of : ℕ → Condition
condition_of code =
    if code == 0 then condition.Eq
    else (if code == 1 then condition.Ne
    else (if code == 2 then condition.Lt
    else (if code == 3 then condition.Ge
    else (if code == 4 then condition.Gt else condition.Le))))

abbrev pub jz_in : Width → ℕ → List ℕ → Found
jz_in width code operands = option_map (λ target. (Jz width (condition_of code) target, 3)) (u2_in operands)

abbrev pub jcmp_in : Width → ℕ → List ℕ → Found
jcmp_in width code operands = option_map (λ target. (JCmp width (condition_of code) target, 3)) (u2_in operands)

abbrev pub rj_in : RefTest → List ℕ → Found
rj_in test operands = option_map (λ target. (RJ test target, 3)) (u2_in operands)

-- ---- the rows of a switch

-- the key of the row at the prefix
abbrev pub key_in : List ℕ → ℤ
key_in bytes = cast_signed w32 (big_number 4 bytes)

-- so many rows, six bytes each
unfoldable pub rows_in : ℕ → List ℕ → List SwitchRow
rows_in zero bytes = []
rows_in (suc count) bytes = record { key = key_in bytes; target = big_number 2 (drop 4 bytes) } ∷ rows_in count (drop 6 bytes)

abbrev pub is_above : Option ℤ → ℤ → Bool
is_above None key = true
is_above (Some before) key = lt_z before key

-- the keys of so many rows rise
unfoldable pub keys_rise : ℕ → Option ℤ → List ℕ → Bool
keys_rise zero before bytes = true
keys_rise (suc count) before bytes = is_above before (key_in bytes) && keys_rise count (Some (key_in bytes)) (drop 6 bytes)

abbrev pub switch_in : Width → List ℕ → Found
switch_in width operands =
    option_and_then (λ default. option_and_then (λ count. if nat_le (6 * count) (length (drop 4 operands)) && keys_rise count None (drop 4 operands) then Some (Switch width default count, 5 + 6 * count) else None) (u2_in (drop 2 operands))) (u2_in operands)

-- so many targets, two bytes each, for the keys from the low one on
unfoldable pub targets_in : ℤ → ℕ → List ℕ → List SwitchRow
targets_in low zero bytes = []
targets_in low (suc count) bytes = record { key = low; target = big_number 2 bytes } ∷ targets_in (low +ℤ pos 1) count (drop 2 bytes)

abbrev pub table_in : Width → List ℕ → Found
table_in width operands =
    option_and_then (λ default. option_and_then (λ low. option_and_then (λ count.
    if (nat_le 1 count && le_z (low +ℤ pos count) (pos (2 ^ 31))) && nat_le (2 * count) (length (drop 8 operands))
    then Some (Table width default low count, 9 + 2 * count) else None)
    (u2_in (drop 6 operands))) (i4_in (drop 2 operands))) (u2_in operands)

-- ---- the groups of first bytes

abbrev pub get_static_in : Kind → List ℕ → Found
get_static_in kind operands = option_map (λ place. (GetS kind place.0, place.1)) (index_in operands)

abbrev pub put_static_in : Kind → List ℕ → Found
put_static_in kind operands = option_map (λ place. (PutS kind place.0, place.1)) (index_in operands)

abbrev pub get_field_in : Kind → List ℕ → Found
get_field_in kind operands = option_map (λ place. (GetF kind place.0, place.1)) (index_in operands)

abbrev pub put_field_in : Kind → List ℕ → Found
put_field_in kind operands = option_map (λ place. (PutF kind place.0, place.1)) (index_in operands)

abbrev pub multi_in : List ℕ → Found
multi_in operands =
    option_and_then (λ id. option_map (λ dims. (Multi id dims, 4)) (u1_in (drop 2 operands))) (u2_in operands)

abbrev pub calli_in : List ℕ → Found
calli_in operands =
    option_and_then (λ selector. option_map (λ id. (CallI selector id, 5)) (u2_in (drop 2 operands))) (u2_in operands)

-- 01 to 06
unfoldable pub constant_in : ℕ → List ℕ → Found
constant_in opcode operands =
    if opcode == 0x01 then option_map (λ value. (Const1 value, 3)) (i2_in operands)
    else (if opcode == 0x02 then option_map (λ value. (Const2 value, 5)) (i4_in operands)
    else (if opcode == 0x03 then option_map (λ value. (Small1 value, 2)) (i1_in operands)
    else (if opcode == 0x04 then option_map (λ value. (Small2 value, 2)) (i1_in operands)
    else (if opcode == 0x05 then option_map (λ value. (Mid2 value, 3)) (i2_in operands)
    else (if opcode == 0x06 then Some (Null, 1) else None)))))

-- 07 to 0f
unfoldable pub local_in : ℕ → List ℕ → Found
local_in opcode operands =
    if opcode == 0x07 then load_in kind.Ref operands
    else (if opcode == 0x08 then store_in kind.Ref operands
    else (if opcode == 0x09 then rclear_in operands
    else (if opcode == 0x0a then load_in kind.One operands
    else (if opcode == 0x0b then load_in kind.Two operands
    else (if opcode == 0x0c then store_in kind.One operands
    else (if opcode == 0x0d then store_in kind.Two operands
    else (if opcode == 0x0e then inc_in width.One operands
    else (if opcode == 0x0f then inc_in width.Two operands else None))))))))

-- 10 to 16
unfoldable pub stack_in : ℕ → List ℕ → Found
stack_in opcode operands =
    if opcode == 0x10 then rdupx_in operands
    else (if opcode == 0x11 then dupx_in operands
    else (if opcode == 0x12 then rpop_in operands
    else (if opcode == 0x13 then pop_in operands
    else (if opcode == 0x14 then Some (RSwap, 1)
    else (if opcode == 0x15 then swap_in operands
    else (if opcode == 0x16 then drop_in operands else None))))))

abbrev pub bin_of : Width → ℕ → MInsn
bin_of width code = Bin width (operation_of code)

-- 20 to 44
unfoldable pub number_in : ℕ → Found
number_in opcode =
    if nat_le 0x20 opcode && nat_le opcode 0x2a then Some (bin_of width.One (opcode - 0x20), 1)
    else (if opcode == 0x2b then Some (Neg width.One, 1)
    else (if nat_le 0x30 opcode && nat_le opcode 0x3a then Some (bin_of width.Two (opcode - 0x30), 1)
    else (if opcode == 0x3b then Some (Neg width.Two, 1)
    else (if opcode == 0x41 then Some (Sx, 1)
    else (if opcode == 0x42 then Some (Zx, 1)
    else (if opcode == 0x43 then Some (Sb, 1)
    else (if opcode == 0x44 then Some (Bit, 1) else None)))))))

-- 50 to 78
unfoldable pub jump_in : ℕ → List ℕ → Found
jump_in opcode operands =
    if nat_le 0x50 opcode && nat_le opcode 0x55 then jz_in width.One (opcode - 0x50) operands
    else (if nat_le 0x58 opcode && nat_le opcode 0x5d then jz_in width.Two (opcode - 0x58) operands
    else (if nat_le 0x60 opcode && nat_le opcode 0x65 then jcmp_in width.One (opcode - 0x60) operands
    else (if nat_le 0x68 opcode && nat_le opcode 0x6d then jcmp_in width.Two (opcode - 0x68) operands
    else (if opcode == 0x70 then rj_in test.Equal operands
    else (if opcode == 0x71 then rj_in test.NotEqual operands
    else (if opcode == 0x72 then rj_in test.Null operands
    else (if opcode == 0x73 then rj_in test.NonNull operands
    else (if opcode == 0x74 then option_map (λ target. (Goto target, 3)) (u2_in operands)
    else (if opcode == 0x75 then switch_in width.One operands
    else (if opcode == 0x76 then switch_in width.Two operands
    else (if opcode == 0x77 then table_in width.One operands
    else (if opcode == 0x78 then table_in width.Two operands else None))))))))))))

-- 79 to 7c
unfoldable pub ret_in : ℕ → Found
ret_in opcode =
    if opcode == 0x79 then Some (Ret None, 1)
    else (if opcode == 0x7a then Some (Ret (Some kind.Ref), 1)
    else (if opcode == 0x7b then Some (Ret (Some kind.One), 1)
    else (if opcode == 0x7c then Some (Ret (Some kind.Two), 1) else None)))

-- 80 to 85
unfoldable pub static_in : ℕ → List ℕ → Found
static_in opcode operands =
    if opcode == 0x80 then get_static_in kind.Ref operands
    else (if opcode == 0x81 then put_static_in kind.Ref operands
    else (if opcode == 0x82 then get_static_in kind.One operands
    else (if opcode == 0x83 then get_static_in kind.Two operands
    else (if opcode == 0x84 then put_static_in kind.One operands
    else (if opcode == 0x85 then put_static_in kind.Two operands else None)))))

-- 86 to 8b
unfoldable pub field_in : ℕ → List ℕ → Found
field_in opcode operands =
    if opcode == 0x86 then get_field_in kind.Ref operands
    else (if opcode == 0x87 then put_field_in kind.Ref operands
    else (if opcode == 0x88 then get_field_in kind.One operands
    else (if opcode == 0x89 then get_field_in kind.Two operands
    else (if opcode == 0x8a then put_field_in kind.One operands
    else (if opcode == 0x8b then put_field_in kind.Two operands else None)))))

abbrev pub new_array_in : Width → List ℕ → Found
new_array_in width operands = option_map (λ id. (NewArr width id, 3)) (u2_in operands)

-- 90 to 93
unfoldable pub array_in : ℕ → List ℕ → Found
array_in opcode operands =
    if opcode == 0x90 then new_array_in width.One operands
    else (if opcode == 0x91 then new_array_in width.Two operands
    else (if opcode == 0x92 then multi_in operands
    else (if opcode == 0x93 then Some (ALen, 1) else None)))

-- a0 to af
unfoldable pub element_in : ℕ → Found
element_in opcode =
    if opcode == 0xa0 then Some (ALoad element.Ref width.One, 1)
    else (if opcode == 0xa1 then Some (ALoad element.Ref width.Two, 1)
    else (if opcode == 0xa2 then Some (ALoad element.Byte width.One, 1)
    else (if opcode == 0xa3 then Some (ALoad element.Byte width.Two, 1)
    else (if opcode == 0xa4 then Some (ALoad element.Half width.One, 1)
    else (if opcode == 0xa5 then Some (ALoad element.Half width.Two, 1)
    else (if opcode == 0xa6 then Some (ALoad element.Int width.One, 1)
    else (if opcode == 0xa7 then Some (ALoad element.Int width.Two, 1)
    else (if opcode == 0xa8 then Some (AStore element.Ref width.One, 1)
    else (if opcode == 0xa9 then Some (AStore element.Ref width.Two, 1)
    else (if opcode == 0xaa then Some (AStore element.Byte width.One, 1)
    else (if opcode == 0xab then Some (AStore element.Byte width.Two, 1)
    else (if opcode == 0xac then Some (AStore element.Half width.One, 1)
    else (if opcode == 0xad then Some (AStore element.Half width.Two, 1)
    else (if opcode == 0xae then Some (AStore element.Int width.One, 1)
    else (if opcode == 0xaf then Some (AStore element.Int width.Two, 1) else None)))))))))))))))

-- b0 to b7
unfoldable pub object_in : ℕ → List ℕ → Found
object_in opcode operands =
    if opcode == 0xb0 then option_map (λ id. (New id, 3)) (u2_in operands)
    else (if opcode == 0xb1 then option_map (λ id. (Cast id, 3)) (u2_in operands)
    else (if opcode == 0xb2 then option_map (λ id. (Inst id, 3)) (u2_in operands)
    else (if opcode == 0xb3 then Some (Throw, 1)
    else (if opcode == 0xb4 then option_map (λ method. (CallS method, 3)) (u2_in operands)
    else (if opcode == 0xb5 then option_map (λ method. (CallX method, 3)) (u2_in operands)
    else (if opcode == 0xb6 then option_map (λ selector. (CallV selector, 3)) (u2_in operands)
    else (if opcode == 0xb7 then calli_in operands else None)))))))

unfoldable pub insn_in : ℕ → List ℕ → Found
insn_in opcode operands =
    if nat_le opcode 0x06 then constant_in opcode operands
    else (if nat_le opcode 0x0f then local_in opcode operands
    else (if nat_le opcode 0x1f then stack_in opcode operands
    else (if nat_le opcode 0x4f then number_in opcode
    else (if nat_le opcode 0x78 then jump_in opcode operands
    else (if nat_le opcode 0x7f then ret_in opcode
    else (if nat_le opcode 0x85 then static_in opcode operands
    else (if nat_le opcode 0x8f then field_in opcode operands
    else (if nat_le opcode 0x9f then array_in opcode operands
    else (if nat_le opcode 0xaf then element_in opcode
    else object_in opcode operands)))))))))

-- the instruction at the prefix of the bytes, and how many bytes it has
abbrev pub insn_at : List ℕ → Found
insn_at [] = None
insn_at (opcode ∷ operands) = insn_in opcode operands

-- the rows of the instruction at the prefix of the bytes: a switch has them, and no other
abbrev pub rows_at : MInsn → List ℕ → List SwitchRow
rows_at (Switch width default count) bytes = rows_in count (drop 5 bytes)
rows_at (Table width default low count) bytes = targets_in low count (drop 9 bytes)
rows_at _ bytes = []
