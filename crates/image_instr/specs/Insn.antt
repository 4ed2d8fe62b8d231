-- The machine instructions: the bytes of each with its rows, and the operands that it may have. A
-- number of two cells has its low cell beneath.
use Rattle.std.specs.Prelude.{◌≡◌, ℕ, ℤ, pos, ◌+◌, ◌+ℤ◌, ◌<ℤ◌, ◌≤ℤ◌, ◌*◌, ◌^◌, ◌<◌, ◌≤◌, nat_lt, if◌then◌else◌, List, [], ◌∷◌, ◌++◌, length, take, drop, Option, Some, None, FitsSigned}
use Rattle.std.specs.Int.{w8, w16, w32, cast_unsigned}
use Rattle.std.specs.List.{flat_map, AllByRecursion}
use Rattle.byteorder.specs.Endian.{big_bytes}
use Rattle.image_instr.specs.declared.insn.Kind.{Kind}
use Rattle.image_instr.specs.declared.insn.Kind.TheVariants as kind
use Rattle.image_instr.specs.declared.insn.Width.{Width}
use Rattle.image_instr.specs.declared.insn.Width.TheVariants as width
use Rattle.image_instr.specs.declared.insn.Operation.{Operation}
use Rattle.image_instr.specs.declared.insn.Operation.TheVariants as operation
use Rattle.image_instr.specs.declared.insn.Condition.{Condition}
use Rattle.image_instr.specs.declared.insn.Condition.TheVariants as condition
use Rattle.image_instr.specs.declared.insn.RefTest.{RefTest}
use Rattle.image_instr.specs.declared.insn.RefTest.TheVariants as test
use Rattle.image_instr.specs.declared.insn.Element.{Element}
use Rattle.image_instr.specs.declared.insn.Element.TheVariants as element
use Rattle.image_instr.specs.declared.insn.SwitchRow.{SwitchRow}
use Rattle.image_instr.specs.declared.insn.MInsn.{MInsn}
use Rattle.image_instr.specs.declared.insn.MInsn.TheVariants.{Const1, Const2, Small1, Small2, Mid2, Null, Load, Store, RClear, Inc, RDupX, DupX, RPop, Pop, RSwap, Swap, Drop, Bin, Neg, Sx, Zx, Sb, Bit, Jz, JCmp, RJ, Goto, Switch, Table, Ret, GetS, PutS, GetF, PutF, NewArr, Multi, ALen, ALoad, AStore, New, Cast, Inst, Throw, CallS, CallX, CallV, CallI}

-- ---- operands

abbrev pub u2 : ℕ → List ℕ
u2 n = big_bytes 2 n

abbrev pub i1 : ℤ → List ℕ
i1 z = cast_unsigned w8 z ∷ []

abbrev pub i2 : ℤ → List ℕ
i2 z = u2 (cast_unsigned w16 z)

abbrev pub i4 : ℤ → List ℕ
i4 z = big_bytes 4 (cast_unsigned w32 z)

-- one byte up to 254, or ff and two bytes
abbrev pub index : ℕ → List ℕ
index n = if nat_lt n 255 then n ∷ [] else 255 ∷ u2 n

-- m in the high half of a byte, n in the low half
abbrev pub halves : ℕ → ℕ → List ℕ
halves m n = (m * 16 + n) ∷ []

-- a row of a switch, and of a table, which has no key of its own
abbrev pub row_bytes : SwitchRow → List ℕ
row_bytes row = i4 row.key ++ u2 row.target

abbrev pub target_bytes : SwitchRow → List ℕ
target_bytes row = u2 row.target

-- ---- first bytes

abbrev pub load_code : Kind → ℕ
load_code kind.Ref = 0x07
load_code kind.One = 0x0a
load_code kind.Two = 0x0b

abbrev pub store_code : Kind → ℕ
store_code kind.Ref = 0x08
store_code kind.One = 0x0c
store_code kind.Two = 0x0d

abbrev pub inc_code : Width → ℕ
inc_code width.One = 0x0e
inc_code width.Two = 0x0f

abbrev pub operation_code : Operation → ℕ
operation_code operation.Add = 0
operation_code operation.Sub = 1
operation_code operation.Mul = 2
operation_code operation.Div = 3
operation_code operation.Rem = 4
operation_code operation.Shl = 5
operation_code operation.Shr = 6
operation_code operation.Ushr = 7
operation_code operation.And = 8
operation_code operation.Or = 9
operation_code operation.Xor = 10

abbrev pub bin_code : Width → ℕ
bin_code width.One = 0x20
bin_code width.Two = 0x30

abbrev pub neg_code : Width → ℕ
neg_code width.One = 0x2b
neg_code width.Two = 0x3b

abbrev pub condition_code : Condition → ℕ
condition_code condition.Eq = 0
condition_code condition.Ne = 1
condition_code condition.Lt = 2
condition_code condition.Ge = 3
condition_code condition.Gt = 4
condition_code condition.Le = 5

abbrev pub jz_code : Width → ℕ
jz_code width.One = 0x50
jz_code width.Two = 0x58

abbrev pub jcmp_code : Width → ℕ
jcmp_code width.One = 0x60
jcmp_code width.Two = 0x68

abbrev pub test_code : RefTest → ℕ
test_code test.Equal = 0x70
test_code test.NotEqual = 0x71
test_code test.Null = 0x72
test_code test.NonNull = 0x73

abbrev pub switch_code : Width → ℕ
switch_code width.One = 0x75
switch_code width.Two = 0x76

abbrev pub table_code : Width → ℕ
table_code width.One = 0x77
table_code width.Two = 0x78

abbrev pub ret_code : Option Kind → ℕ
ret_code None = 0x79
ret_code (Some kind.Ref) = 0x7a
ret_code (Some kind.One) = 0x7b
ret_code (Some kind.Two) = 0x7c

abbrev pub get_static_code : Kind → ℕ
get_static_code kind.Ref = 0x80
get_static_code kind.One = 0x82
get_static_code kind.Two = 0x83

abbrev pub put_static_code : Kind → ℕ
put_static_code kind.Ref = 0x81
put_static_code kind.One = 0x84
put_static_code kind.Two = 0x85

abbrev pub get_field_code : Kind → ℕ
get_field_code kind.Ref = 0x86
get_field_code kind.One = 0x88
get_field_code kind.Two = 0x89

abbrev pub put_field_code : Kind → ℕ
put_field_code kind.Ref = 0x87
put_field_code kind.One = 0x8a
put_field_code kind.Two = 0x8b

abbrev pub new_array_code : Width → ℕ
new_array_code width.One = 0x90
new_array_code width.Two = 0x91

abbrev pub load_element_code : Element → Width → ℕ
load_element_code element.Ref width.One = 0xa0
load_element_code element.Ref width.Two = 0xa1
load_element_code element.Byte width.One = 0xa2
load_element_code element.Byte width.Two = 0xa3
load_element_code element.Half width.One = 0xa4
load_element_code element.Half width.Two = 0xa5
load_element_code element.Int width.One = 0xa6
load_element_code element.Int width.Two = 0xa7

abbrev pub store_element_code : Element → Width → ℕ
store_element_code element.Ref width.One = 0xa8
store_element_code element.Ref width.Two = 0xa9
store_element_code element.Byte width.One = 0xaa
store_element_code element.Byte width.Two = 0xab
store_element_code element.Half width.One = 0xac
store_element_code element.Half width.Two = 0xad
store_element_code element.Int width.One = 0xae
store_element_code element.Int width.Two = 0xaf

-- ---- the bytes of an instruction with its rows

abbrev pub insn_bytes : MInsn → List SwitchRow → List ℕ
insn_bytes (Const1 value) rows = 0x01 ∷ i2 value
insn_bytes (Const2 value) rows = 0x02 ∷ i4 value
insn_bytes (Small1 value) rows = 0x03 ∷ i1 value
insn_bytes (Small2 value) rows = 0x04 ∷ i1 value
insn_bytes (Mid2 value) rows = 0x05 ∷ i2 value
insn_bytes Null rows = 0x06 ∷ []
insn_bytes (Load kind local) rows = load_code kind ∷ index local
insn_bytes (Store kind local) rows = store_code kind ∷ index local
insn_bytes (RClear local) rows = 0x09 ∷ index local
insn_bytes (Inc width local amount) rows = inc_code width ∷ (index local ++ i2 amount)
insn_bytes (RDupX m n) rows = 0x10 ∷ halves m n
insn_bytes (DupX m n) rows = 0x11 ∷ halves m n
insn_bytes (RPop count) rows = 0x12 ∷ count ∷ []
insn_bytes (Pop count) rows = 0x13 ∷ count ∷ []
insn_bytes RSwap rows = 0x14 ∷ []
insn_bytes (Swap m n) rows = 0x15 ∷ halves m n
insn_bytes (Drop above) rows = 0x16 ∷ index above
insn_bytes (Bin width operation) rows = (bin_code width + operation_code operation) ∷ []
insn_bytes (Neg width) rows = neg_code width ∷ []
insn_bytes Sx rows = 0x41 ∷ []
insn_bytes Zx rows = 0x42 ∷ []
insn_bytes Sb rows = 0x43 ∷ []
insn_bytes Bit rows = 0x44 ∷ []
insn_bytes (Jz width condition target) rows = (jz_code width + condition_code condition) ∷ u2 target
insn_bytes (JCmp width condition target) rows = (jcmp_code width + condition_code condition) ∷ u2 target
insn_bytes (RJ test target) rows = test_code test ∷ u2 target
insn_bytes (Goto target) rows = 0x74 ∷ u2 target
insn_bytes (Switch width default count) rows = switch_code width ∷ (u2 default ++ (u2 count ++ flat_map row_bytes rows))
insn_bytes (Table width default low count) rows = table_code width ∷ (u2 default ++ (i4 low ++ (u2 count ++ flat_map target_bytes rows)))
insn_bytes (Ret result) rows = ret_code result ∷ []
insn_bytes (GetS kind place) rows = get_static_code kind ∷ index place
insn_bytes (PutS kind place) rows = put_static_code kind ∷ index place
insn_bytes (GetF kind place) rows = get_field_code kind ∷ index place
insn_bytes (PutF kind place) rows = put_field_code kind ∷ index place
insn_bytes (NewArr width id) rows = new_array_code width ∷ u2 id
insn_bytes (Multi id dims) rows = 0x92 ∷ (u2 id ++ dims ∷ [])
insn_bytes ALen rows = 0x93 ∷ []
insn_bytes (ALoad element width) rows = load_element_code element width ∷ []
insn_bytes (AStore element width) rows = store_element_code element width ∷ []
insn_bytes (New id) rows = 0xb0 ∷ u2 id
insn_bytes (Cast id) rows = 0xb1 ∷ u2 id
insn_bytes (Inst id) rows = 0xb2 ∷ u2 id
insn_bytes Throw rows = 0xb3 ∷ []
insn_bytes (CallS method) rows = 0xb4 ∷ u2 method
insn_bytes (CallX method) rows = 0xb5 ∷ u2 method
insn_bytes (CallV selector) rows = 0xb6 ∷ u2 selector
insn_bytes (CallI selector id) rows = 0xb7 ∷ (u2 selector ++ u2 id)

-- ---- the operands that an instruction may have

-- each key is above the one before
abbrev pub IsAbove : Option ℤ → ℤ → Type 0
IsAbove None key = Unit {0}
IsAbove (Some before) key = before <ℤ key

abbrev pub KeysRise : Option ℤ → List SwitchRow → Type 0
KeysRise before [] = Unit {0}
KeysRise before (row ∷ rows) = IsAbove before row.key × KeysRise (Some row.key) rows

-- the keys are the low one and those after it, one by one
abbrev pub KeysFollow : ℤ → List SwitchRow → Type 0
KeysFollow low [] = Unit {0}
KeysFollow low (row ∷ rows) = (row.key ≡ low) × KeysFollow (low +ℤ pos 1) rows

-- the rows are those of the instruction: as many as a switch counts, and else none
abbrev pub AreRowsOf : MInsn → List SwitchRow → Type 0
AreRowsOf (Switch width default count) rows = (length rows ≡ count) × KeysRise None rows
AreRowsOf (Table width default low count) rows = (length rows ≡ count) × KeysFollow low rows
AreRowsOf _ rows = rows ≡ []

-- the operands keep to the limits of the instruction
abbrev pub KeepsLimits : MInsn → Type 0
KeepsLimits (RDupX m n) = (1 ≤ m) × (m ≤ 2) × (n ≤ 2)
KeepsLimits (DupX m n) = (1 ≤ m) × (m ≤ 4) × (n ≤ 4)
KeepsLimits (RPop count) = (1 ≤ count) × (count ≤ 4)
KeepsLimits (Pop count) = (1 ≤ count) × (count ≤ 4)
KeepsLimits (Swap m n) = (1 ≤ m) × (m ≤ 2) × (1 ≤ n) × (n ≤ 2)
KeepsLimits (Table width default low count) = (1 ≤ count) × ((low +ℤ pos count) ≤ℤ pos (2 ^ 31))
KeepsLimits _ = Unit {0}

-- each number is one of its type
abbrev pub HasRanges : MInsn → Type 0
HasRanges (Const1 value) = FitsSigned w16 value
HasRanges (Const2 value) = FitsSigned w32 value
HasRanges (Small1 value) = FitsSigned w8 value
HasRanges (Small2 value) = FitsSigned w8 value
HasRanges (Mid2 value) = FitsSigned w16 value
HasRanges (Load kind local) = local < 2 ^ 16
HasRanges (Store kind local) = local < 2 ^ 16
HasRanges (RClear local) = local < 2 ^ 16
HasRanges (Inc width local amount) = (local < 2 ^ 16) × FitsSigned w16 amount
HasRanges (Drop above) = above < 2 ^ 16
HasRanges (Jz width condition target) = target < 2 ^ 16
HasRanges (JCmp width condition target) = target < 2 ^ 16
HasRanges (RJ test target) = target < 2 ^ 16
HasRanges (Goto target) = target < 2 ^ 16
HasRanges (Switch width default count) = (default < 2 ^ 16) × (count < 2 ^ 16)
HasRanges (Table width default low count) = (default < 2 ^ 16) × FitsSigned w32 low × (count < 2 ^ 16)
HasRanges (GetS kind place) = place < 2 ^ 16
HasRanges (PutS kind place) = place < 2 ^ 16
HasRanges (GetF kind place) = place < 2 ^ 16
HasRanges (PutF kind place) = place < 2 ^ 16
HasRanges (NewArr width id) = id < 2 ^ 16
HasRanges (Multi id dims) = (id < 2 ^ 16) × (dims < 2 ^ 8)
HasRanges (New id) = id < 2 ^ 16
HasRanges (Cast id) = id < 2 ^ 16
HasRanges (Inst id) = id < 2 ^ 16
HasRanges (CallS method) = method < 2 ^ 16
HasRanges (CallX method) = method < 2 ^ 16
HasRanges (CallV selector) = selector < 2 ^ 16
HasRanges (CallI selector id) = (selector < 2 ^ 16) × (id < 2 ^ 16)
HasRanges _ = Unit {0}

abbrev pub HasRowRanges : SwitchRow → Type 0
HasRowRanges row = FitsSigned w32 row.key × (row.target < 2 ^ 16)

-- the instruction with these rows is one
pub record IsInsn (insn : MInsn) (rows : List SwitchRow) : Type 0 where
  pub ranges : HasRanges insn
  pub limits : KeepsLimits insn
  pub rows_of : AreRowsOf insn rows
  pub row_ranges : AllByRecursion HasRowRanges rows

-- the instruction with these rows is at the prefix of the bytes, and has so many of them
pub record IsAtPrefix (insn : MInsn) (rows : List SwitchRow) (size : ℕ) (bytes : List ℕ) : Type 0 where
  pub is_insn : IsInsn insn rows
  pub size_is : size ≡ length (insn_bytes insn rows)
  pub bytes_are : take size bytes ≡ insn_bytes insn rows

-- it is at a place of the code
abbrev pub HoldsAt : List ℕ → ℕ → MInsn → List SwitchRow → ℕ → Type 0
HoldsAt code pc insn rows size = IsAtPrefix insn rows size (drop pc code)
