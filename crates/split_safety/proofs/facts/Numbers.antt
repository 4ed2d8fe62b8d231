-- An instruction that is found has at least one byte, and a number that it pushes is an int.
use Rattle.std.proofs.Common.{◌≡◌, ℕ, ℤ, suc, pos, negsuc, ◌+◌, ◌-◌, ◌*◌, ◌<◌, drop, Bool, true, false, cond, ltb, eqb, FitsSigned, w8, w16, w32, List, [], ◌∷◌, Option, Some, None, option_map, option_and_then, arith, subst}
use Rattle.std.specs.Prelude.{nat_le}
use Rattle.std.specs.Int.{Width, cast_signed}
use Rattle.std.proofs.lemmas.Bool.{cond_both, ltb-true, ltb-false}
use Rattle.image_instr.specs.declared.insn.Kind.{Kind}
use Rattle.image_instr.specs.declared.insn.Width.{Width as Cells}
use Rattle.image_instr.specs.declared.insn.MInsn.{MInsn}
use Rattle.image_instr.specs.declared.insn.MInsn.TheVariants.{Const1, Const2, Small1, Small2, Mid2, Load, Store, RClear, Drop, GetS, PutS, GetF, PutF, Switch, Table}
use Rattle.image_instr.specs.Reading.{Found, load_in, store_in, rclear_in, inc_in, drop_in, get_static_in, put_static_in, get_field_in, put_field_in, i2_in, switch_in, table_in, u1_in, u2_in, u4_in, i4_in, index_in, constant_in, local_in, stack_in, number_in, jump_in, ret_in, static_in, field_in, array_in, element_in, object_in, insn_in, insn_at}

-- the number of an instruction that pushes two cells
abbrev pub PushesInt : MInsn → Type 0
PushesInt (Const2 value) = FitsSigned w32 value
PushesInt (Small2 value) = FitsSigned w32 value
PushesInt (Mid2 value) = FitsSigned w32 value
PushesInt _ = Unit {0}

abbrev IsSized : Found → Type 0
IsSized None = Unit {0}
IsSized (Some found) = (0 < found.1) × PushesInt found.0

either : (test : Bool) (first second : Found) → IsSized first → IsSized second → IsSized (cond test first second)
either true first second p q = p
either false first second p q = q

mapped : {A : Type 0} (o : Option A) (f : A → MInsn × ℕ) → ((x : A) → (0 < (f x).1) × PushesInt (f x).0) → IsSized (option_map f o)
mapped None f h = tt
mapped (Some x) f h = h x

chained : {A : Type 0} (o : Option A) (f : A → Found) → ((x : A) → IsSized (f x)) → IsSized (option_and_then f o)
chained None f h = tt
chained (Some x) f h = h x

-- an index, and the size of an instruction that ends with it
long_index : (test : Bool) (make : ℕ → MInsn) → ((n : ℕ) → PushesInt (make n)) → (n : ℕ) → IsSized (option_map (λ (x : ℕ × ℕ). (make x.0, x.1)) (cond test (Some (n, 4)) None))
long_index true make none n = (omega arith, none n)
long_index false make none n = tt

wide_index : (make : ℕ → MInsn) → ((n : ℕ) → PushesInt (make n)) → (o : Option ℕ) → IsSized (option_map (λ (x : ℕ × ℕ). (make x.0, x.1)) (option_and_then (λ n. cond (nat_le 255 n) (Some (n, 4)) None) o))
wide_index make none None = tt
wide_index make none (Some n) = long_index (nat_le 255 n) make none n

some_index : (test : Bool) (make : ℕ → MInsn) → ((n : ℕ) → PushesInt (make n)) → (byte : ℕ) (o : Option ℕ) → IsSized (option_map (λ (x : ℕ × ℕ). (make x.0, x.1)) (cond test (Some (byte, 2)) (option_and_then (λ n. cond (nat_le 255 n) (Some (n, 4)) None) o)))
some_index true make none byte o = (omega arith, none byte)
some_index false make none byte o = wide_index make none o

indexed : (make : ℕ → MInsn) → ((n : ℕ) → PushesInt (make n)) → (operands : List ℕ) → IsSized (option_map (λ (x : ℕ × ℕ). (make x.0, x.1)) (index_in operands))
indexed make none [] = tt
indexed make none (byte ∷ bytes) = some_index (ltb byte 255) make none byte (u2_in bytes)

-- what bits give is an int
byte-fits : (n : ℕ) → FitsSigned w32 (cast_signed w8 n)
byte-fits n = cond_both (ltb n 128) (pos n) (negsuc (256 - suc n)) (λ z. FitsSigned w32 z)
    (λ e. record { sfits = omega (arith, ltb-true n 128 e) }) (λ e. record { sfits = omega arith })

pub short-fits : (n : ℕ) → FitsSigned w32 (cast_signed w16 n)
short-fits n = cond_both (ltb n 32768) (pos n) (negsuc (65536 - suc n)) (λ z. FitsSigned w32 z)
    (λ e. record { sfits = omega (arith, ltb-true n 32768 e) }) (λ e. record { sfits = omega arith })

pub int-fits : (n : ℕ) → FitsSigned w32 (cast_signed w32 n)
int-fits n = cond_both (ltb n 2147483648) (pos n) (negsuc (4294967296 - suc n)) (λ z. FitsSigned w32 z)
    (λ e. record { sfits = omega (arith, ltb-true n 2147483648 e) }) (λ e. record { sfits = omega (arith, ltb-false n 2147483648 e) })

numbered : (w : Width) (o : Option ℕ) (make : ℤ → MInsn) (size : ℕ) → 0 < size → ((n : ℕ) → PushesInt (make (cast_signed w n))) → IsSized (option_map (λ v. (make v, size)) (option_map (cast_signed w) o))
numbered w None make size p h = tt
numbered w (Some n) make size p h = (p, h n)

constant-sized : (opcode : ℕ) (operands : List ℕ) → IsSized (constant_in opcode operands)
unfolding constant_in
constant-sized opcode operands =
    either (eqb opcode 0x01) _ _ (numbered w16 (u2_in operands) (λ v. Const1 v) 3 (omega arith) (λ n. tt))
    (either (eqb opcode 0x02) _ _ (numbered w32 (u4_in operands) (λ v. Const2 v) 5 (omega arith) int-fits)
    (either (eqb opcode 0x03) _ _ (numbered w8 (u1_in operands) (λ v. Small1 v) 2 (omega arith) (λ n. tt))
    (either (eqb opcode 0x04) _ _ (numbered w8 (u1_in operands) (λ v. Small2 v) 2 (omega arith) byte-fits)
    (either (eqb opcode 0x05) _ _ (numbered w16 (u2_in operands) (λ v. Mid2 v) 3 (omega arith) short-fits)
    (either (eqb opcode 0x06) _ _ (omega arith, tt) tt)))))

load-sized : (kind : Kind) (operands : List ℕ) → IsSized (load_in kind operands)
load-sized kind operands = indexed (λ n. Load kind n) (λ n. tt) operands

store-sized : (kind : Kind) (operands : List ℕ) → IsSized (store_in kind operands)
store-sized kind operands = indexed (λ n. Store kind n) (λ n. tt) operands

rclear-sized : (operands : List ℕ) → IsSized (rclear_in operands)
rclear-sized operands = indexed (λ n. RClear n) (λ n. tt) operands

inc-sized : (width : Cells) (operands : List ℕ) → IsSized (inc_in width operands)
inc-sized width operands =
    chained (index_in operands) _ (λ local. mapped (i2_in (drop (local.1 - 1) operands)) _ (λ amount. (omega arith, tt)))

drop-sized : (operands : List ℕ) → IsSized (drop_in operands)
drop-sized operands = indexed (λ n. Drop n) (λ n. tt) operands

get_static-sized : (kind : Kind) (operands : List ℕ) → IsSized (get_static_in kind operands)
get_static-sized kind operands = indexed (λ n. GetS kind n) (λ n. tt) operands

put_static-sized : (kind : Kind) (operands : List ℕ) → IsSized (put_static_in kind operands)
put_static-sized kind operands = indexed (λ n. PutS kind n) (λ n. tt) operands

get_field-sized : (kind : Kind) (operands : List ℕ) → IsSized (get_field_in kind operands)
get_field-sized kind operands = indexed (λ n. GetF kind n) (λ n. tt) operands

put_field-sized : (kind : Kind) (operands : List ℕ) → IsSized (put_field_in kind operands)
put_field-sized kind operands = indexed (λ n. PutF kind n) (λ n. tt) operands

local-sized : (opcode : ℕ) (operands : List ℕ) → IsSized (local_in opcode operands)
unfolding local_in
local-sized opcode operands = search (either, load-sized, store-sized, rclear-sized, inc-sized, tt) depth 30

stack-sized : (opcode : ℕ) (operands : List ℕ) → IsSized (stack_in opcode operands)
unfolding stack_in
stack-sized opcode operands = search (either, mapped, chained, drop-sized, tt, arith) depth 30

number-sized : (opcode : ℕ) → IsSized (number_in opcode)
unfolding number_in
number-sized opcode = search (either, mapped, chained, indexed, tt, arith) depth 30

switch_size : (test : Bool) (width : Cells) (default count : ℕ) → IsSized (cond test (Some (Switch width default count, 5 + 6 * count)) None)
switch_size true width default count = (omega arith, tt)
switch_size false width default count = tt

switch-sized : (width : Cells) (operands : List ℕ) → IsSized (switch_in width operands)
switch-sized width operands =
    chained (u2_in operands) _ (λ default. chained (u2_in (drop 2 operands)) _ (λ count. switch_size _ width default count))

table_size : (test : Bool) (width : Cells) (default : ℕ) (low : ℤ) (count : ℕ) → IsSized (cond test (Some (Table width default low count, 9 + 2 * count)) None)
table_size true width default low count = (omega arith, tt)
table_size false width default low count = tt

table-sized : (width : Cells) (operands : List ℕ) → IsSized (table_in width operands)
table-sized width operands =
    chained (u2_in operands) _ (λ default. chained (i4_in (drop 2 operands)) _ (λ low. chained (u2_in (drop 6 operands)) _ (λ count. table_size _ width default low count)))

jump-sized : (opcode : ℕ) (operands : List ℕ) → IsSized (jump_in opcode operands)
unfolding jump_in
jump-sized opcode operands = search (either, mapped, switch-sized, table-sized, tt, arith) depth 30

ret-sized : (opcode : ℕ) → IsSized (ret_in opcode)
unfolding ret_in
ret-sized opcode = search (either, mapped, chained, indexed, tt, arith) depth 30

static-sized : (opcode : ℕ) (operands : List ℕ) → IsSized (static_in opcode operands)
unfolding static_in
static-sized opcode operands = search (either, get_static-sized, put_static-sized, tt) depth 30

field-sized : (opcode : ℕ) (operands : List ℕ) → IsSized (field_in opcode operands)
unfolding field_in
field-sized opcode operands = search (either, get_field-sized, put_field-sized, tt) depth 30

array-sized : (opcode : ℕ) (operands : List ℕ) → IsSized (array_in opcode operands)
unfolding array_in
array-sized opcode operands = search (either, mapped, chained, indexed, tt, arith) depth 30

element-sized : (opcode : ℕ) → IsSized (element_in opcode)
unfolding element_in
element-sized opcode = search (either, mapped, chained, indexed, tt, arith) depth 30

object-sized : (opcode : ℕ) (operands : List ℕ) → IsSized (object_in opcode operands)
unfolding object_in
object-sized opcode operands = search (either, mapped, chained, indexed, tt, arith) depth 30

insn_in-sized : (opcode : ℕ) (operands : List ℕ) → IsSized (insn_in opcode operands)
unfolding insn_in
insn_in-sized opcode operands =
    search (either, constant-sized, local-sized, stack-sized, number-sized, jump-sized, ret-sized, static-sized, field-sized, array-sized, element-sized, object-sized) depth 30

all_sized : (bytes : List ℕ) → IsSized (insn_at bytes)
all_sized [] = tt
all_sized (opcode ∷ operands) = insn_in-sized opcode operands

pub found_sized : (bytes : List ℕ) (insn : MInsn) (size : ℕ) → insn_at bytes ≡ Some (insn, size) → (0 < size) × PushesInt insn
found_sized bytes insn size found = subst IsSized found (all_sized bytes)
