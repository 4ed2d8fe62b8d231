-- What is encoded is read, whatever follows.
use Rattle.std.proofs.Common.{◌≡◌, ℕ, ℤ, pos, suc, ◌+◌, ◌+ℤ◌, ◌-◌, ◌*◌, ◌^◌, ◌<◌, ◌≤◌, ◌≤ℤ◌, Bool, true, false, ◌&&◌, cond, List, [], ◌∷◌, ◌++◌, length, drop, Some, None, option_map, option_and_then, refl, ap, subst, ◌∙◌, append_assoc, arith, FitsSigned, w16}
use Rattle.std.specs.Prelude.{nat_le}
use Rattle.std.specs.Int.Signed.{le_z}
use Rattle.std.specs.List.{flat_map}
use Rattle.std.proofs.lemmas.Bool.Decides.{nat_tests}
use Rattle.std.proofs.lemmas.Int.{ints}
use Rattle.std.proofs.lemmas.List.{length-append, drop_at}
use Rattle.image_instr.specs.declared.insn.Kind.TheVariants as kind
use Rattle.image_instr.specs.declared.insn.Width.{Width}
use Rattle.image_instr.specs.declared.insn.Width.TheVariants as width
use Rattle.image_instr.specs.declared.insn.Operation.TheVariants as operation
use Rattle.image_instr.specs.declared.insn.Condition.TheVariants as condition
use Rattle.image_instr.specs.declared.insn.RefTest.TheVariants as test
use Rattle.image_instr.specs.declared.insn.Element.TheVariants as element
use Rattle.image_instr.specs.declared.insn.SwitchRow.{SwitchRow}
use Rattle.image_instr.specs.declared.insn.MInsn.{MInsn}
use Rattle.image_instr.specs.declared.insn.MInsn.TheVariants.{Const1, Const2, Small1, Small2, Mid2, Null, Load, Store, RClear, Inc, RDupX, DupX, RPop, Pop, RSwap, Swap, Drop, Bin, Neg, Sx, Zx, Sb, Bit, Jz, JCmp, RJ, Goto, Switch, Table, Ret, GetS, PutS, GetF, PutF, NewArr, Multi, ALen, ALoad, AStore, New, Cast, Inst, Throw, CallS, CallX, CallV, CallI}
use Rattle.image_instr.specs.Insn.{u2, i2, i4, index, halves, row_bytes, target_bytes, insn_bytes, IsInsn}
use Rattle.image_instr.specs.Reading.{Found, u1_in, u2_in, i2_in, i4_in, keys_rise, inc_in, rdupx_in, dupx_in, rpop_in, pop_in, swap_in, switch_in, table_in, multi_in, calli_in, constant_in, local_in, stack_in, number_in, jump_in, ret_in, static_in, field_in, array_in, element_in, object_in, insn_in, insn_at}
use Rattle.image_instr.proofs.encoding.Bytes.{u2_again, i1_again, i2_again, i4_again}
use Rattle.image_instr.proofs.encoding.Forms.{index_again, halves_again}
use Rattle.image_instr.proofs.switches.Rows.{keys_again, size_of_rows, size_of_targets}

abbrev some : MInsn → ℕ → Found
some insn size = Some (insn, size)

nat_le-from : (a b : ℕ) → a ≤ b → nat_le a b ≡ true
nat_le-from a b h = grind (arith, nat_tests)

le_z-from : (a b : ℤ) → a ≤ℤ b → le_z a b ≡ true
le_z-from a b h = grind (arith, ints)

all_three : (a b d : Bool) → a ≡ true → b ≡ true → d ≡ true → ((a && b) && d) ≡ true
all_three true true true e f g = refl
all_three true true false e f g = absurd cc
all_three true false d e f g = absurd cc
all_three false b d e f g = absurd cc

let_through : (test : Bool) (insn : MInsn) (size : ℕ) → test ≡ true → cond test (some insn size) None ≡ some insn size
let_through true insn size e = refl
let_through false insn size e = absurd cc

inc_again : (width : Width) (local : ℕ) (amount : ℤ) (rest : List ℕ) → local < 2 ^ 16 → FitsSigned w16 amount → inc_in width ((index local ++ i2 amount) ++ rest) ≡ Some (Inc width local amount, suc (length (index local ++ i2 amount)))
inc_again width local amount rest lt fits =
    let group : (index local ++ i2 amount) ++ rest ≡ index local ++ (i2 amount ++ rest) = append_assoc (index local) (i2 amount) rest in
    let suffix : drop (suc (length (index local)) - 1) (index local ++ (i2 amount ++ rest)) ≡ i2 amount ++ rest = drop_at (index local) (i2 amount ++ rest) (suc (length (index local)) - 1) (omega arith) in
    let size : suc (length (index local)) + 2 ≡ suc (length (index local ++ i2 amount)) = omega (arith, length-append (index local) (i2 amount)) in
    ap (inc_in width) group
    ∙ ap (option_and_then (λ n. option_map (λ amount. (Inc width n.0 amount, n.1 + 2)) (i2_in (drop (n.1 - 1) (index local ++ (i2 amount ++ rest)))))) (index_again local (i2 amount ++ rest) lt)
    ∙ ap (λ (r : List ℕ). option_map (λ amount. (Inc width local amount, suc (length (index local)) + 2)) (i2_in r)) suffix
    ∙ ap (option_map (λ amount. (Inc width local amount, suc (length (index local)) + 2))) (i2_again amount rest fits)
    ∙ ap (some (Inc width local amount)) size

rdupx_again : (m n : ℕ) (rest : List ℕ) → 1 ≤ m → m ≤ 2 → n ≤ 2 → rdupx_in (halves m n ++ rest) ≡ Some (RDupX m n, 2)
rdupx_again m n rest a b d =
    ap (option_and_then (λ part. cond ((nat_le 1 part.0 && nat_le part.0 2) && nat_le part.1 2) (Some (RDupX part.0 part.1, 2)) None)) (halves_again m n rest (omega arith))
    ∙ let_through ((nat_le 1 m && nat_le m 2) && nat_le n 2) (RDupX m n) 2 (all_three _ _ _ (nat_le-from 1 m a) (nat_le-from m 2 b) (nat_le-from n 2 d))

dupx_again : (m n : ℕ) (rest : List ℕ) → 1 ≤ m → m ≤ 4 → n ≤ 4 → dupx_in (halves m n ++ rest) ≡ Some (DupX m n, 2)
dupx_again m n rest a b d =
    ap (option_and_then (λ part. cond ((nat_le 1 part.0 && nat_le part.0 4) && nat_le part.1 4) (Some (DupX part.0 part.1, 2)) None)) (halves_again m n rest (omega arith))
    ∙ let_through ((nat_le 1 m && nat_le m 4) && nat_le n 4) (DupX m n) 2 (all_three _ _ _ (nat_le-from 1 m a) (nat_le-from m 4 b) (nat_le-from n 4 d))

swap_again : (m n : ℕ) (rest : List ℕ) → 1 ≤ m → m ≤ 2 → 1 ≤ n → n ≤ 2 → swap_in (halves m n ++ rest) ≡ Some (Swap m n, 2)
swap_again m n rest a b d e =
    let right : (nat_le 1 n && nat_le n 2) ≡ true = all_three true _ _ refl (nat_le-from 1 n d) (nat_le-from n 2 e) in
    ap (option_and_then (λ part. cond ((nat_le 1 part.0 && nat_le part.0 2) && (nat_le 1 part.1 && nat_le part.1 2)) (Some (Swap part.0 part.1, 2)) None)) (halves_again m n rest (omega arith))
    ∙ let_through ((nat_le 1 m && nat_le m 2) && (nat_le 1 n && nat_le n 2)) (Swap m n) 2 (all_three _ _ _ (nat_le-from 1 m a) (nat_le-from m 2 b) right)

rpop_again : (count : ℕ) (rest : List ℕ) → 1 ≤ count → count ≤ 4 → rpop_in ((count ∷ []) ++ rest) ≡ Some (RPop count, 2)
rpop_again count rest a b =
    let_through (nat_le 1 count && nat_le count 4) (RPop count) 2 (all_three true _ _ refl (nat_le-from 1 count a) (nat_le-from count 4 b))

pop_again : (count : ℕ) (rest : List ℕ) → 1 ≤ count → count ≤ 4 → pop_in ((count ∷ []) ++ rest) ≡ Some (Pop count, 2)
pop_again count rest a b =
    let_through (nat_le 1 count && nat_le count 4) (Pop count) 2 (all_three true _ _ refl (nat_le-from 1 count a) (nat_le-from count 4 b))

multi_again : (id dims : ℕ) (rest : List ℕ) → id < 2 ^ 16 → multi_in ((u2 id ++ dims ∷ []) ++ rest) ≡ Some (Multi id dims, 4)
multi_again id dims rest lt =
    ap (option_and_then (λ n. option_map (λ dims. (Multi n dims, 4)) (u1_in (dims ∷ rest)))) (u2_again id (dims ∷ rest) lt)

calli_again : (selector id : ℕ) (rest : List ℕ) → selector < 2 ^ 16 → id < 2 ^ 16 → calli_in ((u2 selector ++ u2 id) ++ rest) ≡ Some (CallI selector id, 5)
calli_again selector id rest lt lt2 =
    ap (option_and_then (λ s. option_map (λ id. (CallI s id, 5)) (u2_in (u2 id ++ rest)))) (u2_again selector (u2 id ++ rest) lt)
    ∙ ap (option_map (λ id. (CallI selector id, 5))) (u2_again id rest lt2)

-- ---- switches

switch_again : (width : Width) (default count : ℕ) (rows : List SwitchRow) (rest : List ℕ) → IsInsn (Switch width default count) rows → switch_in width ((u2 default ++ (u2 count ++ flat_map row_bytes rows)) ++ rest) ≡ Some (Switch width default count, suc (length (u2 default ++ (u2 count ++ flat_map row_bytes rows))))
switch_again width default count rows rest h =
    let suffix = flat_map row_bytes rows ++ rest in
    let size : 5 + 6 * count ≡ suc (length (u2 default ++ (u2 count ++ flat_map row_bytes rows))) = omega (arith, size_of_rows rows, h.rows_of.0) in
    let there : nat_le (6 * count) (length suffix) ≡ true = nat_le-from _ _ (omega (arith, size_of_rows rows, h.rows_of.0, length-append (flat_map row_bytes rows) rest)) in
    let rise : keys_rise count None suffix ≡ true = subst (λ (n : ℕ). keys_rise n None suffix ≡ true) h.rows_of.0 (keys_again rows None rest h.rows_of.1 h.row_ranges) in
    ap (option_and_then (λ d. option_and_then (λ c. cond (nat_le (6 * c) (length suffix) && keys_rise c None suffix) (Some (Switch width d c, 5 + 6 * c)) None) (u2_in (u2 count ++ suffix)))) (u2_again default (u2 count ++ suffix) h.ranges.0)
    ∙ ap (option_and_then (λ c. cond (nat_le (6 * c) (length suffix) && keys_rise c None suffix) (Some (Switch width default c, 5 + 6 * c)) None)) (u2_again count suffix h.ranges.1)
    ∙ let_through (nat_le (6 * count) (length suffix) && keys_rise count None suffix) (Switch width default count) (5 + 6 * count) (all_three true _ _ refl there rise)
    ∙ ap (some (Switch width default count)) size

table_again : (width : Width) (default : ℕ) (low : ℤ) (count : ℕ) (rows : List SwitchRow) (rest : List ℕ) → IsInsn (Table width default low count) rows → table_in width ((u2 default ++ (i4 low ++ (u2 count ++ flat_map target_bytes rows))) ++ rest) ≡ Some (Table width default low count, suc (length (u2 default ++ (i4 low ++ (u2 count ++ flat_map target_bytes rows)))))
table_again width default low count rows rest h =
    let suffix = flat_map target_bytes rows ++ rest in
    let size : 9 + 2 * count ≡ suc (length (u2 default ++ (i4 low ++ (u2 count ++ flat_map target_bytes rows)))) = omega (arith, size_of_targets rows, h.rows_of.0) in
    let there : nat_le (2 * count) (length suffix) ≡ true = nat_le-from _ _ (omega (arith, size_of_targets rows, h.rows_of.0, length-append (flat_map target_bytes rows) rest)) in
    let last : le_z (low +ℤ pos count) (pos (2 ^ 31)) ≡ true = le_z-from _ _ h.limits.1 in
    ap (option_and_then (λ d. option_and_then (λ l. option_and_then (λ c. cond ((nat_le 1 c && le_z (l +ℤ pos c) (pos (2 ^ 31))) && nat_le (2 * c) (length suffix)) (Some (Table width d l c, 9 + 2 * c)) None) (u2_in (u2 count ++ suffix))) (i4_in (i4 low ++ (u2 count ++ suffix))))) (u2_again default (i4 low ++ (u2 count ++ suffix)) h.ranges.0)
    ∙ ap (option_and_then (λ l. option_and_then (λ c. cond ((nat_le 1 c && le_z (l +ℤ pos c) (pos (2 ^ 31))) && nat_le (2 * c) (length suffix)) (Some (Table width default l c, 9 + 2 * c)) None) (u2_in (u2 count ++ suffix)))) (i4_again low (u2 count ++ suffix) h.ranges.1)
    ∙ ap (option_and_then (λ c. cond ((nat_le 1 c && le_z (low +ℤ pos c) (pos (2 ^ 31))) && nat_le (2 * c) (length suffix)) (Some (Table width default low c, 9 + 2 * c)) None)) (u2_again count suffix h.ranges.2)
    ∙ let_through ((nat_le 1 count && le_z (low +ℤ pos count) (pos (2 ^ 31))) && nat_le (2 * count) (length suffix)) (Table width default low count) (9 + 2 * count) (all_three _ _ _ (nat_le-from 1 count h.limits.0) last there)
    ∙ ap (some (Table width default low count)) size

-- an instruction that is encoded is read, with its size
pub insn_at-again : (insn : MInsn) (rows : List SwitchRow) (rest : List ℕ) → IsInsn insn rows → insn_at (insn_bytes insn rows ++ rest) ≡ Some (insn, length (insn_bytes insn rows))
unfolding insn_in constant_in local_in stack_in number_in jump_in ret_in static_in field_in array_in element_in object_in
insn_at-again (Const1 value) rows rest h = ap (option_map (λ v. (Const1 v, 3))) (i2_again value rest h.ranges)
insn_at-again (Const2 value) rows rest h = ap (option_map (λ v. (Const2 v, 5))) (i4_again value rest h.ranges)
insn_at-again (Small1 value) rows rest h = ap (option_map (λ v. (Small1 v, 2))) (i1_again value rest h.ranges)
insn_at-again (Small2 value) rows rest h = ap (option_map (λ v. (Small2 v, 2))) (i1_again value rest h.ranges)
insn_at-again (Mid2 value) rows rest h = ap (option_map (λ v. (Mid2 v, 3))) (i2_again value rest h.ranges)
insn_at-again Null rows rest h = refl
insn_at-again (Load kind.Ref n) rows rest h = ap (option_map (λ n. (Load kind.Ref n.0, n.1))) (index_again n rest h.ranges)
insn_at-again (Load kind.One n) rows rest h = ap (option_map (λ n. (Load kind.One n.0, n.1))) (index_again n rest h.ranges)
insn_at-again (Load kind.Two n) rows rest h = ap (option_map (λ n. (Load kind.Two n.0, n.1))) (index_again n rest h.ranges)
insn_at-again (Store kind.Ref n) rows rest h = ap (option_map (λ n. (Store kind.Ref n.0, n.1))) (index_again n rest h.ranges)
insn_at-again (Store kind.One n) rows rest h = ap (option_map (λ n. (Store kind.One n.0, n.1))) (index_again n rest h.ranges)
insn_at-again (Store kind.Two n) rows rest h = ap (option_map (λ n. (Store kind.Two n.0, n.1))) (index_again n rest h.ranges)
insn_at-again (RClear n) rows rest h = ap (option_map (λ n. (RClear n.0, n.1))) (index_again n rest h.ranges)
insn_at-again (Inc width.One local amount) rows rest h = inc_again width.One local amount rest h.ranges.0 h.ranges.1
insn_at-again (Inc width.Two local amount) rows rest h = inc_again width.Two local amount rest h.ranges.0 h.ranges.1
insn_at-again (RDupX m n) rows rest h = rdupx_again m n rest h.limits.0 h.limits.1 h.limits.2
insn_at-again (DupX m n) rows rest h = dupx_again m n rest h.limits.0 h.limits.1 h.limits.2
insn_at-again (RPop count) rows rest h = rpop_again count rest h.limits.0 h.limits.1
insn_at-again (Pop count) rows rest h = pop_again count rest h.limits.0 h.limits.1
insn_at-again RSwap rows rest h = refl
insn_at-again (Swap m n) rows rest h = swap_again m n rest h.limits.0 h.limits.1 h.limits.2 h.limits.3
insn_at-again (Drop n) rows rest h = ap (option_map (λ n. (Drop n.0, n.1))) (index_again n rest h.ranges)
insn_at-again (Bin width.One operation.Add) rows rest h = refl
insn_at-again (Bin width.One operation.Sub) rows rest h = refl
insn_at-again (Bin width.One operation.Mul) rows rest h = refl
insn_at-again (Bin width.One operation.Div) rows rest h = refl
insn_at-again (Bin width.One operation.Rem) rows rest h = refl
insn_at-again (Bin width.One operation.Shl) rows rest h = refl
insn_at-again (Bin width.One operation.Shr) rows rest h = refl
insn_at-again (Bin width.One operation.Ushr) rows rest h = refl
insn_at-again (Bin width.One operation.And) rows rest h = refl
insn_at-again (Bin width.One operation.Or) rows rest h = refl
insn_at-again (Bin width.One operation.Xor) rows rest h = refl
insn_at-again (Bin width.Two operation.Add) rows rest h = refl
insn_at-again (Bin width.Two operation.Sub) rows rest h = refl
insn_at-again (Bin width.Two operation.Mul) rows rest h = refl
insn_at-again (Bin width.Two operation.Div) rows rest h = refl
insn_at-again (Bin width.Two operation.Rem) rows rest h = refl
insn_at-again (Bin width.Two operation.Shl) rows rest h = refl
insn_at-again (Bin width.Two operation.Shr) rows rest h = refl
insn_at-again (Bin width.Two operation.Ushr) rows rest h = refl
insn_at-again (Bin width.Two operation.And) rows rest h = refl
insn_at-again (Bin width.Two operation.Or) rows rest h = refl
insn_at-again (Bin width.Two operation.Xor) rows rest h = refl
insn_at-again (Neg width.One) rows rest h = refl
insn_at-again (Neg width.Two) rows rest h = refl
insn_at-again Sx rows rest h = refl
insn_at-again Zx rows rest h = refl
insn_at-again Sb rows rest h = refl
insn_at-again Bit rows rest h = refl
insn_at-again (Jz width.One condition.Eq n) rows rest h = ap (option_map (λ n. (Jz width.One condition.Eq n, 3))) (u2_again n rest h.ranges)
insn_at-again (Jz width.One condition.Ne n) rows rest h = ap (option_map (λ n. (Jz width.One condition.Ne n, 3))) (u2_again n rest h.ranges)
insn_at-again (Jz width.One condition.Lt n) rows rest h = ap (option_map (λ n. (Jz width.One condition.Lt n, 3))) (u2_again n rest h.ranges)
insn_at-again (Jz width.One condition.Ge n) rows rest h = ap (option_map (λ n. (Jz width.One condition.Ge n, 3))) (u2_again n rest h.ranges)
insn_at-again (Jz width.One condition.Gt n) rows rest h = ap (option_map (λ n. (Jz width.One condition.Gt n, 3))) (u2_again n rest h.ranges)
insn_at-again (Jz width.One condition.Le n) rows rest h = ap (option_map (λ n. (Jz width.One condition.Le n, 3))) (u2_again n rest h.ranges)
insn_at-again (Jz width.Two condition.Eq n) rows rest h = ap (option_map (λ n. (Jz width.Two condition.Eq n, 3))) (u2_again n rest h.ranges)
insn_at-again (Jz width.Two condition.Ne n) rows rest h = ap (option_map (λ n. (Jz width.Two condition.Ne n, 3))) (u2_again n rest h.ranges)
insn_at-again (Jz width.Two condition.Lt n) rows rest h = ap (option_map (λ n. (Jz width.Two condition.Lt n, 3))) (u2_again n rest h.ranges)
insn_at-again (Jz width.Two condition.Ge n) rows rest h = ap (option_map (λ n. (Jz width.Two condition.Ge n, 3))) (u2_again n rest h.ranges)
insn_at-again (Jz width.Two condition.Gt n) rows rest h = ap (option_map (λ n. (Jz width.Two condition.Gt n, 3))) (u2_again n rest h.ranges)
insn_at-again (Jz width.Two condition.Le n) rows rest h = ap (option_map (λ n. (Jz width.Two condition.Le n, 3))) (u2_again n rest h.ranges)
insn_at-again (JCmp width.One condition.Eq n) rows rest h = ap (option_map (λ n. (JCmp width.One condition.Eq n, 3))) (u2_again n rest h.ranges)
insn_at-again (JCmp width.One condition.Ne n) rows rest h = ap (option_map (λ n. (JCmp width.One condition.Ne n, 3))) (u2_again n rest h.ranges)
insn_at-again (JCmp width.One condition.Lt n) rows rest h = ap (option_map (λ n. (JCmp width.One condition.Lt n, 3))) (u2_again n rest h.ranges)
insn_at-again (JCmp width.One condition.Ge n) rows rest h = ap (option_map (λ n. (JCmp width.One condition.Ge n, 3))) (u2_again n rest h.ranges)
insn_at-again (JCmp width.One condition.Gt n) rows rest h = ap (option_map (λ n. (JCmp width.One condition.Gt n, 3))) (u2_again n rest h.ranges)
insn_at-again (JCmp width.One condition.Le n) rows rest h = ap (option_map (λ n. (JCmp width.One condition.Le n, 3))) (u2_again n rest h.ranges)
insn_at-again (JCmp width.Two condition.Eq n) rows rest h = ap (option_map (λ n. (JCmp width.Two condition.Eq n, 3))) (u2_again n rest h.ranges)
insn_at-again (JCmp width.Two condition.Ne n) rows rest h = ap (option_map (λ n. (JCmp width.Two condition.Ne n, 3))) (u2_again n rest h.ranges)
insn_at-again (JCmp width.Two condition.Lt n) rows rest h = ap (option_map (λ n. (JCmp width.Two condition.Lt n, 3))) (u2_again n rest h.ranges)
insn_at-again (JCmp width.Two condition.Ge n) rows rest h = ap (option_map (λ n. (JCmp width.Two condition.Ge n, 3))) (u2_again n rest h.ranges)
insn_at-again (JCmp width.Two condition.Gt n) rows rest h = ap (option_map (λ n. (JCmp width.Two condition.Gt n, 3))) (u2_again n rest h.ranges)
insn_at-again (JCmp width.Two condition.Le n) rows rest h = ap (option_map (λ n. (JCmp width.Two condition.Le n, 3))) (u2_again n rest h.ranges)
insn_at-again (RJ test.Equal n) rows rest h = ap (option_map (λ n. (RJ test.Equal n, 3))) (u2_again n rest h.ranges)
insn_at-again (RJ test.NotEqual n) rows rest h = ap (option_map (λ n. (RJ test.NotEqual n, 3))) (u2_again n rest h.ranges)
insn_at-again (RJ test.Null n) rows rest h = ap (option_map (λ n. (RJ test.Null n, 3))) (u2_again n rest h.ranges)
insn_at-again (RJ test.NonNull n) rows rest h = ap (option_map (λ n. (RJ test.NonNull n, 3))) (u2_again n rest h.ranges)
insn_at-again (Goto n) rows rest h = ap (option_map (λ n. (Goto n, 3))) (u2_again n rest h.ranges)
insn_at-again (Switch width.One default count) rows rest h = switch_again width.One default count rows rest h
insn_at-again (Switch width.Two default count) rows rest h = switch_again width.Two default count rows rest h
insn_at-again (Table width.One default low count) rows rest h = table_again width.One default low count rows rest h
insn_at-again (Table width.Two default low count) rows rest h = table_again width.Two default low count rows rest h
insn_at-again (Ret None) rows rest h = refl
insn_at-again (Ret (Some kind.Ref)) rows rest h = refl
insn_at-again (Ret (Some kind.One)) rows rest h = refl
insn_at-again (Ret (Some kind.Two)) rows rest h = refl
insn_at-again (GetS kind.Ref n) rows rest h = ap (option_map (λ n. (GetS kind.Ref n.0, n.1))) (index_again n rest h.ranges)
insn_at-again (GetS kind.One n) rows rest h = ap (option_map (λ n. (GetS kind.One n.0, n.1))) (index_again n rest h.ranges)
insn_at-again (GetS kind.Two n) rows rest h = ap (option_map (λ n. (GetS kind.Two n.0, n.1))) (index_again n rest h.ranges)
insn_at-again (PutS kind.Ref n) rows rest h = ap (option_map (λ n. (PutS kind.Ref n.0, n.1))) (index_again n rest h.ranges)
insn_at-again (PutS kind.One n) rows rest h = ap (option_map (λ n. (PutS kind.One n.0, n.1))) (index_again n rest h.ranges)
insn_at-again (PutS kind.Two n) rows rest h = ap (option_map (λ n. (PutS kind.Two n.0, n.1))) (index_again n rest h.ranges)
insn_at-again (GetF kind.Ref n) rows rest h = ap (option_map (λ n. (GetF kind.Ref n.0, n.1))) (index_again n rest h.ranges)
insn_at-again (GetF kind.One n) rows rest h = ap (option_map (λ n. (GetF kind.One n.0, n.1))) (index_again n rest h.ranges)
insn_at-again (GetF kind.Two n) rows rest h = ap (option_map (λ n. (GetF kind.Two n.0, n.1))) (index_again n rest h.ranges)
insn_at-again (PutF kind.Ref n) rows rest h = ap (option_map (λ n. (PutF kind.Ref n.0, n.1))) (index_again n rest h.ranges)
insn_at-again (PutF kind.One n) rows rest h = ap (option_map (λ n. (PutF kind.One n.0, n.1))) (index_again n rest h.ranges)
insn_at-again (PutF kind.Two n) rows rest h = ap (option_map (λ n. (PutF kind.Two n.0, n.1))) (index_again n rest h.ranges)
insn_at-again (NewArr width.One n) rows rest h = ap (option_map (λ n. (NewArr width.One n, 3))) (u2_again n rest h.ranges)
insn_at-again (NewArr width.Two n) rows rest h = ap (option_map (λ n. (NewArr width.Two n, 3))) (u2_again n rest h.ranges)
insn_at-again (Multi id dims) rows rest h = multi_again id dims rest h.ranges.0
insn_at-again ALen rows rest h = refl
insn_at-again (ALoad element.Ref width.One) rows rest h = refl
insn_at-again (ALoad element.Ref width.Two) rows rest h = refl
insn_at-again (ALoad element.Byte width.One) rows rest h = refl
insn_at-again (ALoad element.Byte width.Two) rows rest h = refl
insn_at-again (ALoad element.Half width.One) rows rest h = refl
insn_at-again (ALoad element.Half width.Two) rows rest h = refl
insn_at-again (ALoad element.Int width.One) rows rest h = refl
insn_at-again (ALoad element.Int width.Two) rows rest h = refl
insn_at-again (AStore element.Ref width.One) rows rest h = refl
insn_at-again (AStore element.Ref width.Two) rows rest h = refl
insn_at-again (AStore element.Byte width.One) rows rest h = refl
insn_at-again (AStore element.Byte width.Two) rows rest h = refl
insn_at-again (AStore element.Half width.One) rows rest h = refl
insn_at-again (AStore element.Half width.Two) rows rest h = refl
insn_at-again (AStore element.Int width.One) rows rest h = refl
insn_at-again (AStore element.Int width.Two) rows rest h = refl
insn_at-again (New n) rows rest h = ap (option_map (λ n. (New n, 3))) (u2_again n rest h.ranges)
insn_at-again (Cast n) rows rest h = ap (option_map (λ n. (Cast n, 3))) (u2_again n rest h.ranges)
insn_at-again (Inst n) rows rest h = ap (option_map (λ n. (Inst n, 3))) (u2_again n rest h.ranges)
insn_at-again Throw rows rest h = refl
insn_at-again (CallS n) rows rest h = ap (option_map (λ n. (CallS n, 3))) (u2_again n rest h.ranges)
insn_at-again (CallX n) rows rest h = ap (option_map (λ n. (CallX n, 3))) (u2_again n rest h.ranges)
insn_at-again (CallV n) rows rest h = ap (option_map (λ n. (CallV n, 3))) (u2_again n rest h.ranges)
insn_at-again (CallI selector id) rows rest h = calli_again selector id rest h.ranges.0 h.ranges.1
