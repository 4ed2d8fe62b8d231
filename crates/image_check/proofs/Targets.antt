-- The targets of an instruction by their number, and the bytes of a switch.
use Rattle.std.proofs.Common.{◌≡◌, ℕ, ℤ, pos, zero, suc, ◌+◌, ◌+ℤ◌, ◌-◌, ◌*◌, ◌<◌, ◌≤◌, true, false, cond, List, [], ◌∷◌, ◌++◌, length, map, drop, get_or, Some, refl, sym, ap, subst, ◌∙◌, arith, length-drop}
use Rattle.std.specs.Prelude.{IfSome}
use Rattle.std.proofs.lemmas.List.{drop-drop, length-append}
use Rattle.byteorder.specs.Endian.{big_number}
use Rattle.image_instr.specs.declared.insn.Width.{Width}
use Rattle.image_instr.specs.declared.insn.SwitchRow.{SwitchRow}
use Rattle.image_instr.specs.declared.insn.MInsn.{MInsn}
use Rattle.image_instr.specs.declared.insn.MInsn.TheVariants.{Const1, Const2, Small1, Small2, Mid2, Null, Load, Store, RClear, Inc, RDupX, DupX, RPop, Pop, RSwap, Swap, Drop, Bin, Neg, Sx, Zx, Sb, Bit, Jz, JCmp, RJ, Goto, Switch, Table, Ret, GetS, PutS, GetF, PutF, NewArr, Multi, ALen, ALoad, AStore, New, Cast, Inst, Throw, CallS, CallX, CallV, CallI}
use Rattle.image_instr.specs.Insn.{insn_bytes, IsAtPrefix}
use Rattle.image_instr.specs.Reading.{Found, insn_at, rows_at, rows_in, targets_in}
use Rattle.image_instr.proofs.encoding.Bytes.{IsBytes, IsBytes-drop}
use Rattle.image_instr.proofs.switches.Rows.{size_of_rows, size_of_targets}
use Rattle.image_instr.proofs.encoding.Decode.{found_holds, prefix_parts}
use Rattle.image_check.specs.Code.{targets}
use Rattle.image_check.specs.Targets.{target_count, successor_count, HoldsAt}
use Rattle.image_check.specs.Visits.{goes_on, successors}

abbrev targets_of : List SwitchRow → List ℕ
targets_of rows = map (λ row. row.target) rows

-- ---- how many

rows_count : (count : ℕ) (bytes : List ℕ) → length (targets_of (rows_in count bytes)) ≡ count
unfolding rows_in
rows_count zero bytes = refl
rows_count (suc count) bytes = ap suc (rows_count count (drop 6 bytes))

targets_count : (low : ℤ) (count : ℕ) (bytes : List ℕ) → length (targets_of (targets_in low count bytes)) ≡ count
unfolding targets_in
targets_count low zero bytes = refl
targets_count low (suc count) bytes = ap suc (targets_count (low +ℤ pos 1) count (drop 2 bytes))

pub count_is : (insn : MInsn) (bytes : List ℕ) → length (targets insn (rows_at insn bytes)) ≡ target_count insn
count_is (Jz width condition target) bytes = refl
count_is (JCmp width condition target) bytes = refl
count_is (RJ test target) bytes = refl
count_is (Goto target) bytes = refl
count_is (Switch width default count) bytes = omega (arith, rows_count count (drop 5 bytes))
count_is (Table width default low count) bytes = omega (arith, targets_count low count (drop 9 bytes))
count_is _ bytes = refl

pub successors_are : (code : List ℕ) (pc : ℕ) (insn : MInsn) (size : ℕ) → length (successors code pc insn size) ≡ successor_count insn
successors_are code pc insn size =
    let count = count_is insn (drop pc code) in
    elim (goes_on insn) as (λ b. length ((cond b ((pc + size) ∷ []) []) ++ targets insn (rows_at insn (drop pc code))) ≡ cond b (target_count insn + 1) (target_count insn)) [
      | true ↦ omega (arith, count)
      | false ↦ count
    ]

-- ---- which

rows_target : (count : ℕ) (bytes : List ℕ) (i : ℕ) → i < count → get_or (targets_of (rows_in count bytes)) i 0 ≡ big_number 2 (drop (6 * i + 4) bytes)
unfolding rows_in
rows_target zero bytes i lt = absurd (omega arith)
rows_target (suc count) bytes zero lt = refl
rows_target (suc count) bytes (suc i) lt =
    let far : 6 + (6 * i + 4) ≡ 6 * suc i + 4 = omega arith in
    rows_target count (drop 6 bytes) i (omega arith) ∙ ap (big_number 2) (drop-drop (6 * i + 4) 6 bytes ∙ ap (λ n. drop n bytes) far)

targets_target : (low : ℤ) (count : ℕ) (bytes : List ℕ) (i : ℕ) → i < count → get_or (targets_of (targets_in low count bytes)) i 0 ≡ big_number 2 (drop (2 * i) bytes)
unfolding targets_in
targets_target low zero bytes i lt = absurd (omega arith)
targets_target low (suc count) bytes zero lt = refl
targets_target low (suc count) bytes (suc i) lt =
    let far : 2 + 2 * i ≡ 2 * suc i = omega arith in
    targets_target (low +ℤ pos 1) count (drop 2 bytes) i (omega arith) ∙ ap (big_number 2) (drop-drop (2 * i) 2 bytes ∙ ap (λ n. drop n bytes) far)

-- a target after the default, in the code
pub switch_row : (code : List ℕ) (pc default count index : ℕ) → 0 < index → index < count + 1 → big_number 2 (drop (pc + 9 + 6 * (index - 1)) code) ≡ get_or (default ∷ targets_of (rows_in count (drop 5 (drop pc code)))) index 0
switch_row code pc default count zero some lt = absurd (omega arith)
switch_row code pc default count (suc index) some lt =
    let far : pc + 5 + (6 * index + 4) ≡ pc + 9 + 6 * (suc index - 1) = omega arith in
    sym (rows_target count (drop 5 (drop pc code)) index (omega arith) ∙ ap (big_number 2) (drop-drop (6 * index + 4) 5 (drop pc code) ∙ drop-drop (5 + (6 * index + 4)) pc code ∙ ap (λ n. drop n code) (omega arith)))

pub table_row : (code : List ℕ) (pc default : ℕ) (low : ℤ) (count index : ℕ) → 0 < index → index < count + 1 → big_number 2 (drop (pc + 9 + 2 * (index - 1)) code) ≡ get_or (default ∷ targets_of (targets_in low count (drop 9 (drop pc code)))) index 0
table_row code pc default low count zero some lt = absurd (omega arith)
table_row code pc default low count (suc index) some lt =
    sym (targets_target low count (drop 9 (drop pc code)) index (omega arith) ∙ ap (big_number 2) (drop-drop (2 * index) 9 (drop pc code) ∙ drop-drop (9 + 2 * index) pc code ∙ ap (λ n. drop n code) (omega arith)))

-- ---- the bytes are there

at_prefix : (bytes : List ℕ) (insn : MInsn) (size : ℕ) → IsBytes bytes → insn_at bytes ≡ Some (insn, size) → IsAtPrefix insn (rows_at insn bytes) size bytes
at_prefix bytes insn size fits e =
    subst (λ (found : Found). IfSome found (λ f. IsAtPrefix f.0 (rows_at f.0 bytes) f.1 bytes)) e (found_holds bytes fits)

-- an instruction has a byte at least, and no more than are there
some_bytes : (insn : MInsn) (rows : List SwitchRow) → 1 ≤ length (insn_bytes insn rows)
some_bytes (Const1 v) rows = omega arith
some_bytes (Const2 v) rows = omega arith
some_bytes (Small1 v) rows = omega arith
some_bytes (Small2 v) rows = omega arith
some_bytes (Mid2 v) rows = omega arith
some_bytes Null rows = omega arith
some_bytes (Load k n) rows = omega arith
some_bytes (Store k n) rows = omega arith
some_bytes (RClear n) rows = omega arith
some_bytes (Inc w n a) rows = omega arith
some_bytes (RDupX m n) rows = omega arith
some_bytes (DupX m n) rows = omega arith
some_bytes (RPop n) rows = omega arith
some_bytes (Pop n) rows = omega arith
some_bytes RSwap rows = omega arith
some_bytes (Swap m n) rows = omega arith
some_bytes (Drop n) rows = omega arith
some_bytes (Bin w o) rows = omega arith
some_bytes (Neg w) rows = omega arith
some_bytes Sx rows = omega arith
some_bytes Zx rows = omega arith
some_bytes Sb rows = omega arith
some_bytes Bit rows = omega arith
some_bytes (Jz w c t) rows = omega arith
some_bytes (JCmp w c t) rows = omega arith
some_bytes (RJ r t) rows = omega arith
some_bytes (Goto t) rows = omega arith
some_bytes (Switch w d n) rows = omega arith
some_bytes (Table w d l n) rows = omega arith
some_bytes (Ret r) rows = omega arith
some_bytes (GetS k n) rows = omega arith
some_bytes (PutS k n) rows = omega arith
some_bytes (GetF k n) rows = omega arith
some_bytes (PutF k n) rows = omega arith
some_bytes (NewArr w n) rows = omega arith
some_bytes (Multi n d) rows = omega arith
some_bytes ALen rows = omega arith
some_bytes (ALoad x w) rows = omega arith
some_bytes (AStore x w) rows = omega arith
some_bytes (New n) rows = omega arith
some_bytes (Cast n) rows = omega arith
some_bytes (Inst n) rows = omega arith
some_bytes Throw rows = omega arith
some_bytes (CallS n) rows = omega arith
some_bytes (CallX n) rows = omega arith
some_bytes (CallV n) rows = omega arith
some_bytes (CallI n i) rows = omega arith

pub size_fits : (code : List ℕ) (pc : ℕ) (insn : MInsn) (size : ℕ) → IsBytes code → insn_at (drop pc code) ≡ Some (insn, size) → (1 ≤ size) × (pc + size ≤ length code)
size_fits code pc insn size fits e =
    let bytes = drop pc code in
    let at = at_prefix bytes insn size (IsBytes-drop pc code fits) e in
    let parts : length bytes ≡ length (insn_bytes insn (rows_at insn bytes)) + length (drop size bytes) = ap length (prefix_parts bytes insn (rows_at insn bytes) size at) ∙ length-append (insn_bytes insn (rows_at insn bytes)) (drop size bytes) in
    let some = some_bytes insn (rows_at insn bytes) in
    (omega (arith, at.size_is), omega (arith, at.size_is, parts, length-drop pc code))

pub switch_bytes : (code : List ℕ) (pc : ℕ) (width : Width) (default count : ℕ) → IsBytes code → HoldsAt code pc (Switch width default count) → pc + 5 + 6 * count ≤ length code
switch_bytes code pc width default count fits stands =
    let bytes = drop pc code in
    let insn = Switch width default count in
    let at = at_prefix bytes insn stands.0 (IsBytes-drop pc code fits) stands.1 in
    let within = size_fits code pc insn stands.0 fits stands.1 in
    omega (arith, at.size_is, within.1, size_of_rows (rows_at insn bytes), at.is_insn.rows_of.0)

pub table_bytes : (code : List ℕ) (pc : ℕ) (width : Width) (default : ℕ) (low : ℤ) (count : ℕ) → IsBytes code → HoldsAt code pc (Table width default low count) → pc + 9 + 2 * count ≤ length code
table_bytes code pc width default low count fits stands =
    let bytes = drop pc code in
    let insn = Table width default low count in
    let at = at_prefix bytes insn stands.0 (IsBytes-drop pc code fits) stands.1 in
    let within = size_fits code pc insn stands.0 fits stands.1 in
    omega (arith, at.size_is, within.1, size_of_targets (rows_at insn bytes), at.is_insn.rows_of.0)
