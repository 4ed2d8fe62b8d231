-- An instruction has at least one byte: what is after it is shorter.
use Rattle.std.proofs.Common.{◌≡◌, ℕ, ℤ, zero, suc, pos, ◌+◌, ◌≤◌, ◌<◌, Bool, true, false, cond, List, [], ◌∷◌, length, drop, take, Option, Some, None, Result, Ok, Err, subst, arith, length-drop}
use Rattle.std.specs.Prelude.{◌==◌, ◌||◌, nat_le}
use Rattle.std.specs.Int.{w64, cast_unsigned}
use Rattle.std.specs.Int.Signed.{lt_z}
use Rattle.byteorder.specs.Endian.{big_number}
use Rattle.cell_num.specs.declared.arithmetic.BinOp.{BinOp}
use Rattle.class_code.specs.declared.refusal.Fault.{Fault}
use Rattle.class_code.specs.declared.refusal.Fault.TheVariants.{Unsupported, BadCode}
use Rattle.class_code.specs.declared.insn.Insn.{Insn}
use Rattle.byte_read.specs.Reading.{◌>>=◌, u1_at as byte_at, number_at, slice_at as bytes_at}
use Rattle.class_code.specs.Operands.{u1_at, u2_at, u4_at, i1_at, i2_at, i4_at, slice_at, target_at, far_target_at}
use Rattle.class_code.specs.Table.{Prefix, is_within, with_u1, with_u2, constant, load, array_load, store, array_store, operation, binary, increment, math, conversion, branch, are_zero, padding_at, table_rows, span, tableswitch, lookup_row, lookup_rows, lookupswitch, control, call_interface, member, array_kind, new_array, object, wide_increment, widened, wide, multi_array, goto_w, extended, by_opcode, insn_at}

-- what is left has at most so many bytes
abbrev Short : {A : Type 0} → ℕ → Result (A × List ℕ) Fault → Type 0
Short most (Ok x) = length x.1 ≤ most
Short most (Err e) = Unit {0}

abbrev ShortRest : ℕ → Result (List ℕ) Fault → Type 0
ShortRest most (Ok rest) = length rest ≤ most
ShortRest most (Err e) = Unit {0}

short-if : {A : Type 0} (most : ℕ) (b : Bool) (x y : Result (A × List ℕ) Fault) → Short most x → Short most y → Short most (cond b x y)
short-if most true x y h k = h
short-if most false x y h k = k

short-then : {A B : Type 0} (most : ℕ) (read : Result (A × List ℕ) Fault) (f : A × List ℕ → Result (B × List ℕ) Fault) → Short most read → ((x : A × List ℕ) → length x.1 ≤ most → Short most (f x)) → Short most (read >>= f)
short-then most (Ok x) f h k = k x h
short-then most (Err e) f h k = tt

short-after : {B : Type 0} (most : ℕ) (read : Result (List ℕ) Fault) (f : List ℕ → Result (B × List ℕ) Fault) → ShortRest most read → ((x : List ℕ) → length x ≤ most → Short most (f x)) → Short most (read >>= f)
short-after most (Ok x) f h k = k x h
short-after most (Err e) f h k = tt

short-any : {A B : Type 0} (most : ℕ) (read : Result A Fault) (f : A → Result (B × List ℕ) Fault) → ((x : A) → Short most (f x)) → Short most (read >>= f)
short-any most (Ok x) f k = k x
short-any most (Err e) f k = tt

-- one of two instructions
if-insn : (most : ℕ) (b : Bool) (x y : Prefix) → Short most x → Short most y → Short most (cond b x y)
if-insn most true x y h k = h
if-insn most false x y h k = k

-- ---- operands

short-u1 : (most : ℕ) (bytes : List ℕ) → length bytes ≤ most → Short most (u1_at bytes)
unfolding byte_at
short-u1 most [] h = tt
short-u1 most (byte ∷ bytes) h = omega arith

short-u2 : (most : ℕ) (bytes : List ℕ) → length bytes ≤ most → Short most (u2_at bytes)
unfolding number_at
short-u2 most bytes h = short-if most _ (Err BadCode) (Ok (big_number 2 bytes, drop 2 bytes)) tt (omega (arith, length-drop 2 bytes))

short-u4 : (most : ℕ) (bytes : List ℕ) → length bytes ≤ most → Short most (u4_at bytes)
unfolding number_at
short-u4 most bytes h = short-if most _ (Err BadCode) (Ok (big_number 4 bytes, drop 4 bytes)) tt (omega (arith, length-drop 4 bytes))

short-i1 : (most : ℕ) (bytes : List ℕ) → length bytes ≤ most → Short most (i1_at bytes)
unfolding i1_at
short-i1 most bytes h = short-then most (u1_at bytes) _ (short-u1 most bytes h) (λ x le. le)

short-i2 : (most : ℕ) (bytes : List ℕ) → length bytes ≤ most → Short most (i2_at bytes)
unfolding i2_at
short-i2 most bytes h = short-then most (u2_at bytes) _ (short-u2 most bytes h) (λ x le. le)

short-i4 : (most : ℕ) (bytes : List ℕ) → length bytes ≤ most → Short most (i4_at bytes)
unfolding i4_at
short-i4 most bytes h = short-then most (u4_at bytes) _ (short-u4 most bytes h) (λ x le. le)

short-slice : (most size : ℕ) (bytes : List ℕ) → length bytes ≤ most → Short most (slice_at size bytes)
unfolding bytes_at
short-slice most size bytes h = short-if most _ (Err BadCode) (Ok (take size bytes, drop size bytes)) tt (omega (arith, length-drop size bytes))

short-target : (most pc : ℕ) (bytes : List ℕ) → length bytes ≤ most → Short most (target_at pc bytes)
unfolding target_at
short-target most pc bytes h = short-then most (i2_at bytes) _ (short-i2 most bytes h) (λ x le. le)

short-far : (most pc : ℕ) (bytes : List ℕ) → length bytes ≤ most → Short most (far_target_at pc bytes)
unfolding far_target_at
short-far most pc bytes h = short-then most (i4_at bytes) _ (short-i4 most bytes h) (λ x le. le)

-- an instruction with one operand
short-with1 : (most : ℕ) (insn : ℕ → Insn) (bytes : List ℕ) → length bytes ≤ most → Short most (with_u1 insn bytes)
short-with1 most insn bytes h = short-then most (u1_at bytes) _ (short-u1 most bytes h) (λ x le. le)

short-with2 : (most : ℕ) (insn : ℕ → Insn) (bytes : List ℕ) → length bytes ≤ most → Short most (with_u2 insn bytes)
short-with2 most insn bytes h = short-then most (u2_at bytes) _ (short-u2 most bytes h) (λ x le. le)

-- ---- families

short-constant : (most opcode : ℕ) (bytes : List ℕ) → length bytes ≤ most → Short most (constant opcode bytes)
unfolding constant
short-constant most opcode bytes h =
    if-insn most (opcode == 0) _ _ h (if-insn most (opcode == 1) _ _ h (if-insn most (is_within 2 8 opcode) _ _ h
    (if-insn most (opcode == 16) _ _ (short-then most (i1_at bytes) _ (short-i1 most bytes h) (λ x le. le))
    (if-insn most (opcode == 17) _ _ (short-then most (i2_at bytes) _ (short-i2 most bytes h) (λ x le. le))
    (if-insn most (opcode == 18) _ _ (short-with1 most _ bytes h) (if-insn most (opcode == 19) _ _ (short-with2 most _ bytes h) tt))))))

short-load : (most opcode : ℕ) (bytes : List ℕ) → length bytes ≤ most → Short most (load opcode bytes)
unfolding load
short-load most opcode bytes h =
    if-insn most (opcode == 21) _ _ (short-with1 most _ bytes h) (if-insn most (opcode == 25) _ _ (short-with1 most _ bytes h) (if-insn most (is_within 26 29 opcode) _ _ h (if-insn most (is_within 42 45 opcode) _ _ h tt)))

short-store : (most opcode : ℕ) (bytes : List ℕ) → length bytes ≤ most → Short most (store opcode bytes)
unfolding store
short-store most opcode bytes h =
    if-insn most (opcode == 54) _ _ (short-with1 most _ bytes h) (if-insn most (opcode == 58) _ _ (short-with1 most _ bytes h) (if-insn most (is_within 59 62 opcode) _ _ h (if-insn most (is_within 75 78 opcode) _ _ h tt)))

short-array_load : (most opcode : ℕ) (bytes : List ℕ) → length bytes ≤ most → Short most (array_load opcode bytes)
unfolding array_load
short-array_load most opcode bytes h = if-insn most (opcode == 46) _ _ h (if-insn most (opcode == 50) _ _ h (if-insn most (opcode == 51) _ _ h (if-insn most (opcode == 52) _ _ h (if-insn most (opcode == 53) _ _ h tt))))

short-array_store : (most opcode : ℕ) (bytes : List ℕ) → length bytes ≤ most → Short most (array_store opcode bytes)
unfolding array_store
short-array_store most opcode bytes h = if-insn most (opcode == 79) _ _ h (if-insn most (opcode == 83) _ _ h (if-insn most (opcode == 84) _ _ h (if-insn most (opcode == 85) _ _ h (if-insn most (opcode == 86) _ _ h tt))))

short-binary : (most opcode : ℕ) (bytes : List ℕ) (op : Option BinOp) → length bytes ≤ most → Short most (binary opcode bytes op)
short-binary most opcode bytes None h = tt
short-binary most opcode bytes (Some op) h = h

short-increment : (most : ℕ) (bytes : List ℕ) → length bytes ≤ most → Short most (increment bytes)
unfolding increment
short-increment most bytes h =
    short-then most (u1_at bytes) _ (short-u1 most bytes h) (λ local le. short-then most (i1_at local.1) _ (short-i1 most local.1 le) (λ x le. le))

short-math : (most opcode : ℕ) (bytes : List ℕ) → length bytes ≤ most → Short most (math opcode bytes)
unfolding math
short-math most opcode bytes h = if-insn most (opcode == 116) _ _ h (if-insn most (opcode == 132) _ _ (short-increment most bytes h) (short-binary most opcode bytes (operation opcode) h))

short-conversion : (most opcode : ℕ) (bytes : List ℕ) → length bytes ≤ most → Short most (conversion opcode bytes)
unfolding conversion
short-conversion most opcode bytes h = if-insn most (opcode == 145) _ _ h (if-insn most (opcode == 146) _ _ h (if-insn most (opcode == 147) _ _ h tt))

short-branch : (most pc opcode : ℕ) (bytes : List ℕ) → length bytes ≤ most → Short most (branch pc opcode bytes)
unfolding branch
short-branch most pc opcode bytes h = short-then most (target_at pc bytes) _ (short-target most pc bytes h) (λ x le. le)

-- ---- switches

guard-rest : (most : ℕ) (b : Bool) (rest : List ℕ) → length rest ≤ most → ShortRest most (cond b (Ok rest) (Err BadCode))
guard-rest most true rest h = h
guard-rest most false rest h = tt

rest-then : {A : Type 0} (most : ℕ) (read : Result (A × List ℕ) Fault) (f : A × List ℕ → Result (List ℕ) Fault) → Short most read → ((x : A × List ℕ) → length x.1 ≤ most → ShortRest most (f x)) → ShortRest most (read >>= f)
rest-then most (Ok x) f h k = k x h
rest-then most (Err e) f h k = tt

short-padding : (most pc : ℕ) (bytes : List ℕ) → length bytes ≤ most → ShortRest most (padding_at pc bytes)
unfolding padding_at
short-padding most pc bytes h = rest-then most (slice_at _ bytes) _ (short-slice most _ bytes h) (λ x le. guard-rest most (are_zero x.0) x.1 le)

short-table_rows : (most pc : ℕ) (low : ℤ) (index count : ℕ) (bytes : List ℕ) → length bytes ≤ most → Short most (table_rows pc low index count bytes)
unfolding table_rows
short-table_rows most pc low index zero bytes h = h
short-table_rows most pc low index (suc count) bytes h =
    short-then most (far_target_at pc bytes) _ (short-far most pc bytes h) (λ target le.
    short-then most (table_rows pc low (index + 1) count target.1) _ (short-table_rows most pc low (index + 1) count target.1 le) (λ x le. le))

short-tableswitch : (most pc : ℕ) (bytes : List ℕ) → length bytes ≤ most → Short most (tableswitch pc bytes)
unfolding tableswitch
short-tableswitch most pc bytes h =
    short-after most (padding_at pc bytes) _ (short-padding most pc bytes h) (λ padded le.
    short-then most (far_target_at pc padded) _ (short-far most pc padded le) (λ default le.
    short-then most (i4_at default.1) _ (short-i4 most default.1 le) (λ low le.
    short-then most (i4_at low.1) _ (short-i4 most low.1 le) (λ high le.
    short-then most (cond (lt_z high.0 low.0) (Err BadCode) (table_rows pc low.0 0 (span low.0 high.0) high.1)) _ (short-if most (lt_z high.0 low.0) (Err BadCode) (table_rows pc low.0 0 (span low.0 high.0) high.1) tt (short-table_rows most pc low.0 0 (span low.0 high.0) high.1 le)) (λ x le. le)))))

short-lookup_row : (most pc : ℕ) (before : Option ℤ) (bytes : List ℕ) → length bytes ≤ most → Short most (lookup_row pc before bytes)
unfolding lookup_row
short-lookup_row most pc before bytes h =
    short-then most (i4_at bytes) _ (short-i4 most bytes h) (λ key le.
    short-then most (far_target_at pc key.1) _ (short-far most pc key.1 le) (λ target le. short-if most _ (Ok (record { key = key.0; target = target.0 }, target.1)) (Err BadCode) le tt))

short-lookup_rows : (most pc : ℕ) (before : Option ℤ) (count : ℕ) (bytes : List ℕ) → length bytes ≤ most → Short most (lookup_rows pc before count bytes)
unfolding lookup_rows
short-lookup_rows most pc before zero bytes h = h
short-lookup_rows most pc before (suc count) bytes h =
    short-then most (lookup_row pc before bytes) _ (short-lookup_row most pc before bytes h) (λ row le.
    short-then most (lookup_rows pc (Some row.0.key) count row.1) _ (short-lookup_rows most pc (Some row.0.key) count row.1 le) (λ x le. le))

short-lookupswitch : (most pc : ℕ) (bytes : List ℕ) → length bytes ≤ most → Short most (lookupswitch pc bytes)
unfolding lookupswitch
short-lookupswitch most pc bytes h =
    short-after most (padding_at pc bytes) _ (short-padding most pc bytes h) (λ padded le.
    short-then most (far_target_at pc padded) _ (short-far most pc padded le) (λ default le.
    short-then most (i4_at default.1) _ (short-i4 most default.1 le) (λ count le.
    short-then most (cond (lt_z count.0 (pos 0)) (Err BadCode) (lookup_rows pc None (cast_unsigned w64 count.0) count.1)) _ (short-if most (lt_z count.0 (pos 0)) (Err BadCode) (lookup_rows pc None (cast_unsigned w64 count.0) count.1) tt (short-lookup_rows most pc None (cast_unsigned w64 count.0) count.1 le)) (λ x le. le))))

short-control : (most pc opcode : ℕ) (bytes : List ℕ) → length bytes ≤ most → Short most (control pc opcode bytes)
unfolding control
short-control most pc opcode bytes h =
    if-insn most (opcode == 167) _ _ (short-then most (target_at pc bytes) _ (short-target most pc bytes h) (λ x le. le))
    (if-insn most (opcode == 170) _ _ (short-tableswitch most pc bytes h) (if-insn most (opcode == 171) _ _ (short-lookupswitch most pc bytes h)
    (if-insn most (opcode == 172) _ _ h (if-insn most (opcode == 176) _ _ h (if-insn most (opcode == 177) _ _ h tt)))))

-- ---- references

short-call_interface : (most : ℕ) (bytes : List ℕ) → length bytes ≤ most → Short most (call_interface bytes)
unfolding call_interface
short-call_interface most bytes h =
    short-then most (u2_at bytes) _ (short-u2 most bytes h) (λ method le.
    short-then most (u1_at method.1) _ (short-u1 most method.1 le) (λ count le.
    short-then most (u1_at count.1) _ (short-u1 most count.1 le) (λ zero_byte le. if-insn most (zero_byte.0 == 0) _ (Err BadCode) le tt)))

short-member : (most opcode : ℕ) (bytes : List ℕ) → length bytes ≤ most → Short most (member opcode bytes)
unfolding member
short-member most opcode bytes h = if-insn most (opcode == 185) _ _ (short-call_interface most bytes h) (if-insn most (opcode == 186) _ _ tt (short-with2 most _ bytes h))

short-new_array : (most : ℕ) (bytes : List ℕ) → length bytes ≤ most → Short most (new_array bytes)
unfolding new_array
short-new_array most bytes h = short-then most (u1_at bytes) _ (short-u1 most bytes h) (λ code le. short-any most (array_kind code.0) _ (λ kind. le))

short-object : (most opcode : ℕ) (bytes : List ℕ) → length bytes ≤ most → Short most (object opcode bytes)
unfolding object
short-object most opcode bytes h =
    if-insn most (opcode == 188) _ _ (short-new_array most bytes h) (if-insn most (opcode == 190) _ _ h (if-insn most (opcode == 191) _ _ h (if-insn most (is_within 194 195 opcode) _ _ tt (short-with2 most _ bytes h))))

-- ---- extended

short-wide_increment : (most : ℕ) (bytes : List ℕ) → length bytes ≤ most → Short most (wide_increment bytes)
unfolding wide_increment
short-wide_increment most bytes h =
    short-then most (u2_at bytes) _ (short-u2 most bytes h) (λ local le. short-then most (i2_at local.1) _ (short-i2 most local.1 le) (λ x le. le))

short-widened : (most opcode : ℕ) (bytes : List ℕ) → length bytes ≤ most → Short most (widened opcode bytes)
unfolding widened
short-widened most opcode bytes h =
    if-insn most (opcode == 21) _ _ (short-with2 most _ bytes h) (if-insn most (opcode == 25) _ _ (short-with2 most _ bytes h) (if-insn most (opcode == 54) _ _ (short-with2 most _ bytes h)
    (if-insn most (opcode == 58) _ _ (short-with2 most _ bytes h) (if-insn most (opcode == 132) _ _ (short-wide_increment most bytes h) (if-insn most (is_within 22 24 opcode || is_within 55 57 opcode || opcode == 169) (Err (Unsupported opcode)) (Err BadCode) tt tt)))))

short-wide : (most : ℕ) (bytes : List ℕ) → length bytes ≤ most → Short most (wide bytes)
unfolding wide
short-wide most bytes h = short-then most (u1_at bytes) _ (short-u1 most bytes h) (λ x le. short-widened most x.0 x.1 le)

short-multi_array : (most : ℕ) (bytes : List ℕ) → length bytes ≤ most → Short most (multi_array bytes)
unfolding multi_array
short-multi_array most bytes h =
    short-then most (u2_at bytes) _ (short-u2 most bytes h) (λ class le. short-then most (u1_at class.1) _ (short-u1 most class.1 le) (λ x le. le))

short-goto_w : (most pc : ℕ) (bytes : List ℕ) → length bytes ≤ most → Short most (goto_w pc bytes)
unfolding goto_w
short-goto_w most pc bytes h = short-then most (far_target_at pc bytes) _ (short-far most pc bytes h) (λ x le. le)

short-extended : (most pc opcode : ℕ) (bytes : List ℕ) → length bytes ≤ most → Short most (extended pc opcode bytes)
unfolding extended
short-extended most pc opcode bytes h =
    if-insn most (opcode == 196) _ _ (short-wide most bytes h) (if-insn most (opcode == 197) _ _ (short-multi_array most bytes h)
    (if-insn most (opcode == 198) _ _ (short-branch most pc opcode bytes h) (if-insn most (opcode == 199) _ _ (short-branch most pc opcode bytes h)
    (if-insn most (opcode == 200) _ _ (short-goto_w most pc bytes h) (if-insn most (opcode == 201) (Err (Unsupported opcode)) (Err BadCode) tt tt)))))

-- ---- the whole table

short-by_opcode : (most pc opcode : ℕ) (bytes : List ℕ) → length bytes ≤ most → Short most (by_opcode pc opcode bytes)
unfolding by_opcode
short-by_opcode most pc opcode bytes h =
    if-insn most (nat_le opcode 20) _ _ (short-constant most opcode bytes h) (if-insn most (nat_le opcode 45) _ _ (short-load most opcode bytes h)
    (if-insn most (nat_le opcode 53) _ _ (short-array_load most opcode bytes h) (if-insn most (nat_le opcode 78) _ _ (short-store most opcode bytes h)
    (if-insn most (nat_le opcode 86) _ _ (short-array_store most opcode bytes h) (if-insn most (nat_le opcode 95) _ _ h
    (if-insn most (nat_le opcode 132) _ _ (short-math most opcode bytes h) (if-insn most (nat_le opcode 152) _ _ (short-conversion most opcode bytes h)
    (if-insn most (nat_le opcode 166) _ _ (short-branch most pc opcode bytes h) (if-insn most (nat_le opcode 177) _ _ (short-control most pc opcode bytes h)
    (if-insn most (nat_le opcode 186) _ _ (short-member most opcode bytes h) (if-insn most (nat_le opcode 195) _ _ (short-object most opcode bytes h)
    (short-extended most pc opcode bytes h))))))))))))

-- an instruction has at least one byte
pub insn_at-shorter : (pc : ℕ) (bytes : List ℕ) (insn : Insn) (suffix : List ℕ) → insn_at pc bytes ≡ Ok (insn, suffix) → length suffix < length bytes
unfolding insn_at
insn_at-shorter pc [] insn suffix e = absurd cc
insn_at-shorter pc (opcode ∷ operands) insn suffix e =
    let le : length suffix ≤ length operands = subst (λ (prefix : Prefix). Short (length operands) prefix) e (short-by_opcode (length operands) pc opcode operands (omega arith)) in
    omega arith
