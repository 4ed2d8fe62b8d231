-- Each row of a switch has some of the bytes of its code.
use Rattle.std.proofs.Common.{◌≡◌, ℕ, ℤ, zero, suc, ◌+◌, ◌<◌, ◌≤◌, Bool, true, false, cond, List, length, drop, Option, Some, Result, Ok, Err, refl, arith, length-drop}
use Rattle.std.specs.Prelude.{nat_lt}
use Rattle.std.proofs.lemmas.Bool.{ltb-false}
use Rattle.byte_read.specs.Reading.{◌>>=◌, number_at}
use Rattle.insn_form.specs.declared.SwitchRow.{SwitchRow}
use Rattle.class_code.specs.Operands.{u4_at, i4_at, far_target_at}
use Rattle.class_code.specs.Table.{table_rows, is_above, lookup_row, lookup_rows}

-- ---- what is read of bytes

-- what was read is so, with what is left
abbrev pub Sure : {E A : Type 0} → (A × List ℕ → Type 0) → Result (A × List ℕ) E → Type 0
Sure P (Ok x) = P x
Sure P (Err why) = Unit {0}

pub sure-then : {E A B : Type 0} (P : A × List ℕ → Type 0) (Q : B × List ℕ → Type 0) (read : Result (A × List ℕ) E) (f : A × List ℕ → Result (B × List ℕ) E) → Sure P read → ((x : A × List ℕ) → P x → Sure Q (f x)) → Sure Q (read >>= f)
sure-then P Q (Ok x) f h k = k x h
sure-then P Q (Err why) f h k = tt

pub either : {E A : Type 0} (P : A × List ℕ → Type 0) (b : Bool) (x y : Result (A × List ℕ) E) → Sure P x → Sure P y → Sure P (cond b x y)
either P true x y h k = h
either P false x y h k = k

-- fewer bytes are left
abbrev pub LeavesFewer : {A : Type 0} → List ℕ → A × List ℕ → Type 0
LeavesFewer bytes x = length x.1 < length bytes

u4_fewer : {E : Type 0} (missed : E) (bytes : List ℕ) → Sure (LeavesFewer bytes) (number_at missed 4 bytes)
unfolding number_at
u4_fewer {E = E} missed bytes = by_room _ (nat_lt (length bytes) 4) refl
  where
    by_room : (number : ℕ) (short : Bool) → nat_lt (length bytes) 4 ≡ short → Sure (LeavesFewer bytes) (cond short (Err missed) (Ok (number, drop 4 bytes)))
    by_room number true e = tt
    by_room number false e =
        let room : 4 ≤ length bytes = ltb-false (length bytes) 4 e in
        omega (arith, room, length-drop 4 bytes)

pub i4_fewer : (bytes : List ℕ) → Sure (LeavesFewer bytes) (i4_at bytes)
unfolding i4_at
i4_fewer bytes = sure-then (LeavesFewer bytes) (LeavesFewer bytes) (u4_at bytes) _ (u4_fewer _ bytes) (λ x fewer. fewer)

pub far_fewer : (pc : ℕ) (bytes : List ℕ) → Sure (LeavesFewer bytes) (far_target_at pc bytes)
unfolding far_target_at
far_fewer pc bytes = sure-then (LeavesFewer bytes) (LeavesFewer bytes) (i4_at bytes) _ (i4_fewer bytes) (λ x fewer. fewer)

-- ---- rows

-- each row has some bytes
abbrev pub RowsOf : List ℕ → List SwitchRow × List ℕ → Type 0
RowsOf bytes x = length x.0 ≤ length bytes

pub table_rows_few : (pc : ℕ) (low : ℤ) (index count : ℕ) (bytes : List ℕ) → Sure (RowsOf bytes) (table_rows pc low index count bytes)
unfolding table_rows
table_rows_few pc low index zero bytes = omega arith
table_rows_few pc low index (suc count) bytes =
    sure-then (LeavesFewer bytes) (RowsOf bytes) (far_target_at pc bytes) _ (far_fewer pc bytes) (λ target fewer.
    sure-then (RowsOf target.1) (RowsOf bytes) (table_rows pc low (index + 1) count target.1) _ (table_rows_few pc low (index + 1) count target.1) (λ rows few. omega (arith, fewer, few)))

lookup_row_fewer : (pc : ℕ) (before : Option ℤ) (bytes : List ℕ) → Sure (LeavesFewer bytes) (lookup_row pc before bytes)
unfolding lookup_row
lookup_row_fewer pc before bytes =
    sure-then (LeavesFewer bytes) (LeavesFewer bytes) (i4_at bytes) _ (i4_fewer bytes) (λ key fewer.
    sure-then (LeavesFewer key.1) (LeavesFewer bytes) (far_target_at pc key.1) _ (far_fewer pc key.1) (λ target fewer_still.
    either (LeavesFewer bytes) (is_above before key.0) (Ok (record { key = key.0; target = target.0 }, target.1)) (Err _) (omega (arith, fewer, fewer_still)) tt))

pub lookup_rows_few : (pc : ℕ) (before : Option ℤ) (count : ℕ) (bytes : List ℕ) → Sure (RowsOf bytes) (lookup_rows pc before count bytes)
unfolding lookup_rows
lookup_rows_few pc before zero bytes = omega arith
lookup_rows_few pc before (suc count) bytes =
    sure-then (LeavesFewer bytes) (RowsOf bytes) (lookup_row pc before bytes) _ (lookup_row_fewer pc before bytes) (λ row fewer.
    sure-then (RowsOf row.1) (RowsOf bytes) (lookup_rows pc (Some row.0.key) count row.1) _ (lookup_rows_few pc (Some row.0.key) count row.1) (λ rows few. omega (arith, fewer, few)))
