-- The numbers of instructions that were read keep to their types, and the keys of a switch to their order.
use Rattle.std.proofs.Common.{◌≡◌, ℕ, ℤ, pos, negsuc, zero, suc, ◌+◌, ◌-◌, ◌+ℤ◌, ◌-ℤ◌, ◌^◌, ◌≤◌, ◌≤ℤ◌, ◌<ℤ◌, Bool, true, false, cond, List, [], ◌∷◌, length, Option, Some, None, Result, Ok, Err, refl, sym, ap, subst, arith, FitsSigned, w8, w16, w32}
use Rattle.std.specs.Prelude.{◌==◌, ◌||◌, nat_le}
use Rattle.std.specs.List.{AllByRecursion}
use Rattle.std.specs.Int.{w64, cast_signed, cast_unsigned}
use Rattle.std.specs.Int.Signed.{lt_z}
use Rattle.std.proofs.lemmas.Int.{ints}
use Rattle.std.proofs.lemmas.Bool.{leb-true, and_parts}
use Rattle.cell_num.specs.declared.arithmetic.BinOp.{BinOp}
use Rattle.class_code.specs.declared.refusal.Fault.{Fault}
use Rattle.class_code.specs.declared.refusal.Fault.TheVariants.{Unsupported, BadCode}
use Rattle.insn_form.specs.declared.SwitchForm.{SwitchForm}
use Rattle.insn_form.specs.declared.SwitchForm.TheVariants as switch
use Rattle.insn_form.specs.declared.SwitchRow.{SwitchRow}
use Rattle.class_code.specs.declared.insn.Insn.{Insn}
use Rattle.class_code.specs.declared.insn.Insn.TheVariants.{Push, Inc, Switch}
use Rattle.byte_read.specs.Reading.{◌>>=◌}
use Rattle.class_code.specs.Operands.{u1_at, u2_at, u4_at, i1_at, i2_at, i4_at, target_at, far_target_at}
use Rattle.class_code.specs.Table.{Prefix, is_within, constant, load, array_load, store, array_store, operation, binary, increment, math, conversion, jump, branch, is_above, padding_at, table_rows, span, tableswitch, lookup_row, lookup_rows, lookupswitch, control, call_interface, member_insn, member, array_kind, new_array, class_insn, object, wide_increment, widened, wide, multi_array, goto_w, extended, by_opcode, insn_at}
use Rattle.class_code.specs.Code.{Insns, AreIn}

-- ---- what a switch keeps

-- the key is above the one before it, where there is one
abbrev pub IsAbove : Option ℤ → ℤ → Type 0
IsAbove None key = Unit {0}
IsAbove (Some before) key = before <ℤ key

abbrev pub Rising : Option ℤ → List SwitchRow → Type 0
Rising before [] = Unit {0}
Rising before (row ∷ rows) = IsAbove before row.key × Rising (Some row.key) rows

-- the keys are the low one and those after it, one by one
abbrev pub Following : ℤ → List SwitchRow → Type 0
Following low [] = Unit {0}
Following low (row ∷ rows) = (row.key ≡ low) × Following (low +ℤ pos 1) rows

-- the key of the first row
abbrev pub low_key : List SwitchRow → ℤ
low_key [] = pos 0
low_key (row ∷ rows) = row.key

abbrev pub FitsKey : SwitchRow → Type 0
FitsKey row = FitsSigned w32 row.key

pub record IsTable (rows : List SwitchRow) : Type 0 where
  pub some : 1 ≤ length rows
  pub low : FitsSigned w32 (low_key rows)
  pub follow : Following (low_key rows) rows
  pub last : (low_key rows +ℤ pos (length rows)) ≤ℤ pos (2 ^ 31)

abbrev pub InOrder : SwitchForm → List SwitchRow → Type 0
InOrder switch.Lookup rows = Rising None rows
InOrder switch.Table rows = IsTable rows

pub record IsSwitch (form : SwitchForm) (rows : List SwitchRow) : Type 0 where
  pub keys : AllByRecursion FitsKey rows
  pub order : InOrder form rows

-- the numbers of an instruction
abbrev pub HasNumbers : Insn → Type 0
HasNumbers (Push number) = FitsSigned w32 number
HasNumbers (Inc local amount) = FitsSigned w16 amount
HasNumbers (Switch form default rows) = IsSwitch form rows
HasNumbers _ = Unit {0}

-- ---- reading

-- what was read is so
abbrev Sure : {A : Type 0} → (A → Type 0) → Result (A × List ℕ) Fault → Type 0
Sure P (Ok x) = P x.0
Sure P (Err e) = Unit {0}

abbrev Fine : Prefix → Type 0
Fine prefix = Sure HasNumbers prefix

sure-then : {A B : Type 0} (P : A → Type 0) (Q : B → Type 0) (read : Result (A × List ℕ) Fault) (f : A × List ℕ → Result (B × List ℕ) Fault) → Sure P read → ((x : A × List ℕ) → P x.0 → Sure Q (f x)) → Sure Q (read >>= f)
sure-then P Q (Ok x) f h k = k x h
sure-then P Q (Err e) f h k = tt

sure-weaker : {A : Type 0} (P Q : A → Type 0) (read : Result (A × List ℕ) Fault) → Sure P read → ((x : A) → P x → Q x) → Sure Q read
sure-weaker P Q (Ok x) h k = k x.0 h
sure-weaker P Q (Err e) h k = tt

any-then : {A B : Type 0} (Q : B → Type 0) (read : Result A Fault) (f : A → Result (B × List ℕ) Fault) → ((x : A) → Sure Q (f x)) → Sure Q (read >>= f)
any-then Q (Ok x) f k = k x
any-then Q (Err e) f k = tt

sure-if : {A : Type 0} (P : A → Type 0) (b : Bool) (x y : Result (A × List ℕ) Fault) → (b ≡ true → Sure P x) → (b ≡ false → Sure P y) → Sure P (cond b x y)
sure-if P true x y h k = h refl
sure-if P false x y h k = k refl

fine-if : (b : Bool) (x y : Prefix) → Fine x → Fine y → Fine (cond b x y)
fine-if true x y h k = h
fine-if false x y h k = k

insn-if : (b : Bool) (x y : Insn) → HasNumbers x → HasNumbers y → HasNumbers (cond b x y)
insn-if true x y h k = h
insn-if false x y h k = k

-- ---- signed numbers

cast_8 : (n : ℕ) → FitsSigned w8 (cast_signed w8 n)
cast_8 n = omega (arith, ints)

cast_16 : (n : ℕ) → FitsSigned w16 (cast_signed w16 n)
cast_16 n = omega (arith, ints)

cast_32 : (n : ℕ) → FitsSigned w32 (cast_signed w32 n)
cast_32 n = omega (arith, ints)

wider_8_16 : (z : ℤ) → FitsSigned w8 z → FitsSigned w16 z
wider_8_16 z h = omega (arith, ints)

wider_8_32 : (z : ℤ) → FitsSigned w8 z → FitsSigned w32 z
wider_8_32 z h = omega (arith, ints)

wider_16_32 : (z : ℤ) → FitsSigned w16 z → FitsSigned w32 z
wider_16_32 z h = omega (arith, ints)

i1_fits : (bytes : List ℕ) → Sure (FitsSigned w8) (i1_at bytes)
unfolding i1_at
i1_fits bytes = any-then (FitsSigned w8) (u1_at bytes) _ (λ x. cast_8 x.0)

i2_fits : (bytes : List ℕ) → Sure (FitsSigned w16) (i2_at bytes)
unfolding i2_at
i2_fits bytes = any-then (FitsSigned w16) (u2_at bytes) _ (λ x. cast_16 x.0)

i4_fits : (bytes : List ℕ) → Sure (FitsSigned w32) (i4_at bytes)
unfolding i4_at
i4_fits bytes = any-then (FitsSigned w32) (u4_at bytes) _ (λ x. cast_32 x.0)

-- ---- constants and whole numbers

small_constant : (opcode : ℕ) → is_within 2 8 opcode ≡ true → FitsSigned w32 (pos opcode -ℤ pos 3)
small_constant opcode e =
    let both = and_parts (nat_le 2 opcode) (nat_le opcode 8) e in
    let low : 2 ≤ opcode = leb-true 2 opcode both.0 in
    let high : opcode ≤ 8 = leb-true opcode 8 both.1 in
    omega (arith, ints)

fine-constant : (opcode : ℕ) (bytes : List ℕ) → Fine (constant opcode bytes)
unfolding constant
fine-constant opcode bytes =
    fine-if (opcode == 0) _ _ tt (fine-if (opcode == 1) _ _ tt (sure-if HasNumbers (is_within 2 8 opcode) _ _ (small_constant opcode) (λ other.
    fine-if (opcode == 16) _ _ (sure-then (FitsSigned w8) HasNumbers (i1_at bytes) _ (i1_fits bytes) (λ x. wider_8_32 x.0))
    (fine-if (opcode == 17) _ _ (sure-then (FitsSigned w16) HasNumbers (i2_at bytes) _ (i2_fits bytes) (λ x. wider_16_32 x.0))
    (fine-if (opcode == 18) _ _ (any-then HasNumbers (u1_at bytes) _ (λ x. tt)) (fine-if (opcode == 19) _ _ (any-then HasNumbers (u2_at bytes) _ (λ x. tt)) tt))))))

fine-load : (opcode : ℕ) (bytes : List ℕ) → Fine (load opcode bytes)
unfolding load
fine-load opcode bytes =
    fine-if (opcode == 21) _ _ (any-then HasNumbers (u1_at bytes) _ (λ x. tt)) (fine-if (opcode == 25) _ _ (any-then HasNumbers (u1_at bytes) _ (λ x. tt)) (fine-if (is_within 26 29 opcode) _ _ tt (fine-if (is_within 42 45 opcode) _ _ tt tt)))

fine-store : (opcode : ℕ) (bytes : List ℕ) → Fine (store opcode bytes)
unfolding store
fine-store opcode bytes =
    fine-if (opcode == 54) _ _ (any-then HasNumbers (u1_at bytes) _ (λ x. tt)) (fine-if (opcode == 58) _ _ (any-then HasNumbers (u1_at bytes) _ (λ x. tt)) (fine-if (is_within 59 62 opcode) _ _ tt (fine-if (is_within 75 78 opcode) _ _ tt tt)))

fine-array_load : (opcode : ℕ) (bytes : List ℕ) → Fine (array_load opcode bytes)
unfolding array_load
fine-array_load opcode bytes = fine-if (opcode == 46) _ _ tt (fine-if (opcode == 50) _ _ tt (fine-if (opcode == 51) _ _ tt (fine-if (opcode == 52) _ _ tt (fine-if (opcode == 53) _ _ tt tt))))

fine-array_store : (opcode : ℕ) (bytes : List ℕ) → Fine (array_store opcode bytes)
unfolding array_store
fine-array_store opcode bytes = fine-if (opcode == 79) _ _ tt (fine-if (opcode == 83) _ _ tt (fine-if (opcode == 84) _ _ tt (fine-if (opcode == 85) _ _ tt (fine-if (opcode == 86) _ _ tt tt))))

fine-binary : (opcode : ℕ) (bytes : List ℕ) (op : Option BinOp) → Fine (binary opcode bytes op)
fine-binary opcode bytes None = tt
fine-binary opcode bytes (Some op) = tt

fine-increment : (bytes : List ℕ) → Fine (increment bytes)
unfolding increment
fine-increment bytes = any-then HasNumbers (u1_at bytes) _ (λ local. sure-then (FitsSigned w8) HasNumbers (i1_at local.1) _ (i1_fits local.1) (λ x. wider_8_16 x.0))

fine-math : (opcode : ℕ) (bytes : List ℕ) → Fine (math opcode bytes)
unfolding math
fine-math opcode bytes = fine-if (opcode == 116) _ _ tt (fine-if (opcode == 132) _ _ (fine-increment bytes) (fine-binary opcode bytes (operation opcode)))

fine-conversion : (opcode : ℕ) (bytes : List ℕ) → Fine (conversion opcode bytes)
unfolding conversion
fine-conversion opcode bytes = fine-if (opcode == 145) _ _ tt (fine-if (opcode == 146) _ _ tt (fine-if (opcode == 147) _ _ tt tt))

fine-jump : (opcode target : ℕ) → HasNumbers (jump opcode target)
unfolding jump
fine-jump opcode target = insn-if (is_within 153 158 opcode) _ _ tt (insn-if (is_within 159 164 opcode) _ _ tt tt)

fine-branch : (pc opcode : ℕ) (bytes : List ℕ) → Fine (branch pc opcode bytes)
unfolding branch
fine-branch pc opcode bytes = any-then HasNumbers (target_at pc bytes) _ (λ x. fine-jump opcode x.0)

-- ---- switches

above_from : (before : Option ℤ) (key : ℤ) → is_above before key ≡ true → IsAbove before key
above_from None key e = tt
above_from (Some before) key e = grind (arith, ints)

-- the keys of a table from one on
pub record Counts (from : ℤ) (count : ℕ) (rows : List SwitchRow) : Type 0 where
  pub count_is : length rows ≡ count
  pub follow : Following from rows

next_key : (low : ℤ) (index : ℕ) → (low +ℤ pos (index + 1)) ≡ ((low +ℤ pos index) +ℤ pos 1)
next_key low index = omega (arith, ints)

table-counts : (pc : ℕ) (low : ℤ) (index count : ℕ) (bytes : List ℕ) → Sure (Counts (low +ℤ pos index) count) (table_rows pc low index count bytes)
unfolding table_rows
table-counts pc low index zero bytes = record { count_is = refl; follow = tt }
table-counts pc low index (suc count) bytes =
    any-then (Counts (low +ℤ pos index) (suc count)) (far_target_at pc bytes) _ (λ target.
    sure-then (Counts (low +ℤ pos (index + 1)) count) (Counts (low +ℤ pos index) (suc count)) (table_rows pc low (index + 1) count target.1) _ (table-counts pc low (index + 1) count target.1) (λ x counts.
    record { count_is = ap suc counts.count_is; follow = (refl, subst (λ (key : ℤ). Following key x.0) (next_key low index) counts.follow) }))

keys_fit : (from : ℤ) (rows : List SwitchRow) → FitsSigned w32 from → (from +ℤ pos (length rows)) ≤ℤ pos (2 ^ 31) → Following from rows → AllByRecursion FitsKey rows
keys_fit from [] low last follow = tt
keys_fit from (row ∷ []) low last follow = (subst (FitsSigned w32) (sym follow.0) low, tt)
keys_fit from (row ∷ (other ∷ rows)) low last follow =
    let next : FitsSigned w32 (from +ℤ pos 1) = omega (arith, ints) in
    let after : ((from +ℤ pos 1) +ℤ pos (length (other ∷ rows))) ≤ℤ pos (2 ^ 31) = omega (arith, ints) in
    (subst (FitsSigned w32) (sym follow.0) low, keys_fit (from +ℤ pos 1) (other ∷ rows) next after follow.1)

table_from : (low : ℤ) (count : ℕ) (rows : List SwitchRow) → FitsSigned w32 low → 1 ≤ count → (low +ℤ pos count) ≤ℤ pos (2 ^ 31) → Counts low count rows → IsSwitch switch.Table rows
table_from low count [] fits some last counts = absurd (omega (arith, counts.count_is))
table_from low count (row ∷ rows) fits some last counts =
    let at_end : (low +ℤ pos (length (row ∷ rows))) ≤ℤ pos (2 ^ 31) = subst (λ (n : ℕ). (low +ℤ pos n) ≤ℤ pos (2 ^ 31)) (sym counts.count_is) last in
    let first : low ≡ row.key = sym counts.follow.0 in
    record {
      keys = keys_fit low (row ∷ rows) fits at_end counts.follow;
      order = record {
        some = omega arith;
        low = subst (FitsSigned w32) first fits;
        follow = subst (λ (key : ℤ). Following key (row ∷ rows)) first counts.follow;
        last = subst (λ (key : ℤ). (key +ℤ pos (length (row ∷ rows))) ≤ℤ pos (2 ^ 31)) first at_end;
      };
    }

unsigned_is : (z : ℤ) → pos 0 ≤ℤ z → pos (cast_unsigned w64 z) ≡ z
unsigned_is (pos n) h = refl
unsigned_is (negsuc n) h = absurd (omega (arith, ints))

below_high : (low high : ℤ) → FitsSigned w32 high → lt_z high low ≡ false → (low +ℤ pos (span low high)) ≤ℤ pos (2 ^ 31)
below_high low high fits e =
    let between : pos 0 ≤ℤ (high -ℤ low) = grind (arith, ints) in
    let same : pos (cast_unsigned w64 (high -ℤ low)) ≡ high -ℤ low = unsigned_is (high -ℤ low) between in
    omega (arith, ints, same)

fine-spanned : (pc : ℕ) (low high : ℤ) (bytes : List ℕ) → FitsSigned w32 low → FitsSigned w32 high → lt_z high low ≡ false → Sure (IsSwitch switch.Table) (table_rows pc low 0 (span low high) bytes)
fine-spanned pc low high bytes fits other order =
    let counts = table-counts pc low 0 (span low high) bytes in
    let start : (low +ℤ pos 0) ≡ low = omega (arith, ints) in
    sure-weaker (Counts (low +ℤ pos 0) (span low high)) (IsSwitch switch.Table) (table_rows pc low 0 (span low high) bytes) counts (λ rows c.
    table_from low (span low high) rows fits (omega arith) (below_high low high other order) (subst (λ (key : ℤ). Counts key (span low high) rows) start c))

fine-tableswitch : (pc : ℕ) (bytes : List ℕ) → Fine (tableswitch pc bytes)
unfolding tableswitch
fine-tableswitch pc bytes =
    any-then HasNumbers (padding_at pc bytes) _ (λ padded.
    any-then HasNumbers (far_target_at pc padded) _ (λ default.
    sure-then (FitsSigned w32) HasNumbers (i4_at default.1) _ (i4_fits default.1) (λ low low_fits.
    sure-then (FitsSigned w32) HasNumbers (i4_at low.1) _ (i4_fits low.1) (λ high high_fits.
    sure-then (IsSwitch switch.Table) HasNumbers (cond (lt_z high.0 low.0) (Err BadCode) (table_rows pc low.0 0 (span low.0 high.0) high.1)) _
    (sure-if (IsSwitch switch.Table) (lt_z high.0 low.0) (Err BadCode) (table_rows pc low.0 0 (span low.0 high.0) high.1) (λ less. tt) (fine-spanned pc low.0 high.0 high.1 low_fits high_fits)) (λ x is. is)))))

-- the keys of rows after one
pub record Rises (before : Option ℤ) (rows : List SwitchRow) : Type 0 where
  pub keys : AllByRecursion FitsKey rows
  pub rise : Rising before rows

pub record Above (before : Option ℤ) (row : SwitchRow) : Type 0 where
  pub key : FitsKey row
  pub above : IsAbove before row.key

lookup_row-above : (pc : ℕ) (before : Option ℤ) (bytes : List ℕ) → Sure (Above before) (lookup_row pc before bytes)
unfolding lookup_row
lookup_row-above pc before bytes =
    sure-then (FitsSigned w32) (Above before) (i4_at bytes) _ (i4_fits bytes) (λ key fits.
    any-then (Above before) (far_target_at pc key.1) _ (λ target.
    sure-if (Above before) (is_above before key.0) (Ok (record { key = key.0; target = target.0 }, target.1)) (Err BadCode)
    (λ above. record { key = fits; above = above_from before key.0 above }) (λ not. tt)))

lookup_rows-rise : (pc : ℕ) (before : Option ℤ) (count : ℕ) (bytes : List ℕ) → Sure (Rises before) (lookup_rows pc before count bytes)
unfolding lookup_rows
lookup_rows-rise pc before zero bytes = record { keys = tt; rise = tt }
lookup_rows-rise pc before (suc count) bytes =
    sure-then (Above before) (Rises before) (lookup_row pc before bytes) _ (lookup_row-above pc before bytes) (λ row is.
    sure-then (Rises (Some row.0.key)) (Rises before) (lookup_rows pc (Some row.0.key) count row.1) _ (lookup_rows-rise pc (Some row.0.key) count row.1) (λ x rises.
    record { keys = (is.key, rises.keys); rise = (is.above, rises.rise) }))

fine-lookupswitch : (pc : ℕ) (bytes : List ℕ) → Fine (lookupswitch pc bytes)
unfolding lookupswitch
fine-lookupswitch pc bytes =
    any-then HasNumbers (padding_at pc bytes) _ (λ padded.
    any-then HasNumbers (far_target_at pc padded) _ (λ default.
    any-then HasNumbers (i4_at default.1) _ (λ count.
    sure-then (Rises None) HasNumbers (cond (lt_z count.0 (pos 0)) (Err BadCode) (lookup_rows pc None (cast_unsigned w64 count.0) count.1)) _
    (sure-if (Rises None) (lt_z count.0 (pos 0)) (Err BadCode) (lookup_rows pc None (cast_unsigned w64 count.0) count.1) (λ less. tt) (λ not. lookup_rows-rise pc None (cast_unsigned w64 count.0) count.1))
    (λ x rises. record { keys = rises.keys; order = rises.rise }))))

-- ---- the other families

fine-control : (pc opcode : ℕ) (bytes : List ℕ) → Fine (control pc opcode bytes)
unfolding control
fine-control pc opcode bytes =
    fine-if (opcode == 167) _ _ (any-then HasNumbers (target_at pc bytes) _ (λ x. tt))
    (fine-if (opcode == 170) _ _ (fine-tableswitch pc bytes) (fine-if (opcode == 171) _ _ (fine-lookupswitch pc bytes)
    (fine-if (opcode == 172) _ _ tt (fine-if (opcode == 176) _ _ tt (fine-if (opcode == 177) _ _ tt tt)))))

fine-call_interface : (bytes : List ℕ) → Fine (call_interface bytes)
unfolding call_interface
fine-call_interface bytes =
    any-then HasNumbers (u2_at bytes) _ (λ method. any-then HasNumbers (u1_at method.1) _ (λ count. any-then HasNumbers (u1_at count.1) _ (λ zero_byte. fine-if (zero_byte.0 == 0) _ (Err BadCode) tt tt)))

fine-member_insn : (opcode index : ℕ) → HasNumbers (member_insn opcode index)
unfolding member_insn
fine-member_insn opcode index =
    insn-if (opcode == 178) _ _ tt (insn-if (opcode == 179) _ _ tt (insn-if (opcode == 180) _ _ tt (insn-if (opcode == 181) _ _ tt (insn-if (opcode == 182) _ _ tt (insn-if (opcode == 183) _ _ tt tt)))))

fine-member : (opcode : ℕ) (bytes : List ℕ) → Fine (member opcode bytes)
unfolding member
fine-member opcode bytes =
    fine-if (opcode == 185) _ _ (fine-call_interface bytes) (fine-if (opcode == 186) _ _ tt (any-then HasNumbers (u2_at bytes) _ (λ x. fine-member_insn opcode x.0)))

fine-new_array : (bytes : List ℕ) → Fine (new_array bytes)
unfolding new_array
fine-new_array bytes = any-then HasNumbers (u1_at bytes) _ (λ code. any-then HasNumbers (array_kind code.0) _ (λ kind. tt))

fine-class_insn : (opcode index : ℕ) → HasNumbers (class_insn opcode index)
unfolding class_insn
fine-class_insn opcode index = insn-if (opcode == 187) _ _ tt (insn-if (opcode == 189) _ _ tt (insn-if (opcode == 192) _ _ tt tt))

fine-object : (opcode : ℕ) (bytes : List ℕ) → Fine (object opcode bytes)
unfolding object
fine-object opcode bytes =
    fine-if (opcode == 188) _ _ (fine-new_array bytes) (fine-if (opcode == 190) _ _ tt (fine-if (opcode == 191) _ _ tt (fine-if (is_within 194 195 opcode) _ _ tt (any-then HasNumbers (u2_at bytes) _ (λ x. fine-class_insn opcode x.0)))))

fine-wide_increment : (bytes : List ℕ) → Fine (wide_increment bytes)
unfolding wide_increment
fine-wide_increment bytes = any-then HasNumbers (u2_at bytes) _ (λ local. sure-then (FitsSigned w16) HasNumbers (i2_at local.1) _ (i2_fits local.1) (λ x fits. fits))

fine-widened : (opcode : ℕ) (bytes : List ℕ) → Fine (widened opcode bytes)
unfolding widened
fine-widened opcode bytes =
    fine-if (opcode == 21) _ _ (any-then HasNumbers (u2_at bytes) _ (λ x. tt)) (fine-if (opcode == 25) _ _ (any-then HasNumbers (u2_at bytes) _ (λ x. tt)) (fine-if (opcode == 54) _ _ (any-then HasNumbers (u2_at bytes) _ (λ x. tt))
    (fine-if (opcode == 58) _ _ (any-then HasNumbers (u2_at bytes) _ (λ x. tt)) (fine-if (opcode == 132) _ _ (fine-wide_increment bytes) (fine-if (is_within 22 24 opcode || is_within 55 57 opcode || opcode == 169) (Err (Unsupported opcode)) (Err BadCode) tt tt)))))

fine-wide : (bytes : List ℕ) → Fine (wide bytes)
unfolding wide
fine-wide bytes = any-then HasNumbers (u1_at bytes) _ (λ x. fine-widened x.0 x.1)

fine-multi_array : (bytes : List ℕ) → Fine (multi_array bytes)
unfolding multi_array
fine-multi_array bytes = any-then HasNumbers (u2_at bytes) _ (λ class. any-then HasNumbers (u1_at class.1) _ (λ x. tt))

fine-goto_w : (pc : ℕ) (bytes : List ℕ) → Fine (goto_w pc bytes)
unfolding goto_w
fine-goto_w pc bytes = any-then HasNumbers (far_target_at pc bytes) _ (λ x. tt)

fine-extended : (pc opcode : ℕ) (bytes : List ℕ) → Fine (extended pc opcode bytes)
unfolding extended
fine-extended pc opcode bytes =
    fine-if (opcode == 196) _ _ (fine-wide bytes) (fine-if (opcode == 197) _ _ (fine-multi_array bytes)
    (fine-if (opcode == 198) _ _ (fine-branch pc opcode bytes) (fine-if (opcode == 199) _ _ (fine-branch pc opcode bytes)
    (fine-if (opcode == 200) _ _ (fine-goto_w pc bytes) (fine-if (opcode == 201) (Err (Unsupported opcode)) (Err BadCode) tt tt)))))

-- ---- the whole table

fine-by_opcode : (pc opcode : ℕ) (bytes : List ℕ) → Fine (by_opcode pc opcode bytes)
unfolding by_opcode
fine-by_opcode pc opcode bytes =
    fine-if (nat_le opcode 20) _ _ (fine-constant opcode bytes) (fine-if (nat_le opcode 45) _ _ (fine-load opcode bytes)
    (fine-if (nat_le opcode 53) _ _ (fine-array_load opcode bytes) (fine-if (nat_le opcode 78) _ _ (fine-store opcode bytes)
    (fine-if (nat_le opcode 86) _ _ (fine-array_store opcode bytes) (fine-if (nat_le opcode 95) _ _ tt
    (fine-if (nat_le opcode 132) _ _ (fine-math opcode bytes) (fine-if (nat_le opcode 152) _ _ (fine-conversion opcode bytes)
    (fine-if (nat_le opcode 166) _ _ (fine-branch pc opcode bytes) (fine-if (nat_le opcode 177) _ _ (fine-control pc opcode bytes)
    (fine-if (nat_le opcode 186) _ _ (fine-member opcode bytes) (fine-if (nat_le opcode 195) _ _ (fine-object opcode bytes)
    (fine-extended pc opcode bytes))))))))))))

fine-insn_at : (pc : ℕ) (bytes : List ℕ) → Fine (insn_at pc bytes)
unfolding insn_at
fine-insn_at pc [] = tt
fine-insn_at pc (opcode ∷ bytes) = fine-by_opcode pc opcode bytes

-- the numbers of instructions that stand in code keep to their types
pub hold-numbers : (pc : ℕ) (bytes : List ℕ) (insns : Insns) (next : ℕ) (left : List ℕ) → AreIn pc bytes insns next left → AllByRecursion (λ x. HasNumbers x.1) insns
hold-numbers pc bytes [] next left stand = tt
hold-numbers pc bytes ((at, insn) ∷ insns) next left stand =
    let here : HasNumbers insn = subst (λ (prefix : Prefix). Fine prefix) stand.2 (fine-insn_at pc bytes) in
    (here, hold-numbers (pc + (length bytes - length stand.1)) stand.1 insns next left stand.3)
