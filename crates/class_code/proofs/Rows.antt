-- Reading the rows of a switch one after the other, as a loop does.
use Rattle.std.proofs.Common.{◌≡◌, ℕ, ℤ, pos, ◌+ℤ◌, suc, ◌-◌, ◌+◌, ◌≤◌, ◌<◌, List, [], ◌∷◌, ◌++◌, Option, Some, Result, Ok, Err, refl, sym, ap, ◌∙◌, append_assoc, arith}
use Rattle.std.proofs.lemmas.List.{append-nil}
use Rattle.class_code.specs.declared.refusal.Fault.{Fault}
use Rattle.class_code.specs.declared.refusal.Fault.TheVariants.{Unsupported, BadCode, Memory}
use Rattle.insn_form.specs.declared.SwitchRow.{SwitchRow}
use Rattle.byte_read.specs.Reading.{◌>>=◌}
use Rattle.class_code.specs.Operands.{Gives, far_target_at}
use Rattle.class_code.specs.Table.{table_rows, lookup_row, lookup_rows}

-- what was read before, and what is still read
abbrev pub with_prefix : List SwitchRow → Result (List SwitchRow × List ℕ) Fault → Result (List SwitchRow × List ℕ) Fault
with_prefix prefix read = read >>= λ x. Ok (prefix ++ x.0, x.1)

regroup : (prefix : List SwitchRow) (row : SwitchRow) (read : Result (List SwitchRow × List ℕ) Fault) → with_prefix prefix (read >>= λ x. Ok (row ∷ x.0, x.1)) ≡ with_prefix (prefix ++ row ∷ []) read
regroup prefix row (Ok x) = ap (λ (rows : List SwitchRow). Ok (rows, x.1)) (simp append_assoc)
regroup prefix row (Err e) = refl

-- a refusal of the first step is that of the whole
pub refuses : {A B : Type 0} (e : Fault) (read : Result A Fault) (then : A → Result B Fault) (total : Result B Fault) → Gives (λ (x : A). x) (Err e) read → (read >>= then) ≡ total → Gives (λ (x : B). x) (Err e) total
refuses (Unsupported opcode) read then total h e = sym e ∙ ap (λ r. r >>= then) h
refuses BadCode read then total h e = sym e ∙ ap (λ r. r >>= then) h
refuses Memory read then total h e = tt

none_left : (prefix : List SwitchRow) (bytes : List ℕ) → with_prefix prefix (Ok ([], bytes)) ≡ Ok (prefix, bytes)
none_left prefix bytes = ap (λ (rows : List SwitchRow). Ok (rows, bytes)) (append-nil prefix)

-- ---- lookupswitch

abbrev lookup_more : ℕ → List SwitchRow → ℕ → SwitchRow × List ℕ → Result (List SwitchRow × List ℕ) Fault
lookup_more pc prefix count row = with_prefix prefix (lookup_rows pc (Some row.0.key) count row.1 >>= λ x. Ok (row.0 ∷ x.0, x.1))

-- the first row, and then the others
moved : (pc : ℕ) (prefix : List SwitchRow) (count : ℕ) (read : Result (SwitchRow × List ℕ) Fault) → with_prefix prefix (read >>= λ row. lookup_rows pc (Some row.0.key) count row.1 >>= λ x. Ok (row.0 ∷ x.0, x.1)) ≡ (read >>= lookup_more pc prefix count)
moved pc prefix count (Ok x) = refl
moved pc prefix count (Err e) = refl

lookup-step : (pc : ℕ) (before : Option ℤ) (prefix : List SwitchRow) (count i : ℕ) (bytes : List ℕ) → i < count → with_prefix prefix (lookup_rows pc before (count - i) bytes) ≡ (lookup_row pc before bytes >>= lookup_more pc prefix (count - (i + 1)))
unfolding lookup_rows
lookup-step pc before prefix count i bytes lt =
    let k : count - i ≡ suc (count - (i + 1)) = omega arith in
    ap (λ n. with_prefix prefix (lookup_rows pc before n bytes)) k ∙ moved pc prefix (count - (i + 1)) (lookup_row pc before bytes)

pub lookup-goes_on : (pc : ℕ) (before : Option ℤ) (prefix : List SwitchRow) (count i : ℕ) (bytes : List ℕ) (row : SwitchRow) (after : List ℕ) (total : Result (List SwitchRow × List ℕ) Fault) → i < count → lookup_row pc before bytes ≡ Ok (row, after)
    → with_prefix prefix (lookup_rows pc before (count - i) bytes) ≡ total → with_prefix (prefix ++ row ∷ []) (lookup_rows pc (Some row.key) (count - (i + 1)) after) ≡ total
lookup-goes_on pc before prefix count i bytes row after total lt h so_far =
    sym (regroup prefix row (lookup_rows pc (Some row.key) (count - (i + 1)) after))
    ∙ ap (λ r. r >>= lookup_more pc prefix (count - (i + 1))) (sym h) ∙ sym (lookup-step pc before prefix count i bytes lt) ∙ so_far

pub lookup-ends : (pc : ℕ) (e : Fault) (before : Option ℤ) (prefix : List SwitchRow) (count i : ℕ) (bytes : List ℕ) (total : Result (List SwitchRow × List ℕ) Fault) → i < count
    → Gives (λ (x : SwitchRow × List ℕ). x) (Err e) (lookup_row pc before bytes) → with_prefix prefix (lookup_rows pc before (count - i) bytes) ≡ total → Gives (λ (x : List SwitchRow × List ℕ). x) (Err e) total
lookup-ends pc e before prefix count i bytes total lt h so_far =
    refuses e (lookup_row pc before bytes) (lookup_more pc prefix (count - (i + 1))) total h (sym (lookup-step pc before prefix count i bytes lt) ∙ so_far)

pub lookup-done : (pc : ℕ) (before : Option ℤ) (prefix : List SwitchRow) (count i : ℕ) (bytes : List ℕ) (total : Result (List SwitchRow × List ℕ) Fault) → count ≤ i → with_prefix prefix (lookup_rows pc before (count - i) bytes) ≡ total → total ≡ Ok (prefix, bytes)
unfolding lookup_rows
lookup-done pc before prefix count i bytes total le so_far =
    let k : count - i ≡ 0 = omega arith in
    sym so_far ∙ ap (λ n. with_prefix prefix (lookup_rows pc before n bytes)) k ∙ none_left prefix bytes

-- ---- tableswitch

abbrev table_row : ℤ → ℕ → ℕ → SwitchRow
table_row low index target = record { key = low +ℤ pos index; target = target }

abbrev table_more : ℕ → ℤ → ℕ → List SwitchRow → ℕ → ℕ × List ℕ → Result (List SwitchRow × List ℕ) Fault
table_more pc low index prefix count target = with_prefix prefix (table_rows pc low (index + 1) count target.1 >>= λ x. Ok (table_row low index target.0 ∷ x.0, x.1))

moved_target : (pc : ℕ) (low : ℤ) (index : ℕ) (prefix : List SwitchRow) (count : ℕ) (read : Result (ℕ × List ℕ) Fault) → with_prefix prefix (read >>= λ target. table_rows pc low (index + 1) count target.1 >>= λ x. Ok (table_row low index target.0 ∷ x.0, x.1)) ≡ (read >>= table_more pc low index prefix count)
moved_target pc low index prefix count (Ok x) = refl
moved_target pc low index prefix count (Err e) = refl

table-step : (pc : ℕ) (low : ℤ) (prefix : List SwitchRow) (count i : ℕ) (bytes : List ℕ) → i < count → with_prefix prefix (table_rows pc low i (count - i) bytes) ≡ (far_target_at pc bytes >>= table_more pc low i prefix (count - (i + 1)))
unfolding table_rows
table-step pc low prefix count i bytes lt =
    let k : count - i ≡ suc (count - (i + 1)) = omega arith in
    ap (λ n. with_prefix prefix (table_rows pc low i n bytes)) k ∙ moved_target pc low i prefix (count - (i + 1)) (far_target_at pc bytes)

pub table-goes_on : (pc : ℕ) (low : ℤ) (prefix : List SwitchRow) (count i : ℕ) (bytes : List ℕ) (row : SwitchRow) (target : ℕ) (after : List ℕ) (total : Result (List SwitchRow × List ℕ) Fault) → i < count → far_target_at pc bytes ≡ Ok (target, after) → row ≡ table_row low i target
    → with_prefix prefix (table_rows pc low i (count - i) bytes) ≡ total → with_prefix (prefix ++ row ∷ []) (table_rows pc low (i + 1) (count - (i + 1)) after) ≡ total
table-goes_on pc low prefix count i bytes row target after total lt h is so_far =
    ap (λ (row : SwitchRow). with_prefix (prefix ++ row ∷ []) (table_rows pc low (i + 1) (count - (i + 1)) after)) is
    ∙ sym (regroup prefix (table_row low i target) (table_rows pc low (i + 1) (count - (i + 1)) after))
    ∙ ap (λ r. r >>= table_more pc low i prefix (count - (i + 1))) (sym h) ∙ sym (table-step pc low prefix count i bytes lt) ∙ so_far

pub table-ends : (pc : ℕ) (low : ℤ) (e : Fault) (prefix : List SwitchRow) (count i : ℕ) (bytes : List ℕ) (total : Result (List SwitchRow × List ℕ) Fault) → i < count
    → Gives (λ (x : ℕ × List ℕ). x) (Err e) (far_target_at pc bytes) → with_prefix prefix (table_rows pc low i (count - i) bytes) ≡ total → Gives (λ (x : List SwitchRow × List ℕ). x) (Err e) total
table-ends pc low e prefix count i bytes total lt h so_far =
    refuses e (far_target_at pc bytes) (table_more pc low i prefix (count - (i + 1))) total h (sym (table-step pc low prefix count i bytes lt) ∙ so_far)

pub table-done : (pc : ℕ) (low : ℤ) (prefix : List SwitchRow) (count i : ℕ) (bytes : List ℕ) (total : Result (List SwitchRow × List ℕ) Fault) → count ≤ i → with_prefix prefix (table_rows pc low i (count - i) bytes) ≡ total → total ≡ Ok (prefix, bytes)
unfolding table_rows
table-done pc low prefix count i bytes total le so_far =
    let k : count - i ≡ 0 = omega arith in
    sym so_far ∙ ap (λ n. with_prefix prefix (table_rows pc low i n bytes)) k ∙ none_left prefix bytes
