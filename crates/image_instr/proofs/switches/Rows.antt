-- The rows of a switch and the targets of a table, as they stand in the code.
use Rattle.std.proofs.Common.{◌≡◌, ℕ, ℤ, pos, zero, suc, ◌+ℤ◌, ◌*◌, ◌^◌, ◌<◌, ◌≤◌, ◌≤ℤ◌, Bool, true, false, ◌&&◌, ltb, List, [], ◌∷◌, ◌++◌, length, drop, Option, Some, None, refl, sym, ap, ◌∙◌, append_assoc, arith, FitsSigned, w32, length-drop}
use Rattle.std.specs.Int.{cast_signed, cast_unsigned}
use Rattle.std.specs.List.{flat_map, AllByRecursion}
use Rattle.std.proofs.lemmas.Bool.{le-ltb}
use Rattle.std.proofs.lemmas.Int.{ints, to_z-of_z}
use Rattle.std.proofs.lemmas.List.{drop-drop}
use Rattle.std.proofs.lemmas.List.Concat.{flat_map-cons}
use Rattle.byteorder.specs.Endian.{big_number}
use Rattle.byteorder.specs.Numbers.{big_number-reads_back}
use Rattle.image_instr.specs.declared.insn.SwitchRow.{SwitchRow}
use Rattle.image_instr.specs.Insn.{u2, i4, row_bytes, target_bytes, IsAbove, KeysRise, KeysFollow, HasRowRanges}
use Rattle.image_instr.specs.Reading.{u2_in, i4_in, key_in, rows_in, is_above, keys_rise, targets_in}
use Rattle.image_instr.proofs.encoding.Bytes.{IsBytes, IsBytes-drop, u2_takes, i4_takes}
use Rattle.image_instr.proofs.encoding.Forms.{both_true}

-- where bytes are there, they are a number
u2_there : (bytes : List ℕ) → 2 ≤ length bytes → u2_in bytes ≡ Some (big_number 2 bytes)
u2_there bytes long =
    let enough : ltb (length bytes) 2 ≡ false = le-ltb _ _ long in
    rw enough refl

i4_there : (bytes : List ℕ) → 4 ≤ length bytes → i4_in bytes ≡ Some (key_in bytes)
i4_there bytes long =
    let enough : ltb (length bytes) 4 ≡ false = le-ltb _ _ long in
    rw enough refl

above_from : (before : Option ℤ) (key : ℤ) → is_above before key ≡ true → IsAbove before key
above_from None key e = tt
above_from (Some before) key e = grind (arith, ints)

above_to : (before : Option ℤ) (key : ℤ) → IsAbove before key → is_above before key ≡ true
above_to None key h = refl
above_to (Some before) key h = grind (arith, ints)

-- ---- rows

-- what so many rows took from the bytes
pub record TakesRows (before : Option ℤ) (count : ℕ) (bytes : List ℕ) (rows : List SwitchRow) : Type 0 where
  pub rise : KeysRise before rows
  pub count_is : length rows ≡ count
  pub ranges : AllByRecursion HasRowRanges rows
  pub parts : bytes ≡ flat_map row_bytes rows ++ drop (6 * count) bytes
  pub size_is : length (flat_map row_bytes rows) ≡ 6 * count

-- a row in prefix
row_before : (before : Option ℤ) (count : ℕ) (bytes : List ℕ) (row : SwitchRow) (rows : List SwitchRow) → IsAbove before row.key → HasRowRanges row → bytes ≡ row_bytes row ++ drop 6 bytes → TakesRows (Some row.key) count (drop 6 bytes) rows → TakesRows before (suc count) bytes (row ∷ rows)
row_before before count bytes row rows above ranges prefix t =
    let all : flat_map row_bytes (row ∷ rows) ≡ row_bytes row ++ flat_map row_bytes rows = flat_map-cons row_bytes row rows in
    let rest : drop (6 * count) (drop 6 bytes) ≡ drop (6 * suc count) bytes = drop-drop (6 * count) 6 bytes ∙ ap (λ (n : ℕ). drop n bytes) (omega arith) in
    let parts : bytes ≡ (row_bytes row ++ flat_map row_bytes rows) ++ drop (6 * suc count) bytes =
    prefix ∙ ap (λ (t : List ℕ). row_bytes row ++ t) (t.parts ∙ ap (λ (r : List ℕ). flat_map row_bytes rows ++ r) rest)
    ∙ sym (append_assoc (row_bytes row) (flat_map row_bytes rows) (drop (6 * suc count) bytes)) in
    record {
      rise = (above, t.rise);
      count_is = ap suc t.count_is;
      ranges = (ranges, t.ranges);
      parts = parts ∙ ap (λ (t : List ℕ). t ++ drop (6 * suc count) bytes) (sym all);
      size_is = ap length all ∙ omega (arith, t.size_is);
    }

row_prefix : (bytes : List ℕ) → IsBytes bytes → 6 ≤ length bytes → (bytes ≡ (i4 (key_in bytes) ++ u2 (big_number 2 (drop 4 bytes))) ++ drop 6 bytes) × FitsSigned w32 (key_in bytes) × (big_number 2 (drop 4 bytes) < 2 ^ 16)
row_prefix bytes fits long =
    let key = i4_takes bytes (key_in bytes) fits (i4_there bytes (omega arith)) in
    let target = u2_takes (drop 4 bytes) (big_number 2 (drop 4 bytes)) (IsBytes-drop 4 bytes fits) (u2_there (drop 4 bytes) (omega (arith, length-drop 4 bytes))) in (
      key.0.parts ∙ ap (λ (t : List ℕ). i4 (key_in bytes) ++ t) (target.0.parts ∙ ap (λ (t : List ℕ). u2 (big_number 2 (drop 4 bytes)) ++ t) (drop-drop 2 4 bytes))
          ∙ sym (append_assoc (i4 (key_in bytes)) (u2 (big_number 2 (drop 4 bytes))) (drop 6 bytes)),
      key.1,
      target.1,
    )

pub rows_take : (count : ℕ) (before : Option ℤ) (bytes : List ℕ) → IsBytes bytes → 6 * count ≤ length bytes → keys_rise count before bytes ≡ true → TakesRows before count bytes (rows_in count bytes)
unfolding keys_rise rows_in
rows_take zero before bytes fits long rise = record { rise = tt; count_is = refl; ranges = tt; parts = refl; size_is = refl }
rows_take (suc count) before bytes fits long rise =
    let tests = both_true (is_above before (key_in bytes)) (keys_rise count (Some (key_in bytes)) (drop 6 bytes)) rise in
    let prefix = row_prefix bytes fits (omega arith) in
    row_before before count bytes (record { key = key_in bytes; target = big_number 2 (drop 4 bytes) }) (rows_in count (drop 6 bytes)) (above_from before (key_in bytes) tests.0) (prefix.1, prefix.2) prefix.0
    (rows_take count (Some (key_in bytes)) (drop 6 bytes) (IsBytes-drop 6 bytes fits) (omega (arith, length-drop 6 bytes)) tests.1)

-- a row that was encoded is read
key_again : (row : SwitchRow) (rest : List ℕ) → FitsSigned w32 row.key → key_in (row_bytes row ++ rest) ≡ row.key
key_again row rest fits =
    let below : cast_unsigned w32 row.key < 2 ^ 32 = omega (arith, ints) in
    ap (cast_signed w32) (big_number-reads_back 4 (cast_unsigned w32 row.key) (u2 row.target ++ rest) below) ∙ to_z-of_z w32 row.key fits

target_again : (row : SwitchRow) (rest : List ℕ) → row.target < 2 ^ 16 → big_number 2 (drop 4 (row_bytes row ++ rest)) ≡ row.target
target_again row rest lt = big_number-reads_back 2 row.target rest lt

prefix_again : (row : SwitchRow) (rows : List SwitchRow) (rest : List ℕ) → flat_map row_bytes (row ∷ rows) ++ rest ≡ row_bytes row ++ (flat_map row_bytes rows ++ rest)
prefix_again row rows rest =
    ap (λ (t : List ℕ). t ++ rest) (flat_map-cons row_bytes row rows) ∙ append_assoc (row_bytes row) (flat_map row_bytes rows) rest

pub keys_again : (rows : List SwitchRow) (before : Option ℤ) (rest : List ℕ) → KeysRise before rows → AllByRecursion HasRowRanges rows → keys_rise (length rows) before (flat_map row_bytes rows ++ rest) ≡ true
unfolding keys_rise
keys_again [] before rest rise ranges = refl
keys_again (row ∷ rows) before rest rise ranges =
    let key = key_again row (flat_map row_bytes rows ++ rest) ranges.0.0 in
    ap (keys_rise (suc (length rows)) before) (prefix_again row rows rest)
    ∙ ap (λ (k : ℤ). is_above before k && keys_rise (length rows) (Some k) (flat_map row_bytes rows ++ rest)) key
    ∙ ap (λ (b : Bool). b && keys_rise (length rows) (Some row.key) (flat_map row_bytes rows ++ rest)) (above_to before row.key rise.0)
    ∙ keys_again rows (Some row.key) rest rise.1 ranges.1

abbrev row_list : ℤ → ℕ → List SwitchRow → List SwitchRow
row_list k t r = record { key = k; target = t } ∷ r

same_rows : (k : ℤ) (t : ℕ) (r : List SwitchRow) (k' : ℤ) (t' : ℕ) (r' : List SwitchRow) → k ≡ k' → t ≡ t' → r ≡ r' → row_list k t r ≡ row_list k' t' r'
same_rows k t r k' t' r' e f g = cc

pub rows_again : (rows : List SwitchRow) (rest : List ℕ) → AllByRecursion HasRowRanges rows → rows_in (length rows) (flat_map row_bytes rows ++ rest) ≡ rows
unfolding rows_in
rows_again [] rest ranges = refl
rows_again (row ∷ rows) rest ranges =
    let key = key_again row (flat_map row_bytes rows ++ rest) ranges.0.0 in
    let target = target_again row (flat_map row_bytes rows ++ rest) ranges.0.1 in
    let others = rows_again rows rest ranges.1 in
    ap (rows_in (suc (length rows))) (prefix_again row rows rest) ∙ same_rows _ _ _ row.key row.target rows key target others

pub size_of_rows : (rows : List SwitchRow) → length (flat_map row_bytes rows) ≡ 6 * length rows
size_of_rows [] = refl
size_of_rows (row ∷ rows) = ap length (flat_map-cons row_bytes row rows) ∙ omega (arith, size_of_rows rows)

-- ---- targets

pub record TakesTargets (low : ℤ) (count : ℕ) (bytes : List ℕ) (rows : List SwitchRow) : Type 0 where
  pub follow : KeysFollow low rows
  pub count_is : length rows ≡ count
  pub ranges : AllByRecursion HasRowRanges rows
  pub parts : bytes ≡ flat_map target_bytes rows ++ drop (2 * count) bytes
  pub size_is : length (flat_map target_bytes rows) ≡ 2 * count

target_before : (low : ℤ) (count : ℕ) (bytes : List ℕ) (target : ℕ) (rows : List SwitchRow) → FitsSigned w32 low → target < 2 ^ 16 → bytes ≡ u2 target ++ drop 2 bytes → TakesTargets (low +ℤ pos 1) count (drop 2 bytes) rows → TakesTargets low (suc count) bytes (record { key = low; target = target } ∷ rows)
target_before low count bytes target rows key lt prefix t =
    let all : flat_map target_bytes (record { key = low; target = target } ∷ rows) ≡ u2 target ++ flat_map target_bytes rows = flat_map-cons target_bytes (record { key = low; target = target }) rows in
    let rest : drop (2 * count) (drop 2 bytes) ≡ drop (2 * suc count) bytes = drop-drop (2 * count) 2 bytes ∙ ap (λ (n : ℕ). drop n bytes) (omega arith) in
    let parts : bytes ≡ (u2 target ++ flat_map target_bytes rows) ++ drop (2 * suc count) bytes =
    prefix ∙ ap (λ (t : List ℕ). u2 target ++ t) (t.parts ∙ ap (λ (r : List ℕ). flat_map target_bytes rows ++ r) rest)
    ∙ sym (append_assoc (u2 target) (flat_map target_bytes rows) (drop (2 * suc count) bytes)) in
    record {
      follow = (refl, t.follow);
      count_is = ap suc t.count_is;
      ranges = ((key, lt), t.ranges);
      parts = parts ∙ ap (λ (t : List ℕ). t ++ drop (2 * suc count) bytes) (sym all);
      size_is = ap length all ∙ omega (arith, t.size_is);
    }

pub targets_take : (count : ℕ) (low : ℤ) (bytes : List ℕ) → IsBytes bytes → 2 * count ≤ length bytes → (pos 0 ≤ℤ (low +ℤ pos (2 ^ 31))) → ((low +ℤ pos count) ≤ℤ pos (2 ^ 31)) → TakesTargets low count bytes (targets_in low count bytes)
unfolding targets_in
targets_take zero low bytes fits long from to = record { follow = tt; count_is = refl; ranges = tt; parts = refl; size_is = refl }
targets_take (suc count) low bytes fits long from to =
    let target = u2_takes bytes (big_number 2 bytes) fits (u2_there bytes (omega arith)) in
    let key : FitsSigned w32 low = omega (arith, ints) in
    let from_next : pos 0 ≤ℤ ((low +ℤ pos 1) +ℤ pos (2 ^ 31)) = omega (arith, ints) in
    let to_next : ((low +ℤ pos 1) +ℤ pos count) ≤ℤ pos (2 ^ 31) = omega (arith, ints) in
    target_before low count bytes (big_number 2 bytes) (targets_in (low +ℤ pos 1) count (drop 2 bytes)) key target.1 target.0.parts
    (targets_take count (low +ℤ pos 1) (drop 2 bytes) (IsBytes-drop 2 bytes fits) (omega (arith, length-drop 2 bytes)) from_next to_next)

pub size_of_targets : (rows : List SwitchRow) → length (flat_map target_bytes rows) ≡ 2 * length rows
size_of_targets [] = refl
size_of_targets (row ∷ rows) = ap length (flat_map-cons target_bytes row rows) ∙ omega (arith, size_of_targets rows)

pub targets_again : (rows : List SwitchRow) (low : ℤ) (rest : List ℕ) → KeysFollow low rows → AllByRecursion HasRowRanges rows → targets_in low (length rows) (flat_map target_bytes rows ++ rest) ≡ rows
unfolding targets_in
targets_again [] low rest follow ranges = refl
targets_again (row ∷ rows) low rest follow ranges =
    let prefix : flat_map target_bytes (row ∷ rows) ++ rest ≡ u2 row.target ++ (flat_map target_bytes rows ++ rest) = ap (λ (t : List ℕ). t ++ rest) (flat_map-cons target_bytes row rows) ∙ append_assoc (u2 row.target) (flat_map target_bytes rows) rest in
    let target : big_number 2 (u2 row.target ++ (flat_map target_bytes rows ++ rest)) ≡ row.target = big_number-reads_back 2 row.target (flat_map target_bytes rows ++ rest) ranges.0.1 in
    ap (targets_in low (suc (length rows))) prefix ∙ same_rows low _ _ row.key row.target rows (sym follow.0) target (targets_again rows (low +ℤ pos 1) rest follow.1 ranges.1)
