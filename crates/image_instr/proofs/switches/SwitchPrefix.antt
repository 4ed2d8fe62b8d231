-- What is at the prefix of the bytes of a switch and of a table.
use Rattle.std.proofs.Common.{◌≡◌, ℕ, ℤ, ◌*◌, ◌^◌, ◌<◌, ◌≤◌, true, List, ◌∷◌, ◌++◌, length, drop, get_or, Some, None, refl, sym, ap, subst, ◌∙◌, arith}
use Rattle.std.specs.Prelude.{IsTrue, IsSomeAnd}
use Rattle.std.specs.Int.{cast_signed, cast_unsigned}
use Rattle.std.specs.List.{flat_map}
use Rattle.std.proofs.Common.{w32, FitsSigned}
use Rattle.std.proofs.lemmas.Int.{ints, to_z-of_z}
use Rattle.std.proofs.lemmas.List.{length-append}
use Rattle.byteorder.specs.Endian.{big_number}
use Rattle.byteorder.specs.Numbers.{big_number-reads_back}
use Rattle.image_instr.specs.declared.insn.Width.TheVariants as width
use Rattle.image_instr.specs.declared.insn.SwitchRow.{SwitchRow}
use Rattle.image_instr.specs.declared.insn.MInsn.{MInsn}
use Rattle.image_instr.specs.declared.insn.MInsn.TheVariants.{Switch, Table, Const1, Const2, Small1, Small2, Mid2, Null, Load, Store, RClear, Inc, RDupX, DupX, RPop, Pop, RSwap, Swap, Drop, Bin, Neg, Sx, Zx, Sb, Bit, Jz, JCmp, RJ, Goto, Ret, GetS, PutS, GetF, PutF, NewArr, Multi, ALen, ALoad, AStore, New, Cast, Inst, Throw, CallS, CallX, CallV, CallI}
use Rattle.image_instr.specs.Insn.{u2, i4, row_bytes, target_bytes, insn_bytes, IsInsn, IsAtPrefix, KeysRise, KeysFollow}
use Rattle.image_instr.specs.Reading.{Found, key_in, keys_rise, rows_in, targets_in, insn_at}
use Rattle.image_instr.specs.Switch.{is_switch, default_of, target_in}
use Rattle.image_instr.proofs.encoding.Bytes.{IsBytes}
use Rattle.image_instr.proofs.encoding.Forms.{Sound}
use Rattle.image_instr.proofs.encoding.Groups.{insn_at-sound}
use Rattle.image_instr.proofs.encoding.Decode.{prefix_found, prefix_parts}
use Rattle.image_instr.proofs.switches.Rows.{rows_again, keys_again, targets_again, size_of_rows, size_of_targets}

-- the operands of a switch with rows, and of a table
pub record IsRowsPrefix (bytes : List ℕ) : Type 0 where
  pub there : 4 ≤ length (drop 1 bytes)
  pub rows : 6 * big_number 2 (drop 3 bytes) ≤ length (drop 5 bytes)
  pub rise : keys_rise (big_number 2 (drop 3 bytes)) None (drop 5 bytes) ≡ true

pub record IsTablePrefix (bytes : List ℕ) : Type 0 where
  pub there : 8 ≤ length (drop 1 bytes)
  pub targets : 2 * big_number 2 (drop 7 bytes) ≤ length (drop 9 bytes)

abbrev pub rows_target_of : List ℕ → ℤ → ℕ
rows_target_of bytes key = target_in (big_number 2 (drop 1 bytes)) (rows_in (big_number 2 (drop 3 bytes)) (drop 5 bytes)) key

abbrev pub table_target_of : List ℕ → ℤ → ℕ
table_target_of bytes key = target_in (big_number 2 (drop 1 bytes)) (targets_in (key_in (drop 3 bytes)) (big_number 2 (drop 7 bytes)) (drop 9 bytes)) key

-- by the first byte, what the bytes hold, and where the switch jumps
pub record IsSwitchPrefix (insn : MInsn) (rows : List SwitchRow) (bytes : List ℕ) : Type 0 where
  pub present : 1 ≤ length bytes
  pub low_byte : get_or bytes 0 0 ≤ 0x76 → IsRowsPrefix bytes × ((key : ℤ) → rows_target_of bytes key ≡ target_in (default_of insn) rows key)
  pub high_byte : 0x77 ≤ get_or bytes 0 0 → IsTablePrefix bytes × ((key : ℤ) → table_target_of bytes key ≡ target_in (default_of insn) rows key)
  pub from : 0x75 ≤ get_or bytes 0 0

rows_part : (opcode default count : ℕ) (rows : List SwitchRow) (rest : List ℕ) (insn : MInsn) → default < 2 ^ 16 → count < 2 ^ 16 → length rows ≡ count → KeysRise None rows → IsInsn insn rows → default_of insn ≡ default → IsRowsPrefix ((opcode ∷ (u2 default ++ (u2 count ++ flat_map row_bytes rows))) ++ rest) × ((key : ℤ) → rows_target_of ((opcode ∷ (u2 default ++ (u2 count ++ flat_map row_bytes rows))) ++ rest) key ≡ target_in (default_of insn) rows key)
rows_part opcode default count rows rest insn d n len rising h is =
    let suffix = flat_map row_bytes rows ++ rest in
    let first : big_number 2 (u2 default ++ (u2 count ++ suffix)) ≡ default = big_number-reads_back 2 default (u2 count ++ suffix) d in
    let second : big_number 2 (u2 count ++ suffix) ≡ count = big_number-reads_back 2 count suffix n in
    let long : 6 * count ≤ length suffix = omega (arith, size_of_rows rows, len, length-append (flat_map row_bytes rows) rest) in
    let same : rows_in count suffix ≡ rows = subst (λ (n : ℕ). rows_in n suffix ≡ rows) len (rows_again rows rest h.row_ranges) in (
      record {
        there = omega arith;
        rows = subst (λ (n : ℕ). 6 * n ≤ length suffix) (sym second) long;
        rise = subst (λ (n : ℕ). keys_rise n None suffix ≡ true) (len ∙ sym second) (keys_again rows None rest rising h.row_ranges);
      },
      λ key. ap (λ (n : ℕ). target_in n (rows_in (big_number 2 (u2 count ++ suffix)) suffix) key) (first ∙ sym is)
          ∙ ap (λ (n : ℕ). target_in (default_of insn) (rows_in n suffix) key) second
          ∙ ap (λ (r : List SwitchRow). target_in (default_of insn) r key) same,
    )

table_part : (opcode default : ℕ) (low : ℤ) (count : ℕ) (rows : List SwitchRow) (rest : List ℕ) (insn : MInsn) → default < 2 ^ 16 → FitsSigned w32 low → count < 2 ^ 16 → length rows ≡ count → KeysFollow low rows → IsInsn insn rows → default_of insn ≡ default → IsTablePrefix ((opcode ∷ (u2 default ++ (i4 low ++ (u2 count ++ flat_map target_bytes rows)))) ++ rest) × ((key : ℤ) → table_target_of ((opcode ∷ (u2 default ++ (i4 low ++ (u2 count ++ flat_map target_bytes rows)))) ++ rest) key ≡ target_in (default_of insn) rows key)
table_part opcode default low count rows rest insn d l n len follow h is =
    let suffix = flat_map target_bytes rows ++ rest in
    let first : big_number 2 (u2 default ++ (i4 low ++ (u2 count ++ suffix))) ≡ default = big_number-reads_back 2 default (i4 low ++ (u2 count ++ suffix)) d in
    let below : cast_unsigned w32 low < 2 ^ 32 = omega (arith, ints) in
    let middle : key_in (i4 low ++ (u2 count ++ suffix)) ≡ low = ap (cast_signed w32) (big_number-reads_back 4 (cast_unsigned w32 low) (u2 count ++ suffix) below) ∙ to_z-of_z w32 low l in
    let second : big_number 2 (u2 count ++ suffix) ≡ count = big_number-reads_back 2 count suffix n in
    let long : 2 * count ≤ length suffix = omega (arith, size_of_targets rows, len, length-append (flat_map target_bytes rows) rest) in
    let same : targets_in low count suffix ≡ rows = subst (λ (n : ℕ). targets_in low n suffix ≡ rows) len (targets_again rows low rest follow h.row_ranges) in (
      record { there = omega arith; targets = subst (λ (n : ℕ). 2 * n ≤ length suffix) (sym second) long },
      λ key. ap (λ (n : ℕ). target_in n (targets_in (key_in (i4 low ++ (u2 count ++ suffix))) (big_number 2 (u2 count ++ suffix)) suffix) key) (first ∙ sym is)
          ∙ ap (λ (z : ℤ). target_in (default_of insn) (targets_in z (big_number 2 (u2 count ++ suffix)) suffix) key) middle
          ∙ ap (λ (n : ℕ). target_in (default_of insn) (targets_in low n suffix) key) second
          ∙ ap (λ (r : List SwitchRow). target_in (default_of insn) r key) same,
    )

-- the bytes of a switch or a table
switch_prefix : (insn : MInsn) (rows : List SwitchRow) (rest : List ℕ) → IsInsn insn rows → is_switch insn ≡ true → IsSwitchPrefix insn rows (insn_bytes insn rows ++ rest)
switch_prefix (Switch width.One default count) rows rest h e =
    let part = rows_part 0x75 default count rows rest (Switch width.One default count) h.ranges.0 h.ranges.1 h.rows_of.0 h.rows_of.1 h refl in
    record { present = omega arith; low_byte = λ _. part; high_byte = λ over. absurd (omega arith); from = omega arith }
switch_prefix (Switch width.Two default count) rows rest h e =
    let part = rows_part 0x76 default count rows rest (Switch width.Two default count) h.ranges.0 h.ranges.1 h.rows_of.0 h.rows_of.1 h refl in
    record { present = omega arith; low_byte = λ _. part; high_byte = λ over. absurd (omega arith); from = omega arith }
switch_prefix (Table width.One default low count) rows rest h e =
    let part = table_part 0x77 default low count rows rest (Table width.One default low count) h.ranges.0 h.ranges.1 h.ranges.2 h.rows_of.0 h.rows_of.1 h refl in
    record { present = omega arith; low_byte = λ under. absurd (omega arith); high_byte = λ _. part; from = omega arith }
switch_prefix (Table width.Two default low count) rows rest h e =
    let part = table_part 0x78 default low count rows rest (Table width.Two default low count) h.ranges.0 h.ranges.1 h.ranges.2 h.rows_of.0 h.rows_of.1 h refl in
    record { present = omega arith; low_byte = λ under. absurd (omega arith); high_byte = λ _. part; from = omega arith }
switch_prefix (Const1 v) rows rest h e = absurd cc
switch_prefix (Const2 v) rows rest h e = absurd cc
switch_prefix (Small1 v) rows rest h e = absurd cc
switch_prefix (Small2 v) rows rest h e = absurd cc
switch_prefix (Mid2 v) rows rest h e = absurd cc
switch_prefix Null rows rest h e = absurd cc
switch_prefix (Load k n) rows rest h e = absurd cc
switch_prefix (Store k n) rows rest h e = absurd cc
switch_prefix (RClear n) rows rest h e = absurd cc
switch_prefix (Inc w n a) rows rest h e = absurd cc
switch_prefix (RDupX m n) rows rest h e = absurd cc
switch_prefix (DupX m n) rows rest h e = absurd cc
switch_prefix (RPop n) rows rest h e = absurd cc
switch_prefix (Pop n) rows rest h e = absurd cc
switch_prefix RSwap rows rest h e = absurd cc
switch_prefix (Swap m n) rows rest h e = absurd cc
switch_prefix (Drop n) rows rest h e = absurd cc
switch_prefix (Bin w o) rows rest h e = absurd cc
switch_prefix (Neg w) rows rest h e = absurd cc
switch_prefix Sx rows rest h e = absurd cc
switch_prefix Zx rows rest h e = absurd cc
switch_prefix Sb rows rest h e = absurd cc
switch_prefix Bit rows rest h e = absurd cc
switch_prefix (Jz w c t) rows rest h e = absurd cc
switch_prefix (JCmp w c t) rows rest h e = absurd cc
switch_prefix (RJ r t) rows rest h e = absurd cc
switch_prefix (Goto t) rows rest h e = absurd cc
switch_prefix (Ret r) rows rest h e = absurd cc
switch_prefix (GetS k n) rows rest h e = absurd cc
switch_prefix (PutS k n) rows rest h e = absurd cc
switch_prefix (GetF k n) rows rest h e = absurd cc
switch_prefix (PutF k n) rows rest h e = absurd cc
switch_prefix (NewArr w n) rows rest h e = absurd cc
switch_prefix (Multi n d) rows rest h e = absurd cc
switch_prefix ALen rows rest h e = absurd cc
switch_prefix (ALoad x w) rows rest h e = absurd cc
switch_prefix (AStore x w) rows rest h e = absurd cc
switch_prefix (New n) rows rest h e = absurd cc
switch_prefix (Cast n) rows rest h e = absurd cc
switch_prefix (Inst n) rows rest h e = absurd cc
switch_prefix Throw rows rest h e = absurd cc
switch_prefix (CallS n) rows rest h e = absurd cc
switch_prefix (CallX n) rows rest h e = absurd cc
switch_prefix (CallV n) rows rest h e = absurd cc
switch_prefix (CallI n i) rows rest h e = absurd cc

-- what was found, where it is a switch
is_one : (bytes : List ℕ) (found : Found) → Sound bytes found → IsSomeAnd found (λ f. IsTrue (is_switch f.0)) → (insn : MInsn) × (rows : List SwitchRow) × IsSwitchPrefix insn rows bytes
is_one bytes None sound is = absurd is
is_one bytes (Some f) sound is = (f.0, sound.rows, rw sound.parts (switch_prefix f.0 sound.rows sound.rest sound.is_insn is))

-- where a switch stands, its bytes are there
pub switch_there : (bytes : List ℕ) → IsBytes bytes → IsSomeAnd (insn_at bytes) (λ f. IsTrue (is_switch f.0)) → (insn : MInsn) × (rows : List SwitchRow) × IsSwitchPrefix insn rows bytes
switch_there bytes fits is = is_one bytes (insn_at bytes) (insn_at-sound bytes fits) is

-- and it is each instruction that stands there
pub switch_at : (bytes : List ℕ) → IsSomeAnd (insn_at bytes) (λ f. IsTrue (is_switch f.0)) → (insn : MInsn) (rows : List SwitchRow) (size : ℕ) → IsAtPrefix insn rows size bytes → IsSwitchPrefix insn rows bytes
switch_at bytes is insn rows size at =
    let found : IsTrue (is_switch insn) = subst (λ (f : Found). IsSomeAnd f (λ f. IsTrue (is_switch f.0))) (prefix_found bytes insn rows size at) is in
    subst (IsSwitchPrefix insn rows) (sym (prefix_parts bytes insn rows size at)) (switch_prefix insn rows (drop size bytes) at.is_insn found)
