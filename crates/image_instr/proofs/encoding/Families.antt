-- Each family's reader is right: the instruction that it found is encoded in the bytes.
use Rattle.std.proofs.Common.{◌≡◌, ℕ, ℤ, pos, ◌+◌, ◌+ℤ◌, ◌-◌, ◌*◌, ◌^◌, ◌≤◌, ◌≤ℤ◌, true, ◌&&◌, cond, List, [], ◌∷◌, ◌++◌, length, drop, Some, None, option_map, option_and_then, refl, sym, ap, ◌∙◌, append_assoc, arith, FitsSigned, w32}
use Rattle.std.specs.Prelude.{nat_le}
use Rattle.std.specs.Int.Signed.{le_z}
use Rattle.std.specs.List.{flat_map}
use Rattle.std.proofs.lemmas.Bool.Decides.{nat_tests}
use Rattle.std.proofs.lemmas.Int.{ints}
use Rattle.std.proofs.lemmas.List.{length-append, drop-drop}
use Rattle.image_instr.specs.declared.insn.Kind.{Kind}
use Rattle.image_instr.specs.declared.insn.Width.{Width}
use Rattle.image_instr.specs.declared.insn.RefTest.{RefTest}
use Rattle.image_instr.specs.declared.insn.MInsn.TheVariants.{Load, Store, RClear, Inc, RDupX, DupX, RPop, Pop, Swap, Drop, Jz, JCmp, RJ, Switch, Table, GetS, PutS, GetF, PutF, NewArr, Multi, CallI}
use Rattle.image_instr.specs.Insn.{u2, i2, i4, index, halves, row_bytes, target_bytes, load_code, store_code, inc_code, switch_code, table_code, operation_code, condition_code, jz_code, jcmp_code, test_code, get_static_code, put_static_code, get_field_code, put_field_code, new_array_code}
use Rattle.image_instr.specs.Reading.{u1_in, u2_in, i2_in, i4_in, index_in, halves_in, keys_rise, rows_in, targets_in, load_in, store_in, rclear_in, inc_in, rdupx_in, dupx_in, rpop_in, pop_in, swap_in, drop_in, operation_of, condition_of, jz_in, jcmp_in, rj_in, switch_in, table_in, get_static_in, put_static_in, get_field_in, put_field_in, new_array_in, multi_in, calli_in}
use Rattle.image_instr.proofs.encoding.Bytes.{IsBytes, IsBytes-drop, u1_takes, u2_takes, i2_takes, i4_takes}
use Rattle.image_instr.proofs.encoding.Forms.{Sound, sound-map, sound-then, sound-if, nat_le-true, both_true, plain, found-from, u2-form, index-form, index_takes, halves_take}
use Rattle.image_instr.proofs.switches.Rows.{rows_take, targets_take}

pub load-sound : (kind : Kind) (operands : List ℕ) → IsBytes operands → Sound (load_code kind ∷ operands) (load_in kind operands)
load-sound kind operands fits =
    index-form (load_code kind) operands (λ v. Load kind v) fits (λ v lt. plain (Load kind v) lt tt refl) (λ v. refl)

pub store-sound : (kind : Kind) (operands : List ℕ) → IsBytes operands → Sound (store_code kind ∷ operands) (store_in kind operands)
store-sound kind operands fits =
    index-form (store_code kind) operands (λ v. Store kind v) fits (λ v lt. plain (Store kind v) lt tt refl) (λ v. refl)

pub get_static-sound : (kind : Kind) (operands : List ℕ) → IsBytes operands → Sound (get_static_code kind ∷ operands) (get_static_in kind operands)
get_static-sound kind operands fits =
    index-form (get_static_code kind) operands (λ v. GetS kind v) fits (λ v lt. plain (GetS kind v) lt tt refl) (λ v. refl)

pub put_static-sound : (kind : Kind) (operands : List ℕ) → IsBytes operands → Sound (put_static_code kind ∷ operands) (put_static_in kind operands)
put_static-sound kind operands fits =
    index-form (put_static_code kind) operands (λ v. PutS kind v) fits (λ v lt. plain (PutS kind v) lt tt refl) (λ v. refl)

pub get_field-sound : (kind : Kind) (operands : List ℕ) → IsBytes operands → Sound (get_field_code kind ∷ operands) (get_field_in kind operands)
get_field-sound kind operands fits =
    index-form (get_field_code kind) operands (λ v. GetF kind v) fits (λ v lt. plain (GetF kind v) lt tt refl) (λ v. refl)

pub put_field-sound : (kind : Kind) (operands : List ℕ) → IsBytes operands → Sound (put_field_code kind ∷ operands) (put_field_in kind operands)
put_field-sound kind operands fits =
    index-form (put_field_code kind) operands (λ v. PutF kind v) fits (λ v lt. plain (PutF kind v) lt tt refl) (λ v. refl)

pub rclear-sound : (operands : List ℕ) → IsBytes operands → Sound (0x09 ∷ operands) (rclear_in operands)
rclear-sound operands fits =
    index-form 0x09 operands (λ v. RClear v) fits (λ v lt. plain (RClear v) lt tt refl) (λ v. refl)

pub drop-sound : (operands : List ℕ) → IsBytes operands → Sound (0x16 ∷ operands) (drop_in operands)
drop-sound operands fits =
    index-form 0x16 operands (λ v. Drop v) fits (λ v lt. plain (Drop v) lt tt refl) (λ v. refl)

pub inc-sound : (width : Width) (operands : List ℕ) → IsBytes operands → Sound (inc_code width ∷ operands) (inc_in width operands)
inc-sound width operands fits =
    sound-then (inc_code width ∷ operands) (index_in operands) (λ local. option_map (λ amount. (Inc width local.0 amount, local.1 + 2)) (i2_in (drop (local.1 - 1) operands))) (λ local e.
    let t = index_takes operands local fits e in
    let suffix = drop (local.1 - 1) operands in
    sound-map (inc_code width ∷ operands) (i2_in suffix) (λ amount. (Inc width local.0 amount, local.1 + 2)) (λ amount f.
    let a = i2_takes suffix amount (IsBytes-drop (local.1 - 1) operands fits) f in
    let parts : operands ≡ (index local.0 ++ i2 amount) ++ drop 2 suffix = t.parts ∙ ap (λ (r : List ℕ). index local.0 ++ r) a.0.parts ∙ sym (append_assoc (index local.0) (i2 amount) (drop 2 suffix)) in
    found-from (inc_code width) operands (Inc width local.0 amount) [] (index local.0 ++ i2 amount) (drop 2 suffix) (local.1 + 2)
    (plain (Inc width local.0 amount) (t.fits, a.1) tt refl) refl parts (omega (arith, t.size_is, length-append (index local.0) (i2 amount)))))

pub rdupx-sound : (operands : List ℕ) → IsBytes operands → Sound (0x10 ∷ operands) (rdupx_in operands)
rdupx-sound operands fits =
    sound-then (0x10 ∷ operands) (halves_in operands) (λ part. cond ((nat_le 1 part.0 && nat_le part.0 2) && nat_le part.1 2) (Some (RDupX part.0 part.1, 2)) None) (λ part e.
    let t = halves_take operands part fits e in
    sound-if (0x10 ∷ operands) ((nat_le 1 part.0 && nat_le part.0 2) && nat_le part.1 2) (RDupX part.0 part.1, 2) (λ h.
    let a = both_true (nat_le 1 part.0 && nat_le part.0 2) (nat_le part.1 2) h in
    let b = both_true (nat_le 1 part.0) (nat_le part.0 2) a.0 in
    found-from 0x10 operands (RDupX part.0 part.1) [] (halves part.0 part.1) (drop 1 operands) 2
    (plain (RDupX part.0 part.1) tt (nat_le-true 1 part.0 b.0, nat_le-true part.0 2 b.1, nat_le-true part.1 2 a.1) refl) refl t.parts refl))

pub dupx-sound : (operands : List ℕ) → IsBytes operands → Sound (0x11 ∷ operands) (dupx_in operands)
dupx-sound operands fits =
    sound-then (0x11 ∷ operands) (halves_in operands) (λ part. cond ((nat_le 1 part.0 && nat_le part.0 4) && nat_le part.1 4) (Some (DupX part.0 part.1, 2)) None) (λ part e.
    let t = halves_take operands part fits e in
    sound-if (0x11 ∷ operands) ((nat_le 1 part.0 && nat_le part.0 4) && nat_le part.1 4) (DupX part.0 part.1, 2) (λ h.
    let a = both_true (nat_le 1 part.0 && nat_le part.0 4) (nat_le part.1 4) h in
    let b = both_true (nat_le 1 part.0) (nat_le part.0 4) a.0 in
    found-from 0x11 operands (DupX part.0 part.1) [] (halves part.0 part.1) (drop 1 operands) 2
    (plain (DupX part.0 part.1) tt (nat_le-true 1 part.0 b.0, nat_le-true part.0 4 b.1, nat_le-true part.1 4 a.1) refl) refl t.parts refl))

pub swap-sound : (operands : List ℕ) → IsBytes operands → Sound (0x15 ∷ operands) (swap_in operands)
swap-sound operands fits =
    sound-then (0x15 ∷ operands) (halves_in operands) (λ part. cond ((nat_le 1 part.0 && nat_le part.0 2) && (nat_le 1 part.1 && nat_le part.1 2)) (Some (Swap part.0 part.1, 2)) None) (λ part e.
    let t = halves_take operands part fits e in
    sound-if (0x15 ∷ operands) ((nat_le 1 part.0 && nat_le part.0 2) && (nat_le 1 part.1 && nat_le part.1 2)) (Swap part.0 part.1, 2) (λ h.
    let a = both_true (nat_le 1 part.0 && nat_le part.0 2) (nat_le 1 part.1 && nat_le part.1 2) h in
    let b = both_true (nat_le 1 part.0) (nat_le part.0 2) a.0 in
    let d = both_true (nat_le 1 part.1) (nat_le part.1 2) a.1 in
    found-from 0x15 operands (Swap part.0 part.1) [] (halves part.0 part.1) (drop 1 operands) 2
    (plain (Swap part.0 part.1) tt (nat_le-true 1 part.0 b.0, nat_le-true part.0 2 b.1, nat_le-true 1 part.1 d.0, nat_le-true part.1 2 d.1) refl) refl t.parts refl))

pub rpop-sound : (operands : List ℕ) → IsBytes operands → Sound (0x12 ∷ operands) (rpop_in operands)
rpop-sound operands fits =
    sound-then (0x12 ∷ operands) (u1_in operands) (λ count. cond (nat_le 1 count && nat_le count 4) (Some (RPop count, 2)) None) (λ count e.
    let t = u1_takes operands count fits e in
    sound-if (0x12 ∷ operands) (nat_le 1 count && nat_le count 4) (RPop count, 2) (λ h.
    let a = both_true (nat_le 1 count) (nat_le count 4) h in
    found-from 0x12 operands (RPop count) [] (count ∷ []) (drop 1 operands) 2
    (plain (RPop count) tt (nat_le-true 1 count a.0, nat_le-true count 4 a.1) refl) refl t.0.parts refl))

pub pop-sound : (operands : List ℕ) → IsBytes operands → Sound (0x13 ∷ operands) (pop_in operands)
pop-sound operands fits =
    sound-then (0x13 ∷ operands) (u1_in operands) (λ count. cond (nat_le 1 count && nat_le count 4) (Some (Pop count, 2)) None) (λ count e.
    let t = u1_takes operands count fits e in
    sound-if (0x13 ∷ operands) (nat_le 1 count && nat_le count 4) (Pop count, 2) (λ h.
    let a = both_true (nat_le 1 count) (nat_le count 4) h in
    found-from 0x13 operands (Pop count) [] (count ∷ []) (drop 1 operands) 2
    (plain (Pop count) tt (nat_le-true 1 count a.0, nat_le-true count 4 a.1) refl) refl t.0.parts refl))

pub operation_code-of : (code : ℕ) → code ≤ 10 → operation_code (operation_of code) ≡ code
operation_code-of code most = grind (arith, nat_tests)

pub condition_code-of : (code : ℕ) → code ≤ 5 → condition_code (condition_of code) ≡ code
condition_code-of code most = grind (arith, nat_tests)

pub jz-sound : (width : Width) (code : ℕ) (operands : List ℕ) → IsBytes operands → code ≤ 5 → Sound ((jz_code width + code) ∷ operands) (jz_in width code operands)
jz-sound width code operands fits most =
    u2-form (jz_code width + code) operands (λ v. Jz width (condition_of code) v) fits (λ v lt. plain (Jz width (condition_of code) v) lt tt refl)
    (λ v. ap (λ (c : ℕ). (jz_code width + c) ∷ u2 v) (condition_code-of code most))

pub jcmp-sound : (width : Width) (code : ℕ) (operands : List ℕ) → IsBytes operands → code ≤ 5 → Sound ((jcmp_code width + code) ∷ operands) (jcmp_in width code operands)
jcmp-sound width code operands fits most =
    u2-form (jcmp_code width + code) operands (λ v. JCmp width (condition_of code) v) fits (λ v lt. plain (JCmp width (condition_of code) v) lt tt refl)
    (λ v. ap (λ (c : ℕ). (jcmp_code width + c) ∷ u2 v) (condition_code-of code most))

pub rj-sound : (test : RefTest) (operands : List ℕ) → IsBytes operands → Sound (test_code test ∷ operands) (rj_in test operands)
rj-sound test operands fits =
    u2-form (test_code test) operands (λ v. RJ test v) fits (λ v lt. plain (RJ test v) lt tt refl) (λ v. refl)

pub new_array-sound : (width : Width) (operands : List ℕ) → IsBytes operands → Sound (new_array_code width ∷ operands) (new_array_in width operands)
new_array-sound width operands fits =
    u2-form (new_array_code width) operands (λ v. NewArr width v) fits (λ v lt. plain (NewArr width v) lt tt refl) (λ v. refl)

pub multi-sound : (operands : List ℕ) → IsBytes operands → Sound (0x92 ∷ operands) (multi_in operands)
multi-sound operands fits =
    sound-then (0x92 ∷ operands) (u2_in operands) (λ id. option_map (λ dims. (Multi id dims, 4)) (u1_in (drop 2 operands))) (λ id e.
    let t = u2_takes operands id fits e in
    sound-map (0x92 ∷ operands) (u1_in (drop 2 operands)) (λ dims. (Multi id dims, 4)) (λ dims f.
    let a = u1_takes (drop 2 operands) dims (IsBytes-drop 2 operands fits) f in
    found-from 0x92 operands (Multi id dims) [] (u2 id ++ dims ∷ []) (drop 1 (drop 2 operands)) 4
    (plain (Multi id dims) (t.1, a.1) tt refl) refl (t.0.parts ∙ ap (λ (r : List ℕ). u2 id ++ r) a.0.parts) refl))

pub calli-sound : (operands : List ℕ) → IsBytes operands → Sound (0xb7 ∷ operands) (calli_in operands)
calli-sound operands fits =
    sound-then (0xb7 ∷ operands) (u2_in operands) (λ selector. option_map (λ id. (CallI selector id, 5)) (u2_in (drop 2 operands))) (λ selector e.
    let t = u2_takes operands selector fits e in
    sound-map (0xb7 ∷ operands) (u2_in (drop 2 operands)) (λ id. (CallI selector id, 5)) (λ id f.
    let a = u2_takes (drop 2 operands) id (IsBytes-drop 2 operands fits) f in
    found-from 0xb7 operands (CallI selector id) [] (u2 selector ++ u2 id) (drop 2 (drop 2 operands)) 5
    (plain (CallI selector id) (t.1, a.1) tt refl) refl (t.0.parts ∙ ap (λ (r : List ℕ). u2 selector ++ r) a.0.parts) refl))

-- ---- switches

lowest : (low : ℤ) → FitsSigned w32 low → pos 0 ≤ℤ (low +ℤ pos (2 ^ 31))
lowest low fits = omega (arith, ints)

le_z-true : (a b : ℤ) → le_z a b ≡ true → a ≤ℤ b
le_z-true a b e = grind (arith, ints)

pub switch-sound : (width : Width) (operands : List ℕ) → IsBytes operands → Sound (switch_code width ∷ operands) (switch_in width operands)
switch-sound width operands fits =
    sound-then (switch_code width ∷ operands) (u2_in operands) (λ default. option_and_then (λ count. cond (nat_le (6 * count) (length (drop 4 operands)) && keys_rise count None (drop 4 operands)) (Some (Switch width default count, 5 + 6 * count)) None) (u2_in (drop 2 operands))) (λ default e.
    let t = u2_takes operands default fits e in
    sound-then (switch_code width ∷ operands) (u2_in (drop 2 operands)) (λ count. cond (nat_le (6 * count) (length (drop 4 operands)) && keys_rise count None (drop 4 operands)) (Some (Switch width default count, 5 + 6 * count)) None) (λ count f.
    let a = u2_takes (drop 2 operands) count (IsBytes-drop 2 operands fits) f in
    sound-if (switch_code width ∷ operands) (nat_le (6 * count) (length (drop 4 operands)) && keys_rise count None (drop 4 operands)) (Switch width default count, 5 + 6 * count) (λ h.
    let b = both_true (nat_le (6 * count) (length (drop 4 operands))) (keys_rise count None (drop 4 operands)) h in
    let rows = rows_in count (drop 4 operands) in
    let r = rows_take count None (drop 4 operands) (IsBytes-drop 4 operands fits) (nat_le-true (6 * count) (length (drop 4 operands)) b.0) b.1 in
    let suffix = drop (6 * count) (drop 4 operands) in
    let parts : operands ≡ (u2 default ++ (u2 count ++ flat_map row_bytes rows)) ++ suffix =
    t.0.parts ∙ ap (λ (r : List ℕ). u2 default ++ r) (a.0.parts ∙ ap (λ (r : List ℕ). u2 count ++ r) (drop-drop 2 2 operands ∙ r.parts)) in
    found-from (switch_code width) operands (Switch width default count) rows (u2 default ++ (u2 count ++ flat_map row_bytes rows)) suffix (5 + 6 * count)
    (record { ranges = (t.1, a.1); limits = tt; rows_of = (r.count_is, r.rise); row_ranges = r.ranges }) refl parts (omega (arith, r.size_is)))))

pub table-sound : (width : Width) (operands : List ℕ) → IsBytes operands → Sound (table_code width ∷ operands) (table_in width operands)
table-sound width operands fits =
    sound-then (table_code width ∷ operands) (u2_in operands) (λ default. option_and_then (λ low. option_and_then (λ count. cond ((nat_le 1 count && le_z (low +ℤ pos count) (pos (2 ^ 31))) && nat_le (2 * count) (length (drop 8 operands))) (Some (Table width default low count, 9 + 2 * count)) None) (u2_in (drop 6 operands))) (i4_in (drop 2 operands))) (λ default e.
    let t = u2_takes operands default fits e in
    sound-then (table_code width ∷ operands) (i4_in (drop 2 operands)) (λ low. option_and_then (λ count. cond ((nat_le 1 count && le_z (low +ℤ pos count) (pos (2 ^ 31))) && nat_le (2 * count) (length (drop 8 operands))) (Some (Table width default low count, 9 + 2 * count)) None) (u2_in (drop 6 operands))) (λ low f.
    let k = i4_takes (drop 2 operands) low (IsBytes-drop 2 operands fits) f in
    sound-then (table_code width ∷ operands) (u2_in (drop 6 operands)) (λ count. cond ((nat_le 1 count && le_z (low +ℤ pos count) (pos (2 ^ 31))) && nat_le (2 * count) (length (drop 8 operands))) (Some (Table width default low count, 9 + 2 * count)) None) (λ count g.
    let a = u2_takes (drop 6 operands) count (IsBytes-drop 6 operands fits) g in
    sound-if (table_code width ∷ operands) ((nat_le 1 count && le_z (low +ℤ pos count) (pos (2 ^ 31))) && nat_le (2 * count) (length (drop 8 operands))) (Table width default low count, 9 + 2 * count) (λ h.
    let b = both_true (nat_le 1 count && le_z (low +ℤ pos count) (pos (2 ^ 31))) (nat_le (2 * count) (length (drop 8 operands))) h in
    let d = both_true (nat_le 1 count) (le_z (low +ℤ pos count) (pos (2 ^ 31))) b.0 in
    let from : pos 0 ≤ℤ (low +ℤ pos (2 ^ 31)) = lowest low k.1 in
    let to : (low +ℤ pos count) ≤ℤ pos (2 ^ 31) = le_z-true (low +ℤ pos count) (pos (2 ^ 31)) d.1 in
    let rows = targets_in low count (drop 8 operands) in
    let r = targets_take count low (drop 8 operands) (IsBytes-drop 8 operands fits) (nat_le-true (2 * count) (length (drop 8 operands)) b.1) from to in
    let suffix = drop (2 * count) (drop 8 operands) in
    let parts : operands ≡ (u2 default ++ (i4 low ++ (u2 count ++ flat_map target_bytes rows))) ++ suffix =
    t.0.parts ∙ ap (λ (r : List ℕ). u2 default ++ r) (k.0.parts ∙ ap (λ (r : List ℕ). i4 low ++ r) (drop-drop 4 2 operands ∙ (a.0.parts ∙ ap (λ (r : List ℕ). u2 count ++ r) (drop-drop 2 6 operands ∙ r.parts)))) in
    found-from (table_code width) operands (Table width default low count) rows (u2 default ++ (i4 low ++ (u2 count ++ flat_map target_bytes rows))) suffix (9 + 2 * count)
    (record { ranges = (t.1, k.1, a.1); limits = (nat_le-true 1 count d.0, to); rows_of = (r.count_is, r.follow); row_ranges = r.ranges }) refl parts (omega (arith, r.size_is))))))
