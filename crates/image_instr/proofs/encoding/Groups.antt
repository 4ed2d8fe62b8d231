-- The reader is right, group by group of first bytes: the instruction that it found is encoded in the bytes.
use Rattle.std.proofs.Common.{◌≡◌, ℕ, ◌+◌, ◌-◌, ◌≤◌, List, [], ◌∷◌, Some, None, refl, ap, ◌∙◌, arith, subst}
use Rattle.image_instr.specs.declared.insn.Kind.TheVariants as kind
use Rattle.image_instr.specs.declared.insn.Width.{Width}
use Rattle.image_instr.specs.declared.insn.Width.TheVariants as width
use Rattle.image_instr.specs.declared.insn.RefTest.TheVariants as test
use Rattle.image_instr.specs.declared.insn.Element.TheVariants as element
use Rattle.image_instr.specs.declared.insn.MInsn.TheVariants.{Const1, Const2, Small1, Small2, Mid2, Null, RSwap, Neg, Sx, Zx, Sb, Bit, Goto, Ret, ALen, ALoad, AStore, New, Cast, Inst, Throw, CallS, CallX, CallV}
use Rattle.image_instr.specs.Insn.{bin_code, jz_code, jcmp_code}
use Rattle.image_instr.specs.Reading.{bin_of, jz_in, jcmp_in, constant_in, local_in, stack_in, number_in, jump_in, ret_in, static_in, field_in, array_in, element_in, object_in, insn_in, insn_at}
use Rattle.image_instr.proofs.encoding.Bytes.{IsBytes, IsBytes-rest}
use Rattle.image_instr.proofs.encoding.Forms.{Sound, when, up_to, between, plain, bare-form, u2-form, i1-form, i2-form, i4-form}
use Rattle.image_instr.proofs.encoding.Families.{load-sound, store-sound, rclear-sound, inc-sound, rdupx-sound, dupx-sound, rpop-sound, pop-sound, swap-sound, drop-sound, operation_code-of, jz-sound, jcmp-sound, rj-sound, switch-sound, table-sound, get_static-sound, put_static-sound, get_field-sound, put_field-sound, new_array-sound, multi-sound, calli-sound}

pub constant-sound : (opcode : ℕ) (operands : List ℕ) → IsBytes operands → Sound (opcode ∷ operands) (constant_in opcode operands)
unfolding constant_in
constant-sound opcode operands fits =
    when opcode operands 0x01 _ _ (i2-form 0x01 operands (λ v. Const1 v) fits (λ v f. plain (Const1 v) f tt refl) (λ v. refl))
    (when opcode operands 0x02 _ _ (i4-form 0x02 operands (λ v. Const2 v) fits (λ v f. plain (Const2 v) f tt refl) (λ v. refl))
    (when opcode operands 0x03 _ _ (i1-form 0x03 operands (λ v. Small1 v) fits (λ v f. plain (Small1 v) f tt refl) (λ v. refl))
    (when opcode operands 0x04 _ _ (i1-form 0x04 operands (λ v. Small2 v) fits (λ v f. plain (Small2 v) f tt refl) (λ v. refl))
    (when opcode operands 0x05 _ _ (i2-form 0x05 operands (λ v. Mid2 v) fits (λ v f. plain (Mid2 v) f tt refl) (λ v. refl))
    (when opcode operands 0x06 _ _ (bare-form 0x06 operands (Null) (plain (Null) tt tt refl) refl)
    tt)))))

pub local-sound : (opcode : ℕ) (operands : List ℕ) → IsBytes operands → Sound (opcode ∷ operands) (local_in opcode operands)
unfolding local_in
local-sound opcode operands fits =
    when opcode operands 0x07 _ _ (load-sound kind.Ref operands fits)
    (when opcode operands 0x08 _ _ (store-sound kind.Ref operands fits)
    (when opcode operands 0x09 _ _ (rclear-sound operands fits)
    (when opcode operands 0x0a _ _ (load-sound kind.One operands fits)
    (when opcode operands 0x0b _ _ (load-sound kind.Two operands fits)
    (when opcode operands 0x0c _ _ (store-sound kind.One operands fits)
    (when opcode operands 0x0d _ _ (store-sound kind.Two operands fits)
    (when opcode operands 0x0e _ _ (inc-sound width.One operands fits)
    (when opcode operands 0x0f _ _ (inc-sound width.Two operands fits)
    tt))))))))

pub stack-sound : (opcode : ℕ) (operands : List ℕ) → IsBytes operands → Sound (opcode ∷ operands) (stack_in opcode operands)
unfolding stack_in
stack-sound opcode operands fits =
    when opcode operands 0x10 _ _ (rdupx-sound operands fits)
    (when opcode operands 0x11 _ _ (dupx-sound operands fits)
    (when opcode operands 0x12 _ _ (rpop-sound operands fits)
    (when opcode operands 0x13 _ _ (pop-sound operands fits)
    (when opcode operands 0x14 _ _ (bare-form 0x14 operands (RSwap) (plain (RSwap) tt tt refl) refl)
    (when opcode operands 0x15 _ _ (swap-sound operands fits)
    (when opcode operands 0x16 _ _ (drop-sound operands fits)
    tt))))))

bin-sound : (width : Width) (opcode : ℕ) (operands : List ℕ) → bin_code width ≤ opcode → opcode ≤ bin_code width + 10 → Sound (opcode ∷ operands) (Some (bin_of width (opcode - bin_code width), 1))
bin-sound width opcode operands from to =
    let code : bin_code width + (opcode - bin_code width) ≡ opcode = omega arith in
    bare-form opcode operands (bin_of width (opcode - bin_code width)) (plain (bin_of width (opcode - bin_code width)) tt tt refl)
    (ap (λ (c : ℕ). (bin_code width + c) ∷ []) (operation_code-of (opcode - bin_code width) (omega arith)) ∙ ap (λ (c : ℕ). c ∷ []) code)

jz-from : (width : Width) (opcode : ℕ) (operands : List ℕ) → IsBytes operands → jz_code width ≤ opcode → opcode ≤ jz_code width + 5 → Sound (opcode ∷ operands) (jz_in width (opcode - jz_code width) operands)
jz-from width opcode operands fits from to =
    let code : jz_code width + (opcode - jz_code width) ≡ opcode = omega arith in
    subst (λ (n : ℕ). Sound (n ∷ operands) (jz_in width (opcode - jz_code width) operands)) code (jz-sound width (opcode - jz_code width) operands fits (omega arith))

jcmp-from : (width : Width) (opcode : ℕ) (operands : List ℕ) → IsBytes operands → jcmp_code width ≤ opcode → opcode ≤ jcmp_code width + 5 → Sound (opcode ∷ operands) (jcmp_in width (opcode - jcmp_code width) operands)
jcmp-from width opcode operands fits from to =
    let code : jcmp_code width + (opcode - jcmp_code width) ≡ opcode = omega arith in
    subst (λ (n : ℕ). Sound (n ∷ operands) (jcmp_in width (opcode - jcmp_code width) operands)) code (jcmp-sound width (opcode - jcmp_code width) operands fits (omega arith))

pub number-sound : (opcode : ℕ) (operands : List ℕ) → IsBytes operands → Sound (opcode ∷ operands) (number_in opcode)
unfolding number_in
number-sound opcode operands fits =
    between opcode operands 0x20 0x2a _ _ (λ from to. bin-sound width.One opcode operands from to)
    (when opcode operands 0x2b _ _ (bare-form 0x2b operands (Neg width.One) (plain (Neg width.One) tt tt refl) refl)
    (between opcode operands 0x30 0x3a _ _ (λ from to. bin-sound width.Two opcode operands from to)
    (when opcode operands 0x3b _ _ (bare-form 0x3b operands (Neg width.Two) (plain (Neg width.Two) tt tt refl) refl)
    (when opcode operands 0x41 _ _ (bare-form 0x41 operands (Sx) (plain (Sx) tt tt refl) refl)
    (when opcode operands 0x42 _ _ (bare-form 0x42 operands (Zx) (plain (Zx) tt tt refl) refl)
    (when opcode operands 0x43 _ _ (bare-form 0x43 operands (Sb) (plain (Sb) tt tt refl) refl)
    (when opcode operands 0x44 _ _ (bare-form 0x44 operands (Bit) (plain (Bit) tt tt refl) refl)
    tt)))))))

pub jump-sound : (opcode : ℕ) (operands : List ℕ) → IsBytes operands → Sound (opcode ∷ operands) (jump_in opcode operands)
unfolding jump_in
jump-sound opcode operands fits =
    between opcode operands 0x50 0x55 _ _ (λ from to. jz-from width.One opcode operands fits from to)
    (between opcode operands 0x58 0x5d _ _ (λ from to. jz-from width.Two opcode operands fits from to)
    (between opcode operands 0x60 0x65 _ _ (λ from to. jcmp-from width.One opcode operands fits from to)
    (between opcode operands 0x68 0x6d _ _ (λ from to. jcmp-from width.Two opcode operands fits from to)
    (when opcode operands 0x70 _ _ (rj-sound test.Equal operands fits)
    (when opcode operands 0x71 _ _ (rj-sound test.NotEqual operands fits)
    (when opcode operands 0x72 _ _ (rj-sound test.Null operands fits)
    (when opcode operands 0x73 _ _ (rj-sound test.NonNull operands fits)
    (when opcode operands 0x74 _ _ (u2-form 0x74 operands (λ v. Goto v) fits (λ v lt. plain (Goto v) lt tt refl) (λ v. refl))
    (when opcode operands 0x75 _ _ (switch-sound width.One operands fits)
    (when opcode operands 0x76 _ _ (switch-sound width.Two operands fits)
    (when opcode operands 0x77 _ _ (table-sound width.One operands fits)
    (when opcode operands 0x78 _ _ (table-sound width.Two operands fits)
    tt))))))))))))

pub ret-sound : (opcode : ℕ) (operands : List ℕ) → IsBytes operands → Sound (opcode ∷ operands) (ret_in opcode)
unfolding ret_in
ret-sound opcode operands fits =
    when opcode operands 0x79 _ _ (bare-form 0x79 operands (Ret None) (plain (Ret None) tt tt refl) refl)
    (when opcode operands 0x7a _ _ (bare-form 0x7a operands (Ret (Some kind.Ref)) (plain (Ret (Some kind.Ref)) tt tt refl) refl)
    (when opcode operands 0x7b _ _ (bare-form 0x7b operands (Ret (Some kind.One)) (plain (Ret (Some kind.One)) tt tt refl) refl)
    (when opcode operands 0x7c _ _ (bare-form 0x7c operands (Ret (Some kind.Two)) (plain (Ret (Some kind.Two)) tt tt refl) refl)
    tt)))

pub static-sound : (opcode : ℕ) (operands : List ℕ) → IsBytes operands → Sound (opcode ∷ operands) (static_in opcode operands)
unfolding static_in
static-sound opcode operands fits =
    when opcode operands 0x80 _ _ (get_static-sound kind.Ref operands fits)
    (when opcode operands 0x81 _ _ (put_static-sound kind.Ref operands fits)
    (when opcode operands 0x82 _ _ (get_static-sound kind.One operands fits)
    (when opcode operands 0x83 _ _ (get_static-sound kind.Two operands fits)
    (when opcode operands 0x84 _ _ (put_static-sound kind.One operands fits)
    (when opcode operands 0x85 _ _ (put_static-sound kind.Two operands fits)
    tt)))))

pub field-sound : (opcode : ℕ) (operands : List ℕ) → IsBytes operands → Sound (opcode ∷ operands) (field_in opcode operands)
unfolding field_in
field-sound opcode operands fits =
    when opcode operands 0x86 _ _ (get_field-sound kind.Ref operands fits)
    (when opcode operands 0x87 _ _ (put_field-sound kind.Ref operands fits)
    (when opcode operands 0x88 _ _ (get_field-sound kind.One operands fits)
    (when opcode operands 0x89 _ _ (get_field-sound kind.Two operands fits)
    (when opcode operands 0x8a _ _ (put_field-sound kind.One operands fits)
    (when opcode operands 0x8b _ _ (put_field-sound kind.Two operands fits)
    tt)))))

pub array-sound : (opcode : ℕ) (operands : List ℕ) → IsBytes operands → Sound (opcode ∷ operands) (array_in opcode operands)
unfolding array_in
array-sound opcode operands fits =
    when opcode operands 0x90 _ _ (new_array-sound width.One operands fits)
    (when opcode operands 0x91 _ _ (new_array-sound width.Two operands fits)
    (when opcode operands 0x92 _ _ (multi-sound operands fits)
    (when opcode operands 0x93 _ _ (bare-form 0x93 operands (ALen) (plain (ALen) tt tt refl) refl)
    tt)))

pub element-sound : (opcode : ℕ) (operands : List ℕ) → IsBytes operands → Sound (opcode ∷ operands) (element_in opcode)
unfolding element_in
element-sound opcode operands fits =
    when opcode operands 0xa0 _ _ (bare-form 0xa0 operands (ALoad element.Ref width.One) (plain (ALoad element.Ref width.One) tt tt refl) refl)
    (when opcode operands 0xa1 _ _ (bare-form 0xa1 operands (ALoad element.Ref width.Two) (plain (ALoad element.Ref width.Two) tt tt refl) refl)
    (when opcode operands 0xa2 _ _ (bare-form 0xa2 operands (ALoad element.Byte width.One) (plain (ALoad element.Byte width.One) tt tt refl) refl)
    (when opcode operands 0xa3 _ _ (bare-form 0xa3 operands (ALoad element.Byte width.Two) (plain (ALoad element.Byte width.Two) tt tt refl) refl)
    (when opcode operands 0xa4 _ _ (bare-form 0xa4 operands (ALoad element.Half width.One) (plain (ALoad element.Half width.One) tt tt refl) refl)
    (when opcode operands 0xa5 _ _ (bare-form 0xa5 operands (ALoad element.Half width.Two) (plain (ALoad element.Half width.Two) tt tt refl) refl)
    (when opcode operands 0xa6 _ _ (bare-form 0xa6 operands (ALoad element.Int width.One) (plain (ALoad element.Int width.One) tt tt refl) refl)
    (when opcode operands 0xa7 _ _ (bare-form 0xa7 operands (ALoad element.Int width.Two) (plain (ALoad element.Int width.Two) tt tt refl) refl)
    (when opcode operands 0xa8 _ _ (bare-form 0xa8 operands (AStore element.Ref width.One) (plain (AStore element.Ref width.One) tt tt refl) refl)
    (when opcode operands 0xa9 _ _ (bare-form 0xa9 operands (AStore element.Ref width.Two) (plain (AStore element.Ref width.Two) tt tt refl) refl)
    (when opcode operands 0xaa _ _ (bare-form 0xaa operands (AStore element.Byte width.One) (plain (AStore element.Byte width.One) tt tt refl) refl)
    (when opcode operands 0xab _ _ (bare-form 0xab operands (AStore element.Byte width.Two) (plain (AStore element.Byte width.Two) tt tt refl) refl)
    (when opcode operands 0xac _ _ (bare-form 0xac operands (AStore element.Half width.One) (plain (AStore element.Half width.One) tt tt refl) refl)
    (when opcode operands 0xad _ _ (bare-form 0xad operands (AStore element.Half width.Two) (plain (AStore element.Half width.Two) tt tt refl) refl)
    (when opcode operands 0xae _ _ (bare-form 0xae operands (AStore element.Int width.One) (plain (AStore element.Int width.One) tt tt refl) refl)
    (when opcode operands 0xaf _ _ (bare-form 0xaf operands (AStore element.Int width.Two) (plain (AStore element.Int width.Two) tt tt refl) refl)
    tt)))))))))))))))

pub object-sound : (opcode : ℕ) (operands : List ℕ) → IsBytes operands → Sound (opcode ∷ operands) (object_in opcode operands)
unfolding object_in
object-sound opcode operands fits =
    when opcode operands 0xb0 _ _ (u2-form 0xb0 operands (λ v. New v) fits (λ v lt. plain (New v) lt tt refl) (λ v. refl))
    (when opcode operands 0xb1 _ _ (u2-form 0xb1 operands (λ v. Cast v) fits (λ v lt. plain (Cast v) lt tt refl) (λ v. refl))
    (when opcode operands 0xb2 _ _ (u2-form 0xb2 operands (λ v. Inst v) fits (λ v lt. plain (Inst v) lt tt refl) (λ v. refl))
    (when opcode operands 0xb3 _ _ (bare-form 0xb3 operands (Throw) (plain (Throw) tt tt refl) refl)
    (when opcode operands 0xb4 _ _ (u2-form 0xb4 operands (λ v. CallS v) fits (λ v lt. plain (CallS v) lt tt refl) (λ v. refl))
    (when opcode operands 0xb5 _ _ (u2-form 0xb5 operands (λ v. CallX v) fits (λ v lt. plain (CallX v) lt tt refl) (λ v. refl))
    (when opcode operands 0xb6 _ _ (u2-form 0xb6 operands (λ v. CallV v) fits (λ v lt. plain (CallV v) lt tt refl) (λ v. refl))
    (when opcode operands 0xb7 _ _ (calli-sound operands fits)
    tt)))))))

pub insn_in-sound : (opcode : ℕ) (operands : List ℕ) → IsBytes operands → Sound (opcode ∷ operands) (insn_in opcode operands)
unfolding insn_in
insn_in-sound opcode operands fits =
    up_to opcode operands 0x06 _ _ (constant-sound opcode operands fits)
    (up_to opcode operands 0x0f _ _ (local-sound opcode operands fits)
    (up_to opcode operands 0x1f _ _ (stack-sound opcode operands fits)
    (up_to opcode operands 0x4f _ _ (number-sound opcode operands fits)
    (up_to opcode operands 0x78 _ _ (jump-sound opcode operands fits)
    (up_to opcode operands 0x7f _ _ (ret-sound opcode operands fits)
    (up_to opcode operands 0x85 _ _ (static-sound opcode operands fits)
    (up_to opcode operands 0x8f _ _ (field-sound opcode operands fits)
    (up_to opcode operands 0x9f _ _ (array-sound opcode operands fits)
    (up_to opcode operands 0xaf _ _ (element-sound opcode operands fits)
    (object-sound opcode operands fits))))))))))

-- what is found at the prefix of the bytes is encoded there
pub insn_at-sound : (bytes : List ℕ) → IsBytes bytes → Sound bytes (insn_at bytes)
insn_at-sound [] fits = tt
insn_at-sound (opcode ∷ operands) fits = insn_in-sound opcode operands (IsBytes-rest opcode operands fits)
