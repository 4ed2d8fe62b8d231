-- A constant is pushed by an instruction whose number has as many bits as it needs.
use Rattle.std.proofs.Common.{◌≡◌, ℕ, ℤ, pos, negsuc, Bool, true, false, if◌then◌else◌, refl, arith, FitsSigned, w8, w16, w32}
use Rattle.std.specs.Int.Signed.{le_z}
use Rattle.std.proofs.lemmas.Bool.{and_parts}
use Rattle.std.proofs.lemmas.Int.{ints}
use Rattle.cell_num.specs.Cells.{sign_extended, low_cell}
use Rattle.image_instr.specs.declared.insn.Kind.{Kind}
use Rattle.image_instr.specs.declared.insn.Kind.TheVariants as kind
use Rattle.image_instr.specs.declared.insn.MInsn.TheVariants as insns
use Rattle.image_instr.specs.Insn.{HasRanges}
use Rattle.body_form.specs.declared.op.Literal.{Literal}
use Rattle.body_form.specs.declared.op.Literal.TheVariants as literal
use Rattle.jvm_model.specs.ImageExpansion.{is_between, wide_constant, narrow_constant, constant}
use Rattle.type_safety.specs.Facts.{ConstantFits}

small_fits : (number : ℤ) → is_between (negsuc 127) (pos 127) number ≡ true → FitsSigned w8 number
small_fits number e =
    let both = and_parts (le_z (negsuc 127) number) (le_z number (pos 127)) e in
    let low : le_z (negsuc 127) number ≡ true = both.0 in
    let high : le_z number (pos 127) ≡ true = both.1 in
    grind (arith, ints)

middle_fits : (number : ℤ) → is_between (negsuc 32767) (pos 32767) number ≡ true → FitsSigned w16 number
middle_fits number e =
    let both = and_parts (le_z (negsuc 32767) number) (le_z number (pos 32767)) e in
    let low : le_z (negsuc 32767) number ≡ true = both.0 in
    let high : le_z number (pos 32767) ≡ true = both.1 in
    grind (arith, ints)

cell_fits : (cell : ℕ) → FitsSigned w16 (sign_extended cell)
cell_fits cell = omega (arith, ints)

wide_fits : (number : ℤ) → FitsSigned w32 number → HasRanges (wide_constant number)
wide_fits number fits = by_small (is_between (negsuc 127) (pos 127) number) refl
  where
    by_middle : (middle : Bool) → is_between (negsuc 32767) (pos 32767) number ≡ middle → HasRanges (if middle then insns.Mid2 number else insns.Const2 number)
    by_middle true e = middle_fits number e
    by_middle false e = fits

    by_small : (small : Bool) → is_between (negsuc 127) (pos 127) number ≡ small → HasRanges (if small then insns.Small2 number else (if is_between (negsuc 32767) (pos 32767) number then insns.Mid2 number else insns.Const2 number))
    by_small true e = small_fits number e
    by_small false e = by_middle (is_between (negsuc 32767) (pos 32767) number) refl

narrow_fits : (number : ℤ) → FitsSigned w16 number → HasRanges (narrow_constant number)
narrow_fits number fits = by_small (is_between (negsuc 127) (pos 127) number) refl
  where
    by_small : (small : Bool) → is_between (negsuc 127) (pos 127) number ≡ small → HasRanges (if small then insns.Small1 number else insns.Const1 number)
    by_small true e = small_fits number e
    by_small false e = fits

pub constant_in : (value : Literal) (shape : Kind) → ConstantFits value → HasRanges (constant value shape)
constant_in literal.Null shape fits = tt
constant_in (literal.Int number) kind.One fits = narrow_fits (sign_extended (low_cell number)) (cell_fits (low_cell number))
constant_in (literal.Int number) kind.Two fits = wide_fits number fits
constant_in (literal.Int number) kind.Ref fits = wide_fits number fits
