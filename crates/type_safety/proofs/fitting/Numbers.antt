-- What instructions make of numbers of 32 bits are such numbers.
use Rattle.std.proofs.Common.{◌≡◌, ℕ, ℤ, pos, negsuc, ◌%◌, ◌<◌, Bool, true, false, if◌then◌else◌, [], ◌∷◌, Option, Some, None, IfSome, refl, ap, subst, arith, FitsSigned}
use Rattle.std.proofs.Math.Nat.{mod-lt}
use Rattle.std.proofs.lemmas.Int.{ints, SFits-int_wrap, int_wrap_fits}
use Rattle.std.specs.Int.{w8, w16, w32, cast_unsigned, int_wrap}
use Rattle.std.specs.Prelude.{neg_ℤ}
use Rattle.cell_num.specs.declared.arithmetic.BinOp.{BinOp}
use Rattle.cell_num.specs.declared.conversions.Conv.{Conv}
use Rattle.cell_num.specs.declared.conversions.Conv.TheVariants as conv
use Rattle.cell_num.specs.Arithmetic.{applied}
use Rattle.cell_num.specs.Cells.{low_cell}
use Rattle.cell_num.specs.Conversions.{converted}
use Rattle.cell_num.proofs.IntResults.{applied-fits}
use Rattle.dialogue.specs.Answers.{Answers}
use Rattle.dialogue.specs.Natives.{next_byte}
use Rattle.class_pool.specs.declared.descriptor.Kind.{Kind}
use Rattle.class_pool.specs.declared.descriptor.Kind.TheVariants as kind
use Rattle.class_pool.specs.declared.types.TypeBase.{TypeBase}
use Rattle.class_pool.specs.declared.types.TypeBase.TheVariants as base
use Rattle.class_pool.specs.declared.types.TypeRef.{TypeRef}
use Rattle.body_form.specs.declared.op.UnaryOp.{UnaryOp}
use Rattle.body_form.specs.declared.op.UnaryOp.TheVariants as unary
use Rattle.jvm_model.specs.InitialStatics.{lowest_bit, narrowed}
use Rattle.jvm_model.specs.Initialisers.{is_whole_kind}
use Rattle.jvm_model.specs.State.{Value, Whole, Null, Name}
use Rattle.typed_machine.specs.TypedArrays.{kept_by_base, kept_in, count_of}
use Rattle.typed_machine.specs.TypedCalls.{kept_as}
use Rattle.typed_machine.specs.TypedStep.{unary_of}
use Rattle.typed_machine.specs.TypedWorld.{default_of_kind, default_of_type}
use Rattle.class_tree.specs.Merge.{is_reference}
use Rattle.type_safety.specs.Fitting.{IsKept, IsKeptElement}

pub small_fits : (n : ℕ) → n < 65536 → FitsSigned w32 (pos n)
small_fits n less = omega (arith, ints, less)

wider_8 : (number : ℤ) → FitsSigned w8 number → FitsSigned w32 number
wider_8 number fits = omega (arith, ints)

wider_16 : (number : ℤ) → FitsSigned w16 number → FitsSigned w32 number
wider_16 number fits = omega (arith, ints)

pub converted_fits : (c : Conv) (number : ℤ) → FitsSigned w32 (converted c number)
converted_fits conv.Byte number = wider_8 (int_wrap w8 number) (SFits-int_wrap w8 number)
converted_fits conv.Char number = let less : cast_unsigned w32 number % 65536 < 65536 = mod-lt (cast_unsigned w32 number) (omega arith) in small_fits (low_cell number) less
converted_fits conv.Short number = wider_16 (int_wrap w16 number) (SFits-int_wrap w16 number)

bit_fits : (number : ℤ) → FitsSigned w32 (lowest_bit number)
bit_fits number = let less : cast_unsigned w32 number % 2 < 2 = mod-lt (cast_unsigned w32 number) (omega arith) in small_fits (cast_unsigned w32 number % 2) (omega (arith, less))

-- what a field of a type keeps
pub narrowed_fits : (k : Kind) (number : ℤ) → FitsSigned w32 number → FitsSigned w32 (narrowed k number)
narrowed_fits kind.Byte number fits = converted_fits conv.Byte number
narrowed_fits kind.Char number fits = converted_fits conv.Char number
narrowed_fits kind.Short number fits = converted_fits conv.Short number
narrowed_fits kind.Boolean number fits = bit_fits number
narrowed_fits k number fits = fits

-- what an element of a type keeps
pub element_fits : (of : TypeBase) (number : ℤ) → FitsSigned w32 number → FitsSigned w32 (kept_by_base of number)
element_fits base.Byte number fits = converted_fits conv.Byte number
element_fits base.Char number fits = converted_fits conv.Char number
element_fits base.Short number fits = converted_fits conv.Short number
element_fits base.Boolean number fits = bit_fits number
element_fits of number fits = fits

-- ---- numbers that are narrowed stay as they are

converted_twice : (c : Conv) (number : ℤ) → converted c (converted c number) ≡ converted c number
converted_twice conv.Byte number = int_wrap_fits w8 (int_wrap w8 number) (SFits-int_wrap w8 number)
converted_twice conv.Char number =
    let less : low_cell number < 65536 = mod-lt (cast_unsigned w32 number) (omega arith) in
    let same : low_cell number % 65536 ≡ low_cell number = omega (arith, less) in
    ap pos same
converted_twice conv.Short number = int_wrap_fits w16 (int_wrap w16 number) (SFits-int_wrap w16 number)

bit_twice : (number : ℤ) → lowest_bit (lowest_bit number) ≡ lowest_bit number
bit_twice number =
    let bit = cast_unsigned w32 number % 2 in
    let less : bit < 2 = mod-lt (cast_unsigned w32 number) (omega arith) in
    let same : bit % 2 ≡ bit = omega (arith, less) in
    ap pos same

narrowed_twice : (k : Kind) (number : ℤ) → narrowed k (narrowed k number) ≡ narrowed k number
narrowed_twice kind.Byte number = converted_twice conv.Byte number
narrowed_twice kind.Char number = converted_twice conv.Char number
narrowed_twice kind.Short number = converted_twice conv.Short number
narrowed_twice kind.Boolean number = bit_twice number
narrowed_twice k number = refl

element_twice : (of : TypeBase) (number : ℤ) → kept_by_base of (kept_by_base of number) ≡ kept_by_base of number
element_twice base.Byte number = converted_twice conv.Byte number
element_twice base.Char number = converted_twice conv.Char number
element_twice base.Short number = converted_twice conv.Short number
element_twice base.Boolean number = bit_twice number
element_twice of number = refl

same_whole : (a b : ℤ) → Whole a ≡ Whole b → a ≡ b
same_whole a b e = cc

-- a number that is narrowed is kept
pub kept_is_kept : (k : Kind) (value : Value) → IsKept k (kept_as k value)
kept_is_kept k (Whole whole) number is = subst (λ z. narrowed k z ≡ z) (same_whole (narrowed k whole) number is) (narrowed_twice k whole)
kept_is_kept k Null number is = cc
kept_is_kept k (Name name) number is = cc

pub element_is_kept : (array : TypeRef) (value : Value) → IsKeptElement array.base (kept_in array value)
element_is_kept array (Whole whole) number is =
    subst (λ z. kept_by_base array.base z ≡ z) (same_whole (kept_by_base array.base whole) number is) (element_twice array.base whole)
element_is_kept array Null number is = cc
element_is_kept array (Name name) number is = cc

-- 0 is kept by each type
narrowed_zero : (k : Kind) → narrowed k (pos 0) ≡ pos 0
unfolding int_wrap
narrowed_zero kind.Byte = refl
narrowed_zero kind.Char = refl
narrowed_zero kind.Short = refl
narrowed_zero kind.Boolean = refl
narrowed_zero k = refl

element_zero : (of : TypeBase) → kept_by_base of (pos 0) ≡ pos 0
unfolding int_wrap
element_zero base.Byte = refl
element_zero base.Char = refl
element_zero base.Short = refl
element_zero base.Boolean = refl
element_zero of = refl

either_kept : (k : Kind) (whole : Bool) → IsKept k (if whole then Whole (pos 0) else Null)
either_kept k true number is = subst (λ z. narrowed k z ≡ z) (same_whole (pos 0) number is) (narrowed_zero k)
either_kept k false number is = cc

pub default_kept : (k : Kind) → IsKept k (default_of_kind k)
default_kept k = either_kept k (is_whole_kind k)

either_element : (of : TypeBase) (refers : Bool) → IsKeptElement of (if refers then Null else Whole (pos 0))
either_element of true number is = cc
either_element of false number is = subst (λ z. kept_by_base of z ≡ z) (same_whole (pos 0) number is) (element_zero of)

pub default_element_kept : (of : TypeBase) (type : TypeRef) → IsKeptElement of (default_of_type type)
default_element_kept of type = either_element of (is_reference type.dims type.base)

-- ---- what operations give

pub unary_fits : (operation : UnaryOp) (number : ℤ) → FitsSigned w32 (unary_of operation number)
unary_fits unary.Neg number = SFits-int_wrap w32 (neg_ℤ number)
unary_fits (unary.Convert c) number = converted_fits c number

some_fits : (found : Option ℤ) (number : ℤ) → IfSome found (λ result. FitsSigned w32 result) → found ≡ Some number → FitsSigned w32 number
some_fits found number fits is = subst (λ (o : Option ℤ). IfSome o (λ result. FitsSigned w32 result)) is fits

pub result_fits : (operation : BinOp) (a b number : ℤ) → FitsSigned w32 a → FitsSigned w32 b → applied operation a b ≡ Some number → FitsSigned w32 number
result_fits operation a b number first second is = some_fits (applied operation a b) number (applied-fits operation a b first second) is

-- a byte, or -1 at the end
pub byte_fits : (answers : Answers) → FitsSigned w32 (next_byte answers)
byte_fits [] = omega (arith, ints)
byte_fits (None ∷ rest) = omega (arith, ints)
byte_fits (Some byte ∷ rest) = let less : byte % 256 < 256 = mod-lt byte (omega arith) in small_fits (byte % 256) (omega (arith, less))

-- ---- counts of elements

pub count_fits : (number : ℤ) → FitsSigned w32 number → FitsSigned w32 (pos (count_of number))
count_fits (pos count) fits = fits
count_fits (negsuc n) fits = omega (arith, ints)
