-- What parameters take of arguments: a whole number as one, a reference as it is.
use Rattle.std.proofs.Common.{◌≡◌, ℕ, ℤ, Bool, true, false, None, refl, sym, ap, ◌∙◌, FitsSigned}
use Rattle.std.specs.Int.{w32}
use Rattle.cell_num.specs.Cells.{low_cell}
use Rattle.class_pool.specs.declared.descriptor.Kind.{Kind}
use Rattle.jvm_model.specs.Initialisers.{is_whole_kind}
use Rattle.jvm_model.specs.State.{Whole, Null, Name}
use Rattle.jvm_model.specs.WidthsSlots.{is_char, is_small}
use Rattle.typed_machine.specs.TypedCalls.{argument_for}
use Rattle.match_states.specs.MatchedFrames.{reference_of}
use Rattle.follow_calls.proofs.PairedArguments.{taken_as, is_reference}
use Rattle.follow_calls.proofs.ParameterKinds.{Argument, IsPassed, extended_by, reference_kind, small_kind, large_kind}

-- a whole number stays one
taken_by : (k : Kind) (number : ℤ) → is_whole_kind k ≡ true → FitsSigned w32 number → (small : Bool) → is_small k ≡ small → (other : ℤ) × (argument_for k (Whole number) ≡ Whole other)
taken_by k number whole fits true is = (extended_by (is_char k) (low_cell number), (small_kind k is).argument number fits)
taken_by k number whole fits false is = (number, (large_kind k whole is).argument number)

taken_whole : (k : Kind) (number : ℤ) → is_whole_kind k ≡ true → FitsSigned w32 number → (other : ℤ) × (argument_for k (Whole number) ≡ Whole other)
taken_whole k number whole fits = taken_by k number whole fits (is_small k) refl

-- what is no reference names nothing
pub names_nothing : (argument : Argument) → IsPassed argument → is_reference argument ≡ false → reference_of (taken_as argument) ≡ None
names_nothing (k, Whole number) passes other = ap reference_of (taken_whole k number passes.0 passes.1).1
names_nothing (k, Null) passes other = absurd (let bad : true ≡ false = sym passes ∙ other in cc)
names_nothing (k, Name name) passes other = absurd (let bad : true ≡ false = sym passes ∙ other in cc)

-- what is a name is a reference
pub names_object : (argument : Argument) → IsPassed argument → (name : ℕ) → taken_as argument ≡ Name name → is_reference argument ≡ true
names_object (k, Whole number) passes name is = absurd (let e = sym (taken_whole k number passes.0 passes.1).1 ∙ is in cc)
names_object (k, Null) passes name is = passes
names_object (k, Name other) passes name is = passes

-- an argument that is taken as a whole number is one
pub record IsWholeArgument (argument : Argument) : Type 0 where
  pub number : ℤ
  pub is : argument.1 ≡ Whole number
  pub whole : is_whole_kind argument.0 ≡ true
  pub fits : FitsSigned w32 number

pub whole_argument : (argument : Argument) → IsPassed argument → (taken : ℤ) → taken_as argument ≡ Whole taken → IsWholeArgument argument
whole_argument (k, Whole number) passes taken is = record { number = number; is = refl; whole = passes.0; fits = passes.1 }
whole_argument (k, Null) passes taken is = absurd (let e = sym (reference_kind k passes).null ∙ is in cc)
whole_argument (k, Name name) passes taken is = absurd (let e = sym ((reference_kind k passes).name name) ∙ is in cc)
