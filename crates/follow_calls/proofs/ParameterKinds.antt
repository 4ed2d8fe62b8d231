-- How the kinds of parameters are passed: a reference in a slot, an int in two cells, and a small type in one.
use Rattle.std.proofs.Common.{◌≡◌, ℕ, ℤ, Bool, true, false, if◌then◌else◌, List, [], ◌∷◌, length, FitsSigned, refl, sym, ap, ◌∙◌}
use Rattle.std.specs.Prelude.{pos}
use Rattle.std.specs.Int.{w32}
use Rattle.cell_num.specs.Cells.{sign_extended, low_cell, high_cell}
use Rattle.cell_num.proofs.Wrapping.{wrap_short}
use Rattle.class_pool.specs.declared.descriptor.Kind.{Kind}
use Rattle.class_pool.specs.declared.descriptor.Kind.TheVariants as declared
use Rattle.jvm_model.specs.Initialisers.{is_whole_kind, is_reference_kind}
use Rattle.jvm_model.specs.State.{Value, Whole, Null, Name}
use Rattle.jvm_model.specs.WidthsSlots.{passed_cells, is_small, is_char}
use Rattle.typed_machine.specs.TypedCalls.{argument_for}

-- ---- kinds

pub record IsReferenceKind (k : Kind) : Type 0 where
  pub cells : passed_cells k ≡ 0
  pub whole : is_whole_kind k ≡ false
  pub null : argument_for k Null ≡ Null
  pub name : (name : ℕ) → argument_for k (Name name) ≡ Name name

pub reference_kind : (k : Kind) → is_reference_kind k ≡ true → IsReferenceKind k
reference_kind (declared.Class name) is = record { cells = refl; whole = refl; null = refl; name = λ name. refl }
reference_kind (declared.Array dims of) is = record { cells = refl; whole = refl; null = refl; name = λ name. refl }
reference_kind k is = absurd cc

-- one cell becomes a number, as it is or by its sign
abbrev pub extended_by : Bool → ℕ → ℤ
extended_by unsigned cell = if unsigned then pos cell else sign_extended cell

pub record IsSmallKind (k : Kind) : Type 0 where
  pub cells : passed_cells k ≡ 1
  pub whole : is_whole_kind k ≡ true
  pub reference : is_reference_kind k ≡ false
  pub argument : (number : ℤ) → FitsSigned w32 number → argument_for k (Whole number) ≡ Whole (extended_by (is_char k) (low_cell number))

-- the low cell by its sign is the short
short_argument : (number : ℤ) → FitsSigned w32 number → argument_for declared.Short (Whole number) ≡ Whole (sign_extended (low_cell number))
short_argument number fits = ap (λ (n : ℤ). Whole n) (wrap_short number fits)

pub small_kind : (k : Kind) → is_small k ≡ true → IsSmallKind k
small_kind declared.Byte is = record { cells = refl; whole = refl; reference = refl; argument = short_argument }
small_kind declared.Short is = record { cells = refl; whole = refl; reference = refl; argument = short_argument }
small_kind declared.Boolean is = record { cells = refl; whole = refl; reference = refl; argument = short_argument }
small_kind declared.Char is = record { cells = refl; whole = refl; reference = refl; argument = λ number fits. refl }
small_kind k is = absurd cc

pub record IsLargeKind (k : Kind) : Type 0 where
  pub cells : passed_cells k ≡ 2
  pub reference : is_reference_kind k ≡ false
  pub argument : (number : ℤ) → argument_for k (Whole number) ≡ Whole number

pub large_kind : (k : Kind) → is_whole_kind k ≡ true → is_small k ≡ false → IsLargeKind k
large_kind declared.Int whole large = record { cells = refl; reference = refl; argument = λ number. refl }
large_kind k whole large = absurd cc

-- a whole number is no reference
pub whole_kind : (k : Kind) → is_whole_kind k ≡ true → is_reference_kind k ≡ false
whole_kind (declared.Class name) is = absurd cc
whole_kind (declared.Array dims of) is = absurd cc
whole_kind k is = refl

-- ---- arguments

-- what a parameter takes: a whole number of 32 bits, or a reference
abbrev pub Passes : Kind → Value → Type 0
Passes k (Whole number) = (is_whole_kind k ≡ true) × FitsSigned w32 number
Passes k value = is_reference_kind k ≡ true

-- a value, with the kind of its parameter
abbrev pub Argument : Type 0
Argument = Kind × Value

abbrev pub IsPassed : Argument → Type 0
IsPassed argument = Passes argument.0 argument.1

-- the cells in which it is passed, the low one first
abbrev pub passed_of : Kind → Value → List ℕ
passed_of k (Whole number) = if is_small k then low_cell number ∷ [] else low_cell number ∷ high_cell number ∷ []
passed_of k value = []

abbrev cells_where : ℤ → Bool → List ℕ
cells_where number small = if small then low_cell number ∷ [] else low_cell number ∷ high_cell number ∷ []

pub small_cells : (k : Kind) (number : ℤ) → is_small k ≡ true → passed_of k (Whole number) ≡ low_cell number ∷ []
small_cells k number is = ap (cells_where number) is

pub large_cells : (k : Kind) (number : ℤ) → is_small k ≡ false → passed_of k (Whole number) ≡ low_cell number ∷ high_cell number ∷ []
large_cells k number is = ap (cells_where number) is

by_size : (k : Kind) (number : ℤ) (small : Bool) → is_small k ≡ small → is_whole_kind k ≡ true → length (passed_of k (Whole number)) ≡ passed_cells k
by_size k number true is whole = ap (λ (cells : List ℕ). length cells) (small_cells k number is) ∙ sym (small_kind k is).cells
by_size k number false is whole = ap (λ (cells : List ℕ). length cells) (large_cells k number is) ∙ sym (large_kind k whole is).cells

-- there are as many as its kind says
pub passed_count : (argument : Argument) → IsPassed argument → length (passed_of argument.0 argument.1) ≡ passed_cells argument.0
passed_count (k, Whole number) passes = by_size k number (is_small k) refl passes.0
passed_count (k, Null) passes = sym (reference_kind k passes).cells
passed_count (k, Name name) passes = sym (reference_kind k passes).cells
