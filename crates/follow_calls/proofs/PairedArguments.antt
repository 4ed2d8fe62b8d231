-- Arguments beside the kinds of their parameters: what is passed of them in both halves.
use Rattle.std.proofs.Common.{◌≡◌, ℕ, ◌+◌, Bool, true, false, cond, List, [], ◌∷◌, ◌++◌, map, filter, length, refl, sym, ap, ap₂, ◌∙◌, length-append, arith}
use Rattle.std.specs.List.{AllByRecursion, sum_by}
use Rattle.std.proofs.lemmas.List.{length-map}
use Rattle.std.proofs.lemmas.List.Sums.{sum_by-cons}
use Rattle.class_pool.specs.declared.descriptor.Kind.{Kind}
use Rattle.jvm_model.specs.Bodies.{AreEach}
use Rattle.jvm_model.specs.Initialisers.{is_reference_kind}
use Rattle.jvm_model.specs.State.{Value, Whole, Null, Name}
use Rattle.jvm_model.specs.WidthsSlots.{passed_cells}
use Rattle.mote_model.specs.State.{Reference}
use Rattle.typed_machine.specs.TypedCalls.{argument_for, arguments_for}
use Rattle.match_states.specs.MatchedFrames.{reference_of}
use Rattle.follow_numbers.specs.WideCode.{refs_of_value, value_refs}
use Rattle.follow_calls.proofs.ParameterKinds.{Passes, Argument, IsPassed, reference_kind, whole_kind, passed_of, passed_count}
use Rattle.follow_calls.proofs.PassedCells.{argument_cells, is_whole}

-- ---- pairs

pub paired : List Kind → List Value → List Argument
paired (k ∷ kinds) (value ∷ values) = (k, value) ∷ paired kinds values
paired kinds values = []

abbrev pub kinds_of : List Argument → List Kind
kinds_of arguments = map (λ (argument : Argument). argument.0) arguments

abbrev pub values_of : List Argument → List Value
values_of arguments = map (λ (argument : Argument). argument.1) arguments

-- what the parameter takes of it
abbrev pub taken_as : Argument → Value
taken_as argument = argument_for argument.0 argument.1

pub paired_kinds : (kinds : List Kind) (values : List Value) → AreEach Passes kinds values → kinds_of (paired kinds values) ≡ kinds
unfolding paired
paired_kinds [] [] each = refl
paired_kinds [] (value ∷ values) each = absurd each
paired_kinds (k ∷ kinds) [] each = absurd each
paired_kinds (k ∷ kinds) (value ∷ values) each = ap (λ (l : List Kind). k ∷ l) (paired_kinds kinds values each.1)

pub paired_values : (kinds : List Kind) (values : List Value) → AreEach Passes kinds values → values_of (paired kinds values) ≡ values
unfolding paired
paired_values [] [] each = refl
paired_values [] (value ∷ values) each = absurd each
paired_values (k ∷ kinds) [] each = absurd each
paired_values (k ∷ kinds) (value ∷ values) each = ap (λ (l : List Value). value ∷ l) (paired_values kinds values each.1)

pub all_paired : (kinds : List Kind) (values : List Value) → AreEach Passes kinds values → AllByRecursion IsPassed (paired kinds values)
unfolding paired
all_paired [] [] each = tt
all_paired [] (value ∷ values) each = absurd each
all_paired (k ∷ kinds) [] each = absurd each
all_paired (k ∷ kinds) (value ∷ values) each = (each.0, all_paired kinds values each.1)

pub paired_taken : (kinds : List Kind) (values : List Value) → AreEach Passes kinds values → arguments_for kinds values ≡ map taken_as (paired kinds values)
unfolding paired arguments_for
paired_taken [] [] each = refl
paired_taken [] (value ∷ values) each = absurd each
paired_taken (k ∷ kinds) [] each = absurd each
paired_taken (k ∷ kinds) (value ∷ values) each = ap (λ (l : List Value). argument_for k value ∷ l) (paired_taken kinds values each.1)

-- ---- references

abbrev pub is_reference : Argument → Bool
is_reference argument = is_reference_kind argument.0

module _ (k : Kind) (value : Value) (arguments : List Argument) where
  -- where it is a reference
  kept_reference : (is : Bool) → is ≡ true → refs_of_value value ≡ reference_of (taken_as (k, value)) ∷ [] → value_refs (values_of arguments) ≡ map (λ (a : Argument). reference_of (taken_as a)) (filter is_reference arguments)
      → refs_of_value value ++ value_refs (values_of arguments) ≡ map (λ (a : Argument). reference_of (taken_as a)) (cond is ((k, value) ∷ filter is_reference arguments) (filter is_reference arguments))
  kept_reference true is here later = ap₂ (λ (a b : List Reference). a ++ b) here later
  kept_reference false is here later = absurd cc

  left_out : (is : Bool) → is ≡ false → refs_of_value value ≡ [] → value_refs (values_of arguments) ≡ map (λ (a : Argument). reference_of (taken_as a)) (filter is_reference arguments)
      → refs_of_value value ++ value_refs (values_of arguments) ≡ map (λ (a : Argument). reference_of (taken_as a)) (cond is ((k, value) ∷ filter is_reference arguments) (filter is_reference arguments))
  left_out true is here later = absurd cc
  left_out false is here later = ap₂ (λ (a b : List Reference). a ++ b) here later

-- the references among the arguments are those that the parameters which are references take
pub passed_refs : (arguments : List Argument) → AllByRecursion IsPassed arguments → value_refs (values_of arguments) ≡ map (λ (a : Argument). reference_of (taken_as a)) (filter is_reference arguments)
passed_refs [] all = refl
passed_refs ((k, Whole number) ∷ arguments) all = left_out k (Whole number) arguments (is_reference_kind k) (whole_kind k all.0.0) refl (passed_refs arguments all.1)
passed_refs ((k, Null) ∷ arguments) all =
    kept_reference k Null arguments (is_reference_kind k) all.0 (ap (λ (v : Value). reference_of v ∷ []) (sym (reference_kind k all.0).null)) (passed_refs arguments all.1)
passed_refs ((k, Name name) ∷ arguments) all =
    kept_reference k (Name name) arguments (is_reference_kind k) all.0 (ap (λ (v : Value). reference_of v ∷ []) (sym ((reference_kind k all.0).name name))) (passed_refs arguments all.1)

filter_one : {X Y : Type 0} (f : X → Y) (x : X) (xs : List X) (b : Bool) (ys : List Y) → ys ≡ map f xs → cond b (f x ∷ ys) ys ≡ map f (cond b (x ∷ xs) xs)
filter_one f x xs true ys is = ap (λ l. f x ∷ l) is
filter_one f x xs false ys is = is

filter_mapped : {X Y : Type 0} (f : X → Y) (test : Y → Bool) (xs : List X) → filter test (map f xs) ≡ map f (filter (λ x. test (f x)) xs)
filter_mapped f test [] = refl
filter_mapped f test (x ∷ xs) = filter_one f x (filter (λ x. test (f x)) xs) (test (f x)) (filter test (map f xs)) (filter_mapped f test xs)

-- there are as many as there are such parameters
pub refs_count : (arguments : List Argument) → AllByRecursion IsPassed arguments → length (value_refs (values_of arguments)) ≡ length (filter is_reference_kind (kinds_of arguments))
refs_count arguments all =
    ap (λ (l : List Reference). length l) (passed_refs arguments all)
    ∙ length-map (filter is_reference arguments) (λ (a : Argument). reference_of (taken_as a))
    ∙ sym (length-map (filter is_reference arguments) (λ (a : Argument). a.0))
    ∙ sym (ap (λ (l : List Kind). length l) (filter_mapped (λ (a : Argument). a.0) is_reference_kind arguments))

-- ---- cells

-- there are as many cells as the kinds say
pub cells_count : (arguments : List Argument) → AllByRecursion IsPassed arguments → length (argument_cells arguments) ≡ sum_by passed_cells (kinds_of arguments)
cells_count [] all = refl
cells_count (argument ∷ arguments) all =
    length-append (passed_of argument.0 argument.1) (argument_cells arguments)
    ∙ ap₂ (λ (a b : ℕ). a + b) (passed_count argument all.0) (cells_count arguments all.1)
    ∙ sym (sum_by-cons passed_cells argument.0 (kinds_of arguments))

-- what is no whole number has none
no_size : (argument : Argument) → IsPassed argument → is_whole argument ≡ false → passed_cells argument.0 ≡ 0
no_size (k, Whole number) passes other = absurd (let bad : true ≡ false = sym passes.0 ∙ other in cc)
no_size (k, Null) passes other = (reference_kind k passes).cells
no_size (k, Name name) passes other = (reference_kind k passes).cells

abbrev sizes : List Argument → ℕ
sizes arguments = sum_by (λ (n : ℕ). n) (map (λ (a : Argument). passed_cells a.0) arguments)

whole_one : (argument : Argument) (arguments : List Argument) → IsPassed argument → (is : Bool) → is_whole argument ≡ is → sizes (filter is_whole arguments) ≡ sum_by passed_cells (kinds_of arguments)
    → sizes (cond is (argument ∷ filter is_whole arguments) (filter is_whole arguments)) ≡ passed_cells argument.0 + sum_by passed_cells (kinds_of arguments)
whole_one argument arguments passes true is later =
    sum_by-cons (λ (n : ℕ). n) (passed_cells argument.0) (map (λ (a : Argument). passed_cells a.0) (filter is_whole arguments)) ∙ ap (λ (n : ℕ). passed_cells argument.0 + n) later
whole_one argument arguments passes false is later =
    let none = no_size argument passes is in
    omega (arith, none, later)

-- those of the whole numbers are all
pub whole_sizes : (arguments : List Argument) → AllByRecursion IsPassed arguments → sizes (filter is_whole arguments) ≡ sum_by passed_cells (kinds_of arguments)
whole_sizes [] all = refl
whole_sizes (argument ∷ arguments) all =
    whole_one argument arguments all.0 (is_whole argument) refl (whole_sizes arguments all.1) ∙ sym (sum_by-cons passed_cells argument.0 (kinds_of arguments))
