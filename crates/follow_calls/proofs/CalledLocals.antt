-- The parameters of a method, beside the arguments that it is called with: its first locals.
use Rattle.std.proofs.Common.{◌≡◌, ℕ, zero, suc, ◌-◌, ◌≤◌, ◌<◌, ◌+◌, Bool, true, false, nat_lt, if◌then◌else◌, List, [], ◌∷◌, map, length, Option, Some, None, option_map, refl, sym, ap, ◌∙◌, arith}
use Rattle.std.specs.Prelude.{slice_get}
use Rattle.std.specs.List.{AllByRecursion}
use Rattle.std.specs.Option.{option_map_or}
use Rattle.std.proofs.lemmas.Bool.Decides.{nat_tests}
use Rattle.std.proofs.lemmas.Option.{none-some, same_Some, slice_get-map, slice_get_within}
use Rattle.class_pool.specs.declared.descriptor.Kind.{Kind}
use Rattle.class_pool.specs.declared.descriptor.Kind.TheVariants as declared
use Rattle.class_pool.specs.declared.types.MemberId.{MemberId}
use Rattle.body_form.specs.declared.body.Body.{Body}
use Rattle.jvm_model.specs.Initialisers.{is_reference_kind}
use Rattle.jvm_model.specs.State.{Value}
use Rattle.jvm_model.specs.WidthsSlots.{parameter_at, is_parameter, is_reference_parameter}
use Rattle.typed_machine.specs.TypedCalls.{frame_for}
use Rattle.typed_machine.specs.TypedState.{Frame}
use Rattle.typed_machine.specs.TypedStep.{local_at}
use Rattle.type_safety.proofs.fitting.EachLists.{of_place}
use Rattle.follow_calls.proofs.FirstLocals.{set_first, TestsAs}
use Rattle.follow_calls.proofs.PairedArguments.{kinds_of, taken_as, is_reference}
use Rattle.follow_calls.proofs.ParameterKinds.{Argument, IsPassed}

-- the object that a method is called on is passed as a reference
abbrev pub receiver_kind : Kind
receiver_kind = declared.Class []

-- the kinds of what a method takes, the object that it is called on first
abbrev pub taken_kinds : Body → List Kind
taken_kinds body = if body.instance then receiver_kind ∷ body.params else body.params

-- a method may be called with these
pub record TakesArguments (body : Body) (arguments : List Argument) : Type 0 where
  pub all : AllByRecursion IsPassed arguments
  pub kinds : kinds_of arguments ≡ taken_kinds body
  pub few : length arguments ≤ body.max_locals

-- ---- by local

abbrev first_in : Bool → ℕ
first_in instance_method = if instance_method then 1 else 0

abbrev kinds_in : Bool → List Kind → List Kind
kinds_in instance_method params = if instance_method then receiver_kind ∷ params else params

abbrev kind_in : Bool → List Kind → ℕ → Option Kind
kind_in instance_method params local = if nat_lt local (first_in instance_method) then None else slice_get params (local - first_in instance_method)

not_below : (local first : ℕ) → first ≤ local → nat_lt local first ≡ false
not_below local first high = grind (arith, nat_tests, high)

module _ {X : Type 0} (f : Kind → X) (none : X) (receiver : f receiver_kind ≡ none) where
  kind_there : (instance_method : Bool) (params : List Kind) (local : ℕ) → option_map_or f (kind_in instance_method params local) none ≡ option_map_or f (slice_get (kinds_in instance_method params) local) none
  kind_there false params local =
      let at : local - 0 ≡ local = omega arith in
      ap (λ (b : Bool). option_map_or f (if b then None else slice_get params (local - 0)) none) (not_below local 0 (omega arith)) ∙ ap (λ (n : ℕ). option_map_or f (slice_get params n) none) at
  kind_there true params zero = sym receiver
  kind_there true params (suc local) =
      let at : suc local - 1 ≡ local = omega arith in
      ap (λ (b : Bool). option_map_or f (if b then None else slice_get params (suc local - 1)) none) (not_below (suc local) 1 (omega arith)) ∙ ap (λ (n : ℕ). option_map_or f (slice_get params n) none) at

reference_there : (instance_method : Bool) (params : List Kind) (local : ℕ)
    → (if nat_lt local (first_in instance_method) then true else option_map_or is_reference_kind (kind_in instance_method params local) false) ≡ option_map_or is_reference_kind (slice_get (kinds_in instance_method params) local) false
reference_there false params local =
    let at : local - 0 ≡ local = omega arith in
    ap (λ (b : Bool). if b then true else option_map_or is_reference_kind (if b then None else slice_get params (local - 0)) false) (not_below local 0 (omega arith))
    ∙ ap (λ (n : ℕ). option_map_or is_reference_kind (slice_get params n) false) at
reference_there true params zero = refl
reference_there true params (suc local) =
    let at : suc local - 1 ≡ local = omega arith in
    ap (λ (b : Bool). if b then true else option_map_or is_reference_kind (if b then None else slice_get params (suc local - 1)) false) (not_below (suc local) 1 (omega arith))
    ∙ ap (λ (n : ℕ). option_map_or is_reference_kind (slice_get params n) false) at

kind_mapped : {X : Type 0} (f : Kind → X) (none : X) (found : Option Argument) → option_map_or f (option_map (λ (a : Argument). a.0) found) none ≡ option_map_or (λ (a : Argument). f a.0) found none
kind_mapped f none None = refl
kind_mapped f none (Some argument) = refl

module _ (body : Body) (arguments : List Argument) (takes : TakesArguments body arguments) where
  by_arguments : {X : Type 0} (f : Kind → X) (none : X) (local : ℕ) → option_map_or f (slice_get (taken_kinds body) local) none ≡ option_map_or (λ (a : Argument). f a.0) (slice_get arguments local) none
  by_arguments f none local =
      ap (λ (kinds : List Kind). option_map_or f (slice_get kinds local) none) (sym takes.kinds)
      ∙ ap (λ (found : Option Kind). option_map_or f found none) (slice_get-map (λ (a : Argument). a.0) arguments local)
      ∙ kind_mapped f none (slice_get arguments local)

  -- what is asked of a parameter is asked of the kind of its argument
  pub parameter_is : {X : Type 0} (f : Kind → X) (none : X) → f receiver_kind ≡ none → (local : ℕ) → option_map_or f (parameter_at body local) none ≡ option_map_or (λ (a : Argument). f a.0) (slice_get arguments local) none
  parameter_is f none receiver local = kind_there f none receiver body.instance body.params local ∙ by_arguments f none local

  pub reference_parameter_is : (local : ℕ) → is_reference_parameter body local ≡ option_map_or is_reference (slice_get arguments local) false
  reference_parameter_is local = reference_there body.instance body.params local ∙ by_arguments is_reference_kind false local

  pub tests_parameter : (is : Kind → Bool) → is receiver_kind ≡ false → TestsAs (is_parameter is body) (λ (a : Argument). is a.0) 0 arguments
  tests_parameter is receiver i = let at : 0 + i ≡ i = omega arith in ap (is_parameter is body) at ∙ parameter_is is false receiver i

  pub tests_reference : TestsAs (is_reference_parameter body) is_reference 0 arguments
  tests_reference i = let at : 0 + i ≡ i = omega arith in ap (is_reference_parameter body) at ∙ reference_parameter_is i

  -- where its argument is known
  module _ (local : ℕ) (argument : Argument) (there : slice_get arguments local ≡ Some argument) where
    pub kind_is : {X : Type 0} (f : Kind → X) (none : X) → f receiver_kind ≡ none → option_map_or f (parameter_at body local) none ≡ f argument.0
    kind_is f none receiver = parameter_is f none receiver local ∙ ap (λ (found : Option Argument). option_map_or (λ (a : Argument). f a.0) found none) there

    pub local_within : local < body.max_locals
    local_within = let low = slice_get_within arguments local argument there in let few = takes.few in omega (arith, low, few)

  -- ---- the new frame of the typed machine

  module _ (method : MemberId) where
    abbrev pub called_frame : Frame
    called_frame = frame_for method body (map taken_as arguments)

    pub local_is : (local : ℕ) → local_at called_frame local ≡ option_map taken_as (slice_get arguments local)
    local_is local = set_first (map taken_as arguments) (body.max_locals - length (map taken_as arguments)) local ∙ slice_get-map taken_as arguments local

    -- a local that is set holds what its parameter takes
    pub record HoldsArgument (local : ℕ) (value : Value) : Type 0 where
      pub argument : Argument
      pub there : slice_get arguments local ≡ Some argument
      pub is : taken_as argument ≡ value
      pub passes : IsPassed argument

    argument_in : (local : ℕ) (value : Value) (found : Option Argument) → slice_get arguments local ≡ found → option_map taken_as found ≡ Some value → HoldsArgument local value
    argument_in local value None there is = absurd (none-some value is)
    argument_in local value (Some argument) there is =
        record { argument = argument; there = there; is = same_Some (taken_as argument) value is; passes = of_place IsPassed arguments local argument takes.all there }

    pub holds_argument : (local : ℕ) (value : Value) → local_at called_frame local ≡ Some value → HoldsArgument local value
    holds_argument local value is = argument_in local value (slice_get arguments local) refl (sym (local_is local) ∙ is)
