-- A value that passes the test of a declared parameter is one that the parameter takes.
use Rattle.std.proofs.Common.{◌≡◌, inl, inr, ℕ, zero, suc, ◌≤◌, true, List, [], ◌∷◌, map, reverse, length, take, Ok, Err, refl, sym, ap, subst, ◌∙◌, arith}
use Rattle.std.specs.List.{AllByRecursion}
use Rattle.std.proofs.lemmas.Bool.{and_parts}
use Rattle.std.proofs.lemmas.List.{length-reverse, reverse-reverse}
use Rattle.class_pool.specs.declared.descriptor.Kind.{Kind}
use Rattle.class_pool.specs.declared.descriptor.Kind.TheVariants as declared
use Rattle.class_pool.specs.declared.types.TypeBase.{TypeBase}
use Rattle.class_pool.specs.declared.types.TypeBase.TheVariants as base
use Rattle.class_pool.specs.declared.types.TypeRef.{TypeRef}
use Rattle.class_pool.specs.Descriptors.{HasDims}
use Rattle.class_file.specs.declared.record.ClassFile.{ClassFile}
use Rattle.class_tree.specs.Fits.{fits}
use Rattle.image_instr.specs.declared.insn.Kind.TheVariants as kind
use Rattle.body_form.specs.declared.body.Body.{Body}
use Rattle.body_form.specs.declared.types.VType.{VType}
use Rattle.body_form.specs.declared.types.VType.TheVariants as known
use Rattle.jvm_model.specs.Bodies.{AreEach}
use Rattle.jvm_model.specs.Initialisers.{is_whole_kind, is_reference_kind}
use Rattle.jvm_model.specs.Resolution.{Resolved, and_then, base_named, class_named, type_with}
use Rattle.jvm_model.specs.State.{Value}
use Rattle.jvm_model.specs.TypesFrames.{fits_in, fits_kind}
use Rattle.jvm_model.specs.TypesRules.{is_any_reference, takes}
use Rattle.typed_machine.specs.TypedState.{Object}
use Rattle.typed_machine.specs.TypedWorld.{World}
use Rattle.type_safety.specs.Fitting.{IsWhole, ValueFits}
use Rattle.type_safety.proofs.fitting.EachLists.{each_reverse}
use Rattle.match_states.specs.MatchedFrames.{IsOfShape}
use Rattle.follow_operands.proofs.LocalRules.{whole_by, refers_by}
use Rattle.follow_calls.proofs.TurnedArguments.{mapped_reverse, all_turned}
use Rattle.follow_calls.proofs.ParameterKinds.{Passes}

-- ---- by the kind

from_whole : (k : Kind) (value : Value) → is_whole_kind k ≡ true → IsWhole value → Passes k value
from_whole k value is whole = subst (Passes k) (sym whole.1) (is, whole.2)

from_reference : (k : Kind) (value : Value) → is_reference_kind k ≡ true → IsOfShape kind.Ref value → Passes k value
from_reference k value is (inl null) = subst (Passes k) (sym null) is
from_reference k value is (inr name) = subst (Passes k) (sym name.1) is

-- what fits a type is a reference
reference_fits : (files : List ClassFile) (type : VType) (of : TypeRef) → fits files type of ≡ true → is_any_reference type ≡ true
reference_fits files known.Null of is = refl
reference_fits files (known.Ref type) of is = refl
reference_fits files type of is = absurd cc

class_fits : (files : List ClassFile) (type : VType) (found : Resolved ℕ) → fits_in files (and_then (λ of. Ok (type_with 0 of)) (and_then (λ class. Ok (base.Class class)) found)) type ≡ true → is_any_reference type ≡ true
class_fits files type (Ok class) is = reference_fits files type (type_with 0 (base.Class class)) is
class_fits files type (Err why) is = absurd cc

array_fits : (files : List ClassFile) (type : VType) (dims : ℕ) (found : Resolved TypeBase) → 1 ≤ dims → fits_in files (and_then (λ of. Ok (type_with dims of)) found) type ≡ true → is_any_reference type ≡ true
array_fits files type zero found some is = absurd (omega (arith, some))
array_fits files type (suc dims) (Ok of) some is = reference_fits files type (type_with (suc dims) of) is
array_fits files type (suc dims) (Err why) some is = absurd cc

module _ (world : World) (objects : List Object) (body : Body) where
  passes_test : (k : Kind) → HasDims k → (type : VType) (value : Value) → ValueFits world objects body value type → fits_kind world.files k type ≡ true → Passes k value
  passes_test declared.Byte dims type value has is = from_whole declared.Byte value refl (whole_by world objects body type is value has)
  passes_test declared.Char dims type value has is = from_whole declared.Char value refl (whole_by world objects body type is value has)
  passes_test declared.Short dims type value has is = from_whole declared.Short value refl (whole_by world objects body type is value has)
  passes_test declared.Int dims type value has is = from_whole declared.Int value refl (whole_by world objects body type is value has)
  passes_test declared.Boolean dims type value has is = from_whole declared.Boolean value refl (whole_by world objects body type is value has)
  passes_test (declared.Class name) dims type value has is =
      from_reference (declared.Class name) value refl (refers_by world objects body type (class_fits world.files type (class_named world.files name) is) value has)
  passes_test (declared.Array count of) dims type value has is =
      from_reference (declared.Array count of) value refl (refers_by world objects body type (array_fits world.files type count (base_named world.files of) dims.0 is) value has)
  passes_test declared.Double dims type value has is = absurd cc
  passes_test declared.Float dims type value has is = absurd cc
  passes_test declared.Long dims type value has is = absurd cc

  -- ---- each

  abbrev Fits : Value → VType → Type 0
  Fits = ValueFits world objects body

  all_pass : (kinds : List Kind) → AllByRecursion HasDims kinds → (operands : List Value) (stack : List VType) → AreEach Fits operands stack → takes (map (fits_kind world.files) kinds) stack ≡ true
      → AreEach Passes kinds (take (length kinds) operands)
  unfolding takes
  all_pass [] dims operands stack each is = tt
  all_pass (k ∷ kinds) dims operands [] each is = absurd cc
  all_pass (k ∷ kinds) dims [] (type ∷ stack) each is = absurd each
  all_pass (k ∷ kinds) dims (value ∷ operands) (type ∷ stack) each is =
      let parts = and_parts (fits_kind world.files k type) (takes (map (fits_kind world.files) kinds) stack) is in
      (passes_test k dims.0 type value each.0 parts.0, all_pass kinds dims.1 operands stack each.1 parts.1)

  all_there : (kinds : List Kind) (operands : List Value) (stack : List VType) → AreEach Fits operands stack → takes (map (fits_kind world.files) kinds) stack ≡ true → length kinds ≤ length operands
  unfolding takes
  all_there [] operands stack each is = omega arith
  all_there (k ∷ kinds) operands [] each is = absurd cc
  all_there (k ∷ kinds) [] (type ∷ stack) each is = absurd each
  all_there (k ∷ kinds) (value ∷ operands) (type ∷ stack) each is =
      let later = all_there kinds operands stack each.1 (and_parts (fits_kind world.files k type) (takes (map (fits_kind world.files) kinds) stack) is).1 in
      omega (arith, later)

  module _ (params : List Kind) (operands : List Value) (stack : List VType) (each : AreEach Fits operands stack) (is : takes (reverse (map (fits_kind world.files) params)) stack ≡ true) where
    turned_tests : takes (map (fits_kind world.files) (reverse params)) stack ≡ true
    turned_tests = ap (λ tests. takes tests stack) (mapped_reverse (fits_kind world.files) params) ∙ is

    pub enough_operands : length params ≤ length operands
    enough_operands =
        let there = all_there (reverse params) operands stack each turned_tests in
        let count = length-reverse params in
        omega (arith, there, count)

    -- the operands that a call hands on, in order, are such as its parameters take
    pub arguments_pass : AllByRecursion HasDims params → AreEach Passes params (reverse (take (length params) operands))
    arguments_pass dims =
        let some = all_pass (reverse params) (all_turned HasDims params dims) operands stack each turned_tests in
        subst (λ (kinds : List Kind). AreEach Passes kinds (reverse (take (length params) operands))) (reverse-reverse params)
        (each_reverse Passes (reverse params) (take (length params) operands) (subst (λ (n : ℕ). AreEach Passes (reverse params) (take n operands)) (length-reverse params) some))
