-- The references of a method's new frame: its slots hold those of its arguments, and the others are null.
use Rattle.std.proofs.Common.{◌≡◌, ℕ, ◌+◌, ◌-◌, Bool, true, false, ◌&&◌, ◌||◌, not, List, ◌++◌, map, filter, length, replicate, Option, Some, None, option_map, refl, sym, ap, ap₂, ◌∙◌, length-append, arith}
use Rattle.std.specs.Prelude.{slice_get}
use Rattle.std.specs.Option.{option_map_or}
use Rattle.std.proofs.lemmas.Bool.{and_parts}
use Rattle.std.proofs.lemmas.List.{length-map, map-append}
use Rattle.class_pool.specs.declared.types.MemberId.{MemberId}
use Rattle.insn_form.specs.declared.ValueKind.TheVariants as value_kind
use Rattle.body_form.specs.declared.body.Body.{Body}
use Rattle.jvm_model.specs.State.{Value, Name}
use Rattle.jvm_model.specs.WidthsSlots.{is_reference_parameter, is_stored, locals_of, reference_locals, slot_of, slot_count}
use Rattle.mote_model.specs.State.{Reference}
use Rattle.typed_machine.specs.TypedState.{Frame}
use Rattle.typed_machine.specs.TypedStep.{local_at}
use Rattle.match_states.specs.MatchedFrames.{reference_of, local_reference}
use Rattle.type_safety.proofs.fitting.EachLists.{of_place}
use Rattle.follow_numbers.specs.WideCode.{value_refs}
use Rattle.follow_operands.proofs.ReferenceSlots.{has_slot}
use Rattle.follow_calls.proofs.CalledLocals.{TakesArguments, reference_parameter_is, tests_reference, local_within, called_frame, local_is, holds_argument}
use Rattle.follow_calls.proofs.FirstLocals.{taken_in_order, null_where}
use Rattle.follow_calls.proofs.PairedArguments.{values_of, taken_as, is_reference, passed_refs}
use Rattle.follow_calls.proofs.TakenValues.{names_nothing, names_object}
use Rattle.follow_calls.proofs.ParameterKinds.{Argument, IsPassed}

module _ (body : Body) (arguments : List Argument) (takes : TakesArguments body arguments) (method : MemberId) where
  abbrev frame : Frame
  frame = called_frame body arguments takes method

  -- ---- the slots of parameters

  abbrev names : ℕ → Reference
  names local = local_reference frame local

  names_argument : (local : ℕ) (argument : Argument) → slice_get arguments local ≡ Some argument → names local ≡ reference_of (taken_as argument)
  names_argument local argument there =
      ap (λ (found : Option Value). option_map_or reference_of found None) (local_is body arguments takes method local)
      ∙ ap (λ (found : Option Argument). option_map_or reference_of (option_map taken_as found) None) there

  first_slots : map names (filter (is_reference_parameter body) (locals_of body)) ≡ value_refs (values_of arguments)
  first_slots =
      taken_in_order (is_reference_parameter body) is_reference names (λ (a : Argument). reference_of (taken_as a)) 0 body.max_locals arguments takes.few (tests_reference body arguments takes)
      (λ i argument there. let at : 0 + i ≡ i = omega arith in ap names at ∙ names_argument i argument there)
      ∙ sym (passed_refs arguments takes.all)

  -- ---- the other slots

  abbrev is_other : ℕ → Bool
  is_other local = not (is_reference_parameter body local) && is_stored value_kind.Ref body local

  nothing_in : (local : ℕ) (found : Option Argument) → slice_get arguments local ≡ found → option_map_or is_reference found false ≡ false → names local ≡ None
  nothing_in local None there other =
      ap (λ (found : Option Value). option_map_or reference_of found None) (local_is body arguments takes method local)
      ∙ ap (λ (found : Option Argument). option_map_or reference_of (option_map taken_as found) None) there
  nothing_in local (Some argument) there other = names_argument local argument there ∙ names_nothing argument (of_place IsPassed arguments local argument takes.all there) other

  not_true : (b : Bool) → not b ≡ true → b ≡ false
  not_true true is = cc
  not_true false is = refl

  other_null : (local : ℕ) → is_other local ≡ true → names local ≡ None
  other_null local is =
      let plain = not_true (is_reference_parameter body local) (and_parts (not (is_reference_parameter body local)) (is_stored value_kind.Ref body local) is).0 in
      let found = slice_get arguments local in
      nothing_in local found refl (sym (reference_parameter_is body arguments takes local) ∙ plain)

  -- ---- all slots

  pub slots_hold : value_refs (values_of arguments) ++ replicate (slot_count body - length (value_refs (values_of arguments))) None ≡ map names (reference_locals body)
  slots_hold =
      let refs = value_refs (values_of arguments) in
      let first = filter (is_reference_parameter body) (locals_of body) in
      let second = filter is_other (locals_of body) in
      let first_count : length refs ≡ length first = sym (ap (λ (l : List Reference). length l) first_slots) ∙ length-map first names in
      let both = length-append first second in
      let rest : slot_count body - length refs ≡ length second = omega (arith, first_count, both) in
      ap (λ (n : ℕ). refs ++ replicate n None) rest
      ∙ ap₂ (λ (a b : List Reference). a ++ b) (sym first_slots) (sym (null_where names is_other other_null (locals_of body)))
      ∙ sym (map-append names first second)

  -- a local that names an object has a slot
  pub object_slot : (local name : ℕ) → local_at frame local ≡ Some (Name name) → (slot : ℕ) × (slot_of body local ≡ Some slot)
  object_slot local name is =
      let holds = holds_argument body arguments takes method local (Name name) is in
      let low = local_within body arguments takes local holds.argument holds.there in
      let reference = names_object holds.argument holds.passes name holds.is in
      let parameter : is_reference_parameter body local ≡ true =
      reference_parameter_is body arguments takes local ∙ ap (λ (found : Option Argument). option_map_or is_reference found false) holds.there ∙ reference in
      has_slot body local low (ap (λ (b : Bool). b || is_stored value_kind.Ref body local) parameter)
