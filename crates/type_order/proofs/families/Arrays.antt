-- The rule by which a reference is read of an array.
use Rattle.std.proofs.Common.{◌≡◌, ◌-◌, Bool, true, false, ◌&&◌, nat_le, inr, List, [], ◌∷◌, Some, refl, ap, subst}
use Rattle.std.specs.List.{AllByRecursion, AllZip}
use Rattle.std.proofs.lemmas.Bool.{and_parts}
use Rattle.class_pool.specs.declared.types.TypeRef.{TypeRef}
use Rattle.class_file.specs.declared.record.ClassFile.{ClassFile}
use Rattle.insn_form.specs.declared.ElementKind.TheVariants as element
use Rattle.body_form.specs.declared.types.VFrame.{VFrame}
use Rattle.body_form.specs.declared.types.VType.{VType}
use Rattle.body_form.specs.declared.types.VType.TheVariants.{Null, Ref}
use Rattle.class_tree.specs.Subtypes.{IsType}
use Rattle.class_tree.specs.Merge.{is_reference, merge_refs}
use Rattle.class_tree.specs.MergeLaws.{IsKnown}
use Rattle.class_tree.proofs.merging.RefParts.{has_dims}
use Rattle.jvm_model.specs.TypesFrames.{is_int, may_be_operand, IsKnownFrame}
use Rattle.jvm_model.specs.TypesRules.{Change, changed, takes, is_this, component_of, is_array_of, element_of, array_load}
use Rattle.type_order.proofs.families.Pairs.{AreOrdered, IsOperandPair, ArePaired}
use Rattle.type_order.proofs.families.Tests.{same_ref, components, int_downward, array_of_downward, tests_pass}
use Rattle.type_order.proofs.families.Moves.{StepsTo, IsRule, plain_known, plain_step}

-- an index and an array
abbrev index_and_array : List (VType → Bool)
index_and_array = is_int ∷ is_array_of element.Ref ∷ []

-- the second of two operands that are taken is an array
taken_array : (index array : VType) (stack : List VType) → takes index_and_array (index ∷ array ∷ stack) ≡ true → is_array_of element.Ref array ≡ true
unfolding takes
taken_array index array stack e =
    let rest = (and_parts (is_int index) (is_array_of element.Ref array && true) e).1 in
    (and_parts (is_array_of element.Ref array) true rest).0

module _ (files : List ClassFile) where
  component_known : (type : TypeRef) → IsType files type → (nat_le 1 type.dims && is_reference (type.dims - 1) type.base) ≡ true → IsType files (component_of type)
  component_known type known e = (known.0, has_dims (type.dims - 1) type.base (and_parts (nat_le 1 type.dims) (is_reference (type.dims - 1) type.base) e).1)

  element_known : (type : VType) → IsKnown files type → is_array_of element.Ref type ≡ true → IsKnown files (element_of type)
  element_known (Ref type) known e = component_known type known e
  element_known type known e = tt

  -- what is read of an array is above what is read of one below it
  element_ordered : (u l : VType) → AreOrdered files u l → is_array_of element.Ref u ≡ true → AreOrdered files (element_of u) (element_of l)
  element_ordered Null Null ordered e = ordered
  element_ordered Null (Ref t) ordered e = let f = ordered.above in cc
  element_ordered (Ref s) Null ordered e = record { upper_known = component_known s ordered.upper_known e; lower_known = tt; above = refl }
  element_ordered (Ref s) (Ref t) ordered e =
      let are = components files s.dims s.base t.dims t.base (same_ref (merge_refs files s.dims s.base t.dims t.base) s ordered.above) e in
      record { upper_known = component_known s ordered.upper_known e; lower_known = component_known t ordered.lower_known are.lower; above = ap Ref are.above }
  element_ordered (Ref s) l ordered e = let f = ordered.above in cc
  element_ordered u l ordered e = cc

  element_operand : (type : VType) → may_be_operand (element_of type) ≡ true
  element_operand (Ref type) = refl
  element_operand type = refl

  element_lacks : (type : VType) → is_this (element_of type) ≡ false
  element_lacks (Ref type) = refl
  element_lacks type = refl

  element_pair : (pending : Bool) (u l : VType) → AreOrdered files u l → is_array_of element.Ref u ≡ true → IsOperandPair files pending (element_of u) (element_of l)
  element_pair pending u l ordered e = record { ordered = element_ordered u l ordered e; allows = element_operand u; lacks = inr (element_lacks l) }

  load_known : (frame : VFrame) (stack : List VType) → frame.stack ≡ stack → (change : Change) → IsKnownFrame files frame → AllByRecursion (IsKnown files) stack
      → array_load frame element.Ref stack ≡ Some change → IsKnownFrame files (changed change frame)
  load_known frame [] is change known all e = cc
  load_known frame (index ∷ []) is change known all e = cc
  load_known frame (index ∷ array ∷ stack) is change known all e =
      plain_known files frame index_and_array (element_of array ∷ []) change known
      (λ taken. (element_known array all.1.0 (taken_array index array stack (subst (λ s. takes index_and_array s ≡ true) is taken)), tt)) e

  load_step : (upper lower : VFrame) → ArePaired files upper lower → (us ls : List VType) → upper.stack ≡ us → AllZip (IsOperandPair files lower.pending) us ls → (change : Change)
      → array_load upper element.Ref us ≡ Some change → StepsTo files (array_load lower element.Ref ls) (changed change upper) lower
  load_step upper lower pairs [] ls is zip change e = cc
  load_step upper lower pairs (i ∷ []) ls is zip change e = cc
  load_step upper lower pairs (i ∷ a ∷ us) [] is zip change e = absurd zip
  load_step upper lower pairs (i ∷ a ∷ us) (j ∷ []) is zip change e = absurd zip.1
  load_step upper lower pairs (i ∷ a ∷ us) (j ∷ b ∷ ls) is zip change e =
      plain_step files upper lower pairs index_and_array index_and_array (element_of a ∷ []) (element_of b ∷ []) change
      (tests_pass files lower.pending index_and_array (int_downward files, (array_of_downward files element.Ref, tt)))
      (λ taken. (element_pair lower.pending a b zip.1.0.ordered (taken_array i a us (subst (λ s. takes index_and_array s ≡ true) is taken)), tt)) e

  pub reference_load_rule : IsRule files (λ frame. array_load frame element.Ref frame.stack)
  reference_load_rule =
      record {
        known = λ frame change known e. load_known frame frame.stack refl change known known.stack e;
        step = λ upper lower change pairs e. load_step upper lower pairs upper.stack lower.stack refl pairs.stack change e;
      }
