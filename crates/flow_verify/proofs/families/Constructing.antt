-- The object on which a constructor is called.
use Rattle.std.proofs.Common.{◌≡◌, ℕ, zero, suc, List, [], ◌∷◌, ◌++◌, Bool, true, if◌then◌else◌, length, map, drop, append-nil, Some, None, slice_get, refl, sym, ap, ◌∙◌}
use Rattle.std.proofs.lemmas.List.{length-map, length-reverse}
use Rattle.class_file.specs.declared.record.ClassFile.{ClassFile}
use Rattle.body_form.specs.declared.body.Body.{Body}
use Rattle.body_form.specs.declared.op.MethodUse.{MethodUse}
use Rattle.body_form.specs.declared.types.VFrame.{VFrame}
use Rattle.body_form.specs.declared.types.VType.{VType}
use Rattle.body_form.specs.declared.types.VType.TheVariants as known
use Rattle.jvm_model.specs.TypesFrames.{fits_kind}
use Rattle.jvm_model.specs.TypesRules.{argument_tests, construct, construct_on, takes}
use Rattle.flow_verify.specs.declared.need.Need.{Need}
use Rattle.flow_verify.specs.Needs.{test_of, tests_of}

module _ (files : List ClassFile) (body : Body) (frame : VFrame) (used : MethodUse) where
  on_top : (object : VType) (rest : List VType) → construct_on files body frame used (object ∷ rest) ≡ construct_on files body frame used (object ∷ [])
  on_top known.Top rest = refl
  on_top known.Int rest = refl
  on_top known.Null rest = refl
  on_top (known.Ref type) rest = refl
  on_top (known.New pc) rest = refl
  on_top known.This rest = refl

  -- the object is the operand at a position
  pub object_at : (stack : List VType) (i : ℕ) (object : VType) → slice_get stack i ≡ Some object → construct_on files body frame used (drop i stack) ≡ construct_on files body frame used (object ∷ [])
  object_at [] i object e = cc
  object_at (a ∷ stack) zero object e = let same : a ≡ object = cc in on_top a stack ∙ ap (λ o. construct_on files body frame used (o ∷ [])) same
  object_at (a ∷ stack) (suc i) object e = object_at stack i object e

  pub no_object : (stack : List VType) (i : ℕ) → slice_get stack i ≡ None → construct_on files body frame used (drop i stack) ≡ None
  no_object [] zero e = refl
  no_object [] (suc i) e = refl
  no_object (a ∷ stack) zero e = cc
  no_object (a ∷ stack) (suc i) e = no_object stack i e

  -- the arguments pass, and the object is below them
  pub constructed : (needs : List Need) → tests_of files needs ≡ argument_tests files used ++ [] → takes (tests_of files needs) frame.stack ≡ true
      → construct_on files body frame used (drop (length needs) frame.stack) ≡ construct files body frame used
  constructed needs same passes =
      let tests : tests_of files needs ≡ argument_tests files used = same ∙ append-nil (argument_tests files used) in
      let count : length needs ≡ length used.descriptor.params =
      sym (length-map needs (test_of files)) ∙ ap length tests ∙ length-reverse (map (fits_kind files) used.descriptor.params) ∙ length-map used.descriptor.params (fits_kind files) in
      ap (λ n. construct_on files body frame used (drop n frame.stack)) count
      ∙ sym (ap (λ b. if b then construct_on files body frame used (drop (length used.descriptor.params) frame.stack) else None) (ap (λ (ts : List (VType → Bool)). takes ts frame.stack) (sym tests) ∙ passes))
