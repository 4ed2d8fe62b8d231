-- What holds of the method of each body of accepted sets holds of each method of their images.
use Rattle.std.proofs.Common.{◌≡◌, List, [], ◌∷◌, filter, Some, None, ap, ap₂, subst}
use Rattle.std.specs.List.{AllByRecursion}
use Rattle.std.specs.Option.{option_map_or}
use Rattle.image_form.specs.declared.record.Image.{Image}
use Rattle.image_form.specs.declared.record.Method.{Method}
use Rattle.body_form.specs.declared.body.Body.{Body}
use Rattle.jvm_model.specs.declared.plan.Plan.{Plan}
use Rattle.jvm_model.specs.ImageEmission.{Source, method_of, source_of}
use Rattle.jvm_model.specs.ImageNumbering.{class_order, ids_of}
use Rattle.jvm_model.specs.TypesRight.{Table}
use Rattle.type_rounds.proofs.tables.Lists.{all_from, all_given}
use Rattle.match_states.specs.Setting.{Setting, source_for}
use Rattle.set_image.specs.Linked.{Linked, Typed, body_of, image_in, in_order, is_of_class, method_in, numbering_in, plan_for, source_in}
use Rattle.set_compile.specs.Settings.{no_plan, setting_of, typed_among}
use Rattle.set_compile.proofs.FoundCode.{all_found, own_method}
use Rattle.set_compile.proofs.KeyedLists.{all_filtered, all_flat}
use Rattle.image_rules.specs.Parts.{BodiesAreAccepted, IsOfAccepted}
use Rattle.image_rules.specs.Rules.{OfEachMethod}

module _ (linked : Linked) where
  abbrev Has : Typed → Type 0
  Has typed = typed_among linked.code (own_method typed) ≡ Some typed

  -- a body is expanded by its own types and layout
  expanded_by : (typed : Typed) → Has typed → source_for (setting_of linked) typed.body ≡ source_in linked typed
  expanded_by typed has =
      ap₂ (λ (table : Table) (plan : Plan). source_of typed.body table plan (ids_of (numbering_in linked)))
      (ap (λ found. option_map_or (λ (typed : Typed). typed.table) found (λ pc. None)) has)
      (ap (λ found. option_map_or plan_for found no_plan) has)

  module _ (Is : Image → Method → Type 0) where
    abbrev IsOfTyped : Typed → Type 0
    IsOfTyped typed = Is (image_in linked) (method_in linked typed)

    each_typed : ((setting : Setting) (body : Body) → IsOfAccepted setting body → Is setting.image (method_of (source_for setting body)))
        → (code : List Typed) → AllByRecursion Has code → AllByRecursion (λ typed. IsOfAccepted (setting_of linked) (body_of typed)) code → AllByRecursion IsOfTyped code
    each_typed each [] found of = tt
    each_typed each (typed ∷ code) found of = (
      subst (λ (source : Source). Is (image_in linked) (method_of source)) (expanded_by typed found.0) (each (setting_of linked) typed.body of.0),
      each_typed each code found.1 of.1,
    )

pub of_each_method : BodiesAreAccepted → (Is : Image → Method → Type 0)
    → ((setting : Setting) (body : Body) → IsOfAccepted setting body → Is setting.image (method_of (source_for setting body)))
    → OfEachMethod Is
of_each_method bodies Is each files linked accepted =
    let of = accepted.of_files in
    let set = of.is_linked in
    let accepted_code = all_from (IsOfAccepted (setting_of linked)) body_of linked.code (bodies files linked accepted) in
    let all = each_typed linked Is each linked.code (all_found linked.classes linked.code set.are_bodies) accepted_code in
    all_given (Is (image_in linked)) (method_in linked) (in_order linked.classes linked.code)
    (all_flat (IsOfTyped linked Is) (λ class. filter (is_of_class class) linked.code)
    (λ class. all_filtered (IsOfTyped linked Is) (is_of_class class) linked.code all) (class_order linked.classes))
