-- The code of an accepted set is wide, and each of its machine instructions is one.
use Rattle.std.proofs.Common.{◌≡◌, ℕ, List, [], ◌∷◌, map, filter, length, Some, refl, ap, arith}
use Rattle.std.specs.List.{AllByRecursion, flat_map, sum_by}
use Rattle.std.proofs.lemmas.List.Sums.{sum_by-cons}
use Rattle.std.proofs.lemmas.List.{length-append}
use Rattle.body_form.specs.declared.body.Body.{Body}
use Rattle.class_order.specs.Orders.{ClassOrderIsRight}
use Rattle.jvm_model.specs.declared.plan.Plan.{Plan}
use Rattle.jvm_model.specs.ImageEmission.{Source, code_of}
use Rattle.jvm_model.specs.ImageNumbering.{Field, is_number_field, is_reference_field, static_fields}
use Rattle.jvm_model.specs.ImageNumbering as numbering
use Rattle.typed_machine.specs.TypedRun.{statics_of}
use Rattle.type_safety.specs.Safety.{IsTyped}
use Rattle.type_safety.specs.Starts.{HasStart, StartsFit}
use Rattle.type_safety.proofs.fitting.SetLists.{all_contained}
use Rattle.match_states.specs.MatchedObjects.{field_cells}
use Rattle.match_states.specs.Setting.{IsCompiled, IsCompiledBody, IsWide}
use Rattle.match_code.proofs.EmittedInsns.{insns_in_range}
use Rattle.match_starts.proofs.StartStatics.{statics_start}
use Rattle.body_limits.specs.Limits.{KeepsImageLimits, NumbersAreInRange}
use Rattle.follow_numbers.specs.WideCode.{IsWideCode}
use Rattle.follow_calls.proofs.StaticParts.{all_counted}
use Rattle.set_image.specs.Linked.{Linked, Typed, body_of, bodies_of}
use Rattle.set_compile.specs.Compiled.{SetsCompile}
use Rattle.set_compile.specs.Settings.{setting_of, tables_of, typed_among, world_of}
use Rattle.set_compile.proofs.CompiledSets.{plan_is, set_typed, source_is}
use Rattle.set_compile.proofs.FoundCode.{all_found, own_method}
use Rattle.set_image.specs.LinkRefusals.{IsAccepted}
use Rattle.set_runs.proofs.FieldPlaces.{AreFew, places_fit}
use Rattle.set_runs.proofs.NoRefusals.{IsSmall, IsUnrefused, is_unrefused}

-- what the statics hold, field by field
joined_cells : (items : Field → List ℕ) (size : Field → ℕ) (fields : List Field) → AllByRecursion (λ field. length (items field) ≡ size field) fields → length (flat_map items fields) ≡ sum_by size fields
joined_cells items size [] counted = refl
joined_cells items size (field ∷ fields) counted =
    let first = counted.0 in
    let rest = joined_cells items size fields counted.1 in
    let all = length-append (items field) (flat_map items fields) in
    let sum = sum_by-cons size field fields in
    omega (arith, first, rest, all, sum)

module _ (orders : ClassOrderIsRight) (compile : SetsCompile) (ranges : NumbersAreInRange) (starts : StartsFit) (files : List (List ℕ)) (linked : Linked) (accepted : IsAccepted files linked) where
  pub typed : IsTyped files (world_of linked) (tables_of linked)
  typed = set_typed orders files linked accepted.of_files

  pub compiled : IsCompiled (setting_of linked)
  compiled = compile files linked accepted.of_files

  pub unrefused : IsUnrefused linked
  unrefused = is_unrefused linked accepted.accepted

  -- main is found, and its run starts in a state that fits
  pub start : HasStart (world_of linked) (tables_of linked)
  start = let of = accepted.of_files in let is = of.is_linked in starts files (world_of linked) (tables_of linked) typed is.is_main

  static_counts : AreFew (static_fields linked.classes) 16384
  static_counts =
      let fits = start.fits [] in
      let statics = statics_of linked.classes in
      let counted = all_counted (setting_of linked) [] statics fits.statics start.main in
      let within = unrefused.within in
      let cells = ap length (statics_start (setting_of linked) compiled).cells_are in
      let count = joined_cells (field_cells statics) numbering.field_cells (filter is_number_field (static_fields linked.classes)) counted in
      let most = within.static_cells in
      record { refs = within.static_refs; cells = omega (arith, cells, count, most) }

  abbrev Has : Typed → Type 0
  Has typed = typed_among linked.code (own_method typed) ≡ Some typed

  keeps : (typed : Typed) → Has typed → IsSmall linked typed → IsCompiledBody (setting_of linked) typed.body → KeepsImageLimits (setting_of linked) typed.body
  keeps typed has small body =
      let is = accepted.of_files.is_linked in
      let within = unrefused.within in
      let cells = small.cells in
      let plan = ap (λ (plan : Plan). plan.body) (plan_is linked is orders typed has) in
      let code = ap (λ (source : Source). length (code_of source)) (source_is linked is orders typed has) in
      let bytes = small.bytes in
      let types = within.types in
      let methods = within.methods in
      let selectors = within.selectors in
      record {
        plan = body.plan;
        frame = omega (arith, cells, plan);
        types = omega (arith, types);
        methods = omega (arith, methods);
        selectors = omega (arith, selectors);
        places = places_fit linked.classes static_counts within.layouts;
        code = omega (arith, code, bytes);
      }

  abbrev IsLimited : Body → Type 0
  IsLimited body = KeepsImageLimits (setting_of linked) body × IsWide (setting_of linked) body

  each_limited : (code : List Typed) → AllByRecursion Has code → AllByRecursion (IsSmall linked) code → AllByRecursion (IsCompiledBody (setting_of linked)) (map body_of code) → AllByRecursion IsLimited (map body_of code)
  each_limited [] found small bodies = tt
  each_limited (typed ∷ code) found small bodies = (
    (
      keeps typed found.0 small.0 bodies.0,
      ap (λ (plan : Plan). plan.narrow) (plan_is linked accepted.of_files.is_linked orders typed found.0),
    ),
    each_limited code found.1 small.1 bodies.1,
  )

  all_limited : AllByRecursion IsLimited (bodies_of linked)
  all_limited = each_limited linked.code (all_found linked.classes linked.code accepted.of_files.is_linked.are_bodies) unrefused.small compiled.bodies

  pub wide_code : IsWideCode (setting_of linked)
  wide_code =
      let limited = all_contained IsLimited (bodies_of linked) all_limited in
      record {
        compiled = compiled;
        wide = λ body among. (limited body among).1;
        insns = λ body among. insns_in_range (setting_of linked) compiled body among (ranges files (setting_of linked) typed body among (limited body among).0);
      }
