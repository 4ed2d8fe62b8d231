-- A linked set is compiled.
use Rattle.std.proofs.Common.{◌≡◌, ℕ, List, [], ◌∷◌, map, Some, None, refl, sym, ap, ap₂, subst, ◌∙◌}
use Rattle.std.specs.List.{AllByRecursion}
use Rattle.std.specs.Option.{option_map_or}
use Rattle.body_form.specs.declared.body.Body.{Body}
use Rattle.jvm_model.specs.declared.plan.Plan.{Plan}
use Rattle.jvm_model.specs.ImageEmission.{Source, source_of, method_of}
use Rattle.jvm_model.specs.ImageNumbering.{ids_of}
use Rattle.jvm_model.specs.TypesRight.{IsRight}
use Rattle.jvm_model.specs.WidthsFrame.{plan_of}
use Rattle.mote_model.specs.SplitState.{frame_cells}
use Rattle.type_safety.specs.Safety.{AreTyped, IsSet, PhasesGiveFacts}
use Rattle.type_safety.specs.Safety as safety
use Rattle.match_states.specs.Setting.{IsCompiledBody, plan_for, source_for, table_for}
use Rattle.class_order.specs.Orders.{ClassOrderIsRight}
use Rattle.set_image.specs.Linked.{Linked, IsLinked, IsOfFiles, IsTyped, Typed, body_of, image_in, method_in, source_in}
use Rattle.set_image.specs.Linked as linked_set
use Rattle.set_image.specs.LinkRefusals.{cells_in}
use Rattle.set_compile.specs.Compiled.{SetsCompile}
use Rattle.set_compile.specs.Settings.{no_plan, setting_of, tables_of, typed_among, world_of}
use Rattle.set_compile.proofs.FoundCode.{all_found, own_method}
use Rattle.set_compile.proofs.PlacedMethods.{IsOwn, own_code, placed_method}

module _ (linked : Linked) (is : IsLinked linked) (orders : ClassOrderIsRight) where
  abbrev Has : Typed → Type 0
  Has typed = typed_among linked.code (own_method typed) ≡ Some typed

  table_is : (typed : Typed) → Has typed → table_for (setting_of linked) typed.body ≡ typed.table
  table_is typed has = ap (λ found. option_map_or (λ (typed : Typed). typed.table) found (λ pc. None)) has

  pub plan_is : (typed : Typed) → Has typed → plan_for (setting_of linked) typed.body ≡ linked_set.plan_for typed
  plan_is typed has = ap (λ found. option_map_or linked_set.plan_for found no_plan) has

  pub source_is : (typed : Typed) → Has typed → source_for (setting_of linked) typed.body ≡ source_in linked typed
  source_is typed has =
      ap₂ (λ table plan. source_of typed.body table plan (ids_of (linked_set.numbering_in linked))) (table_is typed has) (plan_is typed has)

  compiled_body : (typed : Typed) → Has typed → IsOwn linked.classes typed → IsCompiledBody (setting_of linked) typed.body
  compiled_body typed has own =
      let source = source_is typed has in
      record {
        plan = plan_is typed has
            ∙ ap₂ (λ table (plan : Plan). plan_of typed.body table plan.narrow) (sym (table_is typed has)) (sym (plan_is typed has));
        method = placed_method linked.classes linked.code is.are_bodies (orders linked.classes is.closed) (image_in linked) (method_in linked) typed refl has own
            ∙ ap (λ (source : Source). Some (method_of source)) (sym source);
        cells = ap (λ found. option_map_or cells_in found 0) has ∙ ap (λ (source : Source). frame_cells (method_of source)) (sym source);
      }

  each_compiled : (code : List Typed) → AllByRecursion Has code → AllByRecursion (IsOwn linked.classes) code → AllByRecursion (IsCompiledBody (setting_of linked)) (map body_of code)
  each_compiled [] found own = tt
  each_compiled (typed ∷ code) found own = (compiled_body typed found.0 own.0, each_compiled code found.1 own.1)

  all_compiled : AllByRecursion (IsCompiledBody (setting_of linked)) (linked_set.bodies_of linked)
  all_compiled =
      each_compiled linked.code (all_found linked.classes linked.code is.are_bodies) (own_code linked.classes linked.code is.are_bodies (orders linked.classes is.closed))

  each_typed : (code : List Typed) → AllByRecursion Has code → AllByRecursion (IsTyped linked.classes) code
      → AllByRecursion (λ (body : Body). IsRight linked.classes body (tables_of linked (safety.method_of body))) (map body_of code)
  each_typed [] found typed = tt
  each_typed (one ∷ code) found typed =
      let least = typed.0 in
      (subst (IsRight linked.classes one.body) (sym (table_is one found.0)) least.right, each_typed code found.1 typed.1)

  are_typed : AreTyped (world_of linked) (tables_of linked)
  are_typed = each_typed linked.code (all_found linked.classes linked.code is.are_bodies) is.are_typed

-- a set of files, with its types, has passed the phases up to that of types
pub set_typed : ClassOrderIsRight → (files : List (List ℕ)) (linked : Linked) → IsOfFiles files linked → safety.IsTyped files (world_of linked) (tables_of linked)
set_typed orders files linked of =
    let is = of.is_linked in
    record {
      records = of.records;
      codes = of.codes;
      closed = is.closed;
      linked = of.links;
      bodies = is.are_bodies;
      types = are_typed linked is orders;
    }

pub sets_compile : PhasesGiveFacts → ClassOrderIsRight → SetsCompile
sets_compile facts orders files linked of =
    let typed = set_typed orders files linked of in
    record {
      typed = record { closed = typed.closed; facts = facts files (world_of linked) (tables_of linked) typed; types = typed.types };
      numbering = refl;
      image = refl;
      bodies = all_compiled linked of.is_linked orders;
    }
