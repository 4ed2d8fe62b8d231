-- The numbering of a set, list by list, and which count is the first above its limit.
use Rattle.std.proofs.Common.{◌≡◌, ℕ, ◌+◌, List, Option, None, map, filter, length, sym, ap, subst, ◌∙◌}
use Rattle.std.specs.List.{flat_map}
use Rattle.std.specs.Option.{option_or}
use Rattle.class_pool.specs.declared.types.MemberId.{MemberId}
use Rattle.class_pool.specs.declared.types.TypeRef.{TypeRef}
use Rattle.class_file.specs.declared.record.ClassFile.{ClassFile}
use Rattle.class_tree.specs.Tree.{Gathers}
use Rattle.body_form.specs.declared.body.Body.{Body}
use Rattle.class_tree.proofs.lookups.Climbing.{or_assoc}
use Rattle.jvm_model.specs.declared.numbers.FieldPlace.{FieldPlace}
use Rattle.jvm_model.specs.declared.numbers.Layout.{Layout}
use Rattle.jvm_model.specs.declared.numbers.Selector.{Selector}
use Rattle.jvm_model.specs.Bodies.{AreBodies}
use Rattle.jvm_model.specs.ImageLimits.{excess, first_excess, first_large, file_layouts}
use Rattle.jvm_model.specs.ImageNumbering.{Numbering, numbering_of, class_order, type_order, method_id, layout_of, all_fields, place_of, static_fields, is_reference_field, is_number_field, initial_cells}
use Rattle.infuse_ids.specs.declared.refusal.IdsRefusal.{IdsRefusal}
use Rattle.infuse_ids.specs.Orders.{methods_over, types_over, selectors_over}
use Rattle.infuse_ids.specs.Sizes.{RefusesFor, field_excess, list_excess}
use Rattle.infuse_ids.proofs.ClassBodies.{methods_right}
use Rattle.infuse_ids.proofs.ClassTypes.{types_right}
use Rattle.infuse_ids.proofs.LargeObjects.{refuses_first, refuses_later, none_of_both}

-- a numbering of these lists
abbrev made : List TypeRef → List Selector → List MemberId → List Layout → List FieldPlace → ℕ → List ℕ → ℕ → Numbering
made types selectors methods layouts fields static_refs static_cells main =
    record { types = types; selectors = selectors; methods = methods; layouts = layouts; fields = fields; static_refs = static_refs; static_cells = static_cells; main = main }

module _ (files : List ClassFile) (bodies : List Body) (gathers : Gathers files None) (are : AreBodies files bodies) (main : MemberId) where
  abbrev order : List ℕ
  order = class_order files

  abbrev pub numbering : Numbering
  numbering = numbering_of files bodies main

  -- ---- the lists

  pub numbering_is : (types : List TypeRef) (selectors : List Selector) (methods : List MemberId) (layouts : List Layout) (fields : List FieldPlace) (static_refs : ℕ) (static_cells : List ℕ) (main_id : ℕ)
      → types ≡ types_over order bodies → selectors ≡ selectors_over files order → methods ≡ methods_over order bodies → layouts ≡ map (layout_of files) order
      → fields ≡ map (λ field. record { member = field.member; place = place_of files field }) (all_fields files)
      → static_refs ≡ length (filter is_reference_field (static_fields files)) → static_cells ≡ flat_map (initial_cells files) (filter is_number_field (static_fields files))
      → main_id ≡ method_id methods main → made types selectors methods layouts fields static_refs static_cells main_id ≡ numbering
  numbering_is types selectors methods layouts fields static_refs static_cells main_id t s m l f r c i =
      let method_list = m ∙ sym (methods_right files bodies are) in
      ap (λ (x : List TypeRef). made x selectors methods layouts fields static_refs static_cells main_id) (t ∙ sym (types_right files bodies gathers are))
      ∙ ap (λ (x : List Selector). made numbering.types x methods layouts fields static_refs static_cells main_id) s
      ∙ ap (λ (x : List MemberId). made numbering.types numbering.selectors x layouts fields static_refs static_cells main_id) method_list
      ∙ ap (λ (x : List Layout). made numbering.types numbering.selectors numbering.methods x fields static_refs static_cells main_id) l
      ∙ ap (λ (x : List FieldPlace). made numbering.types numbering.selectors numbering.methods numbering.layouts x static_refs static_cells main_id) f
      ∙ ap (λ (x : ℕ). made numbering.types numbering.selectors numbering.methods numbering.layouts numbering.fields x static_cells main_id) r
      ∙ ap (λ (x : List ℕ). made numbering.types numbering.selectors numbering.methods numbering.layouts numbering.fields numbering.static_refs x main_id) c
      ∙ ap (λ (x : ℕ). made numbering.types numbering.selectors numbering.methods numbering.layouts numbering.fields numbering.static_refs numbering.static_cells x)
      (i ∙ ap (λ (x : List MemberId). method_id x main) method_list)

  -- ---- the limits

  abbrev lists_first : Option (ℕ × ℕ)
  lists_first = list_excess files order bodies

  excess_is : option_or lists_first (field_excess files) ≡ first_excess files numbering
  excess_is =
      let types = excess 2 (32 + length (types_over order bodies)) 4096 in
      let selectors = excess 3 (length (selectors_over files order)) 16384 in
      let methods = excess 4 (32 + length (methods_over order bodies)) 16384 in
      let refs = excess 5 (length (filter is_reference_field (static_fields files))) 16384 in
      let cells = excess 6 (length (flat_map (initial_cells files) (filter is_number_field (static_fields files)))) 16384 in
      let large = first_large (file_layouts files) in
      let rest = option_or refs (option_or cells large) in
      or_assoc types (option_or selectors methods) (field_excess files)
      ∙ ap (option_or types) (or_assoc selectors methods (field_excess files))
      ∙ ap (λ (o : Option (ℕ × ℕ)). option_or types (option_or selectors (option_or methods o))) (or_assoc refs cells large)
      ∙ ap (λ (x : List TypeRef). option_or (excess 2 (32 + length x) 4096) (option_or selectors (option_or methods rest))) (sym (types_right files bodies gathers are))
      ∙ ap (λ (x : List MemberId). option_or (excess 2 (32 + length (type_order files bodies)) 4096) (option_or selectors (option_or (excess 4 (32 + length x) 16384) rest))) (sym (methods_right files bodies are))

  -- a refusal of a list, or of what fields need, is the first one
  pub lists_refused : (why : IdsRefusal) → RefusesFor lists_first why → RefusesFor (first_excess files numbering) why
  lists_refused why r = subst (λ (found : Option (ℕ × ℕ)). RefusesFor found why) excess_is (refuses_first lists_first (field_excess files) why r)

  pub fields_refused : (why : IdsRefusal) → lists_first ≡ None → RefusesFor (field_excess files) why → RefusesFor (first_excess files numbering) why
  fields_refused why none r = subst (λ (found : Option (ℕ × ℕ)). RefusesFor found why) excess_is (refuses_later lists_first (field_excess files) why none r)

  pub all_within : lists_first ≡ None → field_excess files ≡ None → first_excess files numbering ≡ None
  all_within none also = sym excess_is ∙ none_of_both lists_first (field_excess files) none also
