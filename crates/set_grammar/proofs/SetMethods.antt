-- The methods of the image of an accepted set are of the grammar.
use Rattle.std.proofs.Common.{◌≡◌, ℕ, ◌≤◌, Bool, true, false, nat_lt, if◌then◌else◌, List, [], ◌∷◌, filter, length, map, Option, Some, None, option_map, refl, sym, ap, subst, arith}
use Rattle.std.specs.List.{AllByRecursion, Contains}
use Rattle.std.proofs.lemmas.Bool.{ltb-false}
use Rattle.std.proofs.lemmas.Option.{none-some}
use Rattle.image_form.specs.declared.record.HandlerEntry.{HandlerEntry}
use Rattle.image_form.specs.declared.record.TypeEntry.{TypeEntry}
use Rattle.image_form.specs.Grammar.{Each, IsHandler, IsMethod}
use Rattle.body_form.specs.declared.body.Body.{Body}
use Rattle.body_form.specs.declared.body.Guard.{Guard}
use Rattle.jvm_model.specs.declared.refusal.Cause.TheVariants as cause
use Rattle.jvm_model.specs.declared.refusal.Refusal.{Refusal}
use Rattle.jvm_model.specs.ImageEmission.{handler_of, handlers_of, most_code_bytes}
use Rattle.jvm_model.specs.ImageNumbering.{class_order}
use Rattle.jvm_model.specs.Phases.{saturated}
use Rattle.jvm_model.specs.TypesRight.{IsRight}
use Rattle.jvm_model.specs.WidthsFrame.{most_frame_cells}
use Rattle.jvm_model.specs.WidthsShapes.{widths_of}
use Rattle.type_rounds.proofs.tables.Lists.{all_both, all_filter, all_from, all_given, all_map}
use Rattle.type_safety.specs.Facts.{BodyFacts}
use Rattle.type_safety.proofs.fitting.SetLists.{all_contained, contains_all}
use Rattle.body_limits.specs.Limits.{HasFewParameters, ParametersAreFew}
use Rattle.set_image.specs.Linked.{Linked, IsOfFiles, IsTyped, Typed, bodies_of, body_of, image_in, in_order, is_of_class, method_in, numbering_in, source_in}
use Rattle.set_image.specs.LinkRefusals.{bytes_in, cells_in, first_outside, form_refusal, frame_refusal, length_refusal, refusal_of_body}
use Rattle.set_compile.specs.Compiled.{SetsCompile}
use Rattle.set_compile.specs.Settings.{tables_of, world_of}
use Rattle.set_compile.proofs.KeyedLists.{all_flat}
use Rattle.set_image.specs.LinkRefusals.{IsAccepted}
use Rattle.set_grammar.specs.Parts.{HasMethods, OfEachImage}
use Rattle.set_grammar.proofs.DeclaredLocals.{arguments_within}
use Rattle.set_grammar.proofs.EachItems.{each_of_all}
use Rattle.set_grammar.proofs.MethodCounts.{methods_fit}
use Rattle.set_grammar.proofs.MethodSignatures.{is_signature}
use Rattle.set_image.proofs.NoRefusals.{no_refusal}
use Rattle.set_grammar.proofs.PassedArguments.{cells_cover, slots_cover}
use Rattle.set_grammar.proofs.SomeCode.{some_code}
use Rattle.set_grammar.proofs.TypedSets.{is_typed}

-- ---- refusals

not_above : (limit count : ℕ) (why : Refusal) → (if nat_lt limit count then Some why else None) ≡ None → count ≤ limit
not_above limit count why none = by (nat_lt limit count) refl none
  where
    by : (above : Bool) → nat_lt limit count ≡ above → (if above then Some why else None) ≡ None → count ≤ limit
    by true is none = absurd (none-some why (sym none))
    by false is none = ltb-false limit count is

-- ---- handlers

none_stands : (guards : List Guard) → nat_lt 0 (length guards) ≡ false → guards ≡ []
none_stands [] none = refl
none_stands (guard ∷ guards) none = absurd (let few = ltb-false 0 (length (guard ∷ guards)) none in omega (arith, few))

no_handlers : (body : Body) → form_refusal body ≡ None → body.handlers ≡ []
no_handlers body none = none_stands body.handlers (by (nat_lt 0 (length body.handlers)) (first_outside body.ops) none)
  where
    by : (some : Bool) (outside : Option ℕ) → option_map (λ pc. refusal_of_body cause.Unbuilt body pc 0) (if some then Some 0 else outside) ≡ None → some ≡ false
    by true outside none = absurd (none-some (refusal_of_body cause.Unbuilt body 0 0) (sym none))
    by false outside none = refl

-- ---- a method

module _ (linked : Linked) (types : List TypeEntry) where
  -- what a typed body of an accepted set keeps to
  record IsKept (typed : Typed) : Type 0 where
    pub formed : form_refusal typed.body ≡ None
    pub framed : frame_refusal typed ≡ None
    pub limited : length_refusal (numbering_in linked) typed ≡ None
    pub right : IsRight linked.classes typed.body typed.table
    pub facts : BodyFacts (world_of linked) typed.body
    pub few : HasFewParameters typed.body

  is_method : (typed : Typed) → IsKept typed → IsMethod types (method_in linked typed)
  is_method typed is =
      let body = typed.body in
      let source = source_in linked typed in
      let widths = widths_of [] typed.table body.ops in
      let facts = is.facts in
      let room = arguments_within linked.classes body typed.table is.right facts.first in
      let frame = not_above most_frame_cells (cells_in typed) (refusal_of_body cause.FrameTooLarge body 0 (cells_in typed)) is.framed in
      let bytes = bytes_in (numbering_in linked) typed in
      let code = not_above most_code_bytes bytes (refusal_of_body cause.CodeTooLong body 0 (saturated bytes)) is.limited in
      let none : handlers_of source ≡ [] = ap (λ (guards : List Guard). filter (λ (handler : HandlerEntry). nat_lt handler.start handler.end) (map (handler_of source) guards)) (no_handlers body is.formed) in
      record {
        sig_is = is_signature body is.few;
        refs_cover = slots_cover body room;
        cells_cover = cells_cover body room widths;
        locals_fit = omega arith;
        body_fits = omega (arith, frame);
        code_some = some_code (world_of linked) source facts is.right;
        code_fits = omega (arith, code);
        handlers_fit = let few = ap (λ (handlers : List HandlerEntry). length handlers) none in omega (arith, few);
        handlers_are = subst (Each (IsHandler types)) (sym none) tt;
      }

-- ---- all of them

module _ (compile : SetsCompile) (parameters : ParametersAreFew) (files : List (List ℕ)) (linked : Linked) (is : IsAccepted files linked) where
  abbrev of : IsOfFiles files linked
  of = is.of_files

  abbrev Keeps : Typed → Type 0
  Keeps typed = IsKept linked (image_in linked).types typed

  keeps : (typed : Typed) → Contains linked.code typed → Contains (bodies_of linked) typed.body → Keeps typed
  keeps typed there in_set =
      let none = no_refusal linked is.accepted in
      let set = of.is_linked in
      let compiled = compile files linked of in
      let typed_is = all_contained (IsTyped linked.classes) linked.code set.are_typed typed there in
      record {
        formed = all_contained (λ body. form_refusal body ≡ None) (bodies_of linked) none.forms typed.body in_set;
        framed = all_contained (λ typed. frame_refusal typed ≡ None) linked.code none.frames typed there;
        limited = all_contained (λ typed. length_refusal (numbering_in linked) typed ≡ None) linked.code none.lengths typed there;
        right = typed_is.right;
        facts = compiled.typed.facts typed.body in_set;
        few = parameters files (world_of linked) (tables_of linked) (is_typed compile files linked of) typed.body in_set;
      }

  code_keeps : AllByRecursion Keeps linked.code
  code_keeps =
      all_both (Contains linked.code) (λ typed. Contains (bodies_of linked) (body_of typed)) Keeps keeps linked.code (contains_all linked.code)
      (all_from (Contains (bodies_of linked)) body_of linked.code (contains_all (bodies_of linked)))

  -- in the order of the ids of their methods
  abbrev ordered : List Typed
  ordered = in_order linked.classes linked.code

  ordered_keeps : AllByRecursion Keeps ordered
  ordered_keeps = all_flat Keeps (λ class. filter (is_of_class class) linked.code) (λ class. all_filter Keeps (is_of_class class) linked.code code_keeps) (class_order linked.classes)

  some_methods : HasMethods (image_in linked)
  some_methods =
      let types = (image_in linked).types in
      record {
        fit = methods_fit linked of.is_linked (no_refusal linked is.accepted);
        are = each_of_all (IsMethod types) (map (method_in linked) ordered)
            (all_given (IsMethod types) (method_in linked) ordered (all_map Keeps (λ typed. IsMethod types (method_in linked typed)) (is_method linked types) ordered ordered_keeps));
      }

pub methods_are : SetsCompile → ParametersAreFew → OfEachImage HasMethods
methods_are compile parameters files linked is = some_methods compile parameters files linked is
