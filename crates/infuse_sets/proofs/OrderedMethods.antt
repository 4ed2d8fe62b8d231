-- The methods of laid out bodies, class by class.
use Rattle.std.proofs.Common.{◌≡◌, ℕ, ◌<◌, true, List, [], ◌∷◌, ◌++◌, map, filter, Option, None, refl, sym, ap, subst, ◌∙◌, arith}
use Rattle.std.specs.List.{AllByRecursion, flat_map}
use Rattle.std.proofs.lemmas.List.{get_or-map, length-map, map-append}
use Rattle.std.proofs.lemmas.Simd.{map-map}
use Rattle.class_file.specs.declared.record.ClassFile.{ClassFile}
use Rattle.class_tree.specs.Tree.{Gathers}
use Rattle.image_form.specs.declared.record.Method.{Method}
use Rattle.body_form.specs.declared.body.Body.{Body}
use Rattle.jvm_model.specs.declared.refusal.Refusal.{Refusal}
use Rattle.jvm_model.specs.Bodies.{AreBodies}
use Rattle.jvm_model.specs.ImageNumbering.{class_order, is_among}
use Rattle.type_rounds.proofs.tables.Lists.{all_from}
use Rattle.set_image.specs.Linked.{Typed, in_order, is_of_class}
use Rattle.set_image.specs.LinkRefusals.{first_of}
use Rattle.infuse_ids.specs.Orders.{AreByClass}
use Rattle.infuse_ids.proofs.ClassBodies.{are_by_class, filter_map_same}
use Rattle.infuse_sets.specs.declared.laid.LaidBody.{LaidBody}
use Rattle.infuse_sets.specs.LaidBodies.{are_laid_by_class, is_laid_in, laid_as}
use Rattle.infuse_sets.proofs.BodyRefusals.{first_seen}
use Rattle.infuse_sets.proofs.FirstRefusals.{none_of_all}
use Rattle.infuse_sets.proofs.NumberedBodies.{HoldsIn, all_numbered, all_parts}

abbrev pub laid_body : LaidBody → Body
laid_body one = (laid_as one).body

abbrev pub laid_class : LaidBody → ℕ
laid_class one = let body = laid_body one in body.class

-- what their bodies are in the order of, they are
sorted : (laid : List LaidBody) → AreByClass (map laid_body laid) → are_laid_by_class laid
sorted laid by_class i j d le lt =
    let class : Body → ℕ = λ body. body.class in
    let first = ap class (get_or-map laid_body laid i d (laid_body d) (omega (arith, le, lt))) in
    let second = ap class (get_or-map laid_body laid j d (laid_body d) lt) in
    let below = by_class i j (laid_body d) le (subst (λ n. j < n) (sym (length-map laid laid_body)) lt) in
    omega (arith, first, second, below)

-- ---- methods

module _ (method : Typed → Method) (laid : List LaidBody) where
  -- those of a class
  abbrev pub methods_in : ℕ → List Method
  methods_in class = map (λ (one : LaidBody). method (laid_as one)) (filter (is_laid_in class) laid)

  of_class : (class : ℕ) → map method (filter (is_of_class class) (map laid_as laid)) ≡ methods_in class
  of_class class = ap (map method) (filter_map_same (is_of_class class) laid_as laid) ∙ map-map method laid_as (filter (is_laid_in class) laid)

  over_classes : (order : List ℕ) → map method (flat_map (λ class. filter (is_of_class class) (map laid_as laid)) order) ≡ flat_map methods_in order
  over_classes [] = refl
  over_classes (class ∷ order) =
      let rest = flat_map (λ class. filter (is_of_class class) (map laid_as laid)) order in
      map-append method (filter (is_of_class class) (map laid_as laid)) rest
      ∙ ap (λ (methods : List Method). methods ++ map method rest) (of_class class)
      ∙ ap (λ (methods : List Method). methods_in class ++ methods) (over_classes order)

  -- those of all classes are those of all bodies in order
  pub all_methods : (files : List ClassFile) → flat_map methods_in (class_order files) ≡ map method (in_order files (map laid_as laid))
  all_methods files = sym (over_classes (class_order files))

-- ---- the bodies of a set

module _ (files : List ClassFile) (laid : List LaidBody) (gathers : Gathers files None) (are : AreBodies files (map laid_body laid)) where
  pub laid_by_class : are_laid_by_class laid
  laid_by_class = sorted laid (are_by_class files (map laid_body laid) are)

  -- where those of no class have a refusal, none has one
  pub none_refused : (refusal : Typed → Option Refusal) → AllByRecursion (HoldsIn laid_class (λ one. refusal (laid_as one) ≡ None) laid) (class_order files)
      → first_of refusal (map laid_as laid) ≡ None
  none_refused refusal all =
      first_seen refusal laid_as laid
      ∙ none_of_all (λ one. refusal (laid_as one)) laid
      (all_parts laid_class (λ one. refusal (laid_as one) ≡ None) (class_order files) laid all
      (all_from (λ (body : Body). is_among body.class (class_order files) ≡ true) laid_body laid (all_numbered files (map laid_body laid) gathers are)))
