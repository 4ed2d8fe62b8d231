-- The types of classes, each once.
use Rattle.std.proofs.Common.{◌≡◌, ℕ, Bool, true, false, ◌||◌, nat_eq, cond, List, [], ◌∷◌, ◌++◌, map, None, refl, sym, ap, ◌∙◌}
use Rattle.std.specs.List.{fold, list_any, flat_map}
use Rattle.std.proofs.lemmas.List.{append-nil, append_assoc, map-append}
use Rattle.std.proofs.lemmas.List.Folds.{list_any-append}
use Rattle.class_pool.specs.declared.types.TypeRef.{TypeRef}
use Rattle.class_file.specs.declared.record.ClassFile.{ClassFile}
use Rattle.class_tree.specs.Subtypes.{class_type}
use Rattle.class_tree.specs.Tree.{Gathers}
use Rattle.body_form.specs.declared.body.Body.{Body}
use Rattle.jvm_model.specs.Bodies.{AreBodies}
use Rattle.jvm_model.specs.ImageNumbering.{is_among, is_type, with_type, with_body, class_order, type_order}
use Rattle.infuse_ids.specs.Orders.{bodies_of_class, class_types, types_over}
use Rattle.infuse_ids.proofs.ClassBodies.{bodies_right}
use Rattle.class_order.proofs.ClassOrders.{right_order}

not_both : (a b : Bool) → (a || b) ≡ false → a ≡ false
not_both false b e = refl
not_both true b e = cc

among_types : (class : ℕ) (classes : List ℕ) → list_any (is_type (class_type class)) (map class_type classes) ≡ is_among class classes
among_types class [] = refl
among_types class (other ∷ classes) = ap (λ b. nat_eq class other || b) (among_types class classes)

-- no class is there twice
abbrev IsOnce : List ℕ → Type 0
IsOnce order = (before after : List ℕ) (class : ℕ) → order ≡ before ++ class ∷ after → is_among class (before ++ after) ≡ false

module _ (order : List ℕ) (once : IsOnce order) where
  types_from : (before after : List ℕ) → order ≡ before ++ after → fold with_type (map class_type before) (map class_type after) ≡ map class_type order
  types_from before [] e = ap (map class_type) (sym (e ∙ append-nil before))
  types_from before (class ∷ after) e =
      let types = map class_type before in
      let new : list_any (is_type (class_type class)) types ≡ false =
      among_types class before
      ∙ not_both (is_among class before) (is_among class after) (sym (list_any-append (nat_eq class) before after) ∙ once before after class e)
      in
      ap (λ b. fold with_type (cond b types (types ++ class_type class ∷ [])) (map class_type after)) new
      ∙ ap (λ (ts : List TypeRef). fold with_type ts (map class_type after)) (sym (map-append class_type before (class ∷ [])))
      ∙ types_from (before ++ class ∷ []) after (e ∙ sym (append_assoc before (class ∷ []) after))

  pub each_once : class_types order ≡ map class_type order
  each_once = types_from [] order refl

-- the types of a set, over its classes in order
pub types_right : (files : List ClassFile) (bodies : List Body) → Gathers files None → AreBodies files bodies → type_order files bodies ≡ types_over (class_order files) bodies
types_right files bodies gathers are =
    let order = class_order files in
    ap (fold with_body (map class_type order)) (bodies_right files bodies are)
    ∙ ap (λ (types : List TypeRef). fold with_body types (flat_map (bodies_of_class bodies) order)) (sym (each_once order (right_order files gathers).once))
