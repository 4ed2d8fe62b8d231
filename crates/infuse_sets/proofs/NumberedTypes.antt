-- The numbers of a set without a count above its limit fit the tables of its image.
use Rattle.std.proofs.Common.{◌≡◌, ◌⊎◌, inl, inr, ℕ, zero, suc, Bool, true, false, cond, List, [], ◌∷◌, ◌++◌, map, slice_get, Option, Some, None, option_map, sym, ap, ◌∙◌, arith}
use Rattle.std.specs.List.{fold, list_any}
use Rattle.std.specs.Option.{option_map_or}
use Rattle.std.proofs.lemmas.Option.{none-some, same_Some, slice_get-map}
use Rattle.class_pool.specs.declared.types.MemberId.{MemberId}
use Rattle.class_pool.specs.declared.types.TypeBase.{TypeBase}
use Rattle.class_pool.specs.declared.types.TypeBase.TheVariants as base
use Rattle.class_pool.specs.declared.types.TypeRef.{TypeRef}
use Rattle.class_file.specs.declared.record.ClassFile.{ClassFile}
use Rattle.class_tree.specs.Subtypes.{class_type}
use Rattle.class_tree.specs.Tree.{Gathers}
use Rattle.body_form.specs.declared.body.Body.{Body}
use Rattle.jvm_model.specs.ImageLimits.{first_excess}
use Rattle.jvm_model.specs.ImageNumbering.{bodies_in_order, class_order, is_among, is_type, layout_of, numbering_of, shown_by, type_order, with_arrays, with_body, with_shown, with_type}
use Rattle.class_order.proofs.AmongNumbers.{among_here, among_right}
use Rattle.class_order.proofs.ClassOrders.{right_order}
use Rattle.class_order.proofs.SetClasses.{file_within, is_file}
use Rattle.set_image.proofs.CountLimits.{are_within}
use Rattle.infuse_tables.specs.Tables.{AreClasses, FitTables, HasLayout}

-- ---- lists

-- an item of a list with one more is one of the list, or that one
one_more : {X : Type 0} (xs : List X) (y : X) (i : ℕ) (x : X) → slice_get (xs ++ y ∷ []) i ≡ Some x → (slice_get xs i ≡ Some x) ⊎ (y ≡ x)
one_more [] y zero x is = inr (same_Some y x is)
one_more [] y (suc i) x is = absurd (none-some x is)
one_more (z ∷ xs) y zero x is = inl is
one_more (z ∷ xs) y (suc i) x is = one_more xs y i x is

among_at : (numbers : List ℕ) (i n : ℕ) → slice_get numbers i ≡ Some n → is_among n numbers ≡ true
among_at [] i n is = absurd (none-some n is)
among_at (m ∷ numbers) zero n is = ap (λ l. is_among n (l ∷ numbers)) (same_Some m n is) ∙ among_here n numbers
among_at (m ∷ numbers) (suc i) n is = among_right n (m ∷ []) numbers (among_at numbers i n is)

-- ---- the classes among the types

abbrev class_in : TypeBase → ℕ
class_in (base.Class class) = class
class_in of = 0

same_class : (first second : ℕ) → class_type first ≡ class_type second → first ≡ second
same_class first second is = ap (λ (type : TypeRef). class_in type.base) is

no_array : (of : TypeBase) (dims class : ℕ) → (let array : TypeRef = record { dims = suc dims; base = of } in array ≡ class_type class) → ⊥
no_array of dims class is = let none : suc dims ≡ 0 = ap (λ (type : TypeRef). type.dims) is in omega (arith, none)

module _ (order : List ℕ) where
  -- a type that is a class stands where the class stands in the order
  abbrev pub Follow : List TypeRef → Type 0
  Follow types = (position class : ℕ) → slice_get types position ≡ Some (class_type class) → slice_get order position ≡ Some class

  array_follows : (of : TypeBase) (dims : ℕ) (types : List TypeRef) → Follow types → Follow (with_type types (record { dims = suc dims; base = of }))
  array_follows of dims types follow = by (list_any (is_type array) types)
    where
      array : TypeRef
      array = record { dims = suc dims; base = of }

      by : (there : Bool) → Follow (cond there types (types ++ array ∷ []))
      by true = follow
      by false =
          λ position class is.
          elim (one_more types array position (class_type class) is) [ inl before ↦ follow position class before | inr last ↦ absurd (no_array of dims class last) ]

  arrays_follow : (of : TypeBase) (dims : ℕ) (types : List TypeRef) → Follow types → Follow (with_arrays of dims types)
  unfolding with_arrays
  arrays_follow of zero types follow = follow
  arrays_follow of (suc dims) types follow = array_follows of dims (with_arrays of dims types) (arrays_follow of dims types follow)

  option_follows : (shown : Option TypeRef) (types : List TypeRef) → Follow types → Follow (option_map_or (λ (type : TypeRef). with_arrays type.base type.dims types) shown types)
  option_follows None types follow = follow
  option_follows (Some type) types follow = arrays_follow type.base type.dims types follow

  fold_follows : {X : Type 0} (step : List TypeRef → X → List TypeRef) → ((types : List TypeRef) (x : X) → Follow types → Follow (step types x)) → (xs : List X) (types : List TypeRef)
      → Follow types → Follow (fold step types xs)
  fold_follows step each [] types follow = follow
  fold_follows step each (x ∷ xs) types follow = fold_follows step each xs (step types x) (each types x follow)

  classes_follow : Follow (map class_type order)
  classes_follow position class is = by (slice_get order position) (sym (slice_get-map class_type order position) ∙ is)
    where
      by : (found : Option ℕ) → option_map class_type found ≡ Some (class_type class) → found ≡ Some class
      by None is = absurd (none-some (class_type class) is)
      by (Some other) is = ap (λ n. Some n) (same_class other class (same_Some (class_type other) (class_type class) is))

  bodies_follow : (bodies : List Body) → Follow (fold with_body (map class_type order) bodies)
  bodies_follow bodies =
      fold_follows with_body (λ types body follow. fold_follows with_shown (λ types x follow. option_follows (shown_by x.1) types follow) body.ops types follow) bodies
      (map class_type order) classes_follow

-- ---- the numbers of a set

module _ (files : List ClassFile) (bodies : List Body) (main : MemberId) (gathers : Gathers files None) where
  follow : Follow (class_order files) (type_order files bodies)
  follow = bodies_follow (class_order files) (bodies_in_order files bodies)

  are_classes : AreClasses files (numbering_of files bodies main)
  are_classes position class is =
      let own = (right_order files gathers).only class (among_at (class_order files) position class (follow position class is)) in
      inr (is_file files class own, file_within files class own)

  have_layouts : HasLayout files (numbering_of files bodies main)
  have_layouts position class is = slice_get-map (layout_of files) (class_order files) position ∙ ap (option_map (layout_of files)) (follow position class is)

  pub fit_tables : first_excess files (numbering_of files bodies main) ≡ None → FitTables files (numbering_of files bodies main)
  fit_tables none =
      let within = are_within files (numbering_of files bodies main) none in
      let types = within.types in
      let methods = within.methods in
      let selectors = within.selectors in
      record { types = omega (arith, types); methods = omega (arith, methods); selectors = omega (arith, selectors); classes = are_classes; layouts = have_layouts }
