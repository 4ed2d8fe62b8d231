-- The class of each body of a closed set has a number, and what holds of the bodies of each class holds of all.
use Rattle.std.proofs.Common.{◌≡◌, inl, inr, ℕ, ◌≤◌, Bool, true, false, ◌||◌, nat_eq, cond, List, [], ◌∷◌, filter, None, sym, ap, subst, ◌∙◌}
use Rattle.std.specs.List.{AllByRecursion}
use Rattle.std.proofs.lemmas.Bool.{false≢true}
use Rattle.std.proofs.lemmas.Bool.Decides.{Decides-eqb, eqb_tells}
use Rattle.library.specs.Classes.{first_own}
use Rattle.class_pool.specs.declared.types.MemberId.{MemberId}
use Rattle.class_file.specs.declared.record.ClassFile.{ClassFile}
use Rattle.class_tree.specs.Set.{IsClass}
use Rattle.class_tree.specs.Tree.{Gathers}
use Rattle.body_form.specs.declared.body.Body.{Body}
use Rattle.jvm_model.specs.Bodies.{AreBodies, AreEach, Coded, IsBody, coded_methods}
use Rattle.jvm_model.specs.ImageNumbering.{class_order, is_among}
use Rattle.class_order.proofs.ClassOrders.{right_order}
use Rattle.class_order.proofs.SetClasses.{has_file}
use Rattle.type_rounds.proofs.tables.Lists.{all_both, all_from, all_map}
use Rattle.set_laws.proofs.CodedMethods.{StandsIn, methods_stand}
use Rattle.infuse_ids.specs.Orders.{method_of_body}
use Rattle.infuse_ids.proofs.ClassBodies.{own_classes}

-- ---- classes of bodies

of_set : (files : List ClassFile) (codeds : List Coded) (bodies : List Body) → AllByRecursion (StandsIn files) codeds → AreEach (IsBody files) codeds bodies
    → AllByRecursion (λ (body : Body). IsClass files body.class) bodies
of_set files [] [] stand are = tt
of_set files [] (body ∷ bodies) stand are = absurd are
of_set files (coded ∷ codeds) [] stand are = tt
of_set files (coded ∷ codeds) (body ∷ bodies) stand are =
    let same = are.0.class in
    (subst (IsClass files) (sym same) stand.0.class, of_set files codeds bodies stand.1 are.1)

pub all_numbered : (files : List ClassFile) (bodies : List Body) → Gathers files None → AreBodies files bodies
    → AllByRecursion (λ (body : Body). is_among body.class (class_order files) ≡ true) bodies
all_numbered files bodies gathers are =
    all_both (λ (body : Body). first_own ≤ body.class) (λ (body : Body). IsClass files body.class) (λ (body : Body). is_among body.class (class_order files) ≡ true)
    (λ body own is. (right_order files gathers).each body.class (has_file files body.class is own)) bodies
    (all_from (λ (m : MemberId). first_own ≤ m.class) method_of_body bodies (own_classes files bodies are))
    (of_set files (coded_methods files) bodies (methods_stand files) are)

-- ---- items by their classes

module _ {X : Type 0} (class_of : X → ℕ) (P : X → Type 0) where
  -- it holds of the items of a class
  abbrev pub HoldsIn : List X → ℕ → Type 0
  HoldsIn items class = AllByRecursion P (filter (λ (x : X). nat_eq class (class_of x)) items)

  less : (x : X) (items : List X) (class : ℕ) → HoldsIn (x ∷ items) class → HoldsIn items class
  less x items class all = by (nat_eq class (class_of x)) all
    where
      by : (b : Bool) → (let rest = filter (λ (y : X). nat_eq class (class_of y)) items in AllByRecursion P (cond b (x ∷ rest) rest)) → HoldsIn items class
      by true all = all.1
      by false all = all

  first : (x : X) (items : List X) (order : List ℕ) → AllByRecursion (HoldsIn (x ∷ items)) order → is_among (class_of x) order ≡ true → P x
  first x items [] all among = absurd (false≢true among)
  first x items (class ∷ order) all among =
      let rest = filter (λ (y : X). nat_eq class (class_of y)) items in
      elim (eqb_tells (class_of x) class) [
        | inl same ↦ (subst (λ (b : Bool). AllByRecursion P (cond b (x ∷ rest) rest)) ((Decides-eqb class (class_of x)).1 (sym same.1)) all.0).0
        | inr other ↦ first x items order all.1 (sym (ap (λ b. b || is_among (class_of x) order) other.0) ∙ among)
      ]

  pub all_parts : (order : List ℕ) (items : List X) → AllByRecursion (HoldsIn items) order → AllByRecursion (λ (x : X). is_among (class_of x) order ≡ true) items
      → AllByRecursion P items
  all_parts order [] all among = tt
  all_parts order (x ∷ items) all among =
      (first x items order all among.0, all_parts order items (all_map (HoldsIn (x ∷ items)) (HoldsIn items) (less x items) order all) among.1)
