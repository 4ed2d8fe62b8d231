-- The image says of two classes which is below which as the set does, where it has above a class what the set has.
use Rattle.std.proofs.Common.{◌≡◌, ℕ, zero, suc, ◌+◌, ◌<◌, Bool, true, false, ◌||◌, nat_eq, inl, inr, List, [], ◌∷◌, map, length, Option, None, refl, sym, ap, ap₂, subst, ◌∙◌, arith, eq-eqb, eqb-true}
use Rattle.std.specs.List.{list_any}
use Rattle.std.specs.Option.{option_map_or}
use Rattle.library.specs.Classes.{first_own}
use Rattle.image_form.specs.declared.record.TypeEntry.{TypeEntry}
use Rattle.class_tree.specs.AccessTests.{is_subclass}
use Rattle.class_tree.specs.DirectSupers.{superclass_of, superinterfaces_of}
use Rattle.class_tree.specs.Set.{IsClass, is_number}
use Rattle.class_tree.specs.Tree.{Gathers}
use Rattle.class_tree.proofs.ancestors.Leading.{or_left, or_right}
use Rattle.class_tree.proofs.ancestors.Superclasses.{next_class}
use Rattle.jvm_model.specs.ImageNumbering.{is_among}
use Rattle.mote_model.specs.SplitTypes.{entry_at, above, elements_of, is_below_by}
use Rattle.match_states.specs.Setting.{Setting}
use Rattle.follow_numbers.proofs.CaughtClasses.{class_id, ClassesAgree}
use Rattle.follow_numbers.proofs.ClassesUp.{supers_of, among_first, any_of, same_test, subclass_up}
use Rattle.follow_numbers.proofs.SupersInside.{super_inside}

-- The classes of a set stand in its image: those directly above a class have lower ids, and stand above its id. No class is
-- an array, each has an id of its own, and the ids are counted.
pub record HasClasses (setting : Setting) : Type 0 where
  pub lower : (class by : ℕ) → IsClass setting.world.files class → is_among by (supers_of setting.world.files class) ≡ true → class_id setting by < class_id setting class
  pub above_is : (class : ℕ) → IsClass setting.world.files class → above setting.image (class_id setting class) ≡ map (class_id setting) (supers_of setting.world.files class)
  pub no_array : (class : ℕ) → IsClass setting.world.files class → (other : Option TypeEntry) → elements_of (entry_at setting.image (class_id setting class)) other ≡ None
  pub apart : (a b : ℕ) → IsClass setting.world.files a → IsClass setting.world.files b → class_id setting a ≡ class_id setting b → a ≡ b
  pub counted : (class : ℕ) → IsClass setting.world.files class → class_id setting class < first_own + length setting.image.types

or_none : (b : Bool) → (b || false) ≡ b
or_none true = refl
or_none false = refl

module _ (setting : Setting) (closed : Gathers setting.world.files None) (has : HasClasses setting) where
  -- each class is below java/lang/Object
  below_object : (steps class : ℕ) → IsClass setting.world.files class → class_id setting class < steps → is_subclass setting.world.files class 0 ≡ true
  below_object zero class is less = absurd (omega (arith, less))
  below_object (suc steps) class is less =
      elim (next_class setting.world.files closed class is) [
        | inl object ↦ subst (λ c. is_subclass setting.world.files c 0 ≡ true) (sym object) refl
        | inr next ↦
            let files = setting.world.files in
            let by = next.0 in
            let among : is_among by (supers_of files class) ≡ true =
            among_first by (superclass_of files class) (superinterfaces_of files class) (ap (is_number by) next.1 ∙ eq-eqb by by refl) in
            let low = has.lower class by is among in
            subclass_up files class 0
            ∙ or_right (nat_eq class 0) (list_any (λ other. is_subclass files other 0) (supers_of files class))
            (any_of (λ other. is_subclass files other 0) by (supers_of files class) among (below_object steps by (super_inside setting.world.files closed by class is among) (omega (arith, low, less))))
      ]

  module _ (upper : ℕ) (known : IsClass setting.world.files upper) where
    any_alike : (test : ℕ → Bool) (numbers : List ℕ) → ((by : ℕ) → is_among by numbers ≡ true → test (class_id setting by) ≡ is_subclass setting.world.files by upper)
        → list_any test (map (class_id setting) numbers) ≡ list_any (λ by. is_subclass setting.world.files by upper) numbers
    any_alike test [] each = refl
    any_alike test (by ∷ numbers) each =
        ap₂ (λ (a b : Bool). a || b) (each by (or_left (nat_eq by by) (is_among by numbers) (eq-eqb by by refl)))
        (any_alike test numbers (λ other among. each other (or_right (nat_eq other by) (is_among other numbers) among)))

    same_ids : (class : ℕ) → IsClass setting.world.files class → nat_eq (class_id setting class) (class_id setting upper) ≡ nat_eq class upper
    same_ids class is =
        same_test (nat_eq (class_id setting class) (class_id setting upper)) (nat_eq class upper)
        (λ same. eq-eqb class upper (has.apart class upper is known (eqb-true (class_id setting class) (class_id setting upper) same)))
        (λ same. eq-eqb (class_id setting class) (class_id setting upper) (ap (class_id setting) (eqb-true class upper same)))

    by_steps : (steps class : ℕ) → IsClass setting.world.files class → class_id setting class < steps → is_below_by setting.image steps (class_id setting class) (class_id setting upper) ≡ is_subclass setting.world.files class upper
    unfolding is_below_by
    by_steps zero class is less = absurd (omega (arith, less))
    by_steps (suc steps) class is less =
        let files = setting.world.files in
        let id = class_id setting class in
        let target = class_id setting upper in
        let supers = supers_of files class in
        let found = elements_of (entry_at setting.image id) (entry_at setting.image target) in
        let test : ℕ → Bool = λ by. is_below_by setting.image steps by target in
        let pairs : Option (ℕ × ℕ) → Bool = λ pair_found. option_map_or (λ (pair : ℕ × ℕ). is_below_by setting.image steps pair.0 pair.1) pair_found false in
        ap (λ (same : Bool). same || (list_any test (above setting.image id) || pairs found)) (same_ids class is)
        ∙ ap (λ (uppers : List ℕ). nat_eq class upper || (list_any test uppers || pairs found)) (has.above_is class is)
        ∙ ap (λ (pair_found : Option (ℕ × ℕ)). nat_eq class upper || (list_any test (map (class_id setting) supers) || pairs pair_found)) (has.no_array class is (entry_at setting.image target))
        ∙ ap (λ (any : Bool). nat_eq class upper || any) (or_none (list_any test (map (class_id setting) supers)))
        ∙ ap (λ (any : Bool). nat_eq class upper || any)
        (any_alike test supers (λ by among. let low = has.lower class by is among in by_steps steps by (super_inside setting.world.files closed by class is among) (omega (arith, low, less))))
        ∙ sym (subclass_up files class upper)

    object_or_other : (class : ℕ) → IsClass setting.world.files class → is_subclass setting.world.files class 0 ≡ true → (object : Bool) → nat_eq (class_id setting upper) 0 ≡ object
        → (object || is_below_by setting.image (first_own + length setting.image.types) (class_id setting class) (class_id setting upper)) ≡ is_subclass setting.world.files class upper
    object_or_other class is below true same =
        let zero_is : upper ≡ 0 = has.apart upper 0 known (inl (omega arith)) (eqb-true (class_id setting upper) 0 same) in
        sym below ∙ ap (is_subclass setting.world.files class) (sym zero_is)
    object_or_other class is below false same = by_steps (first_own + length setting.image.types) class is (has.counted class is)

  pub classes_agree : (class : ℕ) → IsClass setting.world.files class → ClassesAgree setting class
  classes_agree class is upper known =
      object_or_other upper known class is (below_object (suc (class_id setting class)) class is (omega arith)) (nat_eq (class_id setting upper) 0) refl
