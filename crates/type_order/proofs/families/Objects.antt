-- Rules on objects that are not yet constructed: fields that a constructor writes, calls of constructors, new objects.
use Rattle.std.proofs.Common.{◌≡◌, ℕ, suc, ◌⊎◌, Bool, true, false, ◌&&◌, ◌||◌, nat_eq, inl, inr, List, [], ◌∷◌, map, drop, length, Some, None, if◌then◌else◌, refl, sym, ap, subst, subst₂, ap₂, ◌∙◌}
use Rattle.std.specs.List.{AllByRecursion, AllZip, list_any}
use Rattle.std.proofs.lemmas.Bool.{cases_Bool, false≢true, and_parts, and_from, or_cases, or_left, or_right, or_parts, or_from, eqb-true, eq-eqb}
use Rattle.std.proofs.lemmas.Option.{cond_some, same_Some}
use Rattle.class_file.specs.declared.record.ClassFile.{ClassFile}
use Rattle.body_form.specs.declared.body.Body.{Body}
use Rattle.body_form.specs.declared.op.FieldUse.{FieldUse}
use Rattle.body_form.specs.declared.op.MethodUse.{MethodUse}
use Rattle.body_form.specs.declared.types.VFrame.{VFrame}
use Rattle.body_form.specs.declared.types.VType.{VType}
use Rattle.body_form.specs.declared.types.VType.TheVariants.{Top, Ref, New, This}
use Rattle.class_tree.specs.Set.{IsClass}
use Rattle.class_tree.specs.Subtypes.{class_type}
use Rattle.class_tree.specs.Tree.{Gathers}
use Rattle.class_tree.specs.Merge.{merge}
use Rattle.class_tree.specs.MergeLaws.{IsKnown}
use Rattle.jvm_model.specs.TypesFrames.{may_be_local, may_be_operand, fits_kind, IsKnownFrame}
use Rattle.jvm_model.specs.TypesRules.{Change, changed, is_same_object, renamed_one, is_this, fits_class, is_written, takes, argument_tests, makes_class, op_at, is_own_or_super, construct_on, construct, make}
use Rattle.type_order.proofs.families.Pairs.{IsPair, IsLocalPair, IsOperandPair, ArePaired, zip_drop, zip_map, pair_itself}
use Rattle.type_order.proofs.families.Tests.{IsDownward, Passes, class_downward, arguments_downward, tests_reverse, tests_pass, takes_lower}
use Rattle.type_order.proofs.families.Moves.{StepsTo, IsRule, all_drop, where_true, where_false, step_where, step_unless}

-- ---- objects that are not yet constructed

-- An object that is not yet constructed: what is below it is the same object, what is above it is that or Top.
record IsUnmade (files : List ClassFile) (object : VType) : Type 0 where
  itself : is_same_object object object ≡ true
  same : (type : VType) → is_same_object object type ≡ true → type ≡ object
  below : (lower : VType) → merge files object lower ≡ object → lower ≡ object
  above : (upper : VType) → merge files upper object ≡ upper → is_same_object object upper ≡ false → upper ≡ Top

this_same : (type : VType) → is_same_object This type ≡ true → type ≡ This
this_same This e = refl
this_same type e = cc

this_lacks : (type : VType) → is_same_object This type ≡ false → is_this type ≡ false
this_lacks This e = cc
this_lacks type e = refl

new_same : (pc : ℕ) (type : VType) → is_same_object (New pc) type ≡ true → type ≡ New pc
new_same pc (New other) e = ap New (sym (eqb-true pc other e))
new_same pc type e = cc

new_is : (b : Bool) (pc : ℕ) → (if b then New pc else Top) ≡ New pc → b ≡ true
new_is true pc e = refl
new_is false pc e = cc

-- a type that may be put in the place of an object, beside itself and beside Top
record IsPut (files : List ClassFile) (allowed : VType → Bool) (pending : Bool) (type : VType) : Type 0 where
  itself : IsPair files allowed pending type type
  top : merge files Top type ≡ Top

module _ (files : List ClassFile) where
  this_downward : IsDownward files is_this
  this_downward This This ordered e = refl
  this_downward This lower ordered e = let f = ordered.above in cc
  this_downward upper lower ordered e = cc

  this_below : (lower : VType) → merge files This lower ≡ This → lower ≡ This
  this_below This e = refl
  this_below lower e = cc

  this_above : (upper : VType) → merge files upper This ≡ upper → is_same_object This upper ≡ false → upper ≡ Top
  this_above Top e other = refl
  this_above This e other = cc
  this_above upper e other = cc

  this_unmade : IsUnmade files This
  this_unmade = record { itself = refl; same = this_same; below = this_below; above = this_above }

  new_below : (pc : ℕ) (lower : VType) → merge files (New pc) lower ≡ New pc → lower ≡ New pc
  new_below pc (New other) e = ap New (sym (eqb-true pc other (new_is (nat_eq pc other) pc e)))
  new_below pc lower e = cc

  new_above : (pc : ℕ) (upper : VType) → merge files upper (New pc) ≡ upper → is_same_object (New pc) upper ≡ false → upper ≡ Top
  new_above pc Top e other = refl
  new_above pc (New at) e other =
      let same : at ≡ pc = eqb-true at pc (new_is (nat_eq at pc) at e) in
      absurd (false≢true (sym other ∙ eq-eqb pc at (sym same)))
  new_above pc upper e other = cc

  new_unmade : (pc : ℕ) → IsUnmade files (New pc)
  new_unmade pc = record { itself = eq-eqb pc pc refl; same = new_same pc; below = new_below pc; above = new_above pc }

  -- ---- renames

  module _ (object to : VType) where
    renamed_known : IsKnown files to → (type : VType) → IsKnown files type → IsKnown files (renamed_one object to type)
    renamed_known known type is =
        elim (cases_Bool (is_same_object object type)) [
          | inl same ↦ subst (λ b. IsKnown files (if b then to else type)) (sym same) known
          | inr other ↦ subst (λ b. IsKnown files (if b then to else type)) (sym other) is
        ]

    all_renamed : IsKnown files to → (types : List VType) → AllByRecursion (IsKnown files) types → AllByRecursion (IsKnown files) (map (renamed_one object to) types)
    all_renamed known [] all = tt
    all_renamed known (type ∷ types) all = (renamed_known known type all.0, all_renamed known types all.1)

    module _ (unmade : IsUnmade files object) (allowed : VType → Bool) (before after : Bool) (put : IsPut files allowed after to) where
      renamed_with : (u l : VType) → IsPair files allowed before u l → (is_same_object object l ≡ false → (after ≡ true) ⊎ (is_this l ≡ false)) → (first second : Bool)
          → is_same_object object u ≡ first → is_same_object object l ≡ second → IsPair files allowed after (if first then to else u) (if second then to else l)
      renamed_with u l pair lacks true true one two = put.itself
      renamed_with u l pair lacks true false one two =
          let same : u ≡ object = unmade.same u one in
          let here : l ≡ object = unmade.below l (subst (λ x. merge files x l ≡ x) same pair.ordered.above) in
          absurd (false≢true (sym two ∙ ap (is_same_object object) here ∙ unmade.itself))
      renamed_with u l pair lacks false true one two =
          let here : l ≡ object = unmade.same l two in
          let top : u ≡ Top = unmade.above u (subst (λ x. merge files u x ≡ u) here pair.ordered.above) one in
          record {
            ordered = record {
              upper_known = pair.ordered.upper_known;
              lower_known = put.itself.ordered.lower_known;
              above = subst (λ x. merge files x to ≡ x) (sym top) put.top;
            };
            allows = pair.allows;
            lacks = put.itself.lacks;
          }
      renamed_with u l pair lacks false false one two = record { ordered = pair.ordered; allows = pair.allows; lacks = lacks two }

      renamed_pair : (u l : VType) → IsPair files allowed before u l → (is_same_object object l ≡ false → (after ≡ true) ⊎ (is_this l ≡ false))
          → IsPair files allowed after (renamed_one object to u) (renamed_one object to l)
      renamed_pair u l pair lacks = renamed_with u l pair lacks (is_same_object object u) (is_same_object object l) refl refl

  -- ---- calls of constructors

  abbrev built : ℕ → VType → ℕ → Bool → Change
  built pops object class pending = record { pops = pops; renames = Some (object, Ref (class_type class)); stores = None; pushes = []; pending = pending }

  built_known : (pops : ℕ) (object : VType) (class : ℕ) (pending : Bool) → IsClass files class → (frame : VFrame) → IsKnownFrame files frame → IsKnownFrame files (changed (built pops object class pending) frame)
  built_known pops object class pending inside frame known =
      let type = Ref (class_type class) in
      record {
        locals = all_renamed object type (inside, tt) frame.locals known.locals;
        stack = all_renamed object type (inside, tt) (drop pops frame.stack) (all_drop (IsKnown files) pops frame.stack known.stack);
      }

  construct_on_known : (body : Body) (frame : VFrame) (used : MethodUse) (stack : List VType) (change : Change) → IsClass files body.class → IsClass files used.class → IsKnownFrame files frame
      → construct_on files body frame used stack ≡ Some change → IsKnownFrame files (changed change frame)
  construct_on_known body frame used (New pc ∷ stack) change own named known e =
      let pops = suc (length used.descriptor.params) in
      let is = cond_some (makes_class used.class (op_at body.ops pc)) (built pops (New pc) used.class frame.pending) change e in
      subst (λ c. IsKnownFrame files (changed c frame)) is.1 (built_known pops (New pc) used.class frame.pending named frame known)
  construct_on_known body frame used (This ∷ stack) change own named known e =
      let pops = suc (length used.descriptor.params) in
      let is = cond_some (is_own_or_super files body.class used.class) (built pops This body.class false) change e in
      subst (λ c. IsKnownFrame files (changed c frame)) is.1 (built_known pops This body.class false own frame known)
  construct_on_known body frame used stack change own named known e = cc

  module _ (gathers : Gathers files None) where
    class_put : (allowed : VType → Bool) (pending : Bool) (class : ℕ) → allowed (Ref (class_type class)) ≡ true → IsClass files class → IsPut files allowed pending (Ref (class_type class))
    class_put allowed pending class allows inside = record { itself = pair_itself files gathers allowed pending (Ref (class_type class)) (inside, tt) allows refl; top = refl }

    -- what a call of a constructor leads to, in a frame and in one below it
    built_step : (upper lower : VFrame) → ArePaired files upper lower → (object : VType) → IsUnmade files object → (class : ℕ) → IsClass files class → (pops : ℕ) (above after : Bool)
        → (above || after) ≡ above → ((l : VType) → (lower.pending ≡ true) ⊎ (is_this l ≡ false) → is_same_object object l ≡ false → (after ≡ true) ⊎ (is_this l ≡ false))
        → StepsTo files (Some (built pops object class after)) (changed (built pops object class above) upper) lower
    built_step upper lower pairs object unmade class inside pops above after pending lacks =
        let to = Ref (class_type class) in
        let one = class_put may_be_local after class refl inside in
        let other = class_put may_be_operand after class refl inside in
        record {
          change = built pops object class after;
          is = refl;
          pairs = record {
            locals = zip_map (IsLocalPair files lower.pending) (IsLocalPair files after) (renamed_one object to) (renamed_one object to)
                (λ u l pair. renamed_pair object to unmade may_be_local lower.pending after one u l pair (lacks l pair.lacks)) upper.locals lower.locals pairs.locals;
            stack = zip_map (IsOperandPair files lower.pending) (IsOperandPair files after) (renamed_one object to) (renamed_one object to)
                (λ u l pair. renamed_pair object to unmade may_be_operand lower.pending after other u l pair (lacks l pair.lacks))
                (drop pops upper.stack) (drop pops lower.stack) (zip_drop (IsOperandPair files lower.pending) pops upper.stack lower.stack pairs.stack);
            pending = pending;
          };
        }

    construct_on_step : (body : Body) (used : MethodUse) → IsClass files body.class → IsClass files used.class → (upper lower : VFrame) → ArePaired files upper lower
        → (us ls : List VType) → AllZip (IsOperandPair files lower.pending) us ls → (change : Change) → construct_on files body upper used us ≡ Some change
        → StepsTo files (construct_on files body lower used ls) (changed change upper) lower
    construct_on_step body used own named upper lower pairs (New pc ∷ us) (l ∷ ls) zip change e =
        let pops = suc (length used.descriptor.params) in
        let makes = makes_class used.class (op_at body.ops pc) in
        let is = cond_some makes (built pops (New pc) used.class upper.pending) change e in
        let here : l ≡ New pc = new_below pc l zip.0.ordered.above in
        subst (λ x. StepsTo files (construct_on files body lower used (x ∷ ls)) (changed change upper) lower) (sym here)
        (subst (λ c. StepsTo files (if makes then Some (built pops (New pc) used.class lower.pending) else None) (changed c upper) lower) is.1
        (step_where files makes (Some (built pops (New pc) used.class lower.pending)) (changed (built pops (New pc) used.class upper.pending) upper) lower is.0
        (built_step upper lower pairs (New pc) (new_unmade pc) used.class named pops upper.pending lower.pending pairs.pending (λ x lacks other. lacks))))
    construct_on_step body used own named upper lower pairs (This ∷ us) (l ∷ ls) zip change e =
        let pops = suc (length used.descriptor.params) in
        let may = is_own_or_super files body.class used.class in
        let is = cond_some may (built pops This body.class false) change e in
        let here : l ≡ This = this_below l zip.0.ordered.above in
        subst (λ x. StepsTo files (construct_on files body lower used (x ∷ ls)) (changed change upper) lower) (sym here)
        (subst (λ c. StepsTo files (if may then Some (built pops This body.class false) else None) (changed c upper) lower) is.1
        (step_where files may (Some (built pops This body.class false)) (changed (built pops This body.class false) upper) lower is.0
        (built_step upper lower pairs This this_unmade body.class own pops false false refl (λ x lacks other. inr (this_lacks x other)))))
    construct_on_step body used own named upper lower pairs (u ∷ us) [] zip change e = absurd zip
    construct_on_step body used own named upper lower pairs us ls zip change e = cc

    pub construct_rule : (body : Body) (used : MethodUse) → IsClass files body.class → IsClass files used.class → IsRule files (λ frame. construct files body frame used)
    construct_rule body used own named =
        let tests = argument_tests files used in
        let count = length used.descriptor.params in
        record {
          known = λ frame change known e.
              construct_on_known body frame used (drop count frame.stack) change own named known (where_true (takes tests frame.stack) (construct_on files body frame used (drop count frame.stack)) change e).1;
          step = λ upper lower change pairs e.
              let R : VType → VType → Type 0 = IsOperandPair files lower.pending in
              let is = where_true (takes tests upper.stack) (construct_on files body upper used (drop count upper.stack)) change e in
              let pass = tests_pass files lower.pending tests (tests_reverse files (map (fits_kind files) used.descriptor.params) (arguments_downward files gathers used.descriptor.params)) in
              step_where files (takes tests lower.stack) (construct_on files body lower used (drop count lower.stack)) (changed change upper) lower
              (takes_lower files lower.pending tests tests upper.stack lower.stack pass pairs.stack is.0)
              (construct_on_step body used own named upper lower pairs (drop count upper.stack) (drop count lower.stack) (zip_drop R count upper.stack lower.stack pairs.stack) change is.1);
        }

    -- ---- fields that a constructor writes

    pub written_passes : (body : Body) (used : FieldUse) (upper lower : VFrame) → Passes files lower.pending (is_written files body upper used) (is_written files body lower used)
    written_passes body used upper lower u l pair e =
        let declares = nat_eq used.field.class body.class in
        let fits_lower = fits_class files used.class l in
        let own = is_this l && (lower.pending && declares) in
        elim (or_cases (fits_class files used.class u) (is_this u && (upper.pending && declares)) e) [
          | inl fits_upper ↦ or_left fits_lower own (class_downward files gathers used.class u l pair.ordered fits_upper)
          | inr is ↦
              let parts = and_parts (is_this u) (upper.pending && declares) is in
              let this = this_downward u l pair.ordered parts.0 in
              let pending : lower.pending ≡ true = elim pair.lacks [ inl is_pending ↦ is_pending | inr none ↦ absurd (false≢true (sym none ∙ this)) ] in
              or_right fits_lower own (and_from (is_this l) (lower.pending && declares) this (and_from lower.pending declares pending (and_parts upper.pending declares parts.1).1))
        ]

    -- ---- new objects

    -- below another operand is no such object
    other_below : (pc : ℕ) (pending : Bool) (u l : VType) → IsOperandPair files pending u l → is_same_object (New pc) u ≡ false → is_same_object (New pc) l ≡ false
    other_below pc pending u l pair e =
        elim (cases_Bool (is_same_object (New pc) l)) [
          | inl same ↦
              let top : u ≡ Top = new_above pc u (subst (λ x. merge files u x ≡ u) (new_same pc l same) pair.ordered.above) e in
              absurd (false≢true (subst (λ x. may_be_operand x ≡ true) top pair.allows))
          | inr other ↦ other
        ]

    -- where no operand is the object above, none is below
    none_below : (pc : ℕ) (pending : Bool) (us ls : List VType) → AllZip (IsOperandPair files pending) us ls → list_any (is_same_object (New pc)) us ≡ false → list_any (is_same_object (New pc)) ls ≡ false
    none_below pc pending [] [] zip e = refl
    none_below pc pending [] (l ∷ ls) zip e = absurd zip
    none_below pc pending (u ∷ us) [] zip e = absurd zip
    none_below pc pending (u ∷ us) (l ∷ ls) zip e =
        let is = or_parts (is_same_object (New pc) u) (list_any (is_same_object (New pc)) us) e in
        or_from (is_same_object (New pc) l) (list_any (is_same_object (New pc)) ls) (other_below pc pending u l zip.0 is.0) (none_below pc pending us ls zip.1 is.1)

    -- a rename of an object that is not there
    kept : (object to : VType) (types : List VType) → list_any (is_same_object object) types ≡ false → map (renamed_one object to) types ≡ types
    kept object to [] e = refl
    kept object to (type ∷ types) e =
        let is = or_parts (is_same_object object type) (list_any (is_same_object object) types) e in
        ap₂ ◌∷◌ (ap (λ b. if b then to else type) is.0) (kept object to types is.1)

    abbrev made : ℕ → VFrame → Change
    made pc frame = record { pops = 0; renames = Some (New pc, Top); stores = None; pushes = New pc ∷ []; pending = frame.pending }

    made_known : (pc : ℕ) (frame : VFrame) → IsKnownFrame files frame → IsKnownFrame files (changed (made pc frame) frame)
    made_known pc frame known = record { locals = all_renamed (New pc) Top tt frame.locals known.locals; stack = (tt, all_renamed (New pc) Top tt frame.stack known.stack) }

    made_step : (pc : ℕ) (upper lower : VFrame) → ArePaired files upper lower → list_any (is_same_object (New pc)) upper.stack ≡ false → list_any (is_same_object (New pc)) lower.stack ≡ false
        → StepsTo files (Some (made pc lower)) (changed (made pc upper) upper) lower
    made_step pc upper lower pairs first second =
        let R : VType → VType → Type 0 = IsOperandPair files lower.pending in
        let top : IsPut files may_be_local lower.pending Top = record { itself = pair_itself files gathers may_be_local lower.pending Top tt refl refl; top = refl } in
        record {
          change = made pc lower;
          is = refl;
          pairs = record {
            locals = zip_map (IsLocalPair files lower.pending) (IsLocalPair files lower.pending) (renamed_one (New pc) Top) (renamed_one (New pc) Top)
                (λ u l pair. renamed_pair (New pc) Top (new_unmade pc) may_be_local lower.pending lower.pending top u l pair (λ other. pair.lacks)) upper.locals lower.locals pairs.locals;
            stack = (
              pair_itself files gathers may_be_operand lower.pending (New pc) tt refl refl,
              subst₂ (AllZip R) (sym (kept (New pc) Top upper.stack first)) (sym (kept (New pc) Top lower.stack second)) pairs.stack,
            );
            pending = pairs.pending;
          };
        }

    pub make_rule : (pc : ℕ) → IsRule files (make pc)
    make_rule pc =
        record {
          known = λ frame change known e.
              let is = where_false (list_any (is_same_object (New pc)) frame.stack) (Some (made pc frame)) change e in
              subst (λ c. IsKnownFrame files (changed c frame)) (same_Some (made pc frame) change is.1) (made_known pc frame known);
          step = λ upper lower change pairs e.
              let is = where_false (list_any (is_same_object (New pc)) upper.stack) (Some (made pc upper)) change e in
              let none = none_below pc lower.pending upper.stack lower.stack pairs.stack is.0 in
              subst (λ c. StepsTo files (make pc lower) (changed c upper) lower) (same_Some (made pc upper) change is.1)
              (step_unless files (list_any (is_same_object (New pc)) lower.stack) (Some (made pc lower)) (changed (made pc upper) upper) lower none (made_step pc upper lower pairs is.0 none));
        }
