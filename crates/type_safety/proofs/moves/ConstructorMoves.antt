-- Calls of constructors, and of methods that no object selects, fit: from the call of a constructor on, each copy of the
-- object is one of its class.
use Rattle.std.proofs.Common.{◌≡◌, ℕ, zero, suc, ◌≤◌, Bool, true, false, ◌&&◌, nat_eq, inl, inr, List, [], ◌∷◌, length, drop, Option, Some, None, slice_get, if◌then◌else◌, refl, sym, ap, subst, ◌∙◌, ◌⊎◌, arith}
use Rattle.std.specs.Option.{option_map_or}
use Rattle.std.specs.List.{AllByRecursion}
use Rattle.std.proofs.lemmas.Bool.{cases_Bool, and_parts, or_cases, eqb-true}
use Rattle.std.proofs.lemmas.Option.{cond_some}
use Rattle.class_pool.specs.declared.types.TypeBase.{TypeBase}
use Rattle.class_pool.specs.declared.types.TypeBase.TheVariants as base
use Rattle.class_tree.specs.DirectSupers.{superclass_of}
use Rattle.class_tree.specs.Fits.{fits, fits_ref}
use Rattle.class_tree.specs.MergeLaws.{IsKnown}
use Rattle.class_tree.specs.Set.{IsClass}
use Rattle.class_tree.specs.Subtypes.{class_type}
use Rattle.class_tree.specs.Tree.{Gathers}
use Rattle.body_form.specs.declared.body.Body.{Body}
use Rattle.body_form.specs.declared.op.MethodUse.{MethodUse}
use Rattle.body_form.specs.declared.op.Op.{Op}
use Rattle.body_form.specs.declared.op.Op.TheVariants as op
use Rattle.body_form.specs.declared.types.VFrame.{VFrame}
use Rattle.body_form.specs.declared.types.VType.{VType}
use Rattle.body_form.specs.declared.types.VType.TheVariants as known
use Rattle.jvm_model.specs.Bodies.{AreEach}
use Rattle.jvm_model.specs.State.{Value, Null, Name}
use Rattle.jvm_model.specs.TypesRules.{Change, any_type, takes, call, argument_tests, fits_class, makes_class, is_base_class, op_at, is_own_or_super, renamed_one, construct_on, construct, change_of}
use Rattle.typed_machine.specs.TypedCalls.{argument_count, call_on, runs_found}
use Rattle.typed_machine.specs.TypedMoves.{TypedMove}
use Rattle.typed_machine.specs.TypedState.{Object, Instance, Elements, Frame, State}
use Rattle.typed_machine.specs.TypedWorld.{World, type_of, pc_after}
use Rattle.type_safety.specs.Facts.{IsConcrete, IsSpecial, ClassFits, is_named_constructor}
use Rattle.type_safety.specs.Fitting.{Tables, NamesObject, IsInstance, ValueFits, LocalFits, FrameFits, ObjectFits, StateFits}
use Rattle.type_safety.specs.Parts.{AreParts, StandsAt}
use Rattle.type_safety.specs.Safety.{IsSet, MoveFits}
use Rattle.type_safety.proofs.moves.Arguments.{names_over}
use Rattle.type_safety.proofs.moves.CallParts.{drop_more, CallRule, call_rule, CallsFrom, receiver_type}
use Rattle.type_safety.proofs.fitting.EachLists.{each_drop, each_right, of_place}
use Rattle.type_safety.proofs.fitting.FitsOver.{refs_over, class_fits_itself, class_fits_super, array_fits_as_object, object_fits_as_array}
use Rattle.type_safety.proofs.moves.GoingOn.{RuleParts, rule_parts, facts_of}
use Rattle.type_safety.proofs.moves.Lemmas.{MoveLemma, StartingFits}
use Rattle.type_safety.proofs.moves.ObjectCalls.{IsReceiver, arguments_fit, on_receiver, on_object, runs_on}
use Rattle.type_safety.proofs.moves.ReceiverCalls.{object_receives, object_call}

-- ---- methods that no object selects

-- what fits both the class that is named and the one in which the call stands
abbrev BothFit : World → ℕ → ℕ → Object → Type 0
BothFit world own class object = (fits world.files (known.Ref (type_of object)) (class_type class) ≡ true) × (fits world.files (known.Ref (type_of object)) (class_type own) ≡ true)

both_fit : (world : World) (objects : List Object) (gathers : Gathers world.files None) (all : AllByRecursion (ObjectFits world objects) objects) (body : Body) (class : ℕ) (value : Value) (type : VType)
    → ValueFits world objects body value type → IsKnown world.files type → (fits_class world.files class type && fits_class world.files body.class type) ≡ true
    → (value ≡ Null) ⊎ NamesObject objects value (BothFit world body.class class)
both_fit world objects gathers all body class value known.Null has is e = inl has
both_fit world objects gathers all body class value (known.Ref s) has is e =
    let both = and_parts (fits_class world.files class (known.Ref s)) (fits_class world.files body.class (known.Ref s)) e in
    elim has [
      | inl null ↦ inl null
      | inr names ↦
          let one = names_over world objects gathers all s (class_type class) value is names both.0 in
          let two = names_over world objects gathers all s (class_type body.class) value is names both.1 in
          inr (record { name = names.name; object = names.object; is = names.is; there = names.there; has = (one.has, two.has) })
    ]
both_fit world objects gathers all body class value type has is e = cc

array_target : (world : World) (gathers : Gathers world.files None) (own : ℕ) (used : MethodUse) → ((class : ℕ) → IsConcrete world class → ClassFits world class used.class → ClassFits world class own → ClassFits world class used.method.class)
    → (m : ℕ) (s : TypeBase) → 1 ≤ m → fits_ref world.files m s 0 (base.Class used.class) ≡ true → fits_ref world.files m s 0 (base.Class own) ≡ true → fits_ref world.files m s 0 (base.Class used.method.class) ≡ true
array_target world gathers own used other zero s some first second = absurd (omega arith)
array_target world gathers own used other (suc m) s some first second =
    array_fits_as_object world.files gathers m s used.method.class
    (other 0 (inl (omega arith), refl, refl) (object_fits_as_array world.files gathers m s used.class first) (object_fits_as_array world.files gathers m s own second))

target_fits : (world : World) (objects : List Object) (gathers : Gathers world.files None) (own : ℕ) (used : MethodUse)
    → ((class : ℕ) → IsConcrete world class → ClassFits world class used.class → ClassFits world class own → ClassFits world class used.method.class)
    → (object : Object) → ObjectFits world objects object → BothFit world own used.class object → fits world.files (known.Ref (type_of object)) (class_type used.method.class) ≡ true
target_fits world objects gathers own used other (Instance class fields) object both = other class (object.0, object.1, object.2) both.0 both.1
target_fits world objects gathers own used other (Elements array elements) object both = array_target world gathers own used other array.dims array.base object.1 both.0 both.1

-- ---- copies of an object

-- the class that an instruction makes is one
made_same : (o : Option Op) (a b : ℕ) → makes_class a o ≡ true → makes_class b o ≡ true → a ≡ b
made_same (Some (op.New type)) a b first second = of_base type.base (and_parts (nat_eq type.dims 0) (is_base_class a type.base) first).1 (and_parts (nat_eq type.dims 0) (is_base_class b type.base) second).1
  where
    of_base : (of : TypeBase) → is_base_class a of ≡ true → is_base_class b of ≡ true → a ≡ b
    of_base (base.Class class) e f = eqb-true a class e ∙ sym (eqb-true b class f)
    of_base of e f = cc
made_same o a b first second = cc

module _ (world : World) (objects : List Object) (gathers : Gathers world.files None) (body : Body) where
  -- an object that an instruction made is of the class that it makes
  made_fits : (pc class : ℕ) → makes_class class (op_at body.ops pc) ≡ true → (object : Object) → IsInstance object (λ other. makes_class other (op_at body.ops pc) ≡ true)
      → fits world.files (known.Ref (type_of object)) (class_type class) ≡ true
  made_fits pc class makes object is =
      let one : is.class ≡ class = made_same (op_at body.ops pc) is.class class is.has makes in
      subst (λ (o : Object). fits world.files (known.Ref (type_of o)) (class_type class) ≡ true) (sym is.is)
      (subst (λ c. fits world.files (known.Ref (class_type c)) (class_type class) ≡ true) (sym one) (class_fits_itself world.files gathers class))

  own_fits : (object : Object) → IsInstance object (λ class. fits world.files (known.Ref (class_type class)) (class_type body.class) ≡ true) → fits world.files (known.Ref (type_of object)) (class_type body.class) ≡ true
  own_fits object is = subst (λ (o : Object). fits world.files (known.Ref (type_of o)) (class_type body.class) ≡ true) (sym is.is) is.has

  -- the renames of a constructor's call keep what fits
  abbrev Renames : VType → VType → Type 0
  Renames from to = (value : Value) (type : VType) → ValueFits world objects body value type → ValueFits world objects body value (renamed_one from to type)

  new_renames : (pc class : ℕ) → makes_class class (op_at body.ops pc) ≡ true → Renames (known.New pc) (known.Ref (class_type class))
  new_renames pc class makes value (known.New q) has =
      elim (cases_Bool (nat_eq pc q)) [
        | inl same ↦
            let one : pc ≡ q = eqb-true pc q same in
            subst (λ b. ValueFits world objects body value (if b then known.Ref (class_type class) else known.New q)) (sym same)
            (inr (record {
              name = has.name;
              object = has.object;
              is = has.is;
              there = has.there;
              has = made_fits q class (subst (λ p. makes_class class (op_at body.ops p) ≡ true) one makes) has.object has.has;
            }))
        | inr other ↦ subst (λ b. ValueFits world objects body value (if b then known.Ref (class_type class) else known.New q)) (sym other) has
      ]
  new_renames pc class makes value type has = has

  this_renames : Renames known.This (known.Ref (class_type body.class))
  this_renames value known.This has = inr (record { name = has.name; object = has.object; is = has.is; there = has.there; has = own_fits has.object has.has })
  this_renames value type has = has

  -- what is not known is not renamed
  abbrev KeepsTop : VType → VType → Type 0
  KeepsTop from to = renamed_one from to known.Top ≡ known.Top

  local_renames : (from to : VType) → Renames from to → KeepsTop from to → (value : Option Value) (type : VType) → LocalFits world objects body value type → LocalFits world objects body value (renamed_one from to type)
  local_renames from to renames top None type has = ap (renamed_one from to) has ∙ top
  local_renames from to renames top (Some value) type has = renames value type has

  -- ---- receivers of constructors

  made_receives : (pc class target : ℕ) → makes_class class (op_at body.ops pc) ≡ true → target ≡ class → (value : Value) → ValueFits world objects body value (known.New pc) → (constructor : Bool) → constructor ≡ true
      → IsReceiver world objects value constructor target
  made_receives pc class target makes same value has constructor is callee callee_class =
      subst (λ b. ValueFits world objects callee value (receiver_type b callee.class)) (sym is)
      (record {
        name = has.name;
        object = has.object;
        is = has.is;
        there = has.there;
        has = record {
          class = has.has.class;
          fields = has.has.fields;
          is = has.has.is;
          has = subst (λ c. fits world.files (known.Ref (class_type has.has.class)) (class_type c) ≡ true) (made_same (op_at body.ops pc) has.has.class class has.has.has makes ∙ sym (callee_class ∙ same))
              (class_fits_itself world.files gathers has.has.class);
        };
      })

  -- the class that is named is the body's own or its superclass
  own_or_super : (class : ℕ) → is_own_or_super world.files body.class class ≡ true → fits_ref world.files 0 (base.Class body.class) 0 (base.Class class) ≡ true
  own_or_super class e =
      elim (or_cases (nat_eq class body.class) (option_map_or (nat_eq class) (superclass_of world.files body.class) false) e) [
        | inl own ↦ subst (λ c. fits_ref world.files 0 (base.Class body.class) 0 (base.Class c) ≡ true) (sym (eqb-true class body.class own)) (class_fits_itself world.files gathers body.class)
        | inr above ↦ by_super (superclass_of world.files body.class) refl above
      ]
    where
      by_super : (found : Option ℕ) → superclass_of world.files body.class ≡ found → option_map_or (nat_eq class) found false ≡ true → fits_ref world.files 0 (base.Class body.class) 0 (base.Class class) ≡ true
      by_super None is f = cc
      by_super (Some by) is f = class_fits_super world.files gathers body.class class (is ∙ ap Some (sym (eqb-true class by f)))

  own_receives : (class target : ℕ) → IsClass world.files body.class → is_own_or_super world.files body.class class ≡ true → target ≡ class → AllByRecursion (ObjectFits world objects) objects
      → (value : Value) → ValueFits world objects body value known.This → (constructor : Bool) → constructor ≡ true → IsReceiver world objects value constructor target
  own_receives class target inside may same all value has constructor is callee callee_class =
      subst (λ b. ValueFits world objects callee value (receiver_type b callee.class)) (sym is)
      (record {
        name = has.name;
        object = has.object;
        is = has.is;
        there = has.there;
        has = record {
          class = has.has.class;
          fields = has.has.fields;
          is = has.has.is;
          has = subst (λ c. fits world.files (known.Ref (class_type has.has.class)) (class_type c) ≡ true) (sym (callee_class ∙ same))
              (refs_over world.files gathers 0 (base.Class has.has.class) 0 (base.Class body.class) 0 (base.Class class) (there.0, tt) (inside, tt) has.has.has (own_or_super class may));
        };
      })
    where
      there : ObjectFits world objects (Instance has.has.class has.has.fields)
      there = subst (ObjectFits world objects) has.has.is (of_place (ObjectFits world objects) objects has.name has.object all has.there)

-- ---- calls of constructors

takes_any : (type : VType) (more : List VType) → takes (any_type ∷ []) (type ∷ more) ≡ true
unfolding takes
takes_any type more = refl

where_true : {X : Type 0} (b : Bool) (found : Option X) (x : X) → (if b then found else None) ≡ Some x → (b ≡ true) × (found ≡ Some x)
where_true true found x e = (refl, e)
where_true false found x e = cc

-- the change of a constructor's call
abbrev pub built : ℕ → VType → ℕ → Bool → Change
built pops object class pending = record { pops = pops; renames = Some (object, known.Ref (class_type class)); stores = None; pushes = []; pending = pending }

module _ (starting : StartingFits) (parts : AreParts) (world : World) (tables : Tables) (set : IsSet world tables) (state : State) (frame : Frame) (others : List Frame) (same : state.frames ≡ frame ∷ others)
    (fits_state : StateFits world tables state) (body : Body) (types after : VFrame) (used : MethodUse) (stands : StandsAt world tables frame body (op.CallSpecial used) types after)
    (typed : FrameFits world state.objects body frame types) where
  special : IsSpecial world body.class used
  special = (facts_of world tables set frame.method body stands.found).named frame.pc (op.CallSpecial used) stands.at

  abbrev found : Object → TypedMove
  found object = runs_found world state frame others (pc_after body.ops frame.pc) used (Some used.method)

  abbrev Calls : Type 0
  Calls = CallsFrom starting parts world tables set state frame others same fits_state body types after (op.CallSpecial used) stands typed (drop 1 (drop (argument_count used) frame.operands))

  abbrev builds : (object : VType) (class : ℕ) (pending : Bool) → Renames world state.objects set.closed body object (known.Ref (class_type class)) → KeepsTop world state.objects set.closed body object (known.Ref (class_type class))
      → change_of world.files body frame.pc (op.CallSpecial used) types ≡ Some (built (suc (length used.descriptor.params)) object class pending) → Calls
  builds object class pending renames top is =
      let to = known.Ref (class_type class) in
      record {
        change = built (suc (length used.descriptor.params)) object class pending;
        is = is;
        has = record {
          locals = each_right (renamed_one object to) (LocalFits world state.objects body) (LocalFits world state.objects body) (local_renames world state.objects set.closed body object to renames top)
              frame.locals types.locals typed.locals;
          operands = each_right (renamed_one object to) (ValueFits world state.objects body) (ValueFits world state.objects body) renames
              (drop 1 (drop (argument_count used) frame.operands)) (drop (suc (length used.descriptor.params)) types.stack)
              (subst (λ operands. AreEach (ValueFits world state.objects body) operands (drop (suc (length used.descriptor.params)) types.stack)) (drop_more (argument_count used) frame.operands)
              (each_drop (ValueFits world state.objects body) (suc (argument_count used)) frame.operands types.stack typed.operands));
        };
      }

  is_there : {value : Value} (name : ℕ) (object : Object) → value ≡ Name name → slice_get state.objects name ≡ Some object → NamesObject state.objects value (λ o. Unit {0})
  is_there name object is there = record { name = name; object = object; is = is; there = there; has = tt }

  -- a constructor is called on what stands below the arguments
  on_unmade : is_named_constructor used ≡ true → takes (argument_tests world.files used) types.stack ≡ true → (object : VType) (more : List VType) → drop (argument_count used) types.stack ≡ object ∷ more
      → (calls : Calls) → calls.change.pushes ≡ []
      → ((value : Value) → ValueFits world state.objects body value object → NamesObject state.objects value (λ o. Unit {0}) × IsReceiver world state.objects value (is_named_constructor used) used.method.class)
      → MoveFits world tables (call_on world state frame others (pc_after body.ops frame.pc) used found (drop (argument_count used) frame.operands))
  on_unmade named tests object more stack calls none receives =
      on_receiver starting parts world tables set state frame others same fits_state body types after (op.CallSpecial used) stands typed used any_type found (pc_after body.ops frame.pc) there
      (λ value rest type others_below receiver.
      let one : type ≡ object = first_type receiver.stack in
      let fitting = receives value (subst (ValueFits world state.objects body value) one receiver.fits_type) in
      on_object starting parts world tables set state frame others same fits_state body types after (op.CallSpecial used) stands typed value found (λ o. Unit {0}) (inr fitting.0)
      (λ named_object object_fits.
      runs_on starting parts world tables set state frame others same fits_state body types after (op.CallSpecial used) stands typed used refl refl used.method special.runs value rest receiver.operands
      (arguments_fit starting parts world tables set state frame others same fits_state body types after (op.CallSpecial used) stands typed used tests) calls (λ result. none) fitting.1))
    where
      there : takes (any_type ∷ []) (drop (argument_count used) types.stack) ≡ true
      there = subst (λ below. takes (any_type ∷ []) below ≡ true) (sym stack) (takes_any object more)

      first_type : {type : VType} {below : List VType} → drop (argument_count used) types.stack ≡ type ∷ below → type ≡ object
      first_type is = let e = sym is ∙ stack in cc

  -- the rule of a constructor's call
  by_constructor : is_named_constructor used ≡ true → takes (argument_tests world.files used) types.stack ≡ true → (change : Change) → change_of world.files body frame.pc (op.CallSpecial used) types ≡ Some change
      → (stack : List VType) → drop (argument_count used) types.stack ≡ stack → construct_on world.files body types used stack ≡ Some change
      → MoveFits world tables (call_on world state frame others (pc_after body.ops frame.pc) used found (drop (argument_count used) frame.operands))
  by_constructor named tests change is (known.New pc ∷ more) stack e =
      let pops = suc (length used.descriptor.params) in
      let parts_of = cond_some (makes_class used.class (op_at body.ops pc)) (built pops (known.New pc) used.class types.pending) change e in
      on_unmade named tests (known.New pc) more stack
      (builds (known.New pc) used.class types.pending (new_renames world state.objects set.closed body pc used.class parts_of.0) refl (is ∙ ap Some (sym parts_of.1))) refl
      (λ value has. (is_there has.name has.object has.is has.there, made_receives world state.objects set.closed body pc used.class used.method.class parts_of.0 (special.constructor named) value has (is_named_constructor used) named))
  by_constructor named tests change is (known.This ∷ more) stack e =
      let pops = suc (length used.descriptor.params) in
      let parts_of = cond_some (is_own_or_super world.files body.class used.class) (built pops known.This body.class false) change e in
      on_unmade named tests known.This more stack
      (builds known.This body.class false (this_renames world state.objects set.closed body) refl (is ∙ ap Some (sym parts_of.1))) refl
      (λ value has. (
        is_there has.name has.object has.is has.there,
        own_receives world state.objects set.closed body used.class used.method.class (facts_of world tables set frame.method body stands.found).of_set.class parts_of.0 (special.constructor named) fits_state.objects
            value has (is_named_constructor used) named,
      ))
  by_constructor named tests change is stack below e = cc

  -- either rule
  by_rule : (constructor : Bool) → is_named_constructor used ≡ constructor → (change : RuleParts world.files body frame.pc (op.CallSpecial used) types after)
      → (if constructor then construct world.files body types used else call world.files types used ((λ type. fits_class world.files used.class type && fits_class world.files body.class type) ∷ [])) ≡ Some change.change
      → MoveFits world tables (call_on world state frame others (pc_after body.ops frame.pc) used found (drop (argument_count used) frame.operands))
  by_rule true named change e =
      let tested = where_true (takes (argument_tests world.files used) types.stack) (construct_on world.files body types used (drop (argument_count used) types.stack)) change.change e in
      by_constructor named tested.0 change.change change.is (drop (argument_count used) types.stack) refl tested.1
  by_rule false named change e =
      object_call starting parts world tables set state frame others same fits_state body types after (op.CallSpecial used) stands typed used
      (λ type. fits_class world.files used.class type && fits_class world.files body.class type) refl refl (same_rule change e) found (BothFit world body.class used.class)
      (both_fit world state.objects set.closed fits_state.objects body used.class)
      (λ value names object runs.
      runs used.method special.runs
      (object_receives world state.objects value (is_named_constructor used) used.method.class named
      (record {
        name = names.name;
        object = names.object;
        is = names.is;
        there = names.there;
        has = target_fits world state.objects set.closed body.class used (special.other named) names.object object names.has;
      })))
    where
      same_rule : (change : RuleParts world.files body frame.pc (op.CallSpecial used) types after)
          → call world.files types used ((λ type. fits_class world.files used.class type && fits_class world.files body.class type) ∷ []) ≡ Some change.change
          → CallRule world.files types used ((λ type. fits_class world.files used.class type && fits_class world.files body.class type) ∷ [])
          (rule_parts world.files body frame.pc (op.CallSpecial used) types after stands.rule).change
      same_rule change e =
          let one : Some change.change ≡ Some (rule_parts world.files body frame.pc (op.CallSpecial used) types after stands.rule).change =
          sym change.is ∙ (rule_parts world.files body frame.pc (op.CallSpecial used) types after stands.rule).is in
          call_rule world.files types used ((λ type. fits_class world.files used.class type && fits_class world.files body.class type) ∷ [])
          (rule_parts world.files body frame.pc (op.CallSpecial used) types after stands.rule).change (e ∙ one)

  pub special_call_fits : MoveFits world tables (call_on world state frame others (pc_after body.ops frame.pc) used found (drop (argument_count used) frame.operands))
  special_call_fits = let change = rule_parts world.files body frame.pc (op.CallSpecial used) types after stands.rule in by_rule (is_named_constructor used) refl change change.is

pub call_special_fits : StartingFits → (used : MethodUse) → MoveLemma (op.CallSpecial used)
call_special_fits starting used parts world tables set state frame others same fits_state body types after stands typed =
    special_call_fits starting parts world tables set state frame others same fits_state body types after used stands typed
