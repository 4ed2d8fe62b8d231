-- Calls of methods that an object's class selects fit, those of a class and those of an interface.
use Rattle.std.proofs.Common.{◌≡◌, ℕ, suc, ◌+◌, Bool, true, false, inl, inr, List, [], ◌∷◌, length, drop, Option, Some, None, slice_get, if◌then◌else◌, refl, sym, ap, subst, ◌∙◌, ◌⊎◌, arith}
use Rattle.std.proofs.lemmas.Bool.{cases_Bool}
use Rattle.class_pool.specs.declared.types.MemberId.{MemberId}
use Rattle.class_tree.specs.MergeLaws.{IsKnown}
use Rattle.body_form.specs.Flow.{goes_on}
use Rattle.jvm_model.specs.TypesFrames.{fits_kind}
use Rattle.class_tree.specs.AccessTests.{is_subclass}
use Rattle.class_tree.specs.Fits.{fits}
use Rattle.class_tree.specs.Subtypes.{class_type}
use Rattle.body_form.specs.declared.body.Body.{Body}
use Rattle.body_form.specs.declared.op.MethodUse.{MethodUse}
use Rattle.body_form.specs.declared.op.Op.{Op}
use Rattle.body_form.specs.declared.op.Op.TheVariants as op
use Rattle.body_form.specs.declared.types.VFrame.{VFrame}
use Rattle.body_form.specs.declared.types.VType.{VType}
use Rattle.body_form.specs.declared.types.VType.TheVariants as known
use Rattle.jvm_model.specs.Bodies.{AreEach}
use Rattle.jvm_model.specs.State.{Value, Null, Name}
use Rattle.jvm_model.specs.TypesRules.{takes, argument_tests, fits_class, is_constructed, result_of}
use Rattle.typed_machine.specs.TypedCalls.{argument_count, call_on, runs_found, implements}
use Rattle.typed_machine.specs.TypedMoves.{TypedMove, throws, incompatible_class_change_error}
use Rattle.typed_machine.specs.TypedState.{Object, Instance, Elements, Frame, State}
use Rattle.typed_machine.specs.TypedWorld.{World, called, class_of, type_of, pc_after}
use Rattle.type_safety.specs.Facts.{Runs, Named, Finds, NoArray, IsConcrete, ClassFits, is_named_constructor}
use Rattle.type_safety.specs.Fitting.{Tables, NamesObject, ValueFits, FrameFits, ObjectFits, StateFits, call_of}
use Rattle.type_safety.specs.Parts.{AreParts, StandsAt}
use Rattle.type_safety.specs.Safety.{IsSet, MoveFits}
use Rattle.type_safety.proofs.moves.Arguments.{takes_parts, tests_length, as_type}
use Rattle.type_safety.proofs.moves.CallParts.{drop_more, CallRule, call_rule, CallsFrom, calls_from, receiver_type}
use Rattle.type_safety.proofs.fitting.EachLists.{each_drop}
use Rattle.type_safety.proofs.moves.GoingOn.{RuleParts, rule_parts, facts_of}
use Rattle.type_safety.proofs.moves.Lemmas.{MoveLemma, StartingFits}
use Rattle.type_safety.proofs.moves.ObjectCalls.{IsReceiver, arguments_fit, on_receiver, on_object, change_thrown, runs_on}

-- ---- receivers

-- an object that fits a class, as the receiver of a method that is no constructor
pub object_receives : (world : World) (objects : List Object) (value : Value) (constructor : Bool) (class : ℕ) → constructor ≡ false
    → NamesObject objects value (λ object. fits world.files (known.Ref (type_of object)) (class_type class) ≡ true) → IsReceiver world objects value constructor class
object_receives world objects value constructor class plain names callee same =
    subst (λ b. ValueFits world objects callee value (receiver_type b callee.class)) (sym plain)
    (subst (λ c. ValueFits world objects callee value (known.Ref (class_type c))) (sym same) (inr names))

-- a reference to an object that is constructed
constructed_value : (world : World) (objects : List Object) (body : Body) (value : Value) (type : VType) → ValueFits world objects body value type → is_constructed type ≡ true
    → (value ≡ Null) ⊎ NamesObject objects value (λ object. Unit {0})
constructed_value world objects body value known.Null has e = inl has
constructed_value world objects body value (known.Ref type) has e =
    elim has [ inl null ↦ inl null | inr names ↦ inr (record { name = names.name; object = names.object; is = names.is; there = names.there; has = tt }) ]
constructed_value world objects body value type has e = cc

none_pushed : (world : World) (used : MethodUse) (pushes : List VType) → result_of world.files used.descriptor.result ≡ Some pushes → used.descriptor.result ≡ None → pushes ≡ []
none_pushed world used pushes e none = let f : Some [] ≡ Some pushes = sym (ap (result_of world.files) none) ∙ e in cc

module _ (starting : StartingFits) (parts : AreParts) (world : World) (tables : Tables) (set : IsSet world tables) (state : State) (frame : Frame) (others : List Frame) (same : state.frames ≡ frame ∷ others)
    (fits_state : StateFits world tables state) (body : Body) (types after : VFrame) (instruction : Op) (stands : StandsAt world tables frame body instruction types after)
    (typed : FrameFits world state.objects body frame types) (used : MethodUse) (test : VType → Bool) where
  parted : (change : CallRule world.files types used (test ∷ []) (rule_parts world.files body frame.pc instruction types after stands.rule).change)
      → (takes (argument_tests world.files used) types.stack ≡ true) × (takes (test ∷ []) (drop (argument_count used) types.stack) ≡ true)
  parted rule =
      let is = takes_parts (argument_tests world.files used) (test ∷ []) types.stack rule.taken in
      (is.0, subst (λ n. takes (test ∷ []) (drop n types.stack) ≡ true) (tests_length (fits_kind world.files) used.descriptor.params) is.1)

  -- A call by the rule of calls: what is found for the receiver fits, where each method that may run has a receiver that fits.
  pub object_call : call_of instruction ≡ Some used → goes_on instruction ≡ true → CallRule world.files types used (test ∷ []) (rule_parts world.files body frame.pc instruction types after stands.rule).change
      → (found : Object → TypedMove) (Has : Object → Type 0)
      → ((value : Value) (type : VType) → ValueFits world state.objects body value type → IsKnown world.files type → test type ≡ true → (value ≡ Null) ⊎ NamesObject state.objects value Has)
      → ((value : Value) (names : NamesObject state.objects value Has) → ObjectFits world state.objects names.object
      → ((id : MemberId) → Runs world id used true → IsReceiver world state.objects value (is_named_constructor used) id.class → MoveFits world tables (runs_found world state frame others (pc_after body.ops frame.pc) used (Some id)))
      → MoveFits world tables (found names.object))
      → MoveFits world tables (call_on world state frame others (pc_after body.ops frame.pc) used found (drop (argument_count used) frame.operands))
  object_call names goes rule found Has refers runs =
      on_receiver starting parts world tables set state frame others same fits_state body types after instruction stands typed used test found (pc_after body.ops frame.pc) (parted rule).1
      (λ value rest type more receives.
      on_object starting parts world tables set state frame others same fits_state body types after instruction stands typed value found Has
      (refers value type receives.fits_type receives.known_type receives.passes)
      (λ named object. runs value named object (λ id run is.
      runs_on starting parts world tables set state frame others same fits_state body types after instruction stands typed used names goes id run value rest receives.operands
      (arguments_fit starting parts world tables set state frame others same fits_state body types after instruction stands typed used (parted rule).0) calls
      (none_pushed world used calls.change.pushes (subst (λ c. result_of world.files used.descriptor.result ≡ Some c.pushes) rule.is rule.result)) is)))
    where
      change : RuleParts world.files body frame.pc instruction types after
      change = rule_parts world.files body frame.pc instruction types after stands.rule

      below : AreEach (ValueFits world state.objects body) (drop 1 (drop (argument_count used) frame.operands)) (drop (length used.descriptor.params + 1) types.stack)
      below =
          let count : suc (argument_count used) ≡ length used.descriptor.params + 1 = omega arith in
          subst (λ operands. AreEach (ValueFits world state.objects body) operands (drop (length used.descriptor.params + 1) types.stack)) (drop_more (argument_count used) frame.operands)
          (subst (λ n. AreEach (ValueFits world state.objects body) (drop (suc (argument_count used)) frame.operands) (drop n types.stack)) count
          (each_drop (ValueFits world state.objects body) (suc (argument_count used)) frame.operands types.stack typed.operands))

      calls : CallsFrom starting parts world tables set state frame others same fits_state body types after instruction stands typed (drop 1 (drop (argument_count used) frame.operands))
      calls =
          calls_from starting parts world tables set state frame others same fits_state body types after instruction stands typed used (test ∷ []) change.change change.is rule
          (drop 1 (drop (argument_count used) frame.operands)) below

-- ---- methods of classes

virtual_runs : (world : World) (tables : Tables) (state : State) (used : MethodUse) (value : Value) (run : Option MemberId → TypedMove) → is_named_constructor used ≡ false
    → ((class : ℕ) → IsConcrete world class → ClassFits world class used.class → Finds world used class) → NoArray world used
    → ((id : MemberId) → Runs world id used true → IsReceiver world state.objects value (is_named_constructor used) id.class → MoveFits world tables (run (Some id)))
    → (name : ℕ) (object : Object) → value ≡ Name name → slice_get state.objects name ≡ Some object → ObjectFits world state.objects object → fits world.files (known.Ref (type_of object)) (class_type used.class) ≡ true
    → MoveFits world tables (run (called world.files used (class_of object)))
virtual_runs world tables state used value run plain finds no_array runs name (Instance class fields) is there object e =
    let found = finds class (object.0, object.1, object.2) e in
    subst (λ id. MoveFits world tables (run id)) (sym found.is)
    (runs found.id found.runs
    (object_receives world state.objects value (is_named_constructor used) found.id.class plain (record { name = name; object = Instance class fields; is = is; there = there; has = found.fits })))
virtual_runs world tables state used value run plain finds no_array runs name (Elements array elements) is there object e =
    let none = no_array array e in
    let some = object.1 in
    absurd (omega arith)

pub call_virtual_fits : StartingFits → (used : MethodUse) → MoveLemma (op.CallVirtual used)
call_virtual_fits starting used parts world tables set state frame others same fits_state body types after stands typed =
    object_call starting parts world tables set state frame others same fits_state body types after (op.CallVirtual used) stands typed used (fits_class world.files used.class) refl refl
    (call_rule world.files types used (fits_class world.files used.class ∷ []) change.change change.is)
    (λ object. runs_found world state frame others (pc_after body.ops frame.pc) used (called world.files used (class_of object)))
    (λ object. fits world.files (known.Ref (type_of object)) (class_type used.class) ≡ true)
    (λ value type has is e. as_type world state.objects set.closed fits_state.objects true (class_type used.class) body value type has is e body)
    (λ value names object runs.
    virtual_runs world tables state used value (runs_found world state frame others (pc_after body.ops frame.pc) used) named.0 named.1 named.2 runs names.name names.object names.is names.there object names.has)
  where
    change : RuleParts world.files body frame.pc (op.CallVirtual used) types after
    change = rule_parts world.files body frame.pc (op.CallVirtual used) types after stands.rule

    named : Named world body.class (op.CallVirtual used)
    named = (facts_of world tables set frame.method body stands.found).named frame.pc (op.CallVirtual used) stands.at

-- ---- methods of interfaces

interface_runs : (world : World) (tables : Tables) (state : State) (used : MethodUse) (value : Value) (run : Option MemberId → TypedMove) (error : TypedMove) → is_named_constructor used ≡ false
    → ((class : ℕ) → IsConcrete world class → is_subclass world.files class used.class ≡ true → Finds world used class) → MoveFits world tables error
    → ((id : MemberId) → Runs world id used true → IsReceiver world state.objects value (is_named_constructor used) id.class → MoveFits world tables (run (Some id)))
    → (name : ℕ) (object : Object) → value ≡ Name name → slice_get state.objects name ≡ Some object → ObjectFits world state.objects object
    → MoveFits world tables (if implements world used.class object then run (called world.files used (class_of object)) else error)
interface_runs world tables state used value run error plain finds throws runs name (Instance class fields) is there object =
    elim (cases_Bool (is_subclass world.files class used.class)) [
      | inl below ↦
          let found = finds class (object.0, object.1, object.2) below in
          subst (λ b. MoveFits world tables (if b then run (called world.files used class) else error)) (sym below)
          (subst (λ id. MoveFits world tables (run id)) (sym found.is)
          (runs found.id found.runs
          (object_receives world state.objects value (is_named_constructor used) found.id.class plain (record { name = name; object = Instance class fields; is = is; there = there; has = found.fits }))))
      | inr other ↦ subst (λ b. MoveFits world tables (if b then run (called world.files used class) else error)) (sym other) throws
    ]
interface_runs world tables state used value run error plain finds throws runs name (Elements array elements) is there object = throws

pub call_interface_fits : StartingFits → (used : MethodUse) → MoveLemma (op.CallInterface used)
call_interface_fits starting used parts world tables set state frame others same fits_state body types after stands typed =
    object_call starting parts world tables set state frame others same fits_state body types after (op.CallInterface used) stands typed used is_constructed refl refl
    (call_rule world.files types used (is_constructed ∷ []) change.change change.is)
    (λ object. if implements world used.class object then runs_found world state frame others (pc_after body.ops frame.pc) used (called world.files used (class_of object))
    else throws world state (frame ∷ others) incompatible_class_change_error)
    (λ object. Unit {0}) (λ value type has is e. constructed_value world state.objects body value type has e)
    (λ value names object runs.
    interface_runs world tables state used value (runs_found world state frame others (pc_after body.ops frame.pc) used) (throws world state (frame ∷ others) incompatible_class_change_error) named.0 named.1
    (change_thrown starting parts world tables set state frame others same fits_state body types after (op.CallInterface used) stands typed)
    runs names.name names.object names.is names.there object)
  where
    change : RuleParts world.files body frame.pc (op.CallInterface used) types after
    change = rule_parts world.files body frame.pc (op.CallInterface used) types after stands.rule

    named : Named world body.class (op.CallInterface used)
    named = (facts_of world tables set frame.method body stands.found).named frame.pc (op.CallInterface used) stands.at
