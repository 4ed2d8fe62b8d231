-- Static fields and fields of objects are read and written as their types say.
use Rattle.std.proofs.Common.{◌≡◌, ◌⊎◌, ℕ, Bool, true, false, ◌&&◌, nat_eq, inl, inr, List, [], ◌∷◌, Option, Some, None, option_map, option_and_then, refl, sym, ap, subst, ◌∙◌, arith}
use Rattle.std.specs.Prelude.{slice_get}
use Rattle.std.specs.Option.{option_map_or}
use Rattle.std.specs.List.{AllByRecursion}
use Rattle.std.proofs.lemmas.Bool.{and_parts, or_cases, eqb-true}
use Rattle.account.specs.Account.{Stuck}
use Rattle.class_file.specs.declared.record.ClassFile.{ClassFile}
use Rattle.class_tree.specs.Fits.{fits}
use Rattle.class_tree.specs.MergeLaws.{IsKnown}
use Rattle.class_tree.specs.Subtypes.{class_type}
use Rattle.body_form.specs.declared.body.Body.{Body}
use Rattle.body_form.specs.declared.op.FieldUse.{FieldUse}
use Rattle.body_form.specs.declared.op.Op.TheVariants as op
use Rattle.body_form.specs.declared.types.VFrame.{VFrame}
use Rattle.body_form.specs.declared.types.VType.{VType}
use Rattle.body_form.specs.declared.types.VType.TheVariants as known
use Rattle.jvm_model.specs.Bodies.{AreEach}
use Rattle.jvm_model.specs.State.{Value, Null}
use Rattle.jvm_model.specs.TypesFrames.{value_of_kind, fits_kind}
use Rattle.jvm_model.specs.TypesRules.{Change, takes, plain, one, fits_class, is_this, is_written, changed}
use Rattle.typed_machine.specs.TypedCalls.{kept_as}
use Rattle.typed_machine.specs.TypedMoves.{goes_on, no_need}
use Rattle.typed_machine.specs.TypedState.{Fields, Object, Instance, Elements, Frame, State, with_field, with_object, with_static}
use Rattle.typed_machine.specs.TypedStep.{read_static, write_static, read_of, read_field, write_to, write_field}
use Rattle.typed_machine.specs.TypedWorld.{World, type_of, pc_after, instance_field}
use Rattle.type_safety.specs.Facts.{ClassFits, IsStaticField, HasField, IsInstanceField}
use Rattle.type_safety.specs.Fitting.{Tables, IsKept, NamesObject, IsInstance, ValueFits, KindFits, ObjectFits, static_field}
use Rattle.type_safety.proofs.fitting.Numbers.{kept_is_kept}
use Rattle.type_safety.specs.Safety.{MoveFits}
use Rattle.type_safety.proofs.moves.Lemmas.{MoveLemma}
use Rattle.type_safety.proofs.fitting.GrownObjects.{grown_itself}
use Rattle.type_safety.proofs.fitting.HeldValues.{each_grows, reference_fits, kept_fits, fields_set}
use Rattle.type_safety.proofs.moves.NextStates.{At, Follows, PlainRule, plain_gives, named, rule, plain_rule, Goes, goes_by, steady, set_follows, object_fits, object_at_fits}

-- ---- what is pushed of a field

-- a rule that pushes a value of a field's type
pub record FieldRule (files : List ClassFile) (used : FieldUse) (tests : List (VType → Bool)) (types after : VFrame) : Type 0 where
  pub type : VType
  pub is : value_of_kind files used.kind ≡ Some type
  pub plainly : PlainRule tests (type ∷ []) types after

field_rule : (files : List ClassFile) (used : FieldUse) (tests : List (VType → Bool)) (types after : VFrame) (change : Change) (found : Option VType) → value_of_kind files used.kind ≡ found
    → option_and_then (plain types tests) (option_map one found) ≡ Some change → changed change types ≡ after → FieldRule files used tests types after
field_rule files used tests types after change None is e gives = cc
field_rule files used tests types after change (Some type) is e gives = record { type = type; is = is; plainly = plain_gives tests (type ∷ []) types after change e gives }

same_type : (a b : VType) → Some a ≡ Some b → a ≡ b
same_type a b e = cc

-- a value of a kind fits the type that the kind is known by
kind_value : (world : World) (objects : List Object) (body : Body) (used : FieldUse) (value : Value) (type : VType) → value_of_kind world.files used.kind ≡ Some type → KindFits world objects used.kind value
    → ValueFits world objects body value type
kind_value world objects body used value type is has = subst (ValueFits world objects body value) (same_type has.type type (sym has.is ∙ is)) (has.has body)

-- ---- static fields

module _ {world : World} {tables : Tables} {state : State} {frame : Frame} {others : List Frame} {body : Body} {types after : VFrame} (used : FieldUse)
    (at : At world tables state frame others body (op.GetStatic used) types after) where
  static_read : IsStaticField world used → MoveFits world tables (read_static state frame others (pc_after body.ops frame.pc) (state.statics used.field))
  static_read named_field =
      let has_rule = rule at in
      let by = field_rule world.files used [] types after has_rule.change (value_of_kind world.files used.kind) refl has_rule.is has_rule.gives in
      let held = at.fits.statics used.field named_field.field named_field.is in
      let kept : KindFits world state.objects used.kind held.value = subst (λ k. KindFits world state.objects k held.value) named_field.kind held.has in
      subst (λ found. MoveFits world tables (read_static state frame others (pc_after body.ops frame.pc) found)) (sym held.is)
      (goes_by at [] (by.type ∷ []) refl by.plainly no_need [] state (held.value ∷ frame.operands) (steady at) (kind_value world state.objects body used held.value by.type by.is kept, at.has.operands))

module _ {world : World} {tables : Tables} {state : State} {frame : Frame} {others : List Frame} {body : Body} {types after : VFrame} (used : FieldUse)
    (at : At world tables state frame others body (op.PutStatic used) types after) where
  static_set : IsStaticField world used → (value : Value) → KindFits world state.objects used.kind value → IsKept used.kind value → Follows world tables state (with_static state used.field value)
  static_set named_field value has kept =
      record {
        grown = grown_itself state.objects;
        objects = at.fits.objects;
        statics = fields_set world state.objects (static_field world.files) state.statics used.field value named_field.field named_field.is
            (subst (λ k. KindFits world state.objects k value) (sym named_field.kind) has) (subst (λ k. IsKept k value) (sym named_field.kind) kept) at.fits.statics;
      }

  static_write : IsStaticField world used → (operands : List Value) (stack : List VType) → AreEach (ValueFits world state.objects body) operands stack → AllByRecursion (IsKnown world.files) stack
      → takes (fits_kind world.files used.kind ∷ []) stack ≡ true → Goes at (fits_kind world.files used.kind ∷ []) [] stack
      → MoveFits world tables (write_static state frame others (pc_after body.ops frame.pc) used operands)
  unfolding takes
  static_write named_field [] [] fit known_types e goes = cc
  static_write named_field [] (type ∷ stack) fit known_types e goes = absurd fit
  static_write named_field (value ∷ operands) [] fit known_types e goes = absurd fit
  static_write named_field (value ∷ operands) (type ∷ stack) fit known_types e goes =
      let test = and_parts (fits_kind world.files used.kind type) true e in
      let kept = kept_as used.kind value in
      let has = kept_fits world at.set.closed state.objects at.fits.objects body used.kind value type known_types.0 fit.0 test.0 in
      let held = at.fits.statics used.field named_field.field named_field.is in
      let next = with_static state used.field kept in
      subst (λ found. MoveFits world tables (option_map_or (λ (old : Value). goes_on next frame others (pc_after body.ops frame.pc) operands) found Stuck)) (sym held.is)
      (goes no_need [] next operands (static_set named_field kept has (kept_is_kept used.kind value)) fit.1)

pub get_static_fits : (used : FieldUse) → MoveLemma (op.GetStatic used)
get_static_fits used parts world tables set state frame others frames fits body types after stands has =
    let at : At world tables state frame others body (op.GetStatic used) types after = record { parts = parts; set = set; frames = frames; fits = fits; stands = stands; has = has } in
    static_read used at (named at)

pub put_static_fits : (used : FieldUse) → MoveLemma (op.PutStatic used)
put_static_fits used parts world tables set state frame others frames fits body types after stands has =
    let at : At world tables state frame others body (op.PutStatic used) types after = record { parts = parts; set = set; frames = frames; fits = fits; stands = stands; has = has } in
    let tests = fits_kind world.files used.kind ∷ [] in
    let by = plain_rule at tests [] refl in
    static_write used at (named at) frame.operands types.stack has.operands stands.of_set.stack by.taken (goes_by at tests [] refl by)

-- ---- fields of objects

-- an instance that has a field
pub record HoldsField (world : World) (used : FieldUse) (object : Object) : Type 0 where
  pub class : ℕ
  pub fields : Fields
  pub is : object ≡ Instance class fields
  pub has : HasField world class used

holds_field : (world : World) (used : FieldUse) → IsInstanceField world used → (objects : List Object) (object : Object) → ObjectFits world objects object
    → fits world.files (known.Ref (type_of object)) (class_type used.class) ≡ true → HoldsField world used object
holds_field world used named_field objects (Instance class fields) fit e =
    record { class = class; fields = fields; is = refl; has = named_field.named class (fit.0, fit.1, fit.2) e }
holds_field world used named_field objects (Elements array elements) fit e = absurd (omega (arith, named_field.no_array array e, fit.1))

module _ {world : World} {tables : Tables} {state : State} {frame : Frame} {others : List Frame} {body : Body} {types after : VFrame} (used : FieldUse)
    (at : At world tables state frame others body (op.GetField used) types after) where
  abbrev read_tests : List (VType → Bool)
  read_tests = fits_class world.files used.class ∷ []

  object_read : (type : VType) → value_of_kind world.files used.kind ≡ Some type → (operands : List Value) (stack : List VType) → AreEach (ValueFits world state.objects body) operands stack
      → ((values : List Value) → AreEach (ValueFits world state.objects body) values (type ∷ stack) → MoveFits world tables (goes_on state frame others (pc_after body.ops frame.pc) values))
      → (object : Object) → ObjectFits world state.objects object → HoldsField world used object → MoveFits world tables (read_of state frame others (pc_after body.ops frame.pc) used operands object)
  object_read type is operands stack fit goes object object_has holds =
      let of : ObjectFits world state.objects (Instance holds.class holds.fields) = subst (ObjectFits world state.objects) holds.is object_has in
      let held = of.3 used.field holds.has.field holds.has.is in
      let kept : KindFits world state.objects used.kind held.value = subst (λ k. KindFits world state.objects k held.value) holds.has.kind held.has in
      subst (λ o. MoveFits world tables (read_of state frame others (pc_after body.ops frame.pc) used operands o)) (sym holds.is)
      (subst (λ found. MoveFits world tables (option_map_or (λ (value : Value). goes_on state frame others (pc_after body.ops frame.pc) (value ∷ operands)) found Stuck)) (sym held.is)
      (goes (held.value ∷ operands) (kind_value world state.objects body used held.value type is kept, fit)))

  field_read : IsInstanceField world used → (type : VType) → value_of_kind world.files used.kind ≡ Some type → (operands : List Value) (stack : List VType)
      → AreEach (ValueFits world state.objects body) operands stack → AllByRecursion (IsKnown world.files) stack → takes read_tests stack ≡ true → Goes at read_tests (type ∷ []) stack
      → MoveFits world tables (read_field world state frame others (pc_after body.ops frame.pc) used operands)
  unfolding takes
  field_read named_field type is [] [] fit known_types e goes = cc
  field_read named_field type is [] (top ∷ stack) fit known_types e goes = absurd fit
  field_read named_field type is (value ∷ operands) [] fit known_types e goes = absurd fit
  field_read named_field type is (value ∷ operands) (top ∷ stack) fit known_types e goes =
      let test = and_parts (fits_class world.files used.class top) true e in
      let names = reference_fits world at.set.closed state.objects at.fits.objects body value top (class_type used.class) known_types.0 fit.0 test.0 in
      object_fits at (λ object. fits world.files (known.Ref (type_of object)) (class_type used.class) ≡ true) value
      (λ name object. read_of state frame others (pc_after body.ops frame.pc) used operands object) names
      (λ name object there below. let has = object_at_fits at name object there in
      object_read type is operands stack fit.1 (λ values fits_values. goes no_need [] state values (steady at) fits_values) object has (holds_field world used named_field state.objects object has below))

module _ {world : World} {tables : Tables} {state : State} {frame : Frame} {others : List Frame} {body : Body} {types after : VFrame} (used : FieldUse)
    (at : At world tables state frame others body (op.PutField used) types after) where
  abbrev write_tests : List (VType → Bool)
  write_tests = fits_kind world.files used.kind ∷ is_written world.files body types used ∷ []

  -- the state with the field set
  field_set : (class : ℕ) (fields : Fields) (name : ℕ) → slice_get state.objects name ≡ Some (Instance class fields) → HasField world class used → (value : Value)
      → KindFits world state.objects used.kind value → IsKept used.kind value → Follows world tables state (with_object state name (Instance class (with_field fields used.field value)))
  field_set class fields name there has value fit kept =
      set_follows at name (Instance class fields) (Instance class (with_field fields used.field value)) there refl
      (λ objects grows old. (
        old.0,
        old.1,
        old.2,
        fields_set world objects (instance_field world.files class) fields used.field value has.field has.is (subst (λ k. KindFits world objects k value) (sym has.kind) (grows.kind used.kind value fit))
            (subst (λ k. IsKept k value) (sym has.kind) kept) old.3,
      ))

  object_write : (value : Value) → KindFits world state.objects used.kind (kept_as used.kind value) → (operands : List Value) (stack : List VType) → AreEach (ValueFits world state.objects body) operands stack
      → ((next : State) → Follows world tables state next → AreEach (ValueFits world next.objects body) operands stack → MoveFits world tables (goes_on next frame others (pc_after body.ops frame.pc) operands))
      → (name : ℕ) (object : Object) → slice_get state.objects name ≡ Some object → HoldsField world used object
      → MoveFits world tables (write_to state frame others (pc_after body.ops frame.pc) used value operands name object)
  object_write value kept operands stack fit goes name object there holds =
      let here : slice_get state.objects name ≡ Some (Instance holds.class holds.fields) = there ∙ ap Some holds.is in
      let of = object_at_fits at name (Instance holds.class holds.fields) here in
      let held = of.3 used.field holds.has.field holds.has.is in
      let next = with_object state name (Instance holds.class (with_field holds.fields used.field (kept_as used.kind value))) in
      let follows : Follows world tables state next = field_set holds.class holds.fields name here holds.has (kept_as used.kind value) kept (kept_is_kept used.kind value) in
      let grows = at.parts.growing world tables state.objects next.objects follows.grown in
      subst (λ o. MoveFits world tables (write_to state frame others (pc_after body.ops frame.pc) used value operands name o)) (sym holds.is)
      (subst (λ found. MoveFits world tables (option_map_or (λ (old : Value). goes_on next frame others (pc_after body.ops frame.pc) operands) found Stuck)) (sym held.is)
      (goes next follows (each_grows world tables state.objects next.objects grows body operands stack fit)))

  -- what may be written is null or an instance that has the field
  own_object : (type : VType) → is_this type ≡ true → type ≡ known.This
  own_object known.This e = refl
  own_object type e = cc

  this_holds : IsInstanceField world used → used.field.class ≡ body.class → (object : Object) → ObjectFits world state.objects object
      → IsInstance object (λ class. fits world.files (known.Ref (class_type class)) (class_type body.class) ≡ true) → HoldsField world used object
  this_holds named_field own object has is =
      let of : ObjectFits world state.objects (Instance is.class is.fields) = subst (ObjectFits world state.objects) is.is has in
      record {
        class = is.class;
        fields = is.fields;
        is = is.is;
        has = named_field.declared is.class (of.0, of.1, of.2) (subst (ClassFits world is.class) (sym own) is.has);
      }

  written : IsInstanceField world used → (value : Value) (type : VType) → IsKnown world.files type → ValueFits world state.objects body value type → is_written world.files body types used type ≡ true
      → (value ≡ Null) ⊎ NamesObject state.objects value (HoldsField world used)
  written named_field value type known_type fit e =
      elim (or_cases (fits_class world.files used.class type) (is_this type && (types.pending && nat_eq used.field.class body.class)) e) [
        | inl below ↦ elim (reference_fits world at.set.closed state.objects at.fits.objects body value type (class_type used.class) known_type fit below) [
          | inl none ↦ inl none
          | inr names ↦
              let holds = holds_field world used named_field state.objects names.object (object_at_fits at names.name names.object names.there) names.has in
              inr (record { name = names.name; object = names.object; is = names.is; there = names.there; has = holds })
        ]
        | inr this ↦
            let parts = and_parts (is_this type) (types.pending && nat_eq used.field.class body.class) this in
            let own = eqb-true used.field.class body.class (and_parts types.pending (nat_eq used.field.class body.class) parts.1).1 in
            let names : ValueFits world state.objects body value known.This = subst (ValueFits world state.objects body value) (own_object type parts.0) fit in
            let holds = this_holds named_field own names.object (object_at_fits at names.name names.object names.there) names.has in
            inr (record { name = names.name; object = names.object; is = names.is; there = names.there; has = holds })
      ]

  field_write : IsInstanceField world used → (operands : List Value) (stack : List VType) → AreEach (ValueFits world state.objects body) operands stack → AllByRecursion (IsKnown world.files) stack
      → takes write_tests stack ≡ true → Goes at write_tests [] stack → MoveFits world tables (write_field world state frame others (pc_after body.ops frame.pc) used operands)
  unfolding takes
  field_write named_field [] [] fit known_types e goes = cc
  field_write named_field [] (type ∷ stack) fit known_types e goes = absurd fit
  field_write named_field (value ∷ operands) [] fit known_types e goes = absurd fit
  field_write named_field (value ∷ []) (type ∷ []) fit known_types e goes = let rest = (and_parts (fits_kind world.files used.kind type) false e).1 in cc
  field_write named_field (value ∷ []) (type ∷ other ∷ stack) fit known_types e goes = absurd fit.1
  field_write named_field (value ∷ reference ∷ operands) (type ∷ []) fit known_types e goes = absurd fit.1
  field_write named_field (value ∷ reference ∷ operands) (type ∷ other ∷ stack) fit known_types e goes =
      let first = and_parts (fits_kind world.files used.kind type) (is_written world.files body types used other && true) e in
      let second = and_parts (is_written world.files body types used other) true first.1 in
      let kept = kept_fits world at.set.closed state.objects at.fits.objects body used.kind value type known_types.0 fit.0 first.0 in
      object_fits at (HoldsField world used) reference (λ name object. write_to state frame others (pc_after body.ops frame.pc) used value operands name object)
      (written named_field reference other known_types.1.0 fit.1.0 second.0)
      (λ name object there holds. object_write value kept operands stack fit.1.1 (λ next follows fits_values. goes no_need [] next operands follows fits_values) name object there holds)

pub get_field_fits : (used : FieldUse) → MoveLemma (op.GetField used)
get_field_fits used parts world tables set state frame others frames fits body types after stands has =
    let at : At world tables state frame others body (op.GetField used) types after = record { parts = parts; set = set; frames = frames; fits = fits; stands = stands; has = has } in
    let tests = fits_class world.files used.class ∷ [] in
    let has_rule = rule at in
    let by = field_rule world.files used tests types after has_rule.change (value_of_kind world.files used.kind) refl has_rule.is has_rule.gives in
    field_read used at (named at) by.type by.is frame.operands types.stack has.operands stands.of_set.stack by.plainly.taken (goes_by at tests (by.type ∷ []) refl by.plainly)

pub put_field_fits : (used : FieldUse) → MoveLemma (op.PutField used)
put_field_fits used parts world tables set state frame others frames fits body types after stands has =
    let at : At world tables state frame others body (op.PutField used) types after = record { parts = parts; set = set; frames = frames; fits = fits; stands = stands; has = has } in
    let tests = fits_kind world.files used.kind ∷ is_written world.files body types used ∷ [] in
    let by = plain_rule at tests [] refl in
    field_write used at (named at) frame.operands types.stack has.operands stands.of_set.stack by.taken (goes_by at tests [] refl by)
