-- What a value that fits a type holds: a reference names an object of that type or one below it, and what is kept of a
-- value that may stand where a type is declared fits that type.
use Rattle.std.proofs.Common.{◌≡◌, ◌⊎◌, ℕ, Bool, true, false, inl, inr, List, [], ◌∷◌, Option, Some, None, Ok, Err, if◌then◌else◌, refl, sym, ap, subst, ◌∙◌}
use Rattle.std.specs.List.{AllByRecursion}
use Rattle.std.proofs.lemmas.Bool.{and_parts, eqb-true}
use Rattle.class_pool.specs.declared.descriptor.Kind.{Kind}
use Rattle.class_pool.specs.declared.types.MemberId.{MemberId}
use Rattle.class_pool.specs.declared.types.TypeRef.{TypeRef}
use Rattle.class_tree.specs.Fits.{fits}
use Rattle.class_tree.specs.Members.{Declaration}
use Rattle.class_tree.specs.Merge.{is_reference}
use Rattle.class_tree.specs.MergeLaws.{IsKnown}
use Rattle.class_tree.specs.Subtypes.{IsType}
use Rattle.class_tree.specs.Tree.{Gathers}
use Rattle.body_form.specs.declared.body.Body.{Body}
use Rattle.body_form.specs.declared.types.VType.{VType}
use Rattle.body_form.specs.declared.types.VType.TheVariants as known
use Rattle.jvm_model.specs.Bodies.{AreEach}
use Rattle.jvm_model.specs.InitialStatics.{narrowed}
use Rattle.jvm_model.specs.Resolution.{Resolved, kind_named}
use Rattle.jvm_model.specs.State.{Value, Null}
use Rattle.jvm_model.specs.TypesFrames.{is_int, value_of, value_in, fits_in, fits_kind}
use Rattle.typed_machine.specs.TypedCalls.{kept_as}
use Rattle.typed_machine.specs.TypedState.{Fields, Object, Instance, Elements, is_member, with_field}
use Rattle.typed_machine.specs.TypedWorld.{World, type_of, kind_of}
use Rattle.type_safety.specs.Fitting.{Tables, IsWhole, IsKept, NamesObject, ValueFits, KindFits, FieldFits, ObjectFits}
use Rattle.type_safety.specs.Parts.{GrownFits}
use Rattle.type_safety.proofs.fitting.FitsOver.{fits_over}
use Rattle.type_safety.proofs.fitting.GrownObjects.{all_at}
use Rattle.type_safety.proofs.fitting.Numbers.{narrowed_fits}

-- values that fit types go on to fit them
pub each_grows : (world : World) (tables : Tables) (old new : List Object) → GrownFits world tables old new → (body : Body) (values : List Value) (types : List VType)
    → AreEach (ValueFits world old body) values types → AreEach (ValueFits world new body) values types
each_grows world tables old new grows body [] [] fit = tt
each_grows world tables old new grows body [] (type ∷ types) fit = absurd fit
each_grows world tables old new grows body (value ∷ values) [] fit = absurd fit
each_grows world tables old new grows body (value ∷ values) (type ∷ types) fit =
    (grows.value body value type fit.0, each_grows world tables old new grows body values types fit.1)

-- ---- types of objects

pub object_type : (world : World) (objects : List Object) (object : Object) → ObjectFits world objects object → IsType world.files (type_of object)
object_type world objects (Instance class fields) fit = (fit.0, tt)
object_type world objects (Elements array elements) fit = fit.0

module _ (world : World) (gathers : Gathers world.files None) (objects : List Object) (fit : AllByRecursion (ObjectFits world objects) objects) where
  -- a reference whose type fits another one names an object that fits that
  pub reference_fits : (body : Body) (value : Value) (type : VType) (upper : TypeRef) → IsKnown world.files type → ValueFits world objects body value type → fits world.files type upper ≡ true
      → (value ≡ Null) ⊎ NamesObject objects value (λ object. fits world.files (known.Ref (type_of object)) upper ≡ true)
  reference_fits body value known.Null upper is has e = inl has
  reference_fits body value (known.Ref type) upper is (inl none) e = inl none
  reference_fits body value (known.Ref type) upper is (inr names) e =
      let there = object_type world objects names.object (all_at (ObjectFits world objects) objects fit names.name names.object names.there) in
      inr (record { name = names.name; object = names.object; is = names.is; there = names.there; has = fits_over world.files gathers (type_of names.object) type upper there is names.has e })
  reference_fits body value type upper is has e = cc

  -- ---- what a field keeps

  kept_null : (kind : Kind) (value : Value) (upper : TypeRef) → (value ≡ Null) ⊎ NamesObject objects value (λ object. fits world.files (known.Ref (type_of object)) upper ≡ true) → kept_as kind value ≡ value
  kept_null kind value upper (inl none) = subst (λ v. kept_as kind v ≡ v) (sym none) refl
  kept_null kind value upper (inr names) = subst (λ v. kept_as kind v ≡ v) (sym names.is) refl

  kept_number : (body : Body) (kind : Kind) (value : Value) (type : VType) → ValueFits world objects body value type → is_int type ≡ true → IsWhole (kept_as kind value)
  kept_number body kind value known.Int has e = subst (λ v. IsWhole (kept_as kind v)) (sym has.1) (narrowed kind has.0, refl, narrowed_fits kind has.0 has.2)
  kept_number body kind value type has e = cc

  kept_type : (body other : Body) (kind : Kind) (value : Value) (type : VType) (declared : TypeRef) (refers : Bool) → is_reference declared.dims declared.base ≡ refers → IsKnown world.files type
      → ValueFits world objects body value type → (if refers then fits world.files type declared else is_int type) ≡ true
      → ValueFits world objects other (kept_as kind value) (if refers then known.Ref declared else known.Int)
  kept_type body other kind value type declared true is known_type has e =
      let names = reference_fits body value type declared known_type has e in
      subst (λ v. ValueFits world objects other v (known.Ref declared)) (sym (kept_null kind value declared names)) names
  kept_type body other kind value type declared false is known_type has e = kept_number body kind value type has e

  kept_named : (body : Body) (kind : Kind) (value : Value) (type : VType) (named : Resolved TypeRef) → kind_named world.files kind ≡ named → IsKnown world.files type
      → ValueFits world objects body value type → fits_in world.files named type ≡ true → KindFits world objects kind (kept_as kind value)
  kept_named body kind value type (Ok declared) is known_type has e =
      record {
        type = value_of declared;
        is = ap value_in is;
        has = λ other. kept_type body other kind value type declared (is_reference declared.dims declared.base) refl known_type has e;
      }
  kept_named body kind value type (Err why) is known_type has e = cc

  -- what is kept of a value that may stand where a kind is declared
  pub kept_fits : (body : Body) (kind : Kind) (value : Value) (type : VType) → IsKnown world.files type → ValueFits world objects body value type → fits_kind world.files kind type ≡ true
      → KindFits world objects kind (kept_as kind value)
  kept_fits body kind value type known_type has e = kept_named body kind value type (kind_named world.files kind) refl known_type has e

-- ---- fields with one set

same_member : (a b : MemberId) → is_member a b ≡ true → a ≡ b
same_member a b e =
    let parts = and_parts _ _ e in
    let one : a.class ≡ b.class = eqb-true a.class b.class parts.0 in
    let two : a.member ≡ b.member = eqb-true a.member b.member parts.1 in
    ap (λ (c : ℕ). record { class = c; member = a.member }) one ∙ ap (λ (m : ℕ). record { class = b.class; member = m }) two

same_field : (a b : Declaration) → Some a ≡ Some b → a ≡ b
same_field a b e = cc

module _ (world : World) (objects : List Object) (find : MemberId → Option Declaration) (fields : Fields) (id : MemberId) (value : Value) (declared : Declaration) where
  set_at : find id ≡ Some declared → KindFits world objects (kind_of declared) value → IsKept (kind_of declared) value → (other : MemberId) (field : Declaration) → find other ≡ Some field → FieldFits world objects fields other field
      → (same : Bool) → is_member id other ≡ same → FieldFits world objects (with_field fields id value) other field
  set_at is has kept other field found old true e =
      let one : declared ≡ field = same_field declared field (sym is ∙ ap find (same_member id other e) ∙ found) in
      record {
        value = value;
        is = ap (λ (b : Bool). if b then Some value else fields other) e;
        has = subst (λ f. KindFits world objects (kind_of f) value) one has;
        kept = subst (λ f. IsKept (kind_of f) value) one kept;
      }
  set_at is has kept other field found old false e = record { value = old.value; is = ap (λ (b : Bool). if b then Some value else fields other) e ∙ old.is; has = old.has; kept = old.kept }

  pub fields_set : find id ≡ Some declared → KindFits world objects (kind_of declared) value → IsKept (kind_of declared) value
      → ((other : MemberId) (field : Declaration) → find other ≡ Some field → FieldFits world objects fields other field)
      → (other : MemberId) (field : Declaration) → find other ≡ Some field → FieldFits world objects (with_field fields id value) other field
  fields_set is has kept each other field found = set_at is has kept other field found (each other field found) (is_member id other) refl
