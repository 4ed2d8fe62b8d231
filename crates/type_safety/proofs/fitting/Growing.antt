-- What fits goes on to fit where objects are added or keep their class or type.
use Rattle.std.proofs.Common.{◌≡◌, ℕ, zero, suc, true, inl, inr, List, [], ◌∷◌, ◌++◌, Option, Some, None, refl, ap, subst}
use Rattle.std.specs.List.{AllByRecursion}
use Rattle.class_pool.specs.declared.descriptor.Kind.{Kind}
use Rattle.class_pool.specs.declared.types.TypeRef.{TypeRef}
use Rattle.class_tree.specs.Fits.{fits}
use Rattle.class_tree.specs.Subtypes.{class_type}
use Rattle.body_form.specs.declared.body.Body.{Body}
use Rattle.body_form.specs.declared.types.VFrame.{VFrame}
use Rattle.body_form.specs.declared.types.VType.{VType}
use Rattle.body_form.specs.declared.types.VType.TheVariants.{Top, Int, Null, Ref, New, This}
use Rattle.jvm_model.specs.Bodies.{AreEach}
use Rattle.jvm_model.specs.State.{Value}
use Rattle.jvm_model.specs.TypesRules.{changed}
use Rattle.typed_machine.specs.TypedState.{Object, Instance, Elements, Frame, Fields}
use Rattle.typed_machine.specs.TypedWorld.{World, type_of}
use Rattle.type_safety.specs.Fitting.{Tables, NamesObject, IsInstance, ValueFits, LocalFits, FrameFits, KindFits, TypeFits, ObjectFits, StaticsFit, unpushed, Waits, OthersWait}
use Rattle.type_safety.specs.Parts.{SameShape, Grown, GrownFits, GrowingFits}

-- ---- objects of one shape

same_shape : (a b : Object) → SameShape a b → type_of a ≡ type_of b
same_shape (Instance class fields) (Instance other more) same = ap class_type same
same_shape (Elements array elements) (Elements other more) same = same
same_shape (Instance class fields) (Elements other more) same = absurd same
same_shape (Elements array elements) (Instance other more) same = absurd same

shape_itself : (a : Object) → SameShape a a
shape_itself (Instance class fields) = refl
shape_itself (Elements array elements) = refl

instance_stays : (a b : Object) (Has : ℕ → Type 0) → SameShape a b → IsInstance a Has → IsInstance b Has
instance_stays a (Instance other more) Has same is =
    let shape : SameShape (Instance is.class is.fields) (Instance other more) = subst (λ o. SameShape o (Instance other more)) is.is same in
    record { class = other; fields = more; is = refl; has = subst Has shape is.has }
instance_stays a (Elements other more) Has same is = absurd (subst (λ o. SameShape o (Elements other more)) is.is same)

-- ---- appended objects

append_stays : (old more : List Object) → Grown old (old ++ more)
append_stays [] more name object is = cc
append_stays (first ∷ old) more zero object is =
    let same : first ≡ object = cc in
    record { other = first; there = refl; same = subst (λ o. SameShape o first) same (shape_itself first) }
append_stays (first ∷ old) more (suc name) object is =
    let rest = append_stays old more name object is in record { other = rest.other; there = rest.there; same = rest.same }

pub grown_append : (old more : List Object) → Grown old (old ++ more)
grown_append old more = append_stays old more

pub grown_itself : (objects : List Object) → Grown objects objects
grown_itself objects name object is = record { other = object; there = is; same = shape_itself object }

module _ (world : World) (tables : Tables) (old new : List Object) (grown : Grown old new) where
  -- ---- values and frames

  named_stays : (value : Value) (Has Had : Object → Type 0) → ((a b : Object) → SameShape a b → Had a → Has b) → NamesObject old value Had → NamesObject new value Has
  named_stays value Has Had each named =
      let stays = grown named.name named.object named.there in
      record { name = named.name; object = stays.other; is = named.is; there = stays.there; has = each named.object stays.other stays.same named.has }

  value_stays : (body : Body) (value : Value) (type : VType) → ValueFits world old body value type → ValueFits world new body value type
  value_stays body value Top fits = tt
  value_stays body value Int fits = fits
  value_stays body value Null fits = fits
  value_stays body value (Ref type) (inl null) = inl null
  value_stays body value (Ref type) (inr named) =
      let Has : Object → Type 0 = λ object. fits world.files (Ref (type_of object)) type ≡ true in
      inr (named_stays value Has Has (λ a b same has. subst (λ t. fits world.files (Ref t) type ≡ true) (same_shape a b same) has) named)
  value_stays body value (New pc) named = named_stays value (λ object. IsInstance object _) (λ object. IsInstance object _) (λ a b same has. instance_stays a b _ same has) named
  value_stays body value This named = named_stays value (λ object. IsInstance object _) (λ object. IsInstance object _) (λ a b same has. instance_stays a b _ same has) named

  local_stays : (body : Body) (value : Option Value) (type : VType) → LocalFits world old body value type → LocalFits world new body value type
  local_stays body None type fits = fits
  local_stays body (Some value) type fits = value_stays body value type fits

  each_stays : {X : Type 0} (Fits Fitted : X → VType → Type 0) → ((x : X) (type : VType) → Fitted x type → Fits x type) → (xs : List X) (types : List VType) → AreEach Fitted xs types → AreEach Fits xs types
  each_stays Fits Fitted each [] [] fits = tt
  each_stays Fits Fitted each [] (type ∷ types) fits = absurd fits
  each_stays Fits Fitted each (x ∷ xs) [] fits = absurd fits
  each_stays Fits Fitted each (x ∷ xs) (type ∷ types) fits = (each x type fits.0, each_stays Fits Fitted each xs types fits.1)

  frame_stays : (body : Body) (frame : Frame) (types : VFrame) → FrameFits world old body frame types → FrameFits world new body frame types
  frame_stays body frame types fits =
      record {
        locals = each_stays (LocalFits world new body) (LocalFits world old body) (local_stays body) frame.locals types.locals fits.locals;
        operands = each_stays (ValueFits world new body) (ValueFits world old body) (value_stays body) frame.operands types.stack fits.operands;
      }

  -- ---- declared types

  kind_stays : (kind : Kind) (value : Value) → KindFits world old kind value → KindFits world new kind value
  kind_stays kind value fits = record { type = fits.type; is = fits.is; has = λ body. value_stays body value fits.type (fits.has body) }

  type_stays : (type : TypeRef) (value : Value) → TypeFits world old type value → TypeFits world new type value
  type_stays type value fits = λ body. value_stays body value _ (fits body)

  -- ---- frames that wait

  waits_stay : (frame above : Frame) → Waits world tables old frame above → Waits world tables new frame above
  waits_stay frame above waits =
      record {
        body = waits.body;
        found = waits.found;
        instruction = waits.instruction;
        used = waits.used;
        at = waits.at;
        calls = waits.calls;
        types = waits.types;
        known = waits.known;
        change = waits.change;
        rule = waits.rule;
        has = frame_stays waits.body frame (changed (unpushed waits.change) waits.types) waits.has;
        callee = waits.callee;
        callee_found = waits.callee_found;
        result = waits.result;
      }

  others_stay : (above : Frame) (others : List Frame) → OthersWait world tables old above others → OthersWait world tables new above others
  others_stay above [] wait = wait
  others_stay above (frame ∷ others) wait = (waits_stay frame above wait.0, others_stay frame others wait.1)

  grown_fits : GrownFits world tables old new
  grown_fits = record { value = value_stays; frame = frame_stays; kind = kind_stays; element = type_stays; others = others_stay }

pub growing_fits : GrowingFits
growing_fits world tables old new grown = grown_fits world tables old new grown

-- ---- objects and statics

module _ (world : World) (tables : Tables) (old new : List Object) (grown : Grown old new) where
  all_stay : (type : TypeRef) (elements : List Value) → AllByRecursion (TypeFits world old type) elements → AllByRecursion (TypeFits world new type) elements
  all_stay type [] all = tt
  all_stay type (value ∷ elements) all = ((growing_fits world tables old new grown).element type value all.0, all_stay type elements all.1)

  object_stays : (object : Object) → ObjectFits world old object → ObjectFits world new object
  object_stays (Instance class fields) fit = (
    fit.0,
    fit.1,
    fit.2,
    λ id field is. let had = fit.3 id field is in record { value = had.value; is = had.is; has = (growing_fits world tables old new grown).kind _ had.value had.has; kept = had.kept },
  )
  object_stays (Elements array elements) fit = (fit.0, fit.1, all_stay _ elements fit.2, fit.3, fit.4)

  pub objects_stay : (objects : List Object) → AllByRecursion (ObjectFits world old) objects → AllByRecursion (ObjectFits world new) objects
  objects_stay [] all = tt
  objects_stay (object ∷ objects) all = (object_stays object all.0, objects_stay objects all.1)

  pub statics_stay : (statics : Fields) → StaticsFit world old statics → StaticsFit world new statics
  statics_stay statics fit id field is =
      let had = fit id field is in record { value = had.value; is = had.is; has = (growing_fits world tables old new grown).kind _ had.value had.has; kept = had.kept }
