-- Objects that are appended or set: each one that was there is there with its shape, and what fits goes on to fit.
use Rattle.std.proofs.Common.{◌≡◌, ℕ, zero, suc, List, [], ◌∷◌, ◌++◌, length, Some, refl, subst}
use Rattle.std.specs.Prelude.{slice_get, slice_set}
use Rattle.std.specs.List.{AllByRecursion}
use Rattle.class_pool.specs.declared.types.MemberId.{MemberId}
use Rattle.class_tree.specs.Members.{Declaration}
use Rattle.jvm_model.specs.TypesRules.{component_of}
use Rattle.typed_machine.specs.TypedState.{Fields, Object, Instance, Elements}
use Rattle.typed_machine.specs.TypedWorld.{World, kind_of}
use Rattle.type_safety.specs.Fitting.{Tables, TypeFits, FieldFits, ObjectFits, StaticsFit}
use Rattle.type_safety.specs.Parts.{SameShape, StaysAs, Grown, GrownFits}

-- ---- lists

pub all_at : {X : Type 0} (P : X → Type 0) (xs : List X) → AllByRecursion P xs → (i : ℕ) (x : X) → slice_get xs i ≡ Some x → P x
all_at P [] all i x e = cc
all_at P (y ∷ xs) all zero x e = let same : y ≡ x = cc in subst P same all.0
all_at P (y ∷ xs) all (suc i) x e = all_at P xs all.1 i x e

pub all_map : {X : Type 0} (P Q : X → Type 0) → ((x : X) → P x → Q x) → (xs : List X) → AllByRecursion P xs → AllByRecursion Q xs
all_map P Q each [] all = tt
all_map P Q each (x ∷ xs) all = (each x all.0, all_map P Q each xs all.1)

pub all_append : {X : Type 0} (P : X → Type 0) (xs ys : List X) → AllByRecursion P xs → AllByRecursion P ys → AllByRecursion P (xs ++ ys)
all_append P [] ys first second = second
all_append P (x ∷ xs) ys first second = (first.0, all_append P xs ys first.1 second)

pub all_set : {X : Type 0} (P : X → Type 0) (xs : List X) (i : ℕ) (x : X) → P x → AllByRecursion P xs → AllByRecursion P (slice_set xs i x)
all_set P [] i x here all = tt
all_set P (y ∷ xs) zero x here all = (here, all.1)
all_set P (y ∷ xs) (suc i) x here all = (all.0, all_set P xs i x here all.1)

-- ---- shapes

same_itself : (object : Object) → SameShape object object
same_itself (Instance class fields) = refl
same_itself (Elements array elements) = refl

stays_itself : (objects : List Object) (name : ℕ) (object : Object) → slice_get objects name ≡ Some object → StaysAs objects name object
stays_itself objects name object is = record { other = object; there = is; same = same_itself object }

pub grown_itself : (objects : List Object) → Grown objects objects
grown_itself objects = stays_itself objects

pub grown_append : (objects more : List Object) → Grown objects (objects ++ more)
grown_append [] more name object is = cc
grown_append (first ∷ objects) more zero object is = record { other = object; there = is; same = same_itself object }
grown_append (first ∷ objects) more (suc name) object is =
    let rest = grown_append objects more name object is in record { other = rest.other; there = rest.there; same = rest.same }

same_object : (a b : Object) → Some a ≡ Some b → a ≡ b
same_object a b e = cc

pub grown_set : (objects : List Object) (at : ℕ) (old new : Object) → slice_get objects at ≡ Some old → SameShape old new → Grown objects (slice_set objects at new)
grown_set [] at old new there same name object is = cc
grown_set (first ∷ objects) zero old new there same zero object is =
    let one : first ≡ old = same_object first old there in
    let two : first ≡ object = same_object first object is in
    let here : old ≡ object = cc in
    record { other = new; there = refl; same = subst (λ o. SameShape o new) here same }
grown_set (first ∷ objects) zero old new there same (suc name) object is = record { other = object; there = is; same = same_itself object }
grown_set (first ∷ objects) (suc at) old new there same zero object is = record { other = object; there = is; same = same_itself object }
grown_set (first ∷ objects) (suc at) old new there same (suc name) object is =
    let rest = grown_set objects at old new there same name object is in record { other = rest.other; there = rest.there; same = rest.same }

-- the first of objects that are appended has the next name
pub next_name : (objects more : List Object) (object : Object) → slice_get (objects ++ object ∷ more) (length objects) ≡ Some object
next_name [] more object = refl
next_name (first ∷ objects) more object = next_name objects more object

-- ---- what fits goes on to fit

module _ (world : World) (tables : Tables) (old new : List Object) (grows : GrownFits world tables old new) where
  field_grows : (fields : Fields) (id : MemberId) (field : Declaration) → FieldFits world old fields id field → FieldFits world new fields id field
  field_grows fields id field has = record { value = has.value; is = has.is; has = grows.kind (kind_of field) has.value has.has; kept = has.kept }

  pub object_grows : (object : Object) → ObjectFits world old object → ObjectFits world new object
  object_grows (Instance class fields) has = (has.0, has.1, has.2, λ id field is. field_grows fields id field (has.3 id field is))
  object_grows (Elements array elements) has =
      (has.0, has.1, all_map (TypeFits world old (component_of array)) (TypeFits world new (component_of array)) (grows.element (component_of array)) elements has.2, has.3, has.4)

  pub objects_grow : (objects : List Object) → AllByRecursion (ObjectFits world old) objects → AllByRecursion (ObjectFits world new) objects
  objects_grow objects all = all_map (ObjectFits world old) (ObjectFits world new) object_grows objects all

  pub statics_grow : (statics : Fields) → StaticsFit world old statics → StaticsFit world new statics
  statics_grow statics fit id field is = field_grows statics id field (fit id field is)
