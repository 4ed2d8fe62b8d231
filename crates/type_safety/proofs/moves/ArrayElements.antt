-- What arrays that fit the type of an instruction hold: their elements are of its kind, and what is stored is too.
use Rattle.std.proofs.Common.{◌≡◌, ◌⊎◌, ℕ, zero, suc, ◌-◌, ◌≤◌, pos, Bool, true, false, ◌&&◌, nat_eq, nat_le, inl, inr, List, replicate, None, if◌then◌else◌, refl, sym, ap, subst, ◌∙◌, arith, FitsSigned}
use Rattle.std.specs.Int.{w32}
use Rattle.std.proofs.lemmas.List.{length-replicate}
use Rattle.std.specs.Option.{option_map_or}
use Rattle.std.specs.List.{AllByRecursion}
use Rattle.std.proofs.lemmas.Bool.{cases_Bool, and_parts, and_right, eqb-true, leb-true}
use Rattle.class_pool.specs.declared.types.TypeBase.{TypeBase}
use Rattle.class_pool.specs.declared.types.TypeBase.TheVariants.{Class}
use Rattle.class_pool.specs.declared.types.TypeRef.{TypeRef}
use Rattle.class_file.specs.declared.record.ClassFile.{ClassFile}
use Rattle.class_tree.specs.Fits.{fits, fits_ref}
use Rattle.class_tree.specs.Merge.{is_reference, are_primitive}
use Rattle.class_tree.specs.Subtypes.{IsType}
use Rattle.class_tree.specs.Tree.{Gathers}
use Rattle.class_tree.proofs.merging.RefParts.{has_dims, primitive_parts, reference_is_no_second, fits_component, fits_array, fits_no_array, component_refs, component_others}
use Rattle.insn_form.specs.declared.ElementKind.{ElementKind}
use Rattle.insn_form.specs.declared.ElementKind.TheVariants as element
use Rattle.body_form.specs.declared.body.Body.{Body}
use Rattle.body_form.specs.declared.types.VType.{VType}
use Rattle.body_form.specs.declared.types.VType.TheVariants as known
use Rattle.jvm_model.specs.State.{Value, Whole, Null, Name}
use Rattle.jvm_model.specs.TypesFrames.{is_int}
use Rattle.jvm_model.specs.TypesRules.{is_constructed, component_of, is_element, has_elements, is_elements_value}
use Rattle.typed_machine.specs.TypedArrays.{kept_by_base, kept_in, new_array, may_be_stored}
use Rattle.typed_machine.specs.TypedState.{Object, Instance, Elements, State}
use Rattle.typed_machine.specs.TypedWorld.{World, type_of, is_below, default_of_type}
use Rattle.type_safety.specs.Fitting.{IsWhole, IsKeptElement, NamesObject, ValueFits, TypeFits, ObjectFits}
use Rattle.type_safety.proofs.fitting.BelowFits.{below_fits}
use Rattle.type_safety.proofs.fitting.GrownObjects.{all_at}
use Rattle.type_safety.proofs.fitting.HeldValues.{object_type, reference_fits}
use Rattle.type_safety.proofs.fitting.Numbers.{small_fits, element_fits, default_element_kept}

-- ---- new arrays

all_replicate : {X : Type 0} (P : X → Type 0) (x : X) → P x → (n : ℕ) → AllByRecursion P (replicate n x)
all_replicate P x is zero = tt
all_replicate P x is (suc n) = (is, all_replicate P x is n)

default_either : (world : World) (objects : List Object) (body : Body) (type : TypeRef) (refers : Bool)
    → ValueFits world objects body (if refers then Null else Whole (pos 0)) (if refers then known.Ref type else known.Int)
default_either world objects body type true = inl refl
default_either world objects body type false = (pos 0, refl, small_fits 0 (omega arith))

-- what an element holds at first fits
default_fits : (world : World) (objects : List Object) (type : TypeRef) → TypeFits world objects type (default_of_type type)
default_fits world objects type body = default_either world objects body type (is_reference type.dims type.base)

pub new_array_fits : (world : World) (objects : List Object) (array : TypeRef) (count : ℕ) → FitsSigned w32 (pos count) → IsType world.files array → 1 ≤ array.dims → ObjectFits world objects (new_array array count)
new_array_fits world objects array count counted known some = (
  known,
  some,
  all_replicate (TypeFits world objects (component_of array)) (default_of_type (component_of array)) (default_fits world objects (component_of array)) count,
  subst (λ (n : ℕ). FitsSigned w32 (pos n)) (sym (length-replicate count (default_of_type (component_of array)))) counted,
  all_replicate (IsKeptElement array.base) (default_of_type (component_of array)) (default_element_kept array.base (component_of array)) count,
)

-- ---- arrays of a type

-- the object is an array that fits a type
pub record IsArrayOf (files : List ClassFile) (type : TypeRef) (object : Object) : Type 0 where
  pub array : TypeRef
  pub elements : List Value
  pub is : object ≡ Elements array elements
  pub below : fits files (known.Ref array) type ≡ true

never_both : (b : Bool) → b ≡ true → b ≡ false → ⊥
never_both true e f = cc
never_both false e f = cc

no_instance : (files : List ClassFile) (class dims : ℕ) (base : TypeBase) → 1 ≤ dims → fits_ref files 0 (Class class) dims base ≡ true → ⊥
no_instance files class zero base some e = omega (arith, some)
no_instance files class (suc dims) base some e = never_both (fits_ref files 0 (Class class) (suc dims) base) e (fits_no_array files (Class class) dims base)

array_object : (files : List ClassFile) (type : TypeRef) → 1 ≤ type.dims → (object : Object) → fits files (known.Ref (type_of object)) type ≡ true → IsArrayOf files type object
array_object files type some (Instance class fields) e = absurd (no_instance files class type.dims type.base some e)
array_object files type some (Elements array elements) e = record { array = array; elements = elements; is = refl; below = e }

-- a reference to arrays of a type is null or names one
pub array_named : (world : World) (objects : List Object) (body : Body) (value : Value) (type : TypeRef) → 1 ≤ type.dims → ValueFits world objects body value (known.Ref type)
    → (value ≡ Null) ⊎ NamesObject objects value (IsArrayOf world.files type)
array_named world objects body value type some (inl none) = inl none
array_named world objects body value type some (inr names) =
    inr (record { name = names.name; object = names.object; is = names.is; there = names.there; has = array_object world.files type some names.object names.has })

-- ---- components

-- the components of an array of references that fits another one are references that fit its components
pub record ComponentsFit (files : List ClassFile) (m : ℕ) (s : TypeBase) (n : ℕ) (t : TypeBase) : Type 0 where
  pub refers : is_reference m s ≡ true
  pub below : fits_ref files m s n t ≡ true

components_at : (files : List ClassFile) (m : ℕ) (s : TypeBase) (n : ℕ) (t : TypeBase) → is_reference n t ≡ true → fits_component files m s n t ≡ true → ComponentsFit files m s n t
components_at files m s n t refers e =
    elim (cases_Bool (is_reference m s && is_reference n t)) [
      | inl both ↦
          let first = (and_parts (is_reference m s) (is_reference n t) both).0 in
          record { refers = first; below = sym (component_refs files m s n t first refers) ∙ e }
      | inr none ↦ absurd (never_both (are_primitive m s n t) (sym (component_others files m s n t none) ∙ e) (reference_is_no_second m s n t refers))
    ]

components_fit : (files : List ClassFile) (m : ℕ) (s : TypeBase) (n : ℕ) (t : TypeBase) → 1 ≤ m → 1 ≤ n → is_reference (n - 1) t ≡ true → fits_ref files m s n t ≡ true → ComponentsFit files (m - 1) s (n - 1) t
components_fit files zero s n t lower upper refers e = absurd (omega (arith, lower))
components_fit files (suc m) s zero t lower upper refers e = absurd (omega (arith, upper))
components_fit files (suc m) s (suc n) t lower upper refers e =
    let one : suc m - 1 ≡ m = omega arith in
    let two : suc n - 1 ≡ n = omega arith in
    let inner = components_at files m s n t (subst (λ k. is_reference k t ≡ true) two refers) (sym (fits_array files m s n t) ∙ e) in
    subst (λ i. ComponentsFit files i s (suc n - 1) t) (sym one) (subst (λ k. ComponentsFit files m s k t) (sym two) inner)

-- an array that fits one of a primitive type is of that type
flat_at : (files : List ClassFile) (m : ℕ) (s t : TypeBase) → is_reference 0 t ≡ false → fits_component files m s 0 t ≡ true → is_reference m s ≡ false
flat_at files m s t primitive e =
    let is = primitive_parts m s 0 t (sym (component_others files m s 0 t (and_right (is_reference m s) (is_reference 0 t) primitive)) ∙ e) in
    subst (λ k. is_reference k s ≡ false) (sym is.first) (subst (λ x. is_reference 0 x ≡ false) (sym is.base) primitive)

flat : (files : List ClassFile) (m : ℕ) (s : TypeBase) (n : ℕ) (t : TypeBase) → 1 ≤ m → n ≡ 1 → is_reference 0 t ≡ false → fits_ref files m s n t ≡ true → is_reference (m - 1) s ≡ false
flat files zero s n t lower is primitive e = absurd (omega (arith, lower))
flat files (suc m) s n t lower is primitive e =
    let one : suc m - 1 ≡ m = omega arith in
    let fit : fits_ref files (suc m) s 1 t ≡ true = subst (λ k. fits_ref files (suc m) s k t ≡ true) is e in
    subst (λ i. is_reference i s ≡ false) (sym one) (flat_at files m s t primitive (sym (fits_array files m s 0 t) ∙ fit))

element_primitive : (kind : ElementKind) (s : TypeBase) → is_element kind s ≡ true → is_reference 0 s ≡ false
element_primitive element.Int (Class class) e = cc
element_primitive element.Byte (Class class) e = cc
element_primitive element.Char (Class class) e = cc
element_primitive element.Short (Class class) e = cc
element_primitive element.Ref (Class class) e = cc
element_primitive kind s e = refl

-- ---- elements by their kind

-- whether the elements of arrays of a kind are references
abbrev pub are_references : ElementKind → Bool
are_references element.Ref = true
are_references kind = false

pub has_dims_of : (kind : ElementKind) (type : TypeRef) → has_elements kind type ≡ true → 1 ≤ type.dims
has_dims_of element.Ref type e = leb-true 1 type.dims (and_parts (nat_le 1 type.dims) (is_reference (type.dims - 1) type.base) e).0
has_dims_of kind type e = let one = eqb-true type.dims 1 (and_parts (nat_eq type.dims 1) (is_element kind type.base) e).0 in omega (arith, one)

-- what an element of a kind is known as, of an array of this type
abbrev pub read_as : ElementKind → TypeRef → VType
read_as kind type = if are_references kind then known.Ref (component_of type) else known.Int

module _ (world : World) (gathers : Gathers world.files None) (objects : List Object) (fit : AllByRecursion (ObjectFits world objects) objects) where
  read_reference : (body : Body) (array type : TypeRef) → IsType world.files array → 1 ≤ array.dims → has_elements element.Ref type ≡ true → fits world.files (known.Ref array) type ≡ true
      → (value : Value) → TypeFits world objects (component_of array) value → ValueFits world objects body value (known.Ref (component_of type))
  read_reference body array type known_array some e below value has =
      let parts = and_parts (nat_le 1 type.dims) (is_reference (type.dims - 1) type.base) e in
      let components = components_fit world.files array.dims array.base type.dims type.base some (leb-true 1 type.dims parts.0) parts.1 below in
      let held : ValueFits world objects body value (known.Ref (component_of array)) =
      subst (λ b. ValueFits world objects body value (if b then known.Ref (component_of array) else known.Int)) components.refers (has body) in
      reference_fits world gathers objects fit body value (known.Ref (component_of array)) (component_of type) (known_array.0, has_dims (array.dims - 1) array.base components.refers) held components.below

  read_number : (kind : ElementKind) → (body : Body) (array type : TypeRef) → 1 ≤ array.dims → (nat_eq type.dims 1 && is_element kind type.base) ≡ true → fits world.files (known.Ref array) type ≡ true
      → (value : Value) → TypeFits world objects (component_of array) value → IsWhole value
  read_number kind body array type some e below value has =
      let parts = and_parts (nat_eq type.dims 1) (is_element kind type.base) e in
      let primitive = flat world.files array.dims array.base type.dims type.base some (eqb-true type.dims 1 parts.0) (element_primitive kind type.base parts.1) below in
      subst (λ b. ValueFits world objects body value (if b then known.Ref (component_of array) else known.Int)) primitive (has body)

  -- what is read of an array that fits the type
  pub read_fits : (kind : ElementKind) (body : Body) (array type : TypeRef) → IsType world.files array → 1 ≤ array.dims → has_elements kind type ≡ true → fits world.files (known.Ref array) type ≡ true
      → (value : Value) → TypeFits world objects (component_of array) value → ValueFits world objects body value (read_as kind type)
  read_fits element.Ref body array type known_array some e below value has = read_reference body array type known_array some e below value has
  read_fits element.Int body array type known_array some e below value has = read_number element.Int body array type some e below value has
  read_fits element.Byte body array type known_array some e below value has = read_number element.Byte body array type some e below value has
  read_fits element.Char body array type known_array some e below value has = read_number element.Char body array type some e below value has
  read_fits element.Short body array type known_array some e below value has = read_number element.Short body array type some e below value has

-- ---- what is stored

module _ (world : World) (gathers : Gathers world.files None) (state : State) (fit : AllByRecursion (ObjectFits world state.objects) state.objects) where
  whole_kept : (body : Body) (array : TypeRef) (value : Value) → IsWhole value → (refers : Bool) → refers ≡ false → ValueFits world state.objects body (kept_in array value) (if refers then known.Ref (component_of array) else known.Int)
  whole_kept body array value whole true e = cc
  whole_kept body array value whole false e = subst (λ v. IsWhole (kept_in array v)) (sym whole.1) (kept_by_base array.base whole.0, refl, element_fits array.base whole.0 whole.2)

  reference_kept : (body : Body) (array : TypeRef) (value : Value) → (value ≡ Null) ⊎ NamesObject state.objects value (λ object. Unit {0}) → IsType world.files (component_of array)
      → may_be_stored world state array value ≡ true → ValueFits world state.objects body (kept_in array value) (known.Ref (component_of array))
  reference_kept body array value (inl none) known_component may = subst (λ v. ValueFits world state.objects body (kept_in array v) (known.Ref (component_of array))) (sym none) (inl refl)
  reference_kept body array value (inr names) known_component may =
      let named_may : may_be_stored world state array (Name names.name) ≡ true = subst (λ v. may_be_stored world state array v ≡ true) names.is may in
      let under : is_below world.files (type_of names.object) (component_of array) ≡ true =
      sym (ap (λ found. option_map_or (λ (o : Object). is_below world.files (type_of o) (component_of array)) found false) names.there) ∙ named_may in
      let there = object_type world state.objects names.object (all_at (ObjectFits world state.objects) state.objects fit names.name names.object names.there) in
      let below = below_fits world.files gathers (type_of names.object) (component_of array) there known_component under in
      subst (λ v. ValueFits world state.objects body (kept_in array v) (known.Ref (component_of array))) (sym names.is)
      (inr (record { name = names.name; object = names.object; is = refl; there = names.there; has = below }))

  constructed : (body : Body) (value : Value) (type : VType) → ValueFits world state.objects body value type → is_constructed type ≡ true → (value ≡ Null) ⊎ NamesObject state.objects value (λ object. Unit {0})
  constructed body value known.Null has e = inl has
  constructed body value (known.Ref type) (inl none) e = inl none
  constructed body value (known.Ref type) (inr names) e = inr (record { name = names.name; object = names.object; is = names.is; there = names.there; has = tt })
  constructed body value type has e = cc

  whole : (body : Body) (value : Value) (type : VType) → ValueFits world state.objects body value type → is_int type ≡ true → IsWhole value
  whole body value known.Int has e = has
  whole body value type has e = cc

  stored_reference : (body : Body) (array type : TypeRef) → IsType world.files array → 1 ≤ array.dims → has_elements element.Ref type ≡ true → fits world.files (known.Ref array) type ≡ true
      → (value : Value) (of : VType) → ValueFits world state.objects body value of → is_constructed of ≡ true → may_be_stored world state array value ≡ true
      → TypeFits world state.objects (component_of array) (kept_in array value)
  stored_reference body array type known_array some e below value of has constructed_of may other =
      let parts = and_parts (nat_le 1 type.dims) (is_reference (type.dims - 1) type.base) e in
      let components = components_fit world.files array.dims array.base type.dims type.base some (leb-true 1 type.dims parts.0) parts.1 below in
      let known_component : IsType world.files (component_of array) = (known_array.0, has_dims (array.dims - 1) array.base components.refers) in
      subst (λ b. ValueFits world state.objects other (kept_in array value) (if b then known.Ref (component_of array) else known.Int)) (sym components.refers)
      (reference_kept other array value (constructed body value of has constructed_of) known_component may)

  stored_number : (kind : ElementKind) (body : Body) (array type : TypeRef) → 1 ≤ array.dims → (nat_eq type.dims 1 && is_element kind type.base) ≡ true → fits world.files (known.Ref array) type ≡ true
      → (value : Value) (of : VType) → ValueFits world state.objects body value of → is_int of ≡ true → TypeFits world state.objects (component_of array) (kept_in array value)
  stored_number kind body array type some e below value of has int other =
      let parts = and_parts (nat_eq type.dims 1) (is_element kind type.base) e in
      let primitive = flat world.files array.dims array.base type.dims type.base some (eqb-true type.dims 1 parts.0) (element_primitive kind type.base parts.1) below in
      whole_kept other array value (whole body value of has int) (is_reference (array.dims - 1) array.base) primitive

  -- what an array keeps of a value that may be stored
  pub stored_fits : (kind : ElementKind) (body : Body) (array type : TypeRef) → IsType world.files array → 1 ≤ array.dims → has_elements kind type ≡ true → fits world.files (known.Ref array) type ≡ true
      → (value : Value) (of : VType) → ValueFits world state.objects body value of → is_elements_value kind of ≡ true → may_be_stored world state array value ≡ true
      → TypeFits world state.objects (component_of array) (kept_in array value)
  stored_fits element.Ref body array type known_array some e below value of has test may = stored_reference body array type known_array some e below value of has test may
  stored_fits element.Int body array type known_array some e below value of has test may = stored_number element.Int body array type some e below value of has test
  stored_fits element.Byte body array type known_array some e below value of has test may = stored_number element.Byte body array type some e below value of has test
  stored_fits element.Char body array type known_array some e below value of has test may = stored_number element.Char body array type some e below value of has test
  stored_fits element.Short body array type known_array some e below value of has test may = stored_number element.Short body array type some e below value of has test
