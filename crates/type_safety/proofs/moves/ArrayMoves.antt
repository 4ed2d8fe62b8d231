-- Arrays are made, and their lengths and elements read and written, as their types say.
use Rattle.std.proofs.Common.{◌≡◌, ◌⊎◌, ℕ, ℤ, zero, suc, pos, negsuc, ◌<◌, ◌≤◌, Bool, true, false, ◌&&◌, nat_lt, inl, inr, List, [], ◌∷◌, length, Option, Some, None, if◌then◌else◌, refl, sym, ap, subst, ◌∙◌, arith, FitsSigned}
use Rattle.std.specs.Int.{w32}
use Rattle.std.proofs.lemmas.List.{length-set}
use Rattle.std.specs.Prelude.{slice_get, slice_set}
use Rattle.std.specs.Option.{option_map_or}
use Rattle.std.proofs.lemmas.Bool.{and_parts, leb-true, ltb-true}
use Rattle.std.proofs.lemmas.Option.{cond_some}
use Rattle.account.specs.Account.{Stuck}
use Rattle.class_pool.specs.declared.types.TypeRef.{TypeRef}
use Rattle.class_file.specs.declared.record.ClassFile.{ClassFile}
use Rattle.class_tree.specs.Fits.{fits}
use Rattle.insn_form.specs.declared.ElementKind.{ElementKind}
use Rattle.insn_form.specs.declared.ElementKind.TheVariants as element
use Rattle.body_form.specs.declared.body.Body.{Body}
use Rattle.body_form.specs.declared.op.Op.TheVariants as op
use Rattle.body_form.specs.declared.types.VFrame.{VFrame}
use Rattle.body_form.specs.declared.types.VType.{VType}
use Rattle.body_form.specs.declared.types.VType.TheVariants as known
use Rattle.jvm_model.specs.Bodies.{AreEach}
use Rattle.jvm_model.specs.State.{Value, Whole, Null, Name}
use Rattle.jvm_model.specs.TypesFrames.{is_int}
use Rattle.jvm_model.specs.TypesRules.{Change, takes, plain, component_of, is_array, has_elements, is_array_of, is_elements_value, element_of, array_load as load_change}
use Rattle.typed_machine.specs.TypedArrays.{is_negative, count_of, new_array, make_array, length_of, array_length, place_of, load_at, load_of, array_load, may_be_stored, kept_in, with_element, store_at, store_of, array_store}
use Rattle.typed_machine.specs.TypedMoves.{goes_on, makes, no_need, place_need, throws, negative_array_size_exception, array_index_out_of_bounds_exception, array_store_exception}
use Rattle.typed_machine.specs.TypedState.{Object, Elements, Frame, State, with_objects}
use Rattle.typed_machine.specs.TypedWorld.{World, array_cells, pc_after}
use Rattle.type_safety.specs.Fitting.{Tables, IsWhole, IsKeptElement, NamesObject, ValueFits, TypeFits, ObjectFits}
use Rattle.type_safety.specs.Safety.{MoveFits}
use Rattle.type_safety.proofs.moves.Lemmas.{MoveLemma}
use Rattle.type_safety.proofs.fitting.BelowFits.{fits_itself}
use Rattle.type_safety.proofs.fitting.GrownObjects.{all_at, all_set, next_name}
use Rattle.type_safety.proofs.fitting.HeldValues.{each_grows}
use Rattle.type_safety.proofs.fitting.Numbers.{count_fits, element_is_kept}
use Rattle.type_safety.proofs.moves.ArrayElements.{IsArrayOf, array_named, has_dims_of, are_references, read_as, read_fits, new_array_fits, stored_fits}
use Rattle.type_safety.proofs.moves.NextStates.{At, Follows, plain_gives, names_known, rule, plain_rule, Goes, goes_by, steady, grows, append_follows, set_follows, bounds_fits, throws_fit, exception_thrown, object_fits, object_at_fits}

pub number_held : (world : World) (objects : List Object) (body : Body) (value : Value) (type : VType) → ValueFits world objects body value type → is_int type ≡ true → IsWhole value
number_held world objects body value known.Int has e = has
number_held world objects body value type has e = cc

-- ---- new arrays

module _ {world : World} {tables : Tables} {state : State} {frame : Frame} {others : List Frame} {body : Body} {types after : VFrame} (array : TypeRef) (some : 1 ≤ array.dims)
    (at : At world tables state frame others body (op.NewArray array) types after) where
  array_made : (negative : Bool) (count : ℕ) → FitsSigned w32 (pos count) → (operands : List Value) (stack : List VType) → AreEach (ValueFits world state.objects body) operands stack
      → Goes at [] (known.Ref array ∷ []) stack
      → MoveFits world tables (if negative then throws world state (frame ∷ others) negative_array_size_exception
      else makes state frame others (pc_after body.ops frame.pc) operands (array_cells array count) (new_array array count))
  array_made true count counted operands stack fit goes = exception_thrown at negative_array_size_exception (omega arith) refl refl refl
  array_made false count counted operands stack fit goes =
      let new = new_array array count in
      let next = with_objects state (new ∷ []) in
      let follows : Follows world tables state next = append_follows at (new ∷ []) (new_array_fits world next.objects array count counted (names_known at) some, tt) in
      let pushed : ValueFits world next.objects body (Name (length state.objects)) (known.Ref array) =
      inr (record { name = length state.objects; object = new; is = refl; there = next_name state.objects [] new; has = fits_itself world.files at.set.closed array (names_known at) }) in
      goes (place_need (array_cells array count)) [] next (Name (length state.objects) ∷ operands) follows
      (pushed, each_grows world tables state.objects next.objects (grows at next follows) body operands stack fit)

  new_array_moves : (operands : List Value) (stack : List VType) → AreEach (ValueFits world state.objects body) operands stack → takes (is_int ∷ []) stack ≡ true
      → Goes at (is_int ∷ []) (known.Ref array ∷ []) stack → MoveFits world tables (make_array world state frame others (pc_after body.ops frame.pc) array operands)
  unfolding takes
  new_array_moves [] [] fit e goes = cc
  new_array_moves [] (top ∷ stack) fit e goes = absurd fit
  new_array_moves (value ∷ operands) [] fit e goes = absurd fit
  new_array_moves (value ∷ operands) (top ∷ stack) fit e goes =
      let whole = number_held world state.objects body value top fit.0 (and_parts (is_int top) true e).0 in
      subst (λ v. MoveFits world tables (make_array world state frame others (pc_after body.ops frame.pc) array (v ∷ operands))) (sym whole.1)
      (array_made (is_negative whole.0) (count_of whole.0) (count_fits whole.0 whole.2) operands stack fit.1 goes)

pub new_array_moves_fit : (array : TypeRef) → 1 ≤ array.dims → MoveLemma (op.NewArray array)
new_array_moves_fit array some parts world tables set state frame others frames fits body types after stands has =
    let at : At world tables state frame others body (op.NewArray array) types after = record { parts = parts; set = set; frames = frames; fits = fits; stands = stands; has = has } in
    let by = plain_rule at (is_int ∷ []) (known.Ref array ∷ []) refl in
    new_array_moves array some at frame.operands types.stack has.operands by.taken (goes_by at (is_int ∷ []) (known.Ref array ∷ []) refl by)

-- ---- lengths

pub record IsAnyArray (object : Object) : Type 0 where
  pub array : TypeRef
  pub elements : List Value
  pub is : object ≡ Elements array elements

any_array : (world : World) (objects : List Object) (body : Body) (value : Value) (type : VType) → ValueFits world objects body value type → is_array type ≡ true
    → (value ≡ Null) ⊎ NamesObject objects value IsAnyArray
any_array world objects body value known.Null has e = inl has
any_array world objects body value (known.Ref type) has e =
    elim (array_named world objects body value type (leb-true 1 type.dims e) has) [
      | inl none ↦ inl none
      | inr names ↦ inr (record { name = names.name; object = names.object; is = names.is; there = names.there; has = record { array = names.has.array; elements = names.has.elements; is = names.has.is } })
    ]
any_array world objects body value type has e = cc

module _ {world : World} {tables : Tables} {state : State} {frame : Frame} {others : List Frame} {body : Body} {types after : VFrame} (at : At world tables state frame others body op.ArrayLength types after) where
  length_moves : (operands : List Value) (stack : List VType) → AreEach (ValueFits world state.objects body) operands stack → takes (is_array ∷ []) stack ≡ true
      → Goes at (is_array ∷ []) (known.Int ∷ []) stack → MoveFits world tables (array_length world state frame others (pc_after body.ops frame.pc) operands)
  unfolding takes
  length_moves [] [] fit e goes = cc
  length_moves [] (top ∷ stack) fit e goes = absurd fit
  length_moves (value ∷ operands) [] fit e goes = absurd fit
  length_moves (value ∷ operands) (top ∷ stack) fit e goes =
      object_fits at IsAnyArray value (λ name object. length_of state frame others (pc_after body.ops frame.pc) operands object)
      (any_array world state.objects body value top fit.0 (and_parts (is_array top) true e).0)
      (λ name object there has.
      let whole : ObjectFits world state.objects (Elements has.array has.elements) = subst (ObjectFits world state.objects) has.is (object_at_fits at name object there) in
      subst (λ o. MoveFits world tables (length_of state frame others (pc_after body.ops frame.pc) operands o)) (sym has.is)
      (goes no_need [] state (Whole (pos (length has.elements)) ∷ operands) (steady at) ((pos (length has.elements), refl, whole.3), fit.1)))

pub array_length_fits : MoveLemma op.ArrayLength
array_length_fits parts world tables set state frame others frames fits body types after stands has =
    let at : At world tables state frame others body op.ArrayLength types after = record { parts = parts; set = set; frames = frames; fits = fits; stands = stands; has = has } in
    let by = plain_rule at (is_array ∷ []) (known.Int ∷ []) refl in
    length_moves at frame.operands types.stack has.operands by.taken (goes_by at (is_array ∷ []) (known.Int ∷ []) refl by)

-- ---- elements

-- the object is an array of the type of an operand, whose elements are of a kind
pub record IsElementsOf (files : List ClassFile) (kind : ElementKind) (of : VType) (object : Object) : Type 0 where
  pub type : TypeRef
  pub type_is : of ≡ known.Ref type
  pub kind_is : has_elements kind type ≡ true
  pub array : IsArrayOf files type object

elements_named : (world : World) (objects : List Object) (body : Body) (kind : ElementKind) (value : Value) (of : VType) → ValueFits world objects body value of
    → is_array_of kind of ≡ true → (value ≡ Null) ⊎ NamesObject objects value (IsElementsOf world.files kind of)
elements_named world objects body kind value known.Null has e = inl has
elements_named world objects body kind value (known.Ref type) has e =
    elim (array_named world objects body value type (has_dims_of kind type e) has) [
      | inl none ↦ inl none
      | inr names ↦ inr (record { name = names.name; object = names.object; is = names.is; there = names.there; has = record { type = type; type_is = refl; kind_is = e; array = names.has } })
    ]
elements_named world objects body kind value of has e = cc

same_array : (a b : TypeRef) (xs ys : List Value) → Elements b ys ≡ Elements a xs → a ≡ b
same_array a b xs ys e = cc

-- a place that an index has in a list
element_there : (elements : List Value) (place : ℕ) → place < length elements → (value : Value) × (slice_get elements place ≡ Some value)
element_there [] place lt = absurd (omega (arith, lt))
element_there (value ∷ elements) zero lt = (value, refl)
element_there (value ∷ elements) (suc place) lt = element_there elements place (omega (arith, lt))

within : (index : ℕ) (elements : List Value) (place : ℕ) → (if nat_lt index (length elements) then Some index else None) ≡ Some place → place < length elements
within index elements place e =
    let is = cond_some (nat_lt index (length elements)) index place e in
    subst (λ i. i < length elements) is.1 (ltb-true index (length elements) is.0)

place_within : (index : ℤ) (elements : List Value) (place : ℕ) → place_of index elements ≡ Some place → place < length elements
place_within (pos index) elements place e = within index elements place e
place_within (negsuc n) elements place e = cc

-- what is pushed of an array's elements
abbrev loaded : ElementKind → VType → VType
loaded kind of = if are_references kind then element_of of else known.Int

abbrev load_tests : ElementKind → List (VType → Bool)
load_tests kind = is_int ∷ is_array_of kind ∷ []

module _ {world : World} {tables : Tables} {state : State} {frame : Frame} {others : List Frame} {body : Body} {types after : VFrame} (kind : ElementKind)
    (at : At world tables state frame others body (op.ArrayLoad kind) types after) where
  element_loaded : (of : VType) (operands : List Value) (object : Object) (has : ObjectFits world state.objects object) (is : IsElementsOf world.files kind of object)
      → ((value : Value) → ValueFits world state.objects body value (loaded kind of) → MoveFits world tables (goes_on state frame others (pc_after body.ops frame.pc) (value ∷ operands)))
      → (place : Option ℕ) → ((at_place : ℕ) → place ≡ Some at_place → at_place < length is.array.elements)
      → MoveFits world tables (load_at world state frame others (pc_after body.ops frame.pc) operands is.array.elements place)
  element_loaded of operands object has is goes None inside = throws_fit at array_index_out_of_bounds_exception (inl (omega arith), refl, refl) (bounds_fits world)
  element_loaded of operands object has is goes (Some place) inside =
      let array = is.array.array in
      let fit : ObjectFits world state.objects (Elements array is.array.elements) = subst (ObjectFits world state.objects) is.array.is has in
      let found = element_there is.array.elements place (inside place refl) in
      let element = all_at (TypeFits world state.objects (component_of array)) is.array.elements fit.2 place found.0 found.1 in
      let read : ValueFits world state.objects body found.0 (read_as kind is.type) =
      read_fits world at.set.closed state.objects at.fits.objects kind body array is.type fit.0 fit.1 is.kind_is is.array.below found.0 element in
      subst (λ o. MoveFits world tables (option_map_or (λ (value : Value). goes_on state frame others (pc_after body.ops frame.pc) (value ∷ operands)) o Stuck)) (sym found.1)
      (goes found.0 (subst (λ (t : VType). ValueFits world state.objects body found.0 (loaded kind t)) (sym is.type_is) read))

  load_moves : (operands : List Value) (stack : List VType) → AreEach (ValueFits world state.objects body) operands stack → takes (load_tests kind) stack ≡ true
      → ((index of : VType) (rest : List VType) → stack ≡ index ∷ of ∷ rest → Goes at (load_tests kind) (loaded kind of ∷ []) stack)
      → MoveFits world tables (array_load world state frame others (pc_after body.ops frame.pc) operands)
  unfolding takes
  load_moves [] [] fit e goes = cc
  load_moves [] (top ∷ stack) fit e goes = absurd fit
  load_moves (value ∷ operands) [] fit e goes = absurd fit
  load_moves (value ∷ []) (top ∷ []) fit e goes = let rest = (and_parts (is_int top) false e).1 in cc
  load_moves (value ∷ []) (top ∷ of ∷ stack) fit e goes = absurd fit.1
  load_moves (value ∷ reference ∷ operands) (top ∷ []) fit e goes = absurd fit.1
  load_moves (value ∷ reference ∷ operands) (top ∷ of ∷ stack) fit e goes =
      let first = and_parts (is_int top) (is_array_of kind of && true) e in
      let array = (and_parts (is_array_of kind of) true first.1).0 in
      let whole = number_held world state.objects body value top fit.0 first.0 in
      subst (λ v. MoveFits world tables (array_load world state frame others (pc_after body.ops frame.pc) (v ∷ reference ∷ operands))) (sym whole.1)
      (object_fits at (IsElementsOf world.files kind of) reference (λ name object. load_of world state frame others (pc_after body.ops frame.pc) operands whole.0 object)
      (elements_named world state.objects body kind reference of fit.1.0 array)
      (λ name object there is. subst (λ o. MoveFits world tables (load_of world state frame others (pc_after body.ops frame.pc) operands whole.0 o)) (sym is.array.is)
      (element_loaded of operands object (object_at_fits at name object there) is
      (λ element fits_element. goes top of stack refl no_need [] state (element ∷ operands) (steady at) (fits_element, fit.1.1))
      (place_of whole.0 is.array.elements) (place_within whole.0 is.array.elements))))

load_taken : (kind : ElementKind) (types : VFrame) (stack : List VType) (change : Change) → load_change types kind stack ≡ Some change → takes (load_tests kind) types.stack ≡ true
load_taken element.Ref types [] change e = cc
load_taken element.Ref types (index ∷ []) change e = cc
load_taken element.Ref types (index ∷ of ∷ stack) change e = (cond_some (takes (load_tests element.Ref) types.stack) _ change e).0
load_taken element.Int types stack change e = (cond_some (takes (load_tests element.Int) types.stack) _ change e).0
load_taken element.Byte types stack change e = (cond_some (takes (load_tests element.Byte) types.stack) _ change e).0
load_taken element.Char types stack change e = (cond_some (takes (load_tests element.Char) types.stack) _ change e).0
load_taken element.Short types stack change e = (cond_some (takes (load_tests element.Short) types.stack) _ change e).0

load_plain : (kind : ElementKind) (types : VFrame) (index of : VType) (stack : List VType) (change : Change) → load_change types kind (index ∷ of ∷ stack) ≡ Some change
    → plain types (load_tests kind) (loaded kind of ∷ []) ≡ Some change
load_plain element.Ref types index of stack change e = e
load_plain element.Int types index of stack change e = e
load_plain element.Byte types index of stack change e = e
load_plain element.Char types index of stack change e = e
load_plain element.Short types index of stack change e = e

pub array_load_fits : (kind : ElementKind) → MoveLemma (op.ArrayLoad kind)
array_load_fits kind parts world tables set state frame others frames fits body types after stands has =
    let at : At world tables state frame others body (op.ArrayLoad kind) types after = record { parts = parts; set = set; frames = frames; fits = fits; stands = stands; has = has } in
    let has_rule = rule at in
    load_moves kind at frame.operands types.stack has.operands (load_taken kind types types.stack has_rule.change has_rule.is)
    (λ index of rest is. goes_by at (load_tests kind) (loaded kind of ∷ []) refl
    (plain_gives (load_tests kind) (loaded kind of ∷ []) types after has_rule.change
    (load_plain kind types index of rest has_rule.change (subst (λ s. load_change types kind s ≡ Some has_rule.change) is has_rule.is)) has_rule.gives))

-- ---- stores

module _ {world : World} {tables : Tables} {state : State} {frame : Frame} {others : List Frame} {body : Body} {types after : VFrame} (kind : ElementKind)
    (at : At world tables state frame others body (op.ArrayStore kind) types after) where
  abbrev store_tests : List (VType → Bool)
  store_tests = is_elements_value kind ∷ is_int ∷ is_array_of kind ∷ []

  element_set : (array : TypeRef) (elements : List Value) (name place : ℕ) (value : Value) → slice_get state.objects name ≡ Some (Elements array elements)
      → TypeFits world state.objects (component_of array) (kept_in array value) → Follows world tables state (with_element state name array elements place value)
  element_set array elements name place value there kept =
      set_follows at name (Elements array elements) (Elements array (slice_set elements place (kept_in array value))) there refl
      (λ objects grow old. (
        old.0,
        old.1,
        all_set (TypeFits world objects (component_of array)) elements place (kept_in array value) (grow.element (component_of array) (kept_in array value) kept) old.2,
        subst (λ (n : ℕ). FitsSigned w32 (pos n)) (sym (length-set elements place (kept_in array value))) old.3,
        all_set (IsKeptElement array.base) elements place (kept_in array value) (element_is_kept array value) old.4,
      ))

  stored_or_thrown : (operands : List Value) (value : Value) (name : ℕ) (array : TypeRef) (elements : List Value) (place : ℕ) (may : Bool)
      → (may ≡ true → MoveFits world tables (goes_on (with_element state name array elements place value) frame others (pc_after body.ops frame.pc) operands))
      → MoveFits world tables (if may then goes_on (with_element state name array elements place value) frame others (pc_after body.ops frame.pc) operands
      else throws world state (frame ∷ others) array_store_exception)
  stored_or_thrown operands value name array elements place true goes = goes refl
  stored_or_thrown operands value name array elements place false goes = exception_thrown at array_store_exception (omega arith) refl refl refl

  element_stored : (value : Value) (value_type of : VType) (operands : List Value) (stack : List VType) → ValueFits world state.objects body value value_type → is_elements_value kind value_type ≡ true
      → AreEach (ValueFits world state.objects body) operands stack
      → ((next : State) → Follows world tables state next → AreEach (ValueFits world next.objects body) operands stack → MoveFits world tables (goes_on next frame others (pc_after body.ops frame.pc) operands))
      → (name : ℕ) (array : TypeRef) (elements : List Value) → slice_get state.objects name ≡ Some (Elements array elements) → IsElementsOf world.files kind of (Elements array elements)
      → (place : Option ℕ) → MoveFits world tables (store_at world state frame others (pc_after body.ops frame.pc) operands value name array elements place)
  element_stored value value_type of operands stack has test fit goes name array elements there is None = throws_fit at array_index_out_of_bounds_exception (inl (omega arith), refl, refl) (bounds_fits world)
  element_stored value value_type of operands stack has test fit goes name array elements there is (Some place) =
      let object = object_at_fits at name (Elements array elements) there in
      let same : is.array.array ≡ array = same_array is.array.array array is.array.elements elements is.array.is in
      let below = subst (λ (t : TypeRef). fits world.files (known.Ref t) is.type ≡ true) same is.array.below in
      stored_or_thrown operands value name array elements place (may_be_stored world state array value)
      (λ may. let kept = stored_fits world at.set.closed state at.fits.objects kind body array is.type object.0 object.1 is.kind_is below value value_type has test may in
      let next = with_element state name array elements place value in
      let follows : Follows world tables state next = element_set array elements name place value there kept in
      goes next follows (each_grows world tables state.objects next.objects (grows at next follows) body operands stack fit))

  store_moves : (operands : List Value) (stack : List VType) → AreEach (ValueFits world state.objects body) operands stack → takes store_tests stack ≡ true
      → Goes at store_tests [] stack → MoveFits world tables (array_store world state frame others (pc_after body.ops frame.pc) operands)
  unfolding takes
  store_moves [] [] fit e goes = cc
  store_moves [] (top ∷ stack) fit e goes = absurd fit
  store_moves (value ∷ operands) [] fit e goes = absurd fit
  store_moves (value ∷ []) (top ∷ []) fit e goes = let rest = (and_parts (is_elements_value kind top) false e).1 in cc
  store_moves (value ∷ []) (top ∷ index ∷ stack) fit e goes = absurd fit.1
  store_moves (value ∷ number ∷ operands) (top ∷ []) fit e goes = absurd fit.1
  store_moves (value ∷ number ∷ []) (top ∷ index ∷ []) fit e goes =
      let first = (and_parts (is_elements_value kind top) (is_int index && false) e).1 in
      let second = (and_parts (is_int index) false first).1 in
      cc
  store_moves (value ∷ number ∷ []) (top ∷ index ∷ of ∷ stack) fit e goes = absurd fit.1.1
  store_moves (value ∷ number ∷ reference ∷ operands) (top ∷ index ∷ []) fit e goes = absurd fit.1.1
  store_moves (value ∷ number ∷ reference ∷ operands) (top ∷ index ∷ of ∷ stack) fit e goes =
      let first = and_parts (is_elements_value kind top) (is_int index && (is_array_of kind of && true)) e in
      let second = and_parts (is_int index) (is_array_of kind of && true) first.1 in
      let array = (and_parts (is_array_of kind of) true second.1).0 in
      let whole = number_held world state.objects body number index fit.1.0 second.0 in
      subst (λ v. MoveFits world tables (array_store world state frame others (pc_after body.ops frame.pc) (value ∷ v ∷ reference ∷ operands))) (sym whole.1)
      (object_fits at (IsElementsOf world.files kind of) reference (λ name object. store_of world state frame others (pc_after body.ops frame.pc) operands value whole.0 name object)
      (elements_named world state.objects body kind reference of fit.1.1.0 array)
      (λ name object there is.
      let is_elements : IsElementsOf world.files kind of (Elements is.array.array is.array.elements) = subst (IsElementsOf world.files kind of) is.array.is is in
      subst (λ o. MoveFits world tables (store_of world state frame others (pc_after body.ops frame.pc) operands value whole.0 name o)) (sym is.array.is)
      (element_stored value top of operands stack fit.0 first.0 fit.1.1.1 (λ next follows fits_values. goes no_need [] next operands follows fits_values) name is.array.array is.array.elements
      (there ∙ ap Some is.array.is) is_elements (place_of whole.0 is.array.elements))))

pub array_store_fits : (kind : ElementKind) → MoveLemma (op.ArrayStore kind)
array_store_fits kind parts world tables set state frame others frames fits body types after stands has =
    let at : At world tables state frame others body (op.ArrayStore kind) types after = record { parts = parts; set = set; frames = frames; fits = fits; stands = stands; has = has } in
    let tests = is_elements_value kind ∷ is_int ∷ is_array_of kind ∷ [] in
    let by = plain_rule at tests [] refl in
    store_moves kind at frame.operands types.stack has.operands by.taken (goes_by at tests [] refl by)
