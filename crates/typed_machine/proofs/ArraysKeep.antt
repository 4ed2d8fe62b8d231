-- Moves on arrays keep objects: new ones are appended, and an array whose element is set has the type that it had.
use Rattle.std.proofs.Common.{◌≡◌, ℕ, ℤ, pos, List, [], ◌∷◌, length, map, reverse, Option, Some, None, refl}
use Rattle.std.specs.Prelude.{slice_get}
use Rattle.class_pool.specs.declared.types.TypeRef.{TypeRef}
use Rattle.jvm_model.specs.State.{Value, Whole, Name}
use Rattle.typed_machine.specs.TypedArrays.{is_negative, count_of, new_array, make_array, arrays_of, cells_of, any_negative, make_arrays, length_of, array_length, place_of, load_at, load_of, array_load, may_be_stored, with_element, store_at, store_of, array_store}
use Rattle.typed_machine.specs.TypedMoves.{throws, makes, goes_on, does_next, no_need, place_need, object_at, negative_array_size_exception, array_index_out_of_bounds_exception, array_store_exception}
use Rattle.typed_machine.specs.TypedState.{Object, Instance, Elements, Frame, State, with_objects}
use Rattle.typed_machine.specs.TypedWorld.{World, array_cells}
use Rattle.typed_machine.proofs.KeptObjects.{Keeps, kept_set}
use Rattle.typed_machine.proofs.MovesKeep.{next_keeps, either_keeps, option_keeps, going_on_keeps, placing_keeps, throw_keeps, object_keeps}

module _ (world : World) (state : State) (frame : Frame) (others : List Frame) (next : Option ℕ) where
  pub make_array_keeps : (array : TypeRef) (operands : List Value) → Keeps state.objects (make_array world state frame others next array operands)
  make_array_keeps array (Whole count ∷ operands) =
      either_keeps state.objects (is_negative count) (throws world state (frame ∷ others) negative_array_size_exception)
      (makes state frame others next operands (array_cells array (count_of count)) (new_array array (count_of count)))
      (throw_keeps world state (frame ∷ others) negative_array_size_exception)
      (placing_keeps world state frame others next _ (array_cells array (count_of count)) (new_array array (count_of count) ∷ []))
  make_array_keeps array operands = tt

  pub make_arrays_keeps : (array : TypeRef) (counted : Option (List ℤ × List Value)) → Keeps state.objects (make_arrays world state frame others next array counted)
  make_arrays_keeps array None = tt
  make_arrays_keeps array (Some (numbers, operands)) =
      let counts = map count_of (reverse numbers) in
      let more = arrays_of array counts (length state.objects) in
      either_keeps state.objects (any_negative numbers) (throws world state (frame ∷ others) negative_array_size_exception)
      (does_next (place_need (cells_of array counts)) [] (with_objects state more) frame others next (Name (length state.objects) ∷ operands))
      (throw_keeps world state (frame ∷ others) negative_array_size_exception)
      (placing_keeps world state frame others next (Name (length state.objects) ∷ operands) (cells_of array counts) more)

  -- ---- elements

  length_of_keeps : (operands : List Value) (object : Object) → Keeps state.objects (length_of state frame others next operands object)
  length_of_keeps operands (Elements array elements) = going_on_keeps world state frame others next (Whole (pos (length elements)) ∷ operands)
  length_of_keeps operands (Instance class fields) = tt

  pub length_keeps : (operands : List Value) → Keeps state.objects (array_length world state frame others next operands)
  length_keeps [] = tt
  length_keeps (reference ∷ operands) =
      object_keeps world state (frame ∷ others) reference (λ name object. length_of state frame others next operands object) (λ name object is. length_of_keeps operands object)

  load_at_keeps : (operands elements : List Value) (place : Option ℕ) → Keeps state.objects (load_at world state frame others next operands elements place)
  load_at_keeps operands elements None = throw_keeps world state (frame ∷ others) array_index_out_of_bounds_exception
  load_at_keeps operands elements (Some place) =
      option_keeps state.objects (slice_get elements place) (λ value. goes_on state frame others next (value ∷ operands))
      (λ value is. going_on_keeps world state frame others next (value ∷ operands))

  load_of_keeps : (operands : List Value) (index : ℤ) (object : Object) → Keeps state.objects (load_of world state frame others next operands index object)
  load_of_keeps operands index (Elements array elements) = load_at_keeps operands elements (place_of index elements)
  load_of_keeps operands index (Instance class fields) = tt

  pub load_keeps : (operands : List Value) → Keeps state.objects (array_load world state frame others next operands)
  load_keeps (Whole index ∷ reference ∷ operands) =
      object_keeps world state (frame ∷ others) reference (λ name object. load_of world state frame others next operands index object)
      (λ name object is. load_of_keeps operands index object)
  load_keeps operands = tt

  store_at_keeps : (operands : List Value) (value : Value) (name : ℕ) (array : TypeRef) (elements : List Value) → object_at state name ≡ Some (Elements array elements)
      → (place : Option ℕ) → Keeps state.objects (store_at world state frame others next operands value name array elements place)
  store_at_keeps operands value name array elements is None = throw_keeps world state (frame ∷ others) array_index_out_of_bounds_exception
  store_at_keeps operands value name array elements is (Some place) =
      let after = with_element state name array elements place value in
      either_keeps state.objects (may_be_stored world state array value) (goes_on after frame others next operands) (throws world state (frame ∷ others) array_store_exception)
      (next_keeps state.objects no_need [] after frame others next operands (kept_set state.objects name (Elements array elements) _ is refl))
      (throw_keeps world state (frame ∷ others) array_store_exception)

  store_of_keeps : (operands : List Value) (value : Value) (index : ℤ) (name : ℕ) (object : Object) → object_at state name ≡ Some object
      → Keeps state.objects (store_of world state frame others next operands value index name object)
  store_of_keeps operands value index name (Elements array elements) is = store_at_keeps operands value name array elements is (place_of index elements)
  store_of_keeps operands value index name (Instance class fields) is = tt

  pub store_keeps : (operands : List Value) → Keeps state.objects (array_store world state frame others next operands)
  store_keeps (value ∷ Whole index ∷ reference ∷ operands) =
      object_keeps world state (frame ∷ others) reference (λ name object. store_of world state frame others next operands value index name object) (store_of_keeps operands value index)
  store_keeps operands = tt
