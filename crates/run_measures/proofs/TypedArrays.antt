-- Arrays of the typed machine: what goes on lowers the rank.
use Rattle.std.proofs.Common.{ℕ, ℤ, pos, List, [], ◌∷◌, map, reverse, length, slice_get, Option, Some, None, refl}
use Rattle.account.specs.Account.{Stuck}
use Rattle.class_pool.specs.declared.types.TypeRef.{TypeRef}
use Rattle.jvm_model.specs.State.{Value, Whole, Name}
use Rattle.typed_machine.specs.TypedArrays.{is_negative, count_of, new_array, make_array, any_negative, arrays_of, make_arrays, length_of, array_length, load_at, load_of, array_load, place_of, may_be_stored, with_element, store_at, store_of, array_store}
use Rattle.typed_machine.specs.TypedMoves.{TypedMove, goes_on, throws, array_store_exception, negative_array_size_exception, array_index_out_of_bounds_exception}
use Rattle.typed_machine.specs.TypedState.{Object, Instance, Elements, Frame, State, with_objects}
use Rattle.typed_machine.specs.TypedWorld.{World}
use Rattle.run_measures.proofs.Lowering.{Lowers, stuck, either, mapped_or}
use Rattle.run_measures.proofs.TypedRank.{rank_of, IsAhead}
use Rattle.run_measures.proofs.TypedForms.{rank_in, thrown, of_object, goes, on}

module _ {world : World} {frame : Frame} {next : Option ℕ} (ahead : IsAhead world frame next) (others : List Frame) (state : State) where
  abbrev Lower : TypedMove → Type 0
  Lower move = Lowers (rank_in world) (rank_of world (frame ∷ others)) move

  -- ---- arrays

  pub make_array_lowers : (array : TypeRef) (operands : List Value) → Lower (make_array world state frame others next array operands)
  make_array_lowers array (Whole count ∷ operands) =
      either (is_negative count) (throws world state (frame ∷ others) negative_array_size_exception) _ (thrown world state (frame ∷ others) negative_array_size_exception)
      (goes ahead others _ [] (with_objects state (new_array array (count_of count) ∷ [])) frame (Name (length state.objects) ∷ operands) refl)
  make_array_lowers array operands = stuck

  pub make_arrays_lower : (array : TypeRef) (found : Option (List ℤ × List Value)) → Lower (make_arrays world state frame others next array found)
  make_arrays_lower array None = stuck
  make_arrays_lower array (Some (numbers, operands)) =
      either (any_negative numbers) (throws world state (frame ∷ others) negative_array_size_exception) _ (thrown world state (frame ∷ others) negative_array_size_exception)
      (goes ahead others _ [] (with_objects state (arrays_of array (map count_of (reverse numbers)) (length state.objects))) frame (Name (length state.objects) ∷ operands) refl)

  pub length_lowers : (operands : List Value) (object : Object) → Lower (length_of state frame others next operands object)
  length_lowers operands (Elements array elements) = on ahead others state frame (Whole (pos (length elements)) ∷ operands) refl
  length_lowers operands (Instance class fields) = stuck

  pub array_length_lowers : (operands : List Value) → Lower (array_length world state frame others next operands)
  array_length_lowers [] = stuck
  array_length_lowers (reference ∷ operands) = of_object world state (frame ∷ others) reference (λ name object. length_of state frame others next operands object) (λ name object. length_lowers operands object)

  pub load_at_lowers : (operands elements : List Value) (place : Option ℕ) → Lower (load_at world state frame others next operands elements place)
  load_at_lowers operands elements None = thrown world state (frame ∷ others) array_index_out_of_bounds_exception
  load_at_lowers operands elements (Some place) =
      mapped_or (slice_get elements place) (λ value. goes_on state frame others next (value ∷ operands)) Stuck (λ value. on ahead others state frame (value ∷ operands) refl) stuck

  pub load_of_lowers : (operands : List Value) (index : ℤ) (object : Object) → Lower (load_of world state frame others next operands index object)
  load_of_lowers operands index (Elements array elements) = load_at_lowers operands elements (place_of index elements)
  load_of_lowers operands index (Instance class fields) = stuck

  pub array_load_lowers : (operands : List Value) → Lower (array_load world state frame others next operands)
  array_load_lowers (Whole index ∷ reference ∷ operands) =
      of_object world state (frame ∷ others) reference (λ name object. load_of world state frame others next operands index object) (λ name object. load_of_lowers operands index object)
  array_load_lowers operands = stuck

  pub store_at_lowers : (operands : List Value) (value : Value) (name : ℕ) (array : TypeRef) (elements : List Value) (place : Option ℕ) → Lower (store_at world state frame others next operands value name array elements place)
  store_at_lowers operands value name array elements None = thrown world state (frame ∷ others) array_index_out_of_bounds_exception
  store_at_lowers operands value name array elements (Some place) =
      either (may_be_stored world state array value) (goes_on (with_element state name array elements place value) frame others next operands) (throws world state (frame ∷ others) array_store_exception)
      (on ahead others (with_element state name array elements place value) frame operands refl) (thrown world state (frame ∷ others) array_store_exception)

  pub store_of_lowers : (operands : List Value) (value : Value) (index : ℤ) (name : ℕ) (object : Object) → Lower (store_of world state frame others next operands value index name object)
  store_of_lowers operands value index name (Elements array elements) = store_at_lowers operands value name array elements (place_of index elements)
  store_of_lowers operands value index name (Instance class fields) = stuck

  pub array_store_lowers : (operands : List Value) → Lower (array_store world state frame others next operands)
  array_store_lowers (value ∷ Whole index ∷ reference ∷ operands) =
      of_object world state (frame ∷ others) reference (λ name object. store_of world state frame others next operands value index name object) (λ name object. store_of_lowers operands value index name object)
  array_store_lowers operands = stuck
