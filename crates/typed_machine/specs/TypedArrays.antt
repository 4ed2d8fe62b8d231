-- Arrays of the typed machine (JVMS 2.4, 6.5): how they are made, and what their elements keep.
use Rattle.std.specs.Prelude.{ℕ, ℤ, pos, negsuc, zero, suc, ◌+◌, ◌*◌, Bool, true, false, nat_lt, int_lt, if◌then◌else◌, List, [], ◌∷◌, map, reverse, length, replicate, Option, Some, None, option_map, slice_get, slice_set}
use Rattle.std.specs.Option.{option_map_or}
use Rattle.std.specs.List.{range_with_len, flat_map}
use Rattle.cell_num.specs.declared.conversions.Conv.TheVariants as conv
use Rattle.cell_num.specs.Conversions.{converted}
use Rattle.class_pool.specs.declared.types.TypeBase.{TypeBase}
use Rattle.class_pool.specs.declared.types.TypeBase.TheVariants as base
use Rattle.class_pool.specs.declared.types.TypeRef.{TypeRef}
use Rattle.jvm_model.specs.InitialStatics.{lowest_bit}
use Rattle.jvm_model.specs.State.{Value, Whole, Name}
use Rattle.jvm_model.specs.TypesRules.{component_of}
use Rattle.typed_machine.specs.TypedMoves.{TypedMove, goes_on, does_next, place_need, makes, object_at, throws, with_object_of, array_index_out_of_bounds_exception, array_store_exception, negative_array_size_exception}
use Rattle.typed_machine.specs.TypedState.{Object, Instance, Elements, Frame, State, with_object, with_objects}
use Rattle.typed_machine.specs.TypedWorld.{World, type_of, is_below, default_of_type, array_cells}
use Rattle.account.specs.Account.{Stuck}

-- ---- what elements keep

abbrev pub kept_by_base : TypeBase → ℤ → ℤ
kept_by_base base.Byte number = converted conv.Byte number
kept_by_base base.Char number = converted conv.Char number
kept_by_base base.Short number = converted conv.Short number
kept_by_base base.Boolean number = lowest_bit number
kept_by_base of number = number

-- a write to an element narrows a number as its type asks for
abbrev pub kept_in : TypeRef → Value → Value
kept_in array (Whole number) = Whole (kept_by_base array.base number)
kept_in array value = value

-- ---- new arrays

abbrev pub is_negative : ℤ → Bool
is_negative number = int_lt number (pos 0)

-- a count that is not negative
abbrev pub count_of : ℤ → ℕ
count_of (pos count) = count
count_of (negsuc n) = 0

abbrev pub new_array : TypeRef → ℕ → Object
new_array array count = Elements array (replicate count (default_of_type (component_of array)))

abbrev pub make_array : World → State → Frame → List Frame → Option ℕ → TypeRef → List Value → TypedMove
make_array world state frame others next array (Whole count ∷ operands) =
    if is_negative count then throws world state (frame ∷ others) negative_array_size_exception
    else makes state frame others next operands (array_cells array (count_of count)) (new_array array (count_of count))
make_array world state frame others next array operands = Stuck

-- ---- arrays of arrays

-- how many arrays there are by these counts, the outer one with them
unfoldable pub array_count : List ℕ → ℕ
array_count [] = 0
array_count (count ∷ []) = 1
array_count (count ∷ counts) = 1 + count * array_count counts

-- the cells of all of them
unfoldable pub cells_of : TypeRef → List ℕ → ℕ
cells_of array [] = 0
cells_of array (count ∷ []) = array_cells array count
cells_of array (count ∷ counts) = array_cells array count + count * cells_of (component_of array) counts

-- The arrays in the order of their names, from a name on: the outer one, then its parts from the first, each before
-- its own parts. Each part takes as many names as there are arrays in it.
unfoldable pub arrays_of : TypeRef → List ℕ → ℕ → List Object
arrays_of array [] name = []
arrays_of array (count ∷ []) name = new_array array count ∷ []
arrays_of array (count ∷ counts) name =
    Elements array (map (λ part. Name (name + 1 + part * array_count counts)) (range_with_len 0 count))
    ∷ flat_map (λ part. arrays_of (component_of array) counts (name + 1 + part * array_count counts)) (range_with_len 0 count)

-- the counts, the top first, where each is a number
unfoldable pub numbers_in : ℕ → List Value → Option (List ℤ × List Value)
numbers_in zero operands = Some ([], operands)
numbers_in (suc n) (Whole number ∷ operands) = option_map (λ rest. (number ∷ rest.0, rest.1)) (numbers_in n operands)
numbers_in (suc n) operands = None

unfoldable pub any_negative : List ℤ → Bool
any_negative [] = false
any_negative (number ∷ numbers) = if is_negative number then true else any_negative numbers

-- all counts are tested first, and the cells of all arrays are asked for at once; the outermost count is the lowest
abbrev pub make_arrays : World → State → Frame → List Frame → Option ℕ → TypeRef → Option (List ℤ × List Value) → TypedMove
make_arrays world state frame others next array None = Stuck
make_arrays world state frame others next array (Some (numbers, operands)) =
    if any_negative numbers then throws world state (frame ∷ others) negative_array_size_exception
    else does_next (place_need (cells_of array (map count_of (reverse numbers)))) [] (with_objects state (arrays_of array (map count_of (reverse numbers)) (length state.objects))) frame others next
    (Name (length state.objects) ∷ operands)

-- ---- elements

abbrev pub length_of : State → Frame → List Frame → Option ℕ → List Value → Object → TypedMove
length_of state frame others next operands (Elements array elements) = goes_on state frame others next (Whole (pos (length elements)) ∷ operands)
length_of state frame others next operands (Instance class fields) = Stuck

abbrev pub array_length : World → State → Frame → List Frame → Option ℕ → List Value → TypedMove
array_length world state frame others next [] = Stuck
array_length world state frame others next (reference ∷ operands) =
    with_object_of world state (frame ∷ others) reference (λ name object. length_of state frame others next operands object)

-- the place of an index in a list, where it has it
abbrev pub place_of : ℤ → List Value → Option ℕ
place_of (pos index) elements = if nat_lt index (length elements) then Some index else None
place_of (negsuc n) elements = None

abbrev pub load_at : World → State → Frame → List Frame → Option ℕ → List Value → List Value → Option ℕ → TypedMove
load_at world state frame others next operands elements None = throws world state (frame ∷ others) array_index_out_of_bounds_exception
load_at world state frame others next operands elements (Some place) =
    option_map_or (λ value. goes_on state frame others next (value ∷ operands)) (slice_get elements place) Stuck

abbrev pub load_of : World → State → Frame → List Frame → Option ℕ → List Value → ℤ → Object → TypedMove
load_of world state frame others next operands index (Elements array elements) = load_at world state frame others next operands elements (place_of index elements)
load_of world state frame others next operands index (Instance class fields) = Stuck

abbrev pub array_load : World → State → Frame → List Frame → Option ℕ → List Value → TypedMove
array_load world state frame others next (Whole index ∷ reference ∷ operands) =
    with_object_of world state (frame ∷ others) reference (λ name object. load_of world state frame others next operands index object)
array_load world state frame others next operands = Stuck

-- a reference may be stored where its object's type is that of the elements or below it; null and numbers always
abbrev pub may_be_stored : World → State → TypeRef → Value → Bool
may_be_stored world state array (Name name) = option_map_or (λ object. is_below world.files (type_of object) (component_of array)) (object_at state name) false
may_be_stored world state array value = true

-- the array of a name with an element set
abbrev pub with_element : State → ℕ → TypeRef → List Value → ℕ → Value → State
with_element state name array elements place value = with_object state name (Elements array (slice_set elements place (kept_in array value)))

abbrev pub store_at : World → State → Frame → List Frame → Option ℕ → List Value → Value → ℕ → TypeRef → List Value → Option ℕ → TypedMove
store_at world state frame others next operands value name array elements None = throws world state (frame ∷ others) array_index_out_of_bounds_exception
store_at world state frame others next operands value name array elements (Some place) =
    if may_be_stored world state array value
    then goes_on (with_element state name array elements place value) frame others next operands
    else throws world state (frame ∷ others) array_store_exception

abbrev pub store_of : World → State → Frame → List Frame → Option ℕ → List Value → Value → ℤ → ℕ → Object → TypedMove
store_of world state frame others next operands value index name (Elements array elements) =
    store_at world state frame others next operands value name array elements (place_of index elements)
store_of world state frame others next operands value index name (Instance class fields) = Stuck

abbrev pub array_store : World → State → Frame → List Frame → Option ℕ → List Value → TypedMove
array_store world state frame others next (value ∷ Whole index ∷ reference ∷ operands) =
    with_object_of world state (frame ∷ others) reference (λ name object. store_of world state frame others next operands value index name object)
array_store world state frame others next operands = Stuck
