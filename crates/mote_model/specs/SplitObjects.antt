-- Fields, arrays and types of objects in the split machine. A place that an object lacks ends the run; null is tested
-- before it, and an index after it.
use Rattle.std.specs.Prelude.{ℕ, ℤ, pos, negsuc, zero, suc, ◌+◌, ◌*◌, ◌/◌, ◌%◌, Bool, true, false, ◌||◌, ◌&&◌, nat_eq, nat_lt, int_lt, if◌then◌else◌, List, [], ◌∷◌, ◌++◌, length, map, reverse, Option, Some, None, is_some, slice_get, slice_set, option_map, option_and_then}
use Rattle.std.specs.Option.{option_map_or}
use Rattle.std.specs.List.{flat_map, range_with_len}
use Rattle.cell_num.specs.declared.conversions.Conv.TheVariants as conv
use Rattle.cell_num.specs.Cells.{sign_extended, low_cell}
use Rattle.cell_num.specs.Conversions.{converted}
use Rattle.image_instr.specs.declared.insn.Element.{Element}
use Rattle.image_instr.specs.declared.insn.Element.TheVariants as element
use Rattle.image_instr.specs.declared.insn.Kind.{Kind}
use Rattle.image_instr.specs.declared.insn.Kind.TheVariants as kind
use Rattle.image_instr.specs.declared.insn.Width.{Width}
use Rattle.image_instr.specs.declared.insn.Width.TheVariants as width
use Rattle.image_form.specs.declared.record.Image.{Image}
use Rattle.image_form.specs.declared.record.TypeEntry.{TypeEntry}
use Rattle.image_form.specs.declared.record.TypeEntry.TheVariants.{Class, RefArray, NumArray}
use Rattle.account.specs.Account.{Does, Stuck, no_need, place_need}
use Rattle.mote_model.specs.State.{Reference, Frame, Object}
use Rattle.mote_model.specs.SplitState.{State, with_object, object_at, object_cells}
use Rattle.mote_model.specs.SplitTypes.{entry_at, is_below, new_object, new_array, element_type}
use Rattle.mote_model.specs.SplitMoves.{SplitMove, with_refs, cells_at, with_cells_at, with_ref_at, number_of, cells_of, count_of, goes_on, using, take_cells, take_number, take_ref, push_cells, push_number, push_ref, places, throws, with_object_of, misfits, class_cast_exception, array_store_exception, negative_array_size_exception, array_index_out_of_bounds_exception}

-- ---- fields: an array has none

abbrev pub field_cells : Object → ℕ → ℕ → Option (List ℕ)
field_cells object place size = if is_some object.length then None else cells_at object.cells place size

abbrev pub field_ref : Object → ℕ → Option Reference
field_ref object place = if is_some object.length then None else slice_get object.refs place

abbrev pub with_field_cells : Object → ℕ → List ℕ → Option Object
with_field_cells object place cells =
    if is_some object.length then None else option_map (λ (new : List ℕ). record object { cells = new }) (with_cells_at object.cells place cells)

abbrev pub with_field_ref : Object → ℕ → Reference → Option Object
with_field_ref object place reference =
    if is_some object.length then None else option_map (λ (new : List Reference). record object { refs = new }) (with_ref_at object.refs place reference)

-- what is done with what a place holds; an object that lacks it ends the run
abbrev pub or_misfit : {X : Type 0} → Object → ℕ → Option X → (X → SplitMove) → SplitMove
or_misfit object place None use_it = misfits object place
or_misfit object place (Some x) use_it = use_it x

abbrev pub size_of : Kind → ℕ
size_of kind.Ref = 0
size_of kind.One = 1
size_of kind.Two = 2

-- GETF: `frames` are those before the reference was taken
abbrev pub read_field : Image → State → List Frame → Frame → List Frame → ℕ → Kind → ℕ → ℕ → Object → SplitMove
read_field image state frames frame others next kind.Ref place name object =
    or_misfit object place (field_ref object place) (λ reference. goes_on state (push_ref reference frame) others next)
read_field image state frames frame others next k place name object =
    or_misfit object place (field_cells object place (size_of k)) (λ cells. goes_on state (push_cells cells frame) others next)

abbrev pub get_field : Image → State → Frame → List Frame → ℕ → Kind → ℕ → SplitMove
get_field image state frame others next k place =
    take_ref frame (λ reference rest. with_object_of image state (frame ∷ others) reference (λ name object. read_field image state (frame ∷ others) rest others next k place name object))

-- PUTF
abbrev pub write_field : State → Frame → List Frame → ℕ → ℕ → ℕ → Object → Option Object → SplitMove
write_field state frame others next place name object new =
    or_misfit object place new (λ written. goes_on (with_object state name written) frame others next)

abbrev pub put_field : Image → State → Frame → List Frame → ℕ → Kind → ℕ → SplitMove
put_field image state frame others next kind.Ref place =
    take_ref frame (λ value below. take_ref below (λ reference rest.
    with_object_of image state (frame ∷ others) reference (λ name object. write_field state rest others next place name object (with_field_ref object place value))))
put_field image state frame others next k place =
    take_cells (size_of k) frame (λ cells below. take_ref below (λ reference rest.
    with_object_of image state (frame ∷ others) reference (λ name object. write_field state rest others next place name object (with_field_cells object place cells))))

-- ---- new arrays

abbrev pub is_negative : ℤ → Bool
is_negative number = int_lt number (pos 0)

abbrev pub count_in : ℤ → ℕ
count_in (pos count) = count
count_in (negsuc n) = 0

-- NEWARR
abbrev pub make_array : Image → State → Frame → List Frame → ℕ → Width → ℕ → SplitMove
make_array image state frame others next w id =
    take_number w frame (λ count rest.
    if is_negative count then throws image state (frame ∷ others) negative_array_size_exception
    else using (new_array image id (count_in count)) (λ array. places state rest others next (array ∷ [])))

-- how many arrays there are by these counts, the outer one with them
unfoldable pub array_count : List ℕ → ℕ
array_count [] = 0
array_count (count ∷ []) = 1
array_count (count ∷ counts) = 1 + count * array_count counts

-- an array with these references
abbrev pub with_parts : Object → List Reference → Object
with_parts array parts = record array { refs = parts }

-- the lists one after the other, where all are there
unfoldable pub all_of : {X : Type 0} → List (Option (List X)) → Option (List X)
all_of [] = Some []
all_of (None ∷ lists) = None
all_of (Some items ∷ lists) = option_map (λ rest. items ++ rest) (all_of lists)

-- The arrays in the order of their names, from a name on: the outer one, then its parts from the first, each before its
-- own parts. Each part takes as many names as there are arrays in it.
unfoldable pub arrays_of : Image → ℕ → List ℕ → ℕ → Option (List Object)
arrays_of image id [] name = None
arrays_of image id (count ∷ []) name = option_map (λ array. array ∷ []) (new_array image id count)
arrays_of image id (count ∷ counts) name =
    option_and_then (λ (array : Object). option_and_then (λ element.
    option_map (λ parts. with_parts array (map (λ part. Some (name + 1 + part * array_count counts)) (range_with_len 0 count)) ∷ parts)
    (all_of (map (λ part. arrays_of image element counts (name + 1 + part * array_count counts)) (range_with_len 0 count))))
    (element_type image id)) (new_array image id count)

-- so many counts of two cells, the top first
unfoldable pub take_counts : ℕ → Frame → (List ℤ → Frame → SplitMove) → SplitMove
take_counts zero frame use_them = use_them [] frame
take_counts (suc n) frame use_them = take_number width.Two frame (λ count rest. take_counts n rest (λ counts last. use_them (count ∷ counts) last))

unfoldable pub any_negative : List ℤ → Bool
any_negative [] = false
any_negative (number ∷ numbers) = if is_negative number then true else any_negative numbers

-- MULTI: all counts are tested first, and all arrays are placed at once; the outermost count is the lowest
abbrev pub make_arrays : Image → State → Frame → List Frame → ℕ → ℕ → ℕ → SplitMove
make_arrays image state frame others next id dims =
    take_counts dims frame (λ counts rest.
    if any_negative counts then throws image state (frame ∷ others) negative_array_size_exception
    else using (arrays_of image id (map count_in (reverse counts)) (length state.objects)) (λ arrays. places state rest others next arrays))

-- ---- elements

-- what the elements of an array of an entry are: bytes and booleans two a cell
abbrev pub shape_of_entry : Option TypeEntry → Option Element
shape_of_entry (Some (RefArray of)) = Some element.Ref
shape_of_entry (Some (NumArray number)) =
    Some (if nat_eq number 4 || nat_eq number 8 then element.Byte else (if nat_eq number 10 then element.Int else element.Half))
shape_of_entry entry = None

abbrev pub is_same_element : Element → Element → Bool
is_same_element element.Ref element.Ref = true
is_same_element element.Byte element.Byte = true
is_same_element element.Half element.Half = true
is_same_element element.Int element.Int = true
is_same_element a b = false

-- the object is an array of such elements
abbrev pub is_array_of : Image → Element → Object → Bool
is_array_of image e object = option_map_or (is_same_element e) (shape_of_entry (entry_at image object.type)) false

abbrev pub length_of : Object → ℕ
length_of object = option_map_or (λ count. count) object.length 0

-- an index that an array has
abbrev pub index_in : Object → ℤ → Option ℕ
index_in object (pos index) = if nat_lt index (length_of object) then Some index else None
index_in object (negsuc n) = None

-- the place that stands for all places of an array that is of another shape
abbrev pub no_place : ℕ
no_place = 65535

-- what is done with an element of an array: an object of another shape ends the run, and an index that it lacks throws
abbrev pub at_index : Image → State → List Frame → Object → Option ℕ → (ℕ → SplitMove) → SplitMove
at_index image state frames object None use_it = throws image state frames array_index_out_of_bounds_exception
at_index image state frames object (Some index) use_it = use_it index

abbrev pub with_element : Image → State → List Frame → Element → ℤ → Object → (ℕ → SplitMove) → SplitMove
with_element image state frames e index object use_it =
    if is_array_of image e object then at_index image state frames object (index_in object index) use_it else misfits object no_place

-- the byte of a cell: the low one where the index is even
abbrev pub byte_of : ℕ → ℕ → ℕ
byte_of index cell = if nat_eq (index % 2) 0 then cell % 256 else cell / 256

abbrev pub with_byte : ℕ → ℕ → ℕ → ℕ
with_byte index cell byte = if nat_eq (index % 2) 0 then cell / 256 * 256 + byte else byte * 256 + cell % 256

-- a byte by sign, as a cell
abbrev pub signed_byte : ℕ → ℕ
signed_byte byte = low_cell (converted conv.Byte (pos byte))

abbrev pub read_cells : Element → ℕ → Object → Option (List ℕ)
read_cells element.Byte index object = option_map (λ cell. signed_byte (byte_of index cell) ∷ []) (slice_get object.cells (index / 2))
read_cells element.Half index object = cells_at object.cells index 1
read_cells element.Int index object = cells_at object.cells (2 * index) 2
read_cells element.Ref index object = None

-- ALEN
abbrev pub array_length : Image → State → Frame → List Frame → ℕ → SplitMove
array_length image state frame others next =
    take_ref frame (λ reference rest. with_object_of image state (frame ∷ others) reference (λ name object.
    or_misfit object no_place object.length (λ count. goes_on state (push_cells (count ∷ []) rest) others next)))

-- ALOAD
abbrev pub load_element : State → Frame → List Frame → ℕ → Element → Object → ℕ → SplitMove
load_element state frame others next element.Ref object index = using (slice_get object.refs index) (λ reference. goes_on state (push_ref reference frame) others next)
load_element state frame others next e object index = using (read_cells e index object) (λ cells. goes_on state (push_cells cells frame) others next)

abbrev pub array_load : Image → State → Frame → List Frame → ℕ → Element → Width → SplitMove
array_load image state frame others next e w =
    take_number w frame (λ index below. take_ref below (λ reference rest. with_object_of image state (frame ∷ others) reference (λ name object.
    with_element image state (frame ∷ others) e index object (λ at. load_element state rest others next e object at))))

-- ASTORE: of a cell a byte array keeps the low byte, and a boolean array the lowest bit
abbrev pub is_boolean_entry : Option TypeEntry → Bool
is_boolean_entry (Some (NumArray number)) = nat_eq number 4
is_boolean_entry entry = false

abbrev pub kept_byte : Bool → ℕ → ℕ
kept_byte boolean cell = if boolean then cell % 2 else cell % 256

abbrev pub write_byte : Bool → ℕ → List ℕ → ℕ → Option (List ℕ)
write_byte boolean cell cells index =
    option_map (λ old. slice_set cells (index / 2) (with_byte index old (kept_byte boolean cell))) (slice_get cells (index / 2))

abbrev pub write_cells : Bool → Element → List ℕ → List ℕ → ℕ → Option (List ℕ)
write_cells boolean element.Byte (cell ∷ []) cells index = write_byte boolean cell cells index
write_cells boolean element.Half new cells index = with_cells_at cells index new
write_cells boolean element.Int new cells index = with_cells_at cells (2 * index) new
write_cells boolean e new cells index = None

abbrev pub element_size : Element → ℕ
element_size element.Ref = 0
element_size element.Byte = 1
element_size element.Half = 1
element_size element.Int = 2

abbrev pub store_cells : Image → State → Frame → List Frame → ℕ → Element → List ℕ → ℕ → Object → ℕ → SplitMove
store_cells image state frame others next e new name object index =
    using (write_cells (is_boolean_entry (entry_at image object.type)) e new object.cells index) (λ (cells : List ℕ). goes_on (with_object state name (record object { cells = cells })) frame others next)

-- null may be stored in each array, and another reference where its object's type is that of the elements or below it
abbrev pub may_be_stored : Image → State → Object → Reference → Bool
may_be_stored image state array None = true
may_be_stored image state array (Some name) =
    option_map_or (λ (object : Object). option_map_or (is_below image object.type) (element_type image array.type) false) (object_at state name) false

abbrev pub store_ref : Image → State → List Frame → Frame → List Frame → ℕ → Reference → ℕ → Object → ℕ → SplitMove
store_ref image state frames frame others next value name object index =
    if may_be_stored image state object value
    then goes_on (with_object state name (record object { refs = slice_set object.refs index value })) frame others next
    else throws image state frames array_store_exception

abbrev pub array_store : Image → State → Frame → List Frame → ℕ → Element → Width → SplitMove
array_store image state frame others next element.Ref w =
    take_ref frame (λ value without_value. take_number w without_value (λ index below. take_ref below (λ reference rest.
    with_object_of image state (frame ∷ others) reference (λ name object.
    with_element image state (frame ∷ others) element.Ref index object (λ at. store_ref image state (frame ∷ others) rest others next value name object at)))))
array_store image state frame others next e w =
    take_cells (element_size e) frame (λ new without_value. take_number w without_value (λ index below. take_ref below (λ reference rest.
    with_object_of image state (frame ∷ others) reference (λ name object.
    with_element image state (frame ∷ others) e index object (λ at. store_cells image state rest others next e new name object at)))))

-- ---- types

-- the object of a reference is of a type; null is of none
abbrev pub is_of_type : Image → State → ℕ → Reference → Bool
is_of_type image state id None = false
is_of_type image state id (Some name) = option_map_or (λ (object : Object). is_below image object.type id) (object_at state name) false

-- CAST: null passes, and the reference stays
abbrev pub cast : Image → State → Frame → List Frame → ℕ → ℕ → SplitMove
cast image state frame others next id =
    take_ref frame (λ reference rest.
    if is_some reference && (if is_of_type image state id reference then false else true) then throws image state (frame ∷ others) class_cast_exception
    else goes_on state frame others next)

-- INST: 1 or 0 in one cell
abbrev pub test_type : Image → State → Frame → List Frame → ℕ → ℕ → SplitMove
test_type image state frame others next id =
    take_ref frame (λ reference rest. goes_on state (push_cells ((if is_of_type image state id reference then 1 else 0) ∷ []) rest) others next)
