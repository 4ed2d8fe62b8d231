-- What the types of an image are to the split machine: which is below which, and what new objects of them are.
use Rattle.std.specs.Prelude.{ℕ, zero, suc, ◌+◌, ◌*◌, ◌-◌, ◌/◌, Bool, true, false, ◌||◌, ◌&&◌, nat_eq, nat_lt, if◌then◌else◌, List, [], ◌∷◌, map, length, replicate, Option, Some, None, option_map, slice_get}
use Rattle.std.specs.Option.{option_map_or, option_to_list}
use Rattle.std.specs.List.{list_any, find}
use Rattle.library.specs.Classes.{first_own, superclasses}
use Rattle.image_form.specs.declared.record.ClassEntry.{ClassEntry}
use Rattle.image_form.specs.declared.record.DispatchRow.{DispatchRow}
use Rattle.image_form.specs.declared.record.Image.{Image}
use Rattle.image_form.specs.declared.record.TypeEntry.{TypeEntry}
use Rattle.image_form.specs.declared.record.TypeEntry.TheVariants.{Class, RefArray, NumArray}
use Rattle.image_form.specs.Library.{refs_of, nums_of}
use Rattle.mote_model.specs.State.{Reference, Object}

-- ---- entries

-- the entry of a type that is not the library's
abbrev pub entry_at : Image → ℕ → Option TypeEntry
entry_at image id = if nat_lt id first_own then None else slice_get image.types (id - first_own)

-- ---- which type is below which

-- what stands directly above an entry, but for arrays by their elements
abbrev pub above_entry : Option TypeEntry → List ℕ
above_entry (Some (Class class)) = class.parent ∷ class.interfaces
above_entry entry = []

-- what stands directly above a type; java/lang/Object stands above all
abbrev pub above : Image → ℕ → List ℕ
above image id =
    if nat_lt id first_own then option_to_list (option_map_or (λ superclass. superclass) (slice_get superclasses id) None)
    else above_entry (entry_at image id)

-- two types are arrays of references, with these elements
abbrev pub elements_of : Option TypeEntry → Option TypeEntry → Option (ℕ × ℕ)
elements_of (Some (RefArray lower)) (Some (RefArray upper)) = Some (lower, upper)
elements_of lower upper = None

-- a type is another one or below it, by so many steps up; an array of references is below one by their elements
unfoldable pub is_below_by : Image → ℕ → ℕ → ℕ → Bool
is_below_by image zero lower upper = nat_eq lower upper
is_below_by image (suc steps) lower upper =
    nat_eq lower upper
    || (list_any (λ id. is_below_by image steps id upper) (above image lower)
    || option_map_or (λ (pair : ℕ × ℕ). is_below_by image steps pair.0 pair.1) (elements_of (entry_at image lower) (entry_at image upper)) false)

-- what stands above an entry comes before it, so there are no more steps than types
abbrev pub is_below : Image → ℕ → ℕ → Bool
is_below image lower upper = nat_eq upper 0 || is_below_by image (first_own + length image.types) lower upper

-- ---- new objects

-- an object of a class, whose fields are null or 0
abbrev pub new_object : Image → ℕ → Object
new_object image id =
    record { type = id; length = None; refs = replicate (refs_of image.types id) None; cells = replicate (nums_of image.types id) 0 }

-- the cells of so many elements: of bytes and booleans two a cell, of ints two each
abbrev pub number_cells : ℕ → ℕ → ℕ
number_cells kind count =
    if nat_eq kind 4 || nat_eq kind 8 then (count + 1) / 2
    else (if nat_eq kind 10 then 2 * count else count)

abbrev pub array_object : ℕ → ℕ → (refs cells : ℕ) → Object
array_object id count refs cells = record { type = id; length = Some count; refs = replicate refs None; cells = replicate cells 0 }

-- an array of so many elements, where the type is one of arrays
abbrev pub array_of_entry : ℕ → ℕ → Option TypeEntry → Option Object
array_of_entry id count (Some (RefArray element)) = Some (array_object id count count 0)
array_of_entry id count (Some (NumArray kind)) = Some (array_object id count 0 (number_cells kind count))
array_of_entry id count entry = None

abbrev pub new_array : Image → ℕ → ℕ → Option Object
new_array image id count = array_of_entry id count (entry_at image id)

-- the type of the elements of an array of references
abbrev pub element_of_entry : Option TypeEntry → Option ℕ
element_of_entry (Some (RefArray element)) = Some element
element_of_entry entry = None

abbrev pub element_type : Image → ℕ → Option ℕ
element_type image id = element_of_entry (entry_at image id)

-- ---- dispatch

abbrev pub rows_of : Option TypeEntry → List DispatchRow
rows_of (Some (Class class)) = class.rows
rows_of entry = []

-- the method that a class has for a selector
abbrev pub selected : Image → ℕ → ℕ → Option ℕ
selected image selector id = option_map (λ (row : DispatchRow). row.method) (find (λ (row : DispatchRow). nat_eq row.selector selector) (rows_of (entry_at image id)))
