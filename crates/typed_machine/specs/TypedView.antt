-- What the account sees of a state of the typed machine: its references in the order of their slots, the objects that they
-- lead to, and the cells of all frames.
use Rattle.std.specs.Prelude.{ℕ, List, [], ◌++◌, map, filter, reverse, length, if◌then◌else◌, Option, Some, None, slice_get}
use Rattle.std.specs.Option.{option_map_or}
use Rattle.std.specs.List.{flat_map, filter_map, sum_by}
use Rattle.class_pool.specs.declared.types.TypeRef.{TypeRef}
use Rattle.class_tree.specs.Merge.{is_reference}
use Rattle.body_form.specs.declared.body.Body.{Body}
use Rattle.jvm_model.specs.State.{Value, Name}
use Rattle.jvm_model.specs.TypesRules.{component_of}
use Rattle.jvm_model.specs.WidthsSlots.{reference_locals}
use Rattle.jvm_model.specs.ImageNumbering.{Field, fields_of_object, static_fields, is_reference_field}
use Rattle.account.specs.Account.{View}
use Rattle.account.specs.Reachable.{Objects, collection_of}
use Rattle.account.specs.Run.{Machine}
use Rattle.typed_machine.specs.TypedMoves.{Ending}
use Rattle.typed_machine.specs.TypedState.{Fields, Object, Instance, Elements, Frame, State}
use Rattle.typed_machine.specs.TypedStep.{local_at, move}
use Rattle.typed_machine.specs.TypedWorld.{World, body_among, object_cells, array_cells}

-- ---- references

-- the object that a value names, where it is a reference to one
abbrev pub reference_of : Value → Option ℕ
reference_of (Name name) = Some name
reference_of value = None

-- what a local names, where it is set
abbrev pub local_reference : Frame → ℕ → Option ℕ
local_reference frame local = option_map_or reference_of (local_at frame local) None

abbrev pub field_reference : Fields → Field → Option ℕ
field_reference fields field = option_map_or reference_of (fields field.member) None

abbrev pub references_in : Fields → List Field → List (Option ℕ)
references_in fields all = map (field_reference fields) (filter is_reference_field all)

abbrev pub element_references : TypeRef → List Value → List (Option ℕ)
element_references component elements = if is_reference component.dims component.base then map reference_of elements else []

-- the objects that are named
abbrev pub names_of : List (Option ℕ) → List ℕ
names_of references = filter_map (λ reference. reference) references

-- ---- what is seen

-- the references of a frame: of its locals in the order of their slots, then of its operands from the bottom
abbrev pub frame_names : World → Frame → List ℕ
frame_names world frame =
    names_of (option_map_or (λ body. map (local_reference frame) (reference_locals body)) (body_among world.bodies frame.method) [])
    ++ names_of (map reference_of (reverse frame.operands))

-- those of all frames, the oldest first, and then of the statics
abbrev pub roots_of : World → State → List ℕ
roots_of world state = flat_map (frame_names world) (reverse state.frames) ++ names_of (references_in state.statics (static_fields world.files))

abbrev pub names_in : World → Object → List ℕ
names_in world (Instance class fields) = names_of (references_in fields (fields_of_object world.files class))
names_in world (Elements array elements) = names_of (element_references (component_of array) elements)

abbrev pub cells_of_object : World → Object → ℕ
cells_of_object world (Instance class fields) = object_cells world.files class
cells_of_object world (Elements array elements) = array_cells array (length elements)

abbrev pub objects_of : World → State → Objects
objects_of world state =
    record {
      count = length state.objects;
      refers_to = λ name. option_map_or (names_in world) (slice_get state.objects name) [];
      cells = λ name. option_map_or (cells_of_object world) (slice_get state.objects name) 0;
    }

abbrev pub view_of : World → State → View
view_of world state =
    record { collection = collection_of (objects_of world state) (roots_of world state); frames = sum_by (λ (frame : Frame). world.frame_cells frame.method) state.frames }

-- the typed machine of a set
abbrev pub machine : World → Machine State Ending
machine world = record { move = move world; view = view_of world }
