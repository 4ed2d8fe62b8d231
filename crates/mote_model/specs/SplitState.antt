-- A state of the split machine: references and cells stand apart, objects have names and do not move.
use Rattle.std.specs.Prelude.{ℕ, ◌+◌, List, ◌++◌, Option, is_some, if◌then◌else◌, length, reverse, slice_set}
use Rattle.std.specs.List.{filter_map, flat_map, sum_by}
use Rattle.std.specs.Option.{option_map_or}
use Rattle.std.specs.Prelude.{slice_get, [], ◌-◌, nat_lt, None}
use Rattle.library.specs.Classes.{first_own}
use Rattle.image_form.specs.declared.record.Image.{Image}
use Rattle.image_form.specs.declared.record.Method.{Method}
use Rattle.dialogue.specs.Answers.{Answers}
use Rattle.account.specs.Account.{View}
use Rattle.account.specs.Reachable.{Objects, collection_of}
use Rattle.mote_model.specs.State.{Reference, Frame, Object, whole}

-- the frames, the youngest first; the objects by their names 0, 1, 2 and so on; the statics by halves; and the answers to
-- the gets that are still to come
pub record State : Type 0 where
  pub frames : List Frame
  pub objects : List Object
  pub ref_statics : List Reference
  pub cell_statics : List ℕ
  pub answers : Answers

-- ---- states

abbrev pub with_frames : State → List Frame → State
with_frames state frames = record state { frames = frames }

-- the state with objects more, whose names follow those before them
abbrev pub with_objects : State → List Object → State
with_objects state objects = record state { objects = state.objects ++ objects }

-- the state with another object of a name
abbrev pub with_object : State → ℕ → Object → State
with_object state name object = record state { objects = slice_set state.objects name object }

abbrev pub object_at : State → ℕ → Option Object
object_at state name = slice_get state.objects name

-- ---- what the account sees

-- the cells of an object: two of its header, one of a length, and those of its fields or elements
abbrev pub object_cells : Object → ℕ
object_cells object = (if is_some object.length then 3 else 2) + (length object.refs + length object.cells)

-- the objects that references name
abbrev pub names_of : List Reference → List ℕ
names_of references = filter_map (λ reference. reference) references

-- the references of all frames, the oldest first, each from its locals to its top, and then those of the statics
abbrev pub roots_of : State → List ℕ
roots_of state = flat_map (λ (frame : Frame). names_of (whole frame.refs)) (reverse state.frames) ++ names_of state.ref_statics

abbrev pub objects_of : State → Objects
objects_of state =
    record {
      count = length state.objects;
      refers_to = λ name. option_map_or (λ object. names_of object.refs) (object_at state name) [];
      cells = λ name. option_map_or object_cells (object_at state name) 0;
    }

-- a method with code by its id
abbrev pub method_at : Image → ℕ → Option Method
method_at image id = if nat_lt id first_own then None else slice_get image.methods (id - first_own)

-- the cells of a method's frame
abbrev pub frame_cells : Method → ℕ
frame_cells method = 4 + method.body

abbrev pub cells_of_frame : Image → Frame → ℕ
cells_of_frame image frame = option_map_or frame_cells (method_at image frame.method) 0

abbrev pub view_of : Image → State → View
view_of image state = record { collection = collection_of (objects_of state) (roots_of state); frames = sum_by (cells_of_frame image) state.frames }
