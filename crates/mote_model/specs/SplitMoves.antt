-- The parts of the split machine's moves: operands and locals of both halves, going on, jumps, what is placed, and throws.
use Rattle.std.specs.Prelude.{ℕ, ℤ, pos, zero, suc, ◌+◌, ◌-◌, Bool, true, false, ◌||◌, ◌&&◌, nat_eq, nat_le, nat_lt, if◌then◌else◌, List, [], ◌∷◌, ◌++◌, length, map, reverse, take, drop, filter, Option, Some, None, option_and_then, slice_get, slice_set}
use Rattle.std.specs.Option.{option_map_or}
use Rattle.std.specs.List.{sum_by, find}
use Rattle.cell_num.specs.Cells.{sign_extended, low_cell, high_cell, joined_cells}
use Rattle.image_instr.specs.declared.insn.Kind.{Kind}
use Rattle.image_instr.specs.declared.insn.Kind.TheVariants as kind
use Rattle.image_instr.specs.declared.insn.Width.{Width}
use Rattle.image_instr.specs.declared.insn.Width.TheVariants as width
use Rattle.image_form.specs.declared.record.HandlerEntry.{HandlerEntry}
use Rattle.image_form.specs.declared.record.Image.{Image}
use Rattle.image_form.specs.declared.record.Method.{Method}
use Rattle.account.specs.Account.{Event, Need, Move, Does, Stops, Stuck, no_need, tick_need, place_need}
use Rattle.mote_model.specs.State.{Reference, Half, Frame, Object}
use Rattle.mote_model.specs.SplitState.{State, with_frames, with_objects, object_at, object_cells, method_at}
use Rattle.mote_model.specs.SplitTypes.{is_below, new_object}

-- the oldest frame, which is main's, returned; no frame handled what was thrown, which is of this type; or an object of
-- this type lacks a place
pub data Ending : Type 0 where
  Done : Ending
  Uncaught : (class : ℕ) → Ending
  Misfit : (class place : ℕ) → Ending

abbrev pub SplitMove : Type 0
SplitMove = Move State Ending

-- ---- frames

abbrev pub half : {A : Type 0} → List A → List A → Half A
half locals operands = record { locals = locals; operands = operands }

abbrev pub at_pc : Frame → ℕ → Frame
at_pc frame pc = record frame { pc = pc }

abbrev pub with_refs : Frame → List Reference → Frame
with_refs frame operands = record frame { refs = half frame.refs.locals operands }

abbrev pub with_cells : Frame → List ℕ → Frame
with_cells frame operands = record frame { cells = half frame.cells.locals operands }

abbrev pub with_ref_locals : Frame → List Reference → Frame
with_ref_locals frame locals = record frame { refs = half locals frame.refs.operands }

abbrev pub with_cell_locals : Frame → List ℕ → Frame
with_cell_locals frame locals = record frame { cells = half locals frame.cells.operands }

-- ---- numbers in cells, the low cell first

abbrev pub number_of : List ℕ → ℤ
number_of (cell ∷ []) = sign_extended cell
number_of (low ∷ high ∷ []) = joined_cells low high
number_of cells = pos 0

abbrev pub cells_of : Width → ℤ → List ℕ
cells_of width.One number = low_cell number ∷ []
cells_of width.Two number = low_cell number ∷ high_cell number ∷ []

abbrev pub count_of : Width → ℕ
count_of width.One = 1
count_of width.Two = 2

-- ---- parts of lists

-- so many cells from one on
abbrev pub cells_at : List ℕ → ℕ → ℕ → Option (List ℕ)
cells_at cells from count = if nat_le (from + count) (length cells) then Some (take count (drop from cells)) else None

abbrev pub with_cells_at : List ℕ → ℕ → List ℕ → Option (List ℕ)
with_cells_at cells from new = if nat_le (from + length new) (length cells) then Some (take from cells ++ (new ++ drop (from + length new) cells)) else None

abbrev pub with_ref_at : List Reference → ℕ → Reference → Option (List Reference)
with_ref_at references at reference = if nat_lt at (length references) then Some (slice_set references at reference) else None

-- ---- going on

abbrev pub goes_on : State → Frame → List Frame → ℕ → SplitMove
goes_on state frame others next = Does no_need [] (with_frames state (at_pc frame next ∷ others))

-- a jump that is taken; one to a target that is not after its instruction is a tick
abbrev pub jumps : State → Frame → List Frame → ℕ → SplitMove
jumps state frame others target = Does (if nat_lt frame.pc target then no_need else tick_need) [] (with_frames state (at_pc frame target ∷ others))

abbrev pub branches : Bool → State → Frame → List Frame → ℕ → ℕ → SplitMove
branches taken state frame others target next = if taken then jumps state frame others target else goes_on state frame others next

-- the move that is made of what is there
abbrev pub using : {X : Type 0} → Option X → (X → SplitMove) → SplitMove
using None use_it = Stuck
using (Some x) use_it = use_it x

-- ---- operands

-- so many cells are taken off the top, the low one first, with the frame without them
abbrev pub take_cells : ℕ → Frame → (List ℕ → Frame → SplitMove) → SplitMove
take_cells count frame use_them =
    if nat_le count (length frame.cells.operands)
    then use_them (reverse (take count frame.cells.operands)) (with_cells frame (drop count frame.cells.operands))
    else Stuck

-- a number of a width is taken off the top
abbrev pub take_number : Width → Frame → (ℤ → Frame → SplitMove) → SplitMove
take_number w frame use_it = take_cells (count_of w) frame (λ cells. use_it (number_of cells))

abbrev pub take_ref_from : Frame → List Reference → (Reference → Frame → SplitMove) → SplitMove
take_ref_from frame [] use_it = Stuck
take_ref_from frame (reference ∷ operands) use_it = use_it reference (with_refs frame operands)

-- a reference is taken off the top
abbrev pub take_ref : Frame → (Reference → Frame → SplitMove) → SplitMove
take_ref frame use_it = take_ref_from frame frame.refs.operands use_it

abbrev pub push_cells : List ℕ → Frame → Frame
push_cells cells frame = with_cells frame (reverse cells ++ frame.cells.operands)

abbrev pub push_number : Width → ℤ → Frame → Frame
push_number w number frame = push_cells (cells_of w number) frame

abbrev pub push_ref : Reference → Frame → Frame
push_ref reference frame = with_refs frame (reference ∷ frame.refs.operands)

-- ---- operands that are moved, the top first

-- `.. J K` becomes `.. K J K`, where K has m items and J has n
abbrev pub dupx : {X : Type 0} → ℕ → ℕ → List X → Option (List X)
dupx m n operands =
    if nat_le (m + n) (length operands)
    then Some (take m operands ++ (take n (drop m operands) ++ (take m operands ++ drop (m + n) operands)))
    else None

-- `.. J K` becomes `.. K J`
abbrev pub swapped : {X : Type 0} → ℕ → ℕ → List X → Option (List X)
swapped m n operands =
    if nat_le (m + n) (length operands) then Some (take n (drop m operands) ++ (take m operands ++ drop (m + n) operands)) else None

abbrev pub without : {X : Type 0} → ℕ → List X → Option (List X)
without count operands = if nat_le count (length operands) then Some (drop count operands) else None

-- the item that has so many above it is removed
abbrev pub without_at : {X : Type 0} → ℕ → List X → Option (List X)
without_at above operands = if nat_lt above (length operands) then Some (take above operands ++ drop (suc above) operands) else None

-- ---- objects

-- objects are placed at once, and the name of the first one is pushed
abbrev pub places : State → Frame → List Frame → ℕ → List Object → SplitMove
places state frame others next objects =
    Does (place_need (sum_by object_cells objects)) [] (with_frames (with_objects state objects) (at_pc (push_ref (Some (length state.objects)) frame) next ∷ others))

-- ---- throws

-- the row covers the pc and handles what is of a type; 65,535 stands for any
abbrev pub handles : Image → ℕ → ℕ → HandlerEntry → Bool
handles image type pc handler =
    (nat_le handler.start pc && nat_lt pc handler.end) && (nat_eq handler.class 65535 || is_below image type handler.class)

-- the first row of the frame's method that does
abbrev pub handler_of : Image → ℕ → Frame → Option HandlerEntry
handler_of image type frame = option_and_then (λ (method : Method). find (handles image type frame.pc) method.handlers) (method_at image frame.method)

-- the frame at a handler, with what was thrown as the one operand
abbrev pub at_handler : Frame → HandlerEntry → ℕ → Frame
at_handler frame handler name =
    record frame { pc = handler.target; refs = half frame.refs.locals (Some name ∷ []); cells = half frame.cells.locals [] }

-- the youngest frame that handles it goes on at its handler; younger frames leave
unfoldable pub caught : Image → ℕ → ℕ → List Frame → Option (List Frame)
caught image type name [] = None
caught image type name (frame ∷ others) =
    option_map_or (λ (handler : HandlerEntry). Some (at_handler frame handler name ∷ others)) (handler_of image type frame) (caught image type name others)

-- a throw that is caught is a tick; the search stands before it
abbrev pub after_search : Option ℕ → State → ℕ → Option (List Frame) → SplitMove
after_search placed state type (Some frames) = Does (record { placed = placed; tick = true; frame = None }) [] (with_frames state frames)
after_search placed state type None = Stops (record { placed = placed; tick = false; frame = None }) [] (Uncaught type)

-- an object that is there is thrown
abbrev pub throws_object : Image → State → List Frame → ℕ → ℕ → SplitMove
throws_object image state frames type name = after_search None state type (caught image type name frames)

-- the machine throws an object of a class, which it makes
abbrev pub throws : Image → State → List Frame → ℕ → SplitMove
throws image state frames class =
    after_search (Some (object_cells (new_object image class))) (with_objects state (new_object image class ∷ [])) class (caught image class (length state.objects) frames)

-- ---- what the machine throws, by the id of its class

abbrev pub arithmetic_exception : ℕ
arithmetic_exception = 4

abbrev pub null_pointer_exception : ℕ
null_pointer_exception = 5

abbrev pub class_cast_exception : ℕ
class_cast_exception = 6

abbrev pub array_store_exception : ℕ
array_store_exception = 7

abbrev pub negative_array_size_exception : ℕ
negative_array_size_exception = 8

abbrev pub array_index_out_of_bounds_exception : ℕ
array_index_out_of_bounds_exception = 10

abbrev pub incompatible_class_change_error : ℕ
incompatible_class_change_error = 13

-- what is done with the object of a reference; null throws NullPointerException. `frames` are those of the state, before
-- any operand is taken.
abbrev pub with_object_of : Image → State → List Frame → Reference → (ℕ → Object → SplitMove) → SplitMove
with_object_of image state frames None use_object = throws image state frames null_pointer_exception
with_object_of image state frames (Some name) use_object = option_map_or (use_object name) (object_at state name) Stuck

-- an object of a type lacks a place
abbrev pub misfits : Object → ℕ → SplitMove
misfits object place = Stops no_need [] (Misfit object.type place)
