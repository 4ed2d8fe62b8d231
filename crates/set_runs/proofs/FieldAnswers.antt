-- The split machine keeps the answers at fields and types of objects.
use Rattle.std.proofs.Common.{ℕ, ◌&&◌, true, false, if◌then◌else◌, List, [], ◌∷◌, Option, is_some, refl}
use Rattle.image_instr.specs.declared.insn.Kind.{Kind}
use Rattle.image_instr.specs.declared.insn.Kind.TheVariants as kind
use Rattle.image_form.specs.declared.record.Image.{Image}
use Rattle.mote_model.specs.State.{Frame, Object}
use Rattle.mote_model.specs.SplitMoves.{SplitMove, class_cast_exception, goes_on, push_cells, push_ref, take_cells, take_ref, throws, with_object_of}
use Rattle.mote_model.specs.SplitObjects.{cast, field_cells, field_ref, get_field, is_of_type, or_misfit, put_field, read_field, test_type, with_field_cells, with_field_ref, write_field}
use Rattle.mote_model.specs.SplitState.{State, with_object}
use Rattle.set_runs.proofs.KeptAnswers.{object_taken, KeepsHere, either, or_misfits, taken_cells, taken_ref, thrown}

module _ (image : Image) (state : State) (frame : Frame) (others : List Frame) (next : ℕ) where
  abbrev Keep : SplitMove → Type 0
  Keep = KeepsHere image state

  abbrev frames : List Frame
  frames = frame ∷ others

  -- ---- fields

  cells_read : (rest : Frame) (count place : ℕ) (object : Object) → Keep (or_misfit object place (field_cells object place count) (λ cells. goes_on state (push_cells cells rest) others next))
  cells_read rest count place object = or_misfits state.answers object place (field_cells object place count) (λ cells. goes_on state (push_cells cells rest) others next) (λ cells. refl)

  field_read : (k : Kind) (place : ℕ) (rest : Frame) (name : ℕ) (object : Object) → Keep (read_field image state frames rest others next k place name object)
  field_read kind.Ref place rest name object = or_misfits state.answers object place (field_ref object place) (λ reference. goes_on state (push_ref reference rest) others next) (λ reference. refl)
  field_read kind.One place rest name object = cells_read rest 1 place object
  field_read kind.Two place rest name object = cells_read rest 2 place object

  pub field_gotten : (k : Kind) (place : ℕ) → Keep (get_field image state frame others next k place)
  field_gotten k place = object_taken image state frames frame (λ rest name object. read_field image state frames rest others next k place name object) (field_read k place)

  written : (place : ℕ) (new : Object → Option Object) (rest : Frame) (name : ℕ) (object : Object) → Keep (write_field state rest others next place name object (new object))
  written place new rest name object = or_misfits state.answers object place (new object) (λ written. goes_on (with_object state name written) rest others next) (λ written. refl)

  cells_put : (count place : ℕ)
      → Keep (take_cells count frame (λ cells below. take_ref below (λ reference rest. with_object_of image state frames reference (λ name object. write_field state rest others next place name object (with_field_cells object place cells)))))
  cells_put count place =
      taken_cells state.answers count frame (λ cells below. take_ref below (λ reference rest. with_object_of image state frames reference (λ name object. write_field state rest others next place name object (with_field_cells object place cells))))
      (λ cells below. object_taken image state frames below (λ rest name object. write_field state rest others next place name object (with_field_cells object place cells)) (written place (λ object. with_field_cells object place cells)))

  pub field_put : (k : Kind) (place : ℕ) → Keep (put_field image state frame others next k place)
  field_put kind.Ref place =
      taken_ref state.answers frame (λ value below. take_ref below (λ reference rest. with_object_of image state frames reference (λ name object. write_field state rest others next place name object (with_field_ref object place value))))
      (λ value below. object_taken image state frames below (λ rest name object. write_field state rest others next place name object (with_field_ref object place value)) (written place (λ object. with_field_ref object place value)))
  field_put kind.One place = cells_put 1 place
  field_put kind.Two place = cells_put 2 place

  -- ---- types

  pub is_cast : (id : ℕ) → Keep (cast image state frame others next id)
  is_cast id =
      taken_ref state.answers frame
      (λ reference rest. if is_some reference && (if is_of_type image state id reference then false else true) then throws image state frames class_cast_exception else goes_on state frame others next)
      (λ reference rest.
      either state.answers (is_some reference && (if is_of_type image state id reference then false else true)) (throws image state frames class_cast_exception) (goes_on state frame others next)
      (thrown image state frames class_cast_exception) refl)

  pub type_tested : (id : ℕ) → Keep (test_type image state frame others next id)
  type_tested id =
      taken_ref state.answers frame (λ reference rest. goes_on state (push_cells ((if is_of_type image state id reference then 1 else 0) ∷ []) rest) others next) (λ reference rest. refl)
