-- The split machine keeps the answers at arrays.
use Rattle.std.proofs.Common.{ℕ, ℤ, zero, suc, if◌then◌else◌, List, [], ◌∷◌, map, reverse, length, slice_get, slice_set, Option, Some, None, refl}
use Rattle.image_instr.specs.declared.insn.Element.{Element}
use Rattle.image_instr.specs.declared.insn.Element.TheVariants as element
use Rattle.image_instr.specs.declared.insn.Width.{Width}
use Rattle.image_instr.specs.declared.insn.Width.TheVariants as width
use Rattle.image_form.specs.declared.record.Image.{Image}
use Rattle.mote_model.specs.State.{Reference, Frame, Object}
use Rattle.mote_model.specs.SplitMoves.{SplitMove, array_index_out_of_bounds_exception, array_store_exception, goes_on, misfits, negative_array_size_exception, places, push_cells, push_ref, take_cells, take_number, take_ref, throws, using, with_object_of}
use Rattle.mote_model.specs.SplitObjects.{any_negative, array_length, array_load, array_store, arrays_of, at_index, count_in, element_size, index_in, is_array_of, is_boolean_entry, is_negative, load_element, make_array, make_arrays, may_be_stored, no_place, or_misfit, read_cells, store_cells, store_ref, take_counts, with_element, write_cells}
use Rattle.mote_model.specs.SplitState.{State, with_object}
use Rattle.mote_model.specs.SplitTypes.{entry_at, new_array}
use Rattle.set_runs.proofs.KeptAnswers.{object_taken, KeepsHere, either, or_misfits, taken_cells, taken_number, taken_ref, thrown, used}

module _ (image : Image) (state : State) (frame : Frame) (others : List Frame) (next : ℕ) where
  abbrev Keep : SplitMove → Type 0
  Keep = KeepsHere image state

  abbrev frames : List Frame
  frames = frame ∷ others

  -- ---- new arrays

  pub array_made : (w : Width) (id : ℕ) → Keep (make_array image state frame others next w id)
  array_made w id =
      taken_number state.answers w frame
      (λ count rest. if is_negative count then throws image state frames negative_array_size_exception else using (new_array image id (count_in count)) (λ array. places state rest others next (array ∷ [])))
      (λ count rest.
      either state.answers (is_negative count) (throws image state frames negative_array_size_exception) (using (new_array image id (count_in count)) (λ array. places state rest others next (array ∷ [])))
      (thrown image state frames negative_array_size_exception) (used state.answers (new_array image id (count_in count)) (λ array. places state rest others next (array ∷ [])) (λ array. refl)))

  counts_taken : (count : ℕ) (from : Frame) (use_them : List ℤ → Frame → SplitMove) → ((counts : List ℤ) (rest : Frame) → Keep (use_them counts rest)) → Keep (take_counts count from use_them)
  unfolding take_counts
  counts_taken zero from use_them each = each [] from
  counts_taken (suc n) from use_them each =
      taken_number state.answers width.Two from (λ count rest. take_counts n rest (λ counts last. use_them (count ∷ counts) last))
      (λ count rest. counts_taken n rest (λ counts last. use_them (count ∷ counts) last) (λ counts last. each (count ∷ counts) last))

  pub arrays_made : (id dims : ℕ) → Keep (make_arrays image state frame others next id dims)
  arrays_made id dims =
      counts_taken dims frame
      (λ counts rest. if any_negative counts then throws image state frames negative_array_size_exception
      else using (arrays_of image id (map count_in (reverse counts)) (length state.objects)) (λ arrays. places state rest others next arrays))
      (λ counts rest.
      either state.answers (any_negative counts) (throws image state frames negative_array_size_exception)
      (using (arrays_of image id (map count_in (reverse counts)) (length state.objects)) (λ arrays. places state rest others next arrays))
      (thrown image state frames negative_array_size_exception)
      (used state.answers (arrays_of image id (map count_in (reverse counts)) (length state.objects)) (λ arrays. places state rest others next arrays) (λ arrays. refl)))

  -- ---- elements

  pub length_read : Keep (array_length image state frame others next)
  length_read =
      object_taken image state frames frame (λ rest name object. or_misfit object no_place object.length (λ count. goes_on state (push_cells (count ∷ []) rest) others next))
      (λ rest name object. or_misfits state.answers object no_place object.length (λ count. goes_on state (push_cells (count ∷ []) rest) others next) (λ count. refl))

  indexed : (object : Object) (index : Option ℕ) (use_it : ℕ → SplitMove) → ((at : ℕ) → Keep (use_it at)) → Keep (at_index image state frames object index use_it)
  indexed object None use_it each = thrown image state frames array_index_out_of_bounds_exception
  indexed object (Some index) use_it each = each index

  with_elements : (e : Element) (index : ℤ) (object : Object) (use_it : ℕ → SplitMove) → ((at : ℕ) → Keep (use_it at)) → Keep (with_element image state frames e index object use_it)
  with_elements e index object use_it each =
      either state.answers (is_array_of image e object) (at_index image state frames object (index_in object index) use_it) (misfits object no_place) (indexed object (index_in object index) use_it each) refl

  cells_of_element : (e : Element) (rest : Frame) (object : Object) (at : ℕ) → Keep (using (read_cells e at object) (λ cells. goes_on state (push_cells cells rest) others next))
  cells_of_element e rest object at = used state.answers (read_cells e at object) (λ cells. goes_on state (push_cells cells rest) others next) (λ cells. refl)

  element_loaded : (e : Element) (rest : Frame) (object : Object) (at : ℕ) → Keep (load_element state rest others next e object at)
  element_loaded element.Ref rest object at = used state.answers (slice_get object.refs at) (λ reference. goes_on state (push_ref reference rest) others next) (λ reference. refl)
  element_loaded element.Byte rest object at = cells_of_element element.Byte rest object at
  element_loaded element.Half rest object at = cells_of_element element.Half rest object at
  element_loaded element.Int rest object at = cells_of_element element.Int rest object at

  pub array_loaded : (e : Element) (w : Width) → Keep (array_load image state frame others next e w)
  array_loaded e w =
      taken_number state.answers w frame
      (λ index below. take_ref below (λ reference rest. with_object_of image state frames reference (λ name object. with_element image state frames e index object (λ at. load_element state rest others next e object at))))
      (λ index below. object_taken image state frames below (λ rest name object. with_element image state frames e index object (λ at. load_element state rest others next e object at))
      (λ rest name object. with_elements e index object (λ at. load_element state rest others next e object at) (λ at. element_loaded e rest object at)))

  ref_stored : (value : Reference) (rest : Frame) (name : ℕ) (object : Object) (at : ℕ) → Keep (store_ref image state frames rest others next value name object at)
  ref_stored value rest name object at =
      either state.answers (may_be_stored image state object value) (goes_on (with_object state name (record object { refs = slice_set object.refs at value })) rest others next) (throws image state frames array_store_exception)
      refl (thrown image state frames array_store_exception)

  cells_stored : (e : Element) (new : List ℕ) (rest : Frame) (name : ℕ) (object : Object) (at : ℕ) → Keep (store_cells image state rest others next e new name object at)
  cells_stored e new rest name object at =
      used state.answers (write_cells (is_boolean_entry (entry_at image object.type)) e new object.cells at)
      (λ (cells : List ℕ). goes_on (with_object state name (record object { cells = cells })) rest others next) (λ cells. refl)

  -- what was taken off the top is stored at an index of an array
  stored_at : (e : Element) (w : Width) (from : Frame) (store : Frame → ℕ → Object → ℕ → SplitMove) → ((rest : Frame) (name : ℕ) (object : Object) (at : ℕ) → Keep (store rest name object at))
      → Keep (take_number w from (λ index below. take_ref below (λ reference rest. with_object_of image state frames reference (λ name object. with_element image state frames e index object (λ at. store rest name object at)))))
  stored_at e w from store each =
      taken_number state.answers w from
      (λ index below. take_ref below (λ reference rest. with_object_of image state frames reference (λ name object. with_element image state frames e index object (λ at. store rest name object at))))
      (λ index below. object_taken image state frames below (λ rest name object. with_element image state frames e index object (λ at. store rest name object at))
      (λ rest name object. with_elements e index object (λ at. store rest name object at) (λ at. each rest name object at)))

  element_stored : (e : Element) (w : Width)
      → Keep (take_cells (element_size e) frame (λ new without_value. take_number w without_value (λ index below. take_ref below (λ reference rest. with_object_of image state frames reference (λ name object. with_element image state frames e index object (λ at. store_cells image state rest others next e new name object at))))))
  element_stored e w =
      taken_cells state.answers (element_size e) frame
      (λ new without_value. take_number w without_value (λ index below. take_ref below (λ reference rest. with_object_of image state frames reference (λ name object. with_element image state frames e index object (λ at. store_cells image state rest others next e new name object at)))))
      (λ new without_value. stored_at e w without_value (λ rest name object at. store_cells image state rest others next e new name object at) (cells_stored e new))

  pub array_stored : (e : Element) (w : Width) → Keep (array_store image state frame others next e w)
  array_stored element.Ref w =
      taken_ref state.answers frame
      (λ value without_value. take_number w without_value (λ index below. take_ref below (λ reference rest. with_object_of image state frames reference (λ name object. with_element image state frames element.Ref index object (λ at. store_ref image state frames rest others next value name object at)))))
      (λ value without_value. stored_at element.Ref w without_value (λ rest name object at. store_ref image state frames rest others next value name object at) (ref_stored value))
  array_stored element.Byte w = element_stored element.Byte w
  array_stored element.Half w = element_stored element.Half w
  array_stored element.Int w = element_stored element.Int w
