-- The split machine keeps the answers at calls, returns and throws, and reads the next one in the native that reads.
use Rattle.std.proofs.Common.{ℕ, ℤ, ◌+◌, ◌-◌, if◌then◌else◌, List, [], ◌∷◌, map, slice_get, drop, Option, Some, None, refl, sym, ap}
use Rattle.std.specs.Fmt.{signed_decimal}
use Rattle.dialogue.specs.Natives.{low_byte}
use Rattle.library.specs.declared.natives.Native.{Native}
use Rattle.library.specs.declared.natives.Native.TheVariants as native
use Rattle.library.specs.Natives.{native_of}
use Rattle.image_instr.specs.declared.insn.Kind.{Kind}
use Rattle.image_instr.specs.declared.insn.Kind.TheVariants as kind
use Rattle.image_instr.specs.declared.insn.MInsn.{MInsn}
use Rattle.image_instr.specs.declared.insn.Width.TheVariants as width
use Rattle.image_instr.specs.declared.signature.Sig.{Sig}
use Rattle.image_instr.specs.Reading.{insn_at}
use Rattle.image_form.specs.declared.record.Image.{Image}
use Rattle.image_form.specs.declared.record.Method.{Method}
use Rattle.account.specs.Account.{Does, Put, Stuck, call_need, tick_need}
use Rattle.mote_model.specs.State.{Frame, Object}
use Rattle.mote_model.specs.SplitMoves.{SplitMove, at_pc, goes_on, incompatible_class_change_error, push_cells, push_ref, throws, throws_object, with_object_of}
use Rattle.mote_model.specs.SplitState.{State, frame_cells, method_at, with_frames}
use Rattle.mote_model.specs.SplitStep.{call_exactly, call_interface, call_on, call_virtual, calls, calls_selected, code_from, frame_for, has_arguments, refs_taken, return_of, returns, runs_code, runs_method, runs_native, shows, throw, without_arguments}
use Rattle.mote_model.specs.SplitTypes.{is_below, selected}
use Rattle.set_runs.proofs.KeptAnswers.{KeepsHere, either, mapped_or, nothing_asked, object_thrown, one_asked, taken_cells, taken_number, taken_ref, thrown, used, with_object}

module _ (image : Image) (state : State) (frame : Frame) (others : List Frame) (next : ℕ) where
  abbrev Keep : SplitMove → Type 0
  Keep = KeepsHere image state

  abbrev frames : List Frame
  frames = frame ∷ others

  -- ---- natives

  shown : (bytes : ℤ → List ℕ) → Keep (shows state frame others next bytes)
  shown bytes =
      taken_number state.answers width.Two frame (λ number rest. Does tick_need (map Put (bytes number)) (with_frames state (at_pc rest next ∷ others)))
      (λ number rest. let none = nothing_asked (bytes number) in ap (λ (count : ℕ). drop count state.answers) (sym none))

  native_run : (found : Native) → Keep (runs_native state frame others next found)
  native_run native.Construct = taken_ref state.answers frame (λ reference rest. Does tick_need [] (with_frames state (at_pc rest next ∷ others))) (λ reference rest. refl)
  native_run native.Write = shown (λ number. low_byte number ∷ [])
  native_run native.Print = shown signed_decimal
  native_run native.Read = one_asked state.answers

  -- ---- calls

  method_run : (id : ℕ) (method : Method) → Keep (runs_method state frame others id method)
  method_run id method =
      either state.answers (has_arguments method.sig frame) (Does (call_need (frame_cells method)) [] (with_frames state (frame_for id method frame ∷ without_arguments method.sig frame ∷ others))) Stuck refl tt

  pub called : (id : ℕ) → Keep (calls image state frame others next id)
  called id =
      mapped_or state.answers (native_of id) (runs_native state frame others next) (runs_code image state frame others id) native_run
      (used state.answers (method_at image id) (λ method. runs_method state frame others id method) (method_run id))

  called_on : (refs : ℕ) (found : Object → SplitMove) → ((object : Object) → Keep (found object)) → Keep (call_on image state frame others refs found)
  called_on refs found each =
      used state.answers (slice_get frame.refs.operands (refs - 1)) (λ reference. with_object_of image state frames reference (λ name object. found object))
      (λ reference. with_object image state frames reference (λ name object. found object) (λ name object. each object))

  pub called_exactly : (id : ℕ) → Keep (call_exactly image state frame others next id)
  called_exactly id = called_on (refs_taken image id) (λ object. calls image state frame others next id) (λ object. called id)

  found_called : (selector : ℕ) (object : Object) (found : Option ℕ) → Keep (calls_selected image state frame others next selector object found)
  found_called selector object None = refl
  found_called selector object (Some id) = called id

  pub called_virtually : (selector : ℕ) → Keep (call_virtual image state frame others next selector)
  called_virtually selector =
      used state.answers (slice_get image.selectors selector)
      (λ (sig : Sig). call_on image state frame others sig.refs (λ object. calls_selected image state frame others next selector object (selected image selector object.type)))
      (λ sig. called_on sig.refs (λ object. calls_selected image state frame others next selector object (selected image selector object.type)) (λ object. found_called selector object (selected image selector object.type)))

  pub called_by_interface : (selector interface : ℕ) → Keep (call_interface image state frame others next selector interface)
  called_by_interface selector interface =
      let by_object : Object → SplitMove = λ object.
      if is_below image object.type interface then calls_selected image state frame others next selector object (selected image selector object.type) else throws image state frames incompatible_class_change_error in
      used state.answers (slice_get image.selectors selector) (λ (sig : Sig). call_on image state frame others sig.refs by_object)
      (λ sig. called_on sig.refs by_object
      (λ object.
      either state.answers (is_below image object.type interface) (calls_selected image state frame others next selector object (selected image selector object.type)) (throws image state frames incompatible_class_change_error)
      (found_called selector object (selected image selector object.type)) (thrown image state frames incompatible_class_change_error)))

  -- ---- returns and throws

  returned : (with_result : Frame → Frame) → Keep (returns image state others with_result)
  returned with_result = to others
    where
      to : (callers : List Frame) → Keep (returns image state callers with_result)
      to [] = refl
      to (caller ∷ rest) =
          let resumed = with_result caller in
          used state.answers (insn_at (code_from image resumed)) (λ (found : MInsn × ℕ). goes_on state resumed rest (resumed.pc + found.1)) (λ found. refl)

  pub left : (result : Option Kind) → Keep (return_of image state frame others result)
  left None = returned (λ caller. caller)
  left (Some kind.Ref) = taken_ref state.answers frame (λ reference rest. returns image state others (push_ref reference)) (λ reference rest. returned (push_ref reference))
  left (Some kind.One) = taken_cells state.answers 1 frame (λ cells rest. returns image state others (push_cells cells)) (λ cells rest. returned (push_cells cells))
  left (Some kind.Two) = taken_cells state.answers 2 frame (λ cells rest. returns image state others (push_cells cells)) (λ cells rest. returned (push_cells cells))

  pub threw : Keep (throw image state frame others)
  threw =
      taken_ref state.answers frame (λ reference rest. with_object_of image state frames reference (λ name object. throws_object image state frames object.type name))
      (λ reference rest. with_object image state frames reference (λ name object. throws_object image state frames object.type name) (λ name object. object_thrown image state frames object.type name))
