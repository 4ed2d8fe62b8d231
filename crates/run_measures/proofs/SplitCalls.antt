-- Calls of the split machine are ticks, and returns lower the rank.
use Rattle.std.proofs.Common.{◌≡◌, ℕ, ℤ, ◌+◌, List, [], ◌∷◌, drop, take, reverse, map, Option, Some, None, refl, ap}
use Rattle.std.specs.Fmt.{signed_decimal}
use Rattle.account.specs.Account.{Get, Put, Does, Stuck, no_need, tick_need, call_need}
use Rattle.dialogue.specs.Natives.{low_byte, next_byte, after_byte}
use Rattle.library.specs.declared.natives.Native.{Native}
use Rattle.library.specs.declared.natives.Native.TheVariants as native
use Rattle.library.specs.Natives.{native_of}
use Rattle.image_instr.specs.declared.insn.Kind.{Kind}
use Rattle.image_instr.specs.declared.insn.Kind.TheVariants as kind
use Rattle.image_instr.specs.declared.insn.MInsn.{MInsn}
use Rattle.image_instr.specs.declared.insn.Width.TheVariants as width
use Rattle.image_instr.specs.Reading.{insn_at}
use Rattle.image_form.specs.declared.record.Image.{Image}
use Rattle.mote_model.specs.State.{Reference, Frame}
use Rattle.mote_model.specs.SplitMoves.{Done, SplitMove, at_pc, with_cells, with_refs, number_of, push_ref, push_cells, push_number, goes_on}
use Rattle.mote_model.specs.SplitState.{State, with_frames, method_at, frame_cells}
use Rattle.mote_model.specs.SplitStep.{runs_native, runs_method, runs_code, calls, shows, frame_for, without_arguments, has_arguments, code_from, returns, return_of}
use Rattle.run_measures.proofs.Lowering.{Lowers, stuck, stops, ticks, to_state, either, mapped_or}
use Rattle.run_measures.proofs.SplitRank.{rank_of, IsAhead, return_lowers}
use Rattle.run_measures.proofs.SplitForms.{rank_in, used, taken_cells, taken_ref}

-- ---- returns

module _ (image : Image) (frame : Frame) (state : State) where
  abbrev LowerOver : List Frame → SplitMove → Type 0
  LowerOver others move = Lowers (rank_in image) (rank_of image (frame ∷ others)) move

  returned : (others : List Frame) (with_result : Frame → Frame) → ((caller : Frame) → (with_result caller).method ≡ caller.method) → ((caller : Frame) → (with_result caller).pc ≡ caller.pc)
      → LowerOver others (returns image state others with_result)
  returned [] with_result method place = stops no_need [] Done
  returned (caller ∷ others) with_result method place =
      let moved = with_result caller in
      used (insn_at (code_from image moved)) (λ (found : MInsn × ℕ). goes_on state moved others (moved.pc + found.1))
      (λ found. to_state no_need [] (with_frames state (at_pc moved (moved.pc + found.1) ∷ others))
      (λ quiet. return_lowers image frame caller (at_pc moved (moved.pc + found.1)) others found.1 (method caller) (ap (λ pc. pc + found.1) (place caller))))

  pub leaving_lowers : (others : List Frame) (kept : Option Kind) → LowerOver others (return_of image state frame others kept)
  leaving_lowers others None = returned others (λ caller. caller) (λ caller. refl) (λ caller. refl)
  leaving_lowers others (Some kind.Ref) =
      taken_ref frame (λ (reference : Reference) (rest : Frame). returns image state others (push_ref reference)) (λ reference rest. returned others (push_ref reference) (λ caller. refl) (λ caller. refl))
  leaving_lowers others (Some kind.One) =
      taken_cells 1 frame (λ (cells : List ℕ) (rest : Frame). returns image state others (push_cells cells)) (returned others (push_cells (reverse (take 1 frame.cells.operands))) (λ caller. refl) (λ caller. refl))
  leaving_lowers others (Some kind.Two) =
      taken_cells 2 frame (λ (cells : List ℕ) (rest : Frame). returns image state others (push_cells cells)) (returned others (push_cells (reverse (take 2 frame.cells.operands))) (λ caller. refl) (λ caller. refl))

module _ {image : Image} {frame : Frame} {next : ℕ} (ahead : IsAhead image frame next) (others : List Frame) (state : State) where
  -- the move lowers the rank of the state
  abbrev Lower : SplitMove → Type 0
  Lower move = Lowers (rank_in image) (rank_of image (frame ∷ others)) move

  -- ---- calls, which are ticks

  pub shows_lowers : (bytes : ℤ → List ℕ) → Lower (shows state frame others next bytes)
  shows_lowers bytes =
      taken_cells 2 frame (λ (cells : List ℕ) (rest : Frame). Does tick_need (map Put (bytes (number_of cells))) (with_frames state (at_pc rest next ∷ others)))
      (ticks tick_need (map Put (bytes (number_of (reverse (take 2 frame.cells.operands))))) (with_frames state (at_pc (with_cells frame (drop 2 frame.cells.operands)) next ∷ others)) refl)

  pub native_lowers : (found : Native) → Lower (runs_native state frame others next found)
  native_lowers native.Construct =
      taken_ref frame (λ (reference : Reference) (rest : Frame). Does tick_need [] (with_frames state (at_pc rest next ∷ others))) (λ reference rest. ticks tick_need [] (with_frames state (at_pc (with_refs frame rest) next ∷ others)) refl)
  native_lowers native.Write = shows_lowers (λ number. low_byte number ∷ [])
  native_lowers native.Print = shows_lowers signed_decimal
  native_lowers native.Read = ticks tick_need (Get ∷ []) (record state { frames = at_pc (push_number width.Two (next_byte state.answers) frame) next ∷ others; answers = after_byte state.answers }) refl

  pub call_lowers : (id : ℕ) → Lower (calls image state frame others next id)
  call_lowers id =
      mapped_or (native_of id) (runs_native state frame others next) (runs_code image state frame others id) native_lowers
      (used (method_at image id) (λ method. runs_method state frame others id method)
      (λ method.
      either (has_arguments method.sig frame) (Does (call_need (frame_cells method)) [] (with_frames state (frame_for id method frame ∷ without_arguments method.sig frame ∷ others))) Stuck
      (ticks (call_need (frame_cells method)) [] (with_frames state (frame_for id method frame ∷ without_arguments method.sig frame ∷ others)) refl) stuck))
