-- A move that goes on places nothing, keeps the objects, and raises the rank by no more than one frame's code, whichever
-- instruction makes it.
use Rattle.std.proofs.Common.{◌≡◌, ℕ, ℤ, ◌+◌, ◌≤◌, Bool, true, false, if◌then◌else◌, List, [], ◌∷◌, drop, take, reverse, map, length, nat_le, Option, Some, None, refl, sym, subst, ◌∙◌, arith}
use Rattle.std.specs.Option.{option_map_or}
use Rattle.std.proofs.lemmas.List.Sums.{sum_by-cons}
use Rattle.std.specs.Fmt.{signed_decimal}
use Rattle.dialogue.specs.Natives.{low_byte, next_byte, after_byte}
use Rattle.image_instr.specs.declared.insn.Kind.{Kind}
use Rattle.image_instr.specs.declared.insn.Kind.TheVariants as kind
use Rattle.image_instr.specs.declared.insn.MInsn.{MInsn}
use Rattle.image_instr.specs.declared.insn.MInsn.TheVariants as insns
use Rattle.image_instr.specs.declared.insn.SwitchRow.{SwitchRow}
use Rattle.image_instr.specs.declared.insn.Width.TheVariants as width
use Rattle.image_instr.specs.Reading.{insn_at, rows_at}
use Rattle.image_form.specs.declared.record.Image.{Image}
use Rattle.image_form.specs.declared.record.Method.{Method}
use Rattle.library.specs.declared.natives.Native.{Native}
use Rattle.library.specs.declared.natives.Native.TheVariants as native
use Rattle.library.specs.Natives.{native_of}
use Rattle.account.specs.Account.{Event, Get, Put, Need, Does, Stops, Stuck, no_need, tick_need, call_need}
use Rattle.mote_model.specs.State.{Reference, Frame, Object}
use Rattle.mote_model.specs.SplitMoves.{SplitMove, at_pc, with_cells, with_refs, push_ref, push_cells, push_number, number_of, take_cells, take_ref_from, using}
use Rattle.mote_model.specs.SplitState.{State, method_at, frame_cells}
use Rattle.mote_model.specs.SplitStep.{code_from, move, move_of, frame_for, has_arguments, without_arguments, shows, runs_native, runs_method, runs_code, returns, return_of}
use Rattle.split_safety.specs.Ready.{IsNext}
use Rattle.split_safety.specs.Reached.{IsReached}
use Rattle.split_safety.specs.Runs.{runs_so_far}
use Rattle.split_safety.specs.Safety.{IsSound}
use Rattle.split_safety.proofs.moves.AllMoves.{stands as stands_at}
use Rattle.run_measures.proofs.SplitRank.{code_behind, rank_of}
use Rattle.mote_exec.proofs.GoingOn.{move_is}
use Rattle.run_loop.proofs.PlainForms.{IsModest, Plain, one_more, no_less}
use Rattle.run_loop.proofs.PlainMoves.{insn_plain}

-- where the move goes on, it is modest
abbrev Modest : Image → List Object → ℕ → SplitMove → Type 0
Modest image objects bound (Does need events next) = IsModest image objects bound need next
Modest image objects bound (Stops need events how) = Unit {0}
Modest image objects bound Stuck = Unit {0}

module _ (image : Image) (sound : IsSound image) (state : State) (frame : Frame) (others : List Frame) (next : ℕ) where
  abbrev Small : SplitMove → Type 0
  Small made = Modest image state.objects (65536 + rank_of image (frame ∷ others)) made

  -- a plain move is modest
  of_plain : (first other : SplitMove) → Plain image state.answers state.objects (65536 + rank_of image others) first other → Small first
  of_plain (Does need events after) other plain = (plain.1.0, plain.1.1, omega (arith, plain.1.2, no_less image sound frame others))
  of_plain (Stops need events how) other plain = tt
  of_plain Stuck other plain = tt

  -- a frame above some of those that are there
  above : (need : Need) (events : List Event) (after : State) (moved : Frame) (below : List Frame) → need.placed ≡ None → after.frames ≡ moved ∷ below → after.objects ≡ state.objects → rank_of image below ≤ rank_of image (frame ∷ others)
      → Small (Does need events after)
  above need events after moved below none frames objects lower =
      (none, objects, subst (λ (frames : List Frame). rank_of image frames ≤ 65536 + rank_of image (frame ∷ others)) (sym frames) (omega (arith, lower, one_more image sound moved below)))

  -- ---- forms

  small_used : {X : Type 0} (found : Option X) (made : X → SplitMove) → ((x : X) → Small (made x)) → Small (using found made)
  small_used None made each = tt
  small_used (Some x) made each = each x

  small_if : (test : Bool) (made : SplitMove) → Small made → Small (if test then made else Stuck)
  small_if true made small = small
  small_if false made small = tt

  small_cells : (count : ℕ) (made : List ℕ → Frame → SplitMove) → ((cells : List ℕ) (rest : Frame) → Small (made cells rest)) → Small (take_cells count frame made)
  small_cells count made each =
      small_if (nat_le count (length frame.cells.operands)) (made (reverse (take count frame.cells.operands)) (with_cells frame (drop count frame.cells.operands)))
      (each (reverse (take count frame.cells.operands)) (with_cells frame (drop count frame.cells.operands)))

  small_refs : (operands : List Reference) (made : Reference → Frame → SplitMove) → ((reference : Reference) (rest : Frame) → Small (made reference rest)) → Small (take_ref_from frame operands made)
  small_refs [] made each = tt
  small_refs (reference ∷ rest) made each = each reference (with_refs frame rest)

  -- ---- returns

  small_returns : (waiting : List Frame) (with_result : Frame → Frame) → rank_of image waiting ≤ rank_of image (frame ∷ others) → Small (returns image state waiting with_result)
  small_returns [] with_result lower = tt
  small_returns (caller ∷ below) with_result lower =
      small_used (insn_at (code_from image (with_result caller))) (λ found. Does no_need [] (record state { frames = at_pc (with_result caller) ((with_result caller).pc + found.1) ∷ below }))
      (λ found. above no_need [] (record state { frames = at_pc (with_result caller) ((with_result caller).pc + found.1) ∷ below }) (at_pc (with_result caller) ((with_result caller).pc + found.1)) below refl refl refl
      (omega (arith, lower, no_less image sound caller below)))

  lower_here : rank_of image others ≤ rank_of image (frame ∷ others)
  lower_here = no_less image sound frame others

  small_return : (kept : Option Kind) → Small (return_of image state frame others kept)
  small_return None = small_returns others (λ caller. caller) lower_here
  small_return (Some kind.Ref) = small_refs frame.refs.operands (λ reference rest. returns image state others (push_ref reference)) (λ reference rest. small_returns others (push_ref reference) lower_here)
  small_return (Some kind.One) = small_cells 1 (λ cells rest. returns image state others (push_cells cells)) (λ cells rest. small_returns others (push_cells cells) lower_here)
  small_return (Some kind.Two) = small_cells 2 (λ cells rest. returns image state others (push_cells cells)) (λ cells rest. small_returns others (push_cells cells) lower_here)

  -- ---- calls

  small_method : (id : ℕ) (method : Method) → Small (runs_method state frame others id method)
  small_method id method =
      let caller = without_arguments method.sig frame in
      let same : code_behind image caller ≡ code_behind image frame = refl in
      small_if (has_arguments method.sig frame) (Does (call_need (frame_cells method)) [] (record state { frames = frame_for id method frame ∷ caller ∷ others }))
      (above (call_need (frame_cells method)) [] (record state { frames = frame_for id method frame ∷ caller ∷ others }) (frame_for id method frame) (caller ∷ others) refl refl refl
      (omega (arith, same, sum_by-cons (code_behind image) caller others, sum_by-cons (code_behind image) frame others)))

  small_shows : (bytes : ℤ → List ℕ) → Small (shows state frame others next bytes)
  small_shows bytes =
      small_cells 2 (λ cells rest. Does tick_need (map Put (bytes (number_of cells))) (record state { frames = at_pc rest next ∷ others }))
      (λ cells rest. above tick_need (map Put (bytes (number_of cells))) (record state { frames = at_pc rest next ∷ others }) (at_pc rest next) others refl refl refl lower_here)

  small_native : (which : Native) → Small (runs_native state frame others next which)
  small_native native.Construct =
      small_refs frame.refs.operands (λ reference rest. Does tick_need [] (record state { frames = at_pc rest next ∷ others })) (λ reference rest. above tick_need [] (record state { frames = at_pc rest next ∷ others }) (at_pc rest next) others refl refl refl lower_here)
  small_native native.Write = small_shows (λ number. low_byte number ∷ [])
  small_native native.Print = small_shows signed_decimal
  small_native native.Read =
      let moved = at_pc (push_number width.Two (next_byte state.answers) frame) next in
      above tick_need (Get ∷ []) (record state { frames = moved ∷ others; answers = after_byte state.answers }) moved others refl refl refl lower_here

  small_code : (id : ℕ) → Small (runs_code image state frame others id)
  small_code id = small_used (method_at image id) (λ method. runs_method state frame others id method) (λ method. small_method id method)

  small_call : (id : ℕ) (found : Option Native) → Small (option_map_or (runs_native state frame others next) found (runs_code image state frame others id))
  small_call id None = small_code id
  small_call id (Some which) = small_native which

  -- ---- each instruction

  insn_small : (insn : MInsn) (rows : List SwitchRow) → runs_so_far insn ≡ true → Small (move_of image state frame others next insn rows)
  insn_small (insns.Ret kept) rows run = small_return kept
  insn_small (insns.CallS id) rows run = small_call id (native_of id)
  insn_small insn rows run =
      of_plain (move_of image state frame others next insn rows) (move_of image state frame others next insn rows) (insn_plain image sound state state.answers frame others next insn rows run)

-- the move from a reached state
module _ (image : Image) (sound : IsSound image) (state : State) (reached : IsReached image state) where
  pub moves_modestly : (need : Need) (events : List Event) (next : State) → move image state ≡ Does need events next → (need.placed ≡ None) × (next.objects ≡ state.objects) × (rank_of image next.frames ≤ 65536 + rank_of image state.frames)
  moves_modestly need events next moves =
      let there = stands_at image sound state reached in
      let is_next : IsNext image state there.insn = record {
        frame = reached.frame;
        others = reached.others;
        frames_are = reached.frames_are;
        method = reached.running.method;
        found = reached.running.found;
        size = there.size;
        there = there.found;
      } in
      let small = insn_small image sound state reached.frame reached.others (reached.frame.pc + there.size) there.insn (rows_at there.insn (drop reached.frame.pc reached.running.method.code)) there.run in
      subst (λ (frames : List Frame). Modest image state.objects (65536 + rank_of image frames) (Does need events next)) (sym reached.frames_are)
      (subst (Modest image state.objects (65536 + rank_of image (reached.frame ∷ reached.others))) (sym (move_is image state there.insn is_next) ∙ moves) small)
