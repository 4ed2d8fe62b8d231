-- Returns: the caller that waits goes on behind its call, with the result; that of the oldest frame ends the run.
use Rattle.std.proofs.Common.{◌≡◌, ℕ, ◌+◌, ◌≤◌, Bool, true, false, List, [], ◌∷◌, length, drop, take, reverse, Option, Some, None, if◌then◌else◌, refl, sym, ap, ap₂, subst, ◌∙◌, arith}
use Rattle.std.specs.Prelude.{◌==◌}
use Rattle.std.specs.Option.{option_map_or}
use Rattle.std.proofs.lemmas.Bool.{false≢true}
use Rattle.std.proofs.lemmas.List.{length-append, length-reverse}
use Rattle.image_instr.specs.declared.insn.Kind.{Kind}
use Rattle.image_instr.specs.declared.insn.Kind.TheVariants as kind
use Rattle.image_instr.specs.declared.insn.MInsn.{MInsn}
use Rattle.image_instr.specs.declared.insn.MInsn.TheVariants as insns
use Rattle.image_instr.specs.declared.signature.Effect.{Effect}
use Rattle.image_instr.specs.declared.signature.Sig.{Sig}
use Rattle.image_instr.specs.Effect.{called, moves}
use Rattle.image_instr.specs.Reading.{insn_at}
use Rattle.image_form.specs.declared.record.Image.{Image}
use Rattle.image_form.specs.declared.record.Method.{Method}
use Rattle.image_check.specs.Ids.{called_by}
use Rattle.image_check.specs.Visits.{Depth, depth, IsSent, moved_by, suffix, result_code}
use Rattle.image_check.specs.Visits as visits
use Rattle.image_check.proofs.Reaching.{sent_on}
use Rattle.mote_model.specs.State.{Reference, Frame}
use Rattle.mote_model.specs.SplitMoves.{at_pc, goes_on, push_cells, push_ref}
use Rattle.mote_model.specs.SplitState.{State, method_at}
use Rattle.mote_model.specs.SplitStep.{code_from, resumes, returns}
use Rattle.split_safety.specs.Reached.{IsCell, depth_of, AreWaiting, IsWaiting, is_call, result_of}
use Rattle.split_safety.specs.Safety.{StaysReached}
use Rattle.split_safety.proofs.facts.Cells.{AreCells}
use Rattle.split_safety.proofs.facts.Lists.{all_append, all_left, all_right, all_reverse, all_unreverse}
use Rattle.split_safety.proofs.moves.Going.{IsAt, IsLeft, HasStatics, behind, holds, is_reached, taken_cells, taken_ref, used, waiting_same}
use Rattle.split_safety.proofs.moves.LocalMoves.{taken_length, taken_are}
use Rattle.split_safety.proofs.moves.Lemmas.{MoveLemma}

-- ---- what a call moves

call_effect : (image : Image) (insn : MInsn) → is_call insn ≡ true → moved_by image insn ≡ called (called_by image insn)
call_effect image (insns.CallS id) e = refl
call_effect image (insns.CallX id) e = refl
call_effect image (insns.CallV selector) e = refl
call_effect image (insns.CallI selector id) e = refl
call_effect image insn e = absurd (false≢true e)

call_goes : (insn : MInsn) → is_call insn ≡ true → visits.goes_on insn ≡ true
call_goes (insns.CallS id) e = refl
call_goes (insns.CallX id) e = refl
call_goes (insns.CallV selector) e = refl
call_goes (insns.CallI selector id) e = refl
call_goes insn e = absurd (false≢true e)

-- the references and the cells of a result of a code
abbrev pub refs_given : ℕ → ℕ
refs_given result = if result == 1 then 1 else 0

abbrev pub cells_given : ℕ → ℕ
cells_given result = if result == 1 then 0 else (if result == 2 then 1 else (if result == 3 then 2 else 0))

module _ (refs cells : ℕ) where
  abbrev chosen : Bool → Bool → Bool → Effect
  chosen a b c = if a then moves refs 1 cells 0 else (if b then moves refs 0 cells 1 else (if c then moves refs 0 cells 2 else moves refs 0 cells 0))

  chosen_refs : (a b c : Bool) → (chosen a b c).ref_push ≡ (if a then 1 else 0)
  chosen_refs true b c = refl
  chosen_refs false true c = refl
  chosen_refs false false true = refl
  chosen_refs false false false = refl

  chosen_cells : (a b c : Bool) → (chosen a b c).cell_push ≡ (if a then 0 else (if b then 1 else (if c then 2 else 0)))
  chosen_cells true b c = refl
  chosen_cells false true c = refl
  chosen_cells false false true = refl
  chosen_cells false false false = refl

  chosen_refs_taken : (a b c : Bool) → (chosen a b c).ref_pop ≡ refs
  chosen_refs_taken true b c = refl
  chosen_refs_taken false true c = refl
  chosen_refs_taken false false true = refl
  chosen_refs_taken false false false = refl

  chosen_cells_taken : (a b c : Bool) → (chosen a b c).cell_pop ≡ cells
  chosen_cells_taken true b c = refl
  chosen_cells_taken false true c = refl
  chosen_cells_taken false false true = refl
  chosen_cells_taken false false false = refl

module _ (sig : Sig) where
  called_refs : (called sig).ref_push ≡ refs_given sig.result
  called_refs = chosen_refs sig.refs sig.cells (sig.result == 1) (sig.result == 2) (sig.result == 3)

  called_cells : (called sig).cell_push ≡ cells_given sig.result
  called_cells = chosen_cells sig.refs sig.cells (sig.result == 1) (sig.result == 2) (sig.result == 3)

  pub called_refs_taken : (called sig).ref_pop ≡ sig.refs
  called_refs_taken = chosen_refs_taken sig.refs sig.cells (sig.result == 1) (sig.result == 2) (sig.result == 3)

  pub called_cells_taken : (called sig).cell_pop ≡ sig.cells
  called_cells_taken = chosen_cells_taken sig.refs sig.cells (sig.result == 1) (sig.result == 2) (sig.result == 3)

-- ---- the caller goes on

module _ (image : Image) (state : State) (statics : HasStatics image state) (result : ℕ) (caller : Frame) (others : List Frame) (waits : IsWaiting image result caller) (wait : AreWaiting image caller others) where
  -- the depth with the result
  abbrev given : Depth
  given = depth (length caller.refs.operands + refs_given result) (length caller.cells.operands + cells_given result)

  given_is : given ≡ suffix (moved_by image waits.insn) waits.before
  given_is =
      let effect = call_effect image waits.insn waits.call in
      let refs = ap (λ (e : Effect). e.ref_push) effect ∙ called_refs (called_by image waits.insn) ∙ ap refs_given waits.awaited in
      let cells = ap (λ (e : Effect). e.cell_push) effect ∙ called_cells (called_by image waits.insn) ∙ ap cells_given waits.awaited in
      ap₂ depth (ap₂ (λ m n. m + n) (ap (λ (d : Depth). d.refs) waits.left) (sym refs)) (ap₂ (λ m n. m + n) (ap (λ (d : Depth). d.cells) waits.left) (sym cells))

  sent_behind : IsSent image waits.method.code (caller.pc + waits.size) given
  sent_behind =
      subst (IsSent image waits.method.code (caller.pc + waits.size)) (sym given_is)
      (sent_on image waits.method.code caller.pc waits.before waits.insn waits.size (caller.pc + waits.size) waits.sent waits.there waits.operands
      (behind waits.method.code caller.pc waits.insn waits.size (call_goes waits.insn waits.call)))

  pub caller_locals : AreCells caller.cells.locals
  caller_locals = all_left IsCell caller.cells.locals (reverse caller.cells.operands) waits.locals.are_cells

  pub caller_operands : AreCells caller.cells.operands
  caller_operands = all_unreverse IsCell caller.cells.operands (all_right IsCell caller.cells.locals (reverse caller.cells.operands) waits.locals.are_cells)

  -- what is made of the caller by pushing the result goes on behind the call
  resumed : (moved : Frame) → moved.pc ≡ caller.pc → IsLeft caller given moved → StaysReached image (resumes image state moved others)
  resumed moved same left =
      let method = waits.method in
      let found : method_at image moved.method ≡ Some method = subst (λ id. method_at image id ≡ Some method) (sym left.method) waits.found in
      let code : code_from image moved ≡ drop caller.pc method.code =
      ap (λ (o : Option Method). drop moved.pc (option_map_or (λ (m : Method). m.code) o [])) found ∙ ap (λ pc. drop pc method.code) same in
      let next = moved.pc + waits.size in
      let place : caller.pc + waits.size ≡ next = ap (λ pc. pc + waits.size) (sym same) in
      let depths : given ≡ depth_of moved = sym (ap₂ depth left.refs left.cells) in
      used image (insn_at (code_from image moved)) (λ (found : MInsn × ℕ). goes_on state moved others (moved.pc + found.1)) (waits.insn, waits.size) (ap insn_at code ∙ waits.there)
      (is_reached image state statics (at_pc moved next) others
      (record {
        method = method;
        found = found;
        locals = holds method (at_pc moved next) (left.ref_locals ∙ waits.locals.refs) (left.cell_locals ∙ waits.locals.cells) left.locals_are left.operands_are;
        sent = subst (λ pc. IsSent image method.code pc (depth_of moved)) place (subst (IsSent image method.code (caller.pc + waits.size)) depths sent_behind);
      })
      (waiting_same image caller (at_pc moved next) others left.method wait))

  pub back_none : result ≡ 0 → StaysReached image (resumes image state caller others)
  back_none e =
      let refs : refs_given result ≡ 0 = ap refs_given e in
      let cells : cells_given result ≡ 0 = ap cells_given e in
      resumed caller refl (record { method = refl; ref_locals = refl; cell_locals = refl; locals_are = caller_locals; operands_are = caller_operands; refs = omega (arith, refs); cells = omega (arith, cells) })

  pub back_ref : (reference : Reference) → result ≡ 1 → StaysReached image (resumes image state (push_ref reference caller) others)
  back_ref reference e =
      let refs : refs_given result ≡ 1 = ap refs_given e in
      let cells : cells_given result ≡ 0 = ap cells_given e in
      resumed (push_ref reference caller) refl
      (record { method = refl; ref_locals = refl; cell_locals = refl; locals_are = caller_locals; operands_are = caller_operands; refs = omega (arith, refs); cells = omega (arith, cells) })

  pub back_cells : (new : List ℕ) → AreCells new → refs_given result ≡ 0 → cells_given result ≡ length new → StaysReached image (resumes image state (push_cells new caller) others)
  back_cells new are refs cells =
      resumed (push_cells new caller) refl
      (record {
        method = refl;
        ref_locals = refl;
        cell_locals = refl;
        locals_are = caller_locals;
        operands_are = all_append IsCell (reverse new) caller.cells.operands (all_reverse IsCell new are) caller_operands;
        refs = omega (arith, refs);
        cells = omega (arith, cells, length-append (reverse new) caller.cells.operands, length-reverse new);
      })

-- ---- returns

pub first_waits : (image : Image) (frame caller : Frame) (others : List Frame) → AreWaiting image frame (caller ∷ others) → IsWaiting image (result_of image frame) caller × AreWaiting image caller others
unfolding AreWaiting
first_waits image frame caller others wait = wait

-- the result that the caller waits for is that of the return
awaits : (image : Image) (frame : Frame) (method : Method) (code : ℕ) → method_at image frame.method ≡ Some method → code ≡ method.sig.result → result_of image frame ≡ code
awaits image frame method code found e = ap (λ (o : Option Method). option_map_or (λ (method : Method). method.sig.result) o 0) found ∙ sym e

cells_back : (image : Image) (state : State) (frame : Frame) (others : List Frame) (method : Method) (insn : MInsn) (size count code : ℕ) → IsAt image state frame others method insn size → count ≤ length frame.cells.operands
    → code ≡ method.sig.result → refs_given code ≡ 0 → cells_given code ≡ count → StaysReached image (returns image state others (push_cells (reverse (take count frame.cells.operands))))
cells_back image state frame [] method insn size count code at enough is refs cells = tt
cells_back image state frame (caller ∷ others) method insn size count code at enough is refs cells =
    let wait = first_waits image frame caller others at.waiting in
    let same = awaits image frame method code at.method_is is in
    back_cells image state at.statics (result_of image frame) caller others wait.0 wait.1 (reverse (take count frame.cells.operands)) (taken_are at count)
    (ap refs_given same ∙ refs) (ap cells_given same ∙ cells ∙ sym (taken_length at count enough))

ref_back : (image : Image) (state : State) (frame : Frame) (others : List Frame) (method : Method) (insn : MInsn) (size : ℕ) → IsAt image state frame others method insn size → 1 ≡ method.sig.result → (reference : Reference)
    → StaysReached image (returns image state others (push_ref reference))
ref_back image state frame [] method insn size at is reference = tt
ref_back image state frame (caller ∷ others) method insn size at is reference =
    let wait = first_waits image frame caller others at.waiting in
    back_ref image state at.statics (result_of image frame) caller others wait.0 wait.1 reference (awaits image frame method 1 at.method_is is)

pub ret_moves : (kept : Option Kind) → MoveLemma (insns.Ret kept)
ret_moves None image state frame [] method size at = tt
ret_moves None image state frame (caller ∷ others) method size at =
    let wait = first_waits image frame caller others at.waiting in
    back_none image state at.statics (result_of image frame) caller others wait.0 wait.1 (awaits image frame method 0 at.method_is at.result)
ret_moves (Some kind.Ref) image state frame others method size at =
    taken_ref image frame (λ (reference : Reference) (rest : Frame). returns image state others (push_ref reference)) at.operands.refs
    (λ reference rest count. ref_back image state frame others method (insns.Ret (Some kind.Ref)) size at at.result reference)
ret_moves (Some kind.One) image state frame others method size at =
    taken_cells image 1 frame (λ (cells : List ℕ) (rest : Frame). returns image state others (push_cells cells)) at.operands.cells
    (cells_back image state frame others method (insns.Ret (Some kind.One)) size 1 2 at at.operands.cells at.result refl refl)
ret_moves (Some kind.Two) image state frame others method size at =
    taken_cells image 2 frame (λ (cells : List ℕ) (rest : Frame). returns image state others (push_cells cells)) at.operands.cells
    (cells_back image state frame others method (insns.Ret (Some kind.Two)) size 2 3 at at.operands.cells at.result refl refl)
