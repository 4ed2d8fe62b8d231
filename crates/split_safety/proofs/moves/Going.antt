-- An instruction in the youngest frame of a reached state: it goes on or jumps, with the operands that its effect leaves.
use Rattle.std.proofs.Common.{◌≡◌, ℕ, suc, ◌+◌, ◌<◌, ◌≤◌, Bool, true, false, nat_le, IsTrue, if◌then◌else◌, List, [], ◌∷◌, ◌++◌, length, drop, take, reverse, Option, Some, refl, sym, ap, ap₂, subst, ◌∙◌, arith}
use Rattle.std.specs.List.{Contains}
use Rattle.std.proofs.lemmas.Bool.{cond_both, leb-false}
use Rattle.std.proofs.lemmas.List.{length-append, length-reverse}
use Rattle.std.proofs.lemmas.List.Elements.{Contains-append_left, Contains-append_right}
use Rattle.image_instr.specs.declared.insn.MInsn.{MInsn}
use Rattle.image_instr.specs.declared.insn.SwitchRow.{SwitchRow}
use Rattle.image_instr.specs.Reading.{insn_at, rows_at}
use Rattle.image_form.specs.declared.record.Image.{Image}
use Rattle.image_form.specs.declared.record.Method.{Method}
use Rattle.image_check.specs.Code.{targets}
use Rattle.image_check.specs.Ids.{HasIds}
use Rattle.image_check.specs.Visits.{Depth, depth, HasOperands, ReturnsResult, FitsBody, IsSent, moved_by, suffix, successors}
use Rattle.image_check.specs.Visits as visits
use Rattle.account.specs.Account.{Stuck}
use Rattle.mote_model.specs.State.{Reference, Frame}
use Rattle.mote_model.specs.SplitMoves.{SplitMove, at_pc, with_refs, with_cells, goes_on, jumps, branches, using, take_cells, take_ref, take_ref_from}
use Rattle.mote_model.specs.SplitState.{State, with_frames, method_at}
use Rattle.split_safety.specs.Reached.{IsCell, depth_of, HoldsLocals, IsRunning, AreWaiting, IsReached, result_of, IsWaiting}
use Rattle.split_safety.specs.Safety.{IsSound, StaysReached}
use Rattle.split_safety.proofs.facts.Cells.{AreCells}
use Rattle.split_safety.proofs.facts.Lists.{all_append, all_drop, all_reverse}
use Rattle.split_safety.proofs.facts.Numbers.{PushesInt}

-- the statics of the image are there
pub record HasStatics (image : Image) (state : State) : Type 0 where
  pub refs : length state.ref_statics ≡ image.static_refs
  pub cells : length state.cell_statics ≡ length image.static_cells
  pub are_cells : AreCells state.cell_statics

-- an instruction in the youngest frame of a reached state
pub record IsAt (image : Image) (state : State) (frame : Frame) (others : List Frame) (method : Method) (insn : MInsn) (size : ℕ) : Type 0 where
  pub sound : IsSound image
  pub method_is : method_at image frame.method ≡ Some method
  pub ref_locals : length frame.refs.locals ≡ method.ref_locals
  pub cell_locals : length frame.cells.locals ≡ method.cell_locals
  pub locals_are : AreCells frame.cells.locals
  pub operands_are : AreCells frame.cells.operands
  pub waiting : AreWaiting image frame others
  pub statics : HasStatics image state
  pub here : IsSent image method.code frame.pc (depth_of frame)
  pub there : insn_at (drop frame.pc method.code) ≡ Some (insn, size)
  pub operands : HasOperands (moved_by image insn) (depth_of frame)
  pub result : ReturnsResult method insn
  pub fits : FitsBody method (depth_of frame)
  pub fits_after : FitsBody method (suffix (moved_by image insn) (depth_of frame))
  pub inside : IsTrue (visits.goes_on insn) → frame.pc + size < length method.code
  pub ids : HasIds image method insn
  pub pushes : PushesInt insn
  pub sent : (to : ℕ) → Contains (successors method.code frame.pc insn size) to → IsSent image method.code to (suffix (moved_by image insn) (depth_of frame))

-- what is left of a frame by an instruction that leads to this depth
pub record IsLeft (frame : Frame) (after : Depth) (moved : Frame) : Type 0 where
  pub method : moved.method ≡ frame.method
  pub ref_locals : length moved.refs.locals ≡ length frame.refs.locals
  pub cell_locals : length moved.cells.locals ≡ length frame.cells.locals
  pub locals_are : AreCells moved.cells.locals
  pub operands_are : AreCells moved.cells.operands
  pub refs : length moved.refs.operands ≡ after.refs
  pub cells : length moved.cells.operands ≡ after.cells

-- frames wait for the method of the one above them, whatever its operands
pub waiting_same : (image : Image) (above moved : Frame) (others : List Frame) → moved.method ≡ above.method → AreWaiting image above others → AreWaiting image moved others
unfolding AreWaiting
waiting_same image above moved [] same wait = tt
waiting_same image above moved (frame ∷ others) same wait =
    let one : result_of image above ≡ result_of image moved = let e = sym same in cc in
    (subst (λ result. IsWaiting image result frame) one wait.0, wait.1)

-- ---- what is taken

module _ (image : Image) where
  pub taken_cells : (count : ℕ) (frame : Frame) (use_them : List ℕ → Frame → SplitMove) → count ≤ length frame.cells.operands
      → StaysReached image (use_them (reverse (take count frame.cells.operands)) (with_cells frame (drop count frame.cells.operands))) → StaysReached image (take_cells count frame use_them)
  taken_cells count frame use_them enough stays =
      cond_both (nat_le count (length frame.cells.operands)) (use_them (reverse (take count frame.cells.operands)) (with_cells frame (drop count frame.cells.operands))) Stuck (StaysReached image)
      (λ e. stays) (λ e. absurd (omega (arith, enough, leb-false count (length frame.cells.operands) e)))

  from_refs : (frame : Frame) (operands : List Reference) (use_it : Reference → Frame → SplitMove) → 1 ≤ length operands
      → ((reference : Reference) (rest : List Reference) → length operands ≡ suc (length rest) → StaysReached image (use_it reference (with_refs frame rest)))
      → StaysReached image (take_ref_from frame operands use_it)
  from_refs frame [] use_it enough stays = absurd (omega (arith, enough))
  from_refs frame (reference ∷ rest) use_it enough stays = stays reference rest refl

  pub taken_ref : (frame : Frame) (use_it : Reference → Frame → SplitMove) → 1 ≤ length frame.refs.operands
      → ((reference : Reference) (rest : List Reference) → length frame.refs.operands ≡ suc (length rest) → StaysReached image (use_it reference (with_refs frame rest)))
      → StaysReached image (take_ref frame use_it)
  taken_ref frame use_it enough stays = from_refs frame frame.refs.operands use_it enough stays

  pub used : {X : Type 0} (found : Option X) (use_it : X → SplitMove) (x : X) → found ≡ Some x → StaysReached image (use_it x) → StaysReached image (using found use_it)
  used {X = X} found use_it x e stays = subst (λ (o : Option X). StaysReached image (using o use_it)) (sym e) stays

-- ---- where an instruction leads

module _ (code : List ℕ) (pc : ℕ) (insn : MInsn) (size : ℕ) where
  abbrev next_list : Bool → List ℕ
  next_list on = if on then (pc + size) ∷ [] else []

  next_among : (on : Bool) → on ≡ true → Contains (next_list on) (pc + size)
  next_among true e = (0, omega arith, refl)
  next_among false e = cc

  pub behind : visits.goes_on insn ≡ true → Contains (successors code pc insn size) (pc + size)
  behind is = Contains-append_left (next_list (visits.goes_on insn)) (targets insn (rows_at insn (drop pc code))) (pc + size) (next_among (visits.goes_on insn) is)

  pub aimed : (target : ℕ) → Contains (targets insn (rows_at insn (drop pc code))) target → Contains (successors code pc insn size) target
  aimed target among = Contains-append_right (next_list (visits.goes_on insn)) (targets insn (rows_at insn (drop pc code))) target among

-- ---- states

-- the locals of the method are there, and locals and operands are cells
pub holds : (method : Method) (frame : Frame) → length frame.refs.locals ≡ method.ref_locals → length frame.cells.locals ≡ method.cell_locals → AreCells frame.cells.locals → AreCells frame.cells.operands → HoldsLocals method frame
holds method frame refs cells locals_are operands_are = record {
  refs = refs;
  cells = cells;
  are_cells = all_append IsCell frame.cells.locals (reverse frame.cells.operands) locals_are (all_reverse IsCell frame.cells.operands operands_are);
}

pub is_reached : (image : Image) (next : State) → HasStatics image next → (frame : Frame) (others : List Frame) → IsRunning image frame → AreWaiting image frame others → IsReached image (with_frames next (frame ∷ others))
is_reached image next statics frame others running waiting = record {
  frame = frame;
  others = others;
  frames_are = refl;
  running = running;
  waiting = waiting;
  ref_statics = statics.refs;
  cell_statics = statics.cells;
  are_cells = statics.are_cells;
}

-- ---- ways on

module _ {image : Image} {state : State} {frame : Frame} {others : List Frame} {method : Method} {insn : MInsn} {size : ℕ} (at : IsAt image state frame others method insn size) where
  abbrev pub after : Depth
  after = suffix (moved_by image insn) (depth_of frame)

  pub reached : (next : State) → HasStatics image next → (moved : Frame) → IsLeft frame after moved → (to : ℕ) → Contains (successors method.code frame.pc insn size) to → IsReached image (with_frames next (at_pc moved to ∷ others))
  reached next statics moved left to among =
      let same : depth_of moved ≡ after = ap₂ depth left.refs left.cells in
      is_reached image next statics (at_pc moved to) others
      (record {
        method = method;
        found = subst (λ id. method_at image id ≡ Some method) (sym left.method) at.method_is;
        locals = holds method (at_pc moved to) (left.ref_locals ∙ at.ref_locals) (left.cell_locals ∙ at.cell_locals) left.locals_are left.operands_are;
        sent = subst (IsSent image method.code to) (sym same) (at.sent to among);
      })
      (waiting_same image frame (at_pc moved to) others left.method at.waiting)

  abbrev rows : List SwitchRow
  rows = rows_at insn (drop frame.pc method.code)

  pub goes : visits.goes_on insn ≡ true → (moved : Frame) → IsLeft frame after moved → StaysReached image (goes_on state moved others (frame.pc + size))
  goes is moved left = reached state at.statics moved left (frame.pc + size) (behind method.code frame.pc insn size is)

  pub jump : (target : ℕ) → Contains (targets insn rows) target → (moved : Frame) → IsLeft frame after moved → StaysReached image (jumps state moved others target)
  jump target among moved left = reached state at.statics moved left target (aimed method.code frame.pc insn size target among)

  pub branch : visits.goes_on insn ≡ true → (taken : Bool) (target : ℕ) → Contains (targets insn rows) target → (moved : Frame) → IsLeft frame after moved
      → StaysReached image (branches taken state moved others target (frame.pc + size))
  branch is taken target among moved left =
      cond_both taken (jumps state moved others target) (goes_on state moved others (frame.pc + size)) (StaysReached image) (λ e. jump target among moved left) (λ e. goes is moved left)

  -- ---- what is left

  pub left_cells : (operands : List ℕ) → AreCells operands → length operands ≡ after.cells → length frame.refs.operands ≡ after.refs → IsLeft frame after (with_cells frame operands)
  left_cells operands are cells refs = record { method = refl; ref_locals = refl; cell_locals = refl; locals_are = at.locals_are; operands_are = are; refs = refs; cells = cells }

  pub left_refs : (operands : List Reference) → length operands ≡ after.refs → length frame.cells.operands ≡ after.cells → IsLeft frame after (with_refs frame operands)
  left_refs operands refs cells = record { method = refl; ref_locals = refl; cell_locals = refl; locals_are = at.locals_are; operands_are = at.operands_are; refs = refs; cells = cells }

  pub left_same : length frame.refs.operands ≡ after.refs → length frame.cells.operands ≡ after.cells → IsLeft frame after frame
  left_same refs cells = record { method = refl; ref_locals = refl; cell_locals = refl; locals_are = at.locals_are; operands_are = at.operands_are; refs = refs; cells = cells }

  pub dropped : (count : ℕ) → AreCells (drop count frame.cells.operands)
  dropped count = all_drop IsCell count frame.cells.operands at.operands_are

  pub pushed : (cells rest : List ℕ) → AreCells cells → AreCells rest → length cells + length rest ≡ after.cells → length frame.refs.operands ≡ after.refs → IsLeft frame after (with_cells frame (reverse cells ++ rest))
  pushed cells rest are under count refs =
      left_cells (reverse cells ++ rest) (all_append IsCell (reverse cells) rest (all_reverse IsCell cells are) under)
      (length-append (reverse cells) rest ∙ ap (λ n. n + length rest) (length-reverse cells) ∙ count) refs
