-- Calls of static methods: write, read and print show and take bytes, and a method with code gets a frame, under which
-- the caller waits.
use Rattle.std.proofs.Common.{◌≡◌, ℕ, ℤ, zero, suc, ◌+◌, ◌-◌, ◌≤◌, Bool, true, false, List, [], ◌∷◌, length, map, drop, take, reverse, replicate, Option, Some, None, IsSome, unwrap_or, if◌then◌else◌, nat_lt, nat_le, slice_get, option_map, refl, sym, ap, ap₂, subst, ◌∙◌, arith, length-drop}
use Rattle.std.specs.Fmt.{signed_decimal}
use Rattle.std.specs.List.{AllByRecursion}
use Rattle.std.specs.Option.{option_map_or}
use Rattle.std.proofs.lemmas.Bool.{false≢true, le-leb}
use Rattle.std.proofs.lemmas.List.{length-append, length-reverse, length-replicate, length-take-le}
use Rattle.dialogue.specs.Natives.{low_byte, next_byte, after_byte}
use Rattle.library.specs.Classes.{first_own}
use Rattle.image_instr.specs.declared.insn.MInsn.TheVariants as insns
use Rattle.image_instr.specs.declared.insn.Width.TheVariants as width
use Rattle.image_instr.specs.declared.signature.Effect.{Effect}
use Rattle.image_instr.specs.declared.signature.Sig.{Sig}
use Rattle.image_instr.specs.Effect.{called}
use Rattle.image_form.specs.declared.record.Image.{Image}
use Rattle.image_form.specs.declared.record.Method.{Method}
use Rattle.image_form.specs.Grammar.{IsMethod}
use Rattle.image_form.specs.Library.{signature, library_signatures, signature_in}
use Rattle.image_check.specs.Ids.{called_by}
use Rattle.image_check.specs.Visits.{Depth, depth, moved_by, suffix}
use Rattle.account.specs.Account.{Put, Does, Stuck, tick_need, call_need}
use Rattle.mote_model.specs.State.{Reference, Frame}
use Rattle.mote_model.specs.SplitMoves.{at_pc, number_of, cells_of, push_number, with_cells, with_refs}
use Rattle.mote_model.specs.SplitState.{State, with_frames, method_at, frame_cells}
use Rattle.mote_model.specs.SplitStep.{first_locals, frame_for, without_arguments, has_arguments, runs_method, runs_code, shows}
use Rattle.split_safety.specs.Reached.{IsCell, depth_of, HoldsLocals, AreWaiting, IsWaiting, result_of}
use Rattle.split_safety.specs.Safety.{StaysReached}
use Rattle.split_safety.proofs.facts.Cells.{number_cells, read_fits}
use Rattle.split_safety.proofs.facts.Lists.{all_append, all_reverse, all_take, all_replicate, all_of_each}
use Rattle.split_safety.proofs.moves.Going.{IsAt, waiting_same, behind, holds, is_reached, taken_cells, taken_ref, used, reached, pushed, left_cells, left_refs, dropped}
use Rattle.split_safety.proofs.moves.Lemmas.{MoveLemma}
use Rattle.split_safety.proofs.moves.ReturnMoves.{called_refs_taken, called_cells_taken}
use Rattle.split_safety.proofs.moves.Throwing.{own_method}

-- ---- natives

-- a number of two cells is taken and shown
module _ (insn : ℕ) (bytes : ℤ → List ℕ) {image : Image} {state : State} {frame : Frame} {others : List Frame} {method : Method} {size : ℕ} (at : IsAt image state frame others method (insns.CallS insn) size)
    (effect : (moved_by image (insns.CallS insn)) ≡ called (signature 0 2 0)) where
  shown : StaysReached image (shows state frame others (frame.pc + size) bytes)
  shown =
      let enough : 2 ≤ length frame.cells.operands = omega (arith, at.operands.cells, ap (λ (e : Effect). e.cell_pop) effect) in
      let after_is = ap (λ (e : Effect). suffix e (depth_of frame)) effect in
      taken_cells image 2 frame (λ (cells : List ℕ) (rest : Frame). Does tick_need (map Put (bytes (number_of cells))) (with_frames state (at_pc rest (frame.pc + size) ∷ others))) enough
      (reached at state at.statics (with_cells frame (drop 2 frame.cells.operands))
      (left_cells at (drop 2 frame.cells.operands) (dropped at 2) (omega (arith, length-drop 2 frame.cells.operands, ap (λ (d : Depth). d.cells) after_is)) (omega (arith, ap (λ (d : Depth). d.refs) after_is)))
      (frame.pc + size) (behind method.code frame.pc (insns.CallS insn) size refl))

construct_moves : MoveLemma (insns.CallS 0)
construct_moves image state frame others method size at =
    taken_ref image frame (λ (reference : Reference) (rest : Frame). Does tick_need [] (with_frames state (at_pc rest (frame.pc + size) ∷ others))) at.operands.refs
    (λ reference rest count. reached at state at.statics (with_refs frame rest) (left_refs at rest (omega (arith, count)) (omega arith)) (frame.pc + size) (behind method.code frame.pc (insns.CallS 0) size refl))

write_moves : MoveLemma (insns.CallS 1)
write_moves image state frame others method size at = shown 1 (λ number. low_byte number ∷ []) at refl

read_moves : MoveLemma (insns.CallS 2)
read_moves image state frame others method size at =
    let number = next_byte state.answers in
    reached at (record state { answers = after_byte state.answers }) (record { refs = at.statics.refs; cells = at.statics.cells; are_cells = at.statics.are_cells })
    (push_number width.Two number frame) (pushed at (cells_of width.Two number) frame.cells.operands (number_cells width.Two number (read_fits state.answers)) at.operands_are (omega arith) (omega arith))
    (frame.pc + size) (behind method.code frame.pc (insns.CallS 2) size refl)

print_moves : MoveLemma (insns.CallS 3)
print_moves image state frame others method size at = shown 3 signed_decimal at refl

-- ---- methods with code

-- a method with code has the id, and the signature that the id has is its own
pub record IsOwn (image : Image) (id : ℕ) : Type 0 where
  pub callee : Method
  pub found : method_at image id ≡ Some callee
  pub sig : signature_in image.methods id ≡ Some callee.sig

own_by : (below : Bool) (o : Option Method) (native : Option Sig) → native ≡ None → IsSome (if below then native else option_map (λ (m : Method). m.sig) o)
    → (callee : Method) × ((if below then None else o) ≡ Some callee) × ((if below then native else option_map (λ (m : Method). m.sig) o) ≡ Some callee.sig)
own_by true o native e is = absurd (false≢true (subst IsSome e is))
own_by false None native e is = absurd (false≢true is)
own_by false (Some callee) native e is = (callee, refl, refl)

-- the arguments and then the other locals
module _ {X : Type 0} (count locals : ℕ) (empty : X) (operands : List X) (enough : count ≤ length operands) (cover : count ≤ locals) where
  first_length : length (first_locals count locals empty operands) ≡ locals
  first_length =
      omega (arith, cover, length-append (reverse (take count operands)) (replicate (locals - count) empty), length-reverse (take count operands), length-take-le count operands enough, length-replicate (locals - count) empty)

  first_are : (P : X → Type 0) → P empty → AllByRecursion P operands → AllByRecursion P (first_locals count locals empty operands)
  first_are P is all =
      all_append P (reverse (take count operands)) (replicate (locals - count) empty) (all_reverse P (take count operands) (all_take P count operands all)) (all_replicate P (locals - count) empty is)

module _ (id : ℕ) {image : Image} {state : State} {frame : Frame} {others : List Frame} {method : Method} {size : ℕ} (at : IsAt image state frame others method (insns.CallS id) size) (own : IsOwn image id) where
  abbrev callee : Method
  callee = own.callee

  abbrev sig : Sig
  sig = callee.sig

  called_is : called_by image (insns.CallS id) ≡ sig
  called_is = ap (λ (o : Option Sig). unwrap_or o (signature 0 0 0)) own.sig

  refs_taken : (moved_by image (insns.CallS id)).ref_pop ≡ sig.refs
  refs_taken = ap (λ (s : Sig). (called s).ref_pop) called_is ∙ called_refs_taken sig

  cells_taken : (moved_by image (insns.CallS id)).cell_pop ≡ sig.cells
  cells_taken = ap (λ (s : Sig). (called s).cell_pop) called_is ∙ called_cells_taken sig

  enough_refs : sig.refs ≤ length frame.refs.operands
  enough_refs = omega (arith, at.operands.refs, refs_taken)

  enough_cells : sig.cells ≤ length frame.cells.operands
  enough_cells = omega (arith, at.operands.cells, cells_taken)

  of_grammar : IsMethod image.types callee
  of_grammar = own_method (IsMethod image.types) image id callee (all_of_each (IsMethod image.types) [] image.methods at.sound.image_is.methods_are) own.found

  abbrev caller : Frame
  caller = without_arguments sig frame

  waits : IsWaiting image (result_of image (frame_for id callee frame)) caller
  waits = record {
    method = method;
    found = at.method_is;
    locals = holds method caller at.ref_locals at.cell_locals at.locals_are (dropped at sig.cells);
    before = depth_of frame;
    sent = at.here;
    insn = insns.CallS id;
    size = size;
    there = at.there;
    call = refl;
    operands = at.operands;
    left = ap₂ depth (omega (arith, refs_taken, length-drop sig.refs frame.refs.operands)) (omega (arith, cells_taken, length-drop sig.cells frame.cells.operands));
    awaited = ap (λ (s : Sig). s.result) called_is ∙ sym (ap (λ (o : Option Method). option_map_or (λ (method : Method). method.sig.result) o 0) own.found);
  }

  both_wait : AreWaiting image (frame_for id callee frame) (caller ∷ others)
  unfolding AreWaiting
  both_wait = (waits, at_others)
    where
      at_others : AreWaiting image caller others
      at_others = waiting_same image frame caller others refl at.waiting

  begun : HoldsLocals callee (frame_for id callee frame)
  begun =
      holds callee (frame_for id callee frame)
      (first_length sig.refs callee.ref_locals None frame.refs.operands enough_refs of_grammar.refs_cover)
      (first_length sig.cells callee.cell_locals 0 frame.cells.operands enough_cells of_grammar.cells_cover)
      (first_are sig.cells callee.cell_locals 0 frame.cells.operands enough_cells of_grammar.cells_cover IsCell (omega arith) at.operands_are) tt

  has_all : has_arguments sig frame ≡ true
  has_all =
      ap (λ b. if b then nat_le sig.cells (length frame.cells.operands) else false) (le-leb sig.refs (length frame.refs.operands) enough_refs)
      ∙ le-leb sig.cells (length frame.cells.operands) enough_cells

  pub own_stays : StaysReached image (runs_code image state frame others id)
  own_stays =
      used image (method_at image id) (λ (callee : Method). runs_method state frame others id callee) callee own.found
      (subst (λ b. StaysReached image (if b then Does (call_need (frame_cells callee)) [] (with_frames state (frame_for id callee frame ∷ caller ∷ others)) else Stuck)) (sym has_all)
      (is_reached image state at.statics (frame_for id callee frame) (caller ∷ others)
      (record { method = callee; found = own.found; locals = begun; sent = λ holds first closed. first }) both_wait))

-- ---- by the id

pub call_moves : (id : ℕ) → MoveLemma (insns.CallS id)
call_moves zero image state frame others method size at = construct_moves image state frame others method size at
call_moves (suc zero) image state frame others method size at = write_moves image state frame others method size at
call_moves (suc (suc zero)) image state frame others method size at = read_moves image state frame others method size at
call_moves (suc (suc (suc zero))) image state frame others method size at = print_moves image state frame others method size at
call_moves (suc (suc (suc (suc n)))) image state frame others method size at =
    let id = suc (suc (suc (suc n))) in
    let parts = own_by (nat_lt id first_own) (slice_get image.methods (id - first_own)) (slice_get library_signatures id) refl at.ids in
    own_stays id at (record { callee = parts.0; found = parts.1; sig = parts.2 })
