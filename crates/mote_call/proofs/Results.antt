-- What a return takes off the youngest frame, and what its caller has then.
use Rattle.std.proofs.Common.{◌≡◌, ℕ, suc, ◌+◌, ◌≤◌, List, [], ◌∷◌, ◌++◌, length, map, drop, take, reverse, None, refl, sym, ap, subst, ◌∙◌, arith}
use Rattle.std.specs.List.{AllByRecursion, slice_index_or}
use Rattle.std.proofs.lemmas.List.{length-append, length-map, length-reverse, length-take-le, map-append}
use Rattle.dialogue.specs.Answers.{Answers}
use Rattle.image_instr.specs.declared.insn.MInsn.{MInsn}
use Rattle.mote_stack.specs.Frames.{Stack, youngest_frame, last_items}
use Rattle.mote_model.specs.declared.memory.State.{State as Memory}
use Rattle.mote_model.specs.State.{Reference, Half, Frame, whole}
use Rattle.mote_model.specs.Picture.{IsKept, KeepsFrame, cell_of, shown_frame}
use Rattle.mote_model.specs.SplitMoves.{SplitMove, half, take_ref_from, with_refs}
use Rattle.mote_model.specs.SplitMoves as split
use Rattle.mote_model.specs.SplitStep.{resumes, returns}
use Rattle.split_safety.specs.Ready.{Shown, IsReady}
use Rattle.split_safety.proofs.facts.Lists.{all_append, all_right, all_unreverse}
use Rattle.mote_exec.proofs.GoingOn.{own_cells, own_refs, was}
use Rattle.mote_exec.proofs.HalfLists.{pushed, top}
use Rattle.mote_call.specs.CallTurns.{MustEnd, with_answers}
use Rattle.mote_call.proofs.Answering.{move_with, moves_with, step_of}
use Rattle.mote_call.proofs.MappedHalves.{mapped_top}

-- ---- the reference on top

abbrev pub top_of : List Reference → Reference
top_of operands = slice_index_or operands 0 None

pub takes_ref : (frame : Frame) (operands : List Reference) (use_it : Reference → Frame → SplitMove) → 1 ≤ length operands → take_ref_from frame operands use_it ≡ use_it (top_of operands) (with_refs frame (drop 1 operands))
takes_ref frame [] use_it enough = absurd (omega (arith, enough))
takes_ref frame (reference ∷ operands) use_it enough = refl

top_alone : (operands : List Reference) → 1 ≤ length operands → reverse (take 1 operands) ≡ top_of operands ∷ []
top_alone [] enough = absurd (omega (arith, enough))
top_alone (reference ∷ operands) enough = refl

top_kept : (P : Reference → Type 0) (operands : List Reference) → 1 ≤ length operands → AllByRecursion P operands → P (top_of operands)
top_kept P [] enough all = absurd (omega (arith, enough))
top_kept P (reference ∷ operands) enough all = all.0

-- ---- callers

none_of : (others : List Frame) → suc (length others) ≡ 1 → others ≡ []
none_of [] one = refl
none_of (frame ∷ others) one = absurd (omega (arith, one))

-- the first of the others
pub record HasFirst (others : List Frame) : Type 0 where
  pub caller : Frame
  pub rest : List Frame
  pub waits : others ≡ caller ∷ rest

first_of : (others : List Frame) → (suc (length others) ≡ 1 → ⊥) → HasFirst others
first_of [] more = absurd (more refl)
first_of (frame ∷ others) more = record { caller = frame; rest = others; waits = refl }

module _ (shown : Shown) (old : Memory) (insn : MInsn) (ready : IsReady shown old insn) where
  counted : length old.region.frames ≡ suc (length ready.next.others)
  counted =
      ap (λ (stack : Stack). length stack.frames) (was shown old old insn (ready.next.frame.pc + ready.next.size) (step_of shown old insn ready))
      ∙ length-map (ready.next.frame ∷ ready.next.others) (shown_frame shown.image shown.naming)

  pub called : (count : ℕ) → count ≡ length old.region.frames → (count ≡ 1 → ⊥) → HasFirst ready.next.others
  called count is more = first_of ready.next.others (λ one. more (is ∙ counted ∙ one))

  module _ (with_result : Frame → Frame) (is : (answers : Answers) → move_with shown insn ready.next answers ≡ returns shown.image (with_answers shown.state answers) ready.next.others with_result) where
    -- the return of the oldest frame ends the run
    pub ends : (count : ℕ) → count ≡ length old.region.frames → count ≡ 1 → MustEnd shown.image shown.state split.Done
    ends count counts one answers =
        let none = none_of ready.next.others (sym counted ∙ sym counts ∙ one) in
        moves_with shown insn ready.next answers ∙ is answers ∙ ap (λ others. returns shown.image (with_answers shown.state answers) others with_result) none

    pub resumed_is : (caller : Frame) (rest : List Frame) → ready.next.others ≡ caller ∷ rest → (answers : Answers)
        → move_with shown insn ready.next answers ≡ resumes shown.image (with_answers shown.state answers) (with_result caller) rest
    resumed_is caller rest waits answers = is answers ∙ ap (λ others. returns shown.image (with_answers shown.state answers) others with_result) waits

  -- ---- the caller with the result

  module _ (caller : Frame) (rest : List Frame) (waits : ready.next.others ≡ caller ∷ rest) where
    abbrev keeps : KeepsFrame shown.naming ready.next.frame × (KeepsFrame shown.naming caller × AllByRecursion (KeepsFrame shown.naming) rest)
    keeps = let pictures = ready.pictures in subst (AllByRecursion (KeepsFrame shown.naming)) (ready.next.frames_are ∙ ap (λ others. ready.next.frame ∷ others) waits) pictures.kept_frames

    pub same_kept : KeepsFrame shown.naming caller
    same_kept = keeps.1.0

    module _ (enough : 1 ≤ length ready.next.frame.refs.operands) where
      abbrev pub reference : Reference
      reference = top_of ready.next.frame.refs.operands

      abbrev pub refs_given : Half Reference
      refs_given = half caller.refs.locals (reference ∷ caller.refs.operands)

      more : whole caller.refs ++ reference ∷ [] ≡ whole refs_given
      more = pushed caller.refs.locals caller.refs.operands (reference ∷ [])

      pub ref_given : map (cell_of shown.naming) (whole caller.refs) ++ (let youngest = youngest_frame old.region in last_items 1 youngest.refs) ≡ map (cell_of shown.naming) (whole refs_given)
      ref_given =
          let cell = cell_of shown.naming in
          let refs = ready.next.frame.refs in
          let taken = ap (last_items 1) (own_refs shown old old insn (ready.next.frame.pc + ready.next.size) (step_of shown old insn ready)) ∙ mapped_top cell refs.locals refs.operands 1 enough ∙ ap (map cell) (top_alone refs.operands enough) in
          ap (λ items. map cell (whole caller.refs) ++ items) taken ∙ sym (map-append cell (whole caller.refs) (reference ∷ [])) ∙ ap (map cell) more

      pub ref_kept : AllByRecursion (IsKept shown.naming) (whole refs_given)
      ref_kept =
          let refs = ready.next.frame.refs in
          let own = all_unreverse (IsKept shown.naming) refs.operands (all_right (IsKept shown.naming) refs.locals (reverse refs.operands) keeps.0) in
          subst (AllByRecursion (IsKept shown.naming)) more (all_append (IsKept shown.naming) (whole caller.refs) (reference ∷ []) same_kept (top_kept (IsKept shown.naming) refs.operands enough own, tt))

    module _ (count : ℕ) (enough : count ≤ length ready.next.frame.cells.operands) where
      abbrev items : List ℕ
      items = reverse (take count ready.next.frame.cells.operands)

      abbrev pub cells_given : Half ℕ
      cells_given = half caller.cells.locals (reverse items ++ caller.cells.operands)

      pub cells_are : whole caller.cells ++ (let youngest = youngest_frame old.region in last_items count youngest.cells) ≡ whole cells_given
      cells_are =
          let cells = ready.next.frame.cells in
          let taken = ap (last_items count) (own_cells shown old old insn (ready.next.frame.pc + ready.next.size) (step_of shown old insn ready)) ∙ top cells.locals cells.operands count enough in
          ap (λ items. whole caller.cells ++ items) taken ∙ pushed caller.cells.locals caller.cells.operands items

      pub cells_more : length caller.refs.operands + length cells_given.operands ≡ (length caller.refs.operands + length caller.cells.operands) + count
      cells_more =
          let operands = ready.next.frame.cells.operands in
          omega (arith, length-append (reverse items) caller.cells.operands, length-reverse items, length-reverse (take count operands), length-take-le count operands enough)
