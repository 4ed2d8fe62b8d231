-- The move of a jump by a test of references, and what their cells say.
use Rattle.std.proofs.Common.{◌≡◌, ℕ, ◌≤◌, Bool, not, is_some, None, List, [], ◌∷◌, map, drop, take, get_or, length, reverse, refl, sym, ap, ◌∙◌, arith}
use Rattle.std.specs.List.{AllByRecursion}
use Rattle.std.proofs.lemmas.List.{length-map}
use Rattle.image_instr.specs.declared.insn.MInsn.TheVariants as insns
use Rattle.image_instr.specs.declared.insn.RefTest.{RefTest}
use Rattle.image_instr.specs.declared.insn.RefTest.TheVariants as ref_test
use Rattle.image_instr.specs.Effect.{tested_refs}
use Rattle.mote_stack.specs.Frames.{youngest_frame, last_items}
use Rattle.mote_model.specs.declared.memory.State.{State as Memory}
use Rattle.mote_model.specs.State.{Reference, Frame}
use Rattle.mote_model.specs.Picture.{Naming, IsNaming, cell_of, IsKept}
use Rattle.mote_model.specs.SplitMoves.{SplitMove, branches, take_ref, take_ref_from, with_refs}
use Rattle.mote_model.specs.SplitState.{State}
use Rattle.mote_model.specs.SplitStep.{are_same, jump_if_reference, move_of}
use Rattle.split_safety.specs.Ready.{Shown}
use Rattle.mote_exec.specs.ReferenceTests.{is_met}
use Rattle.mote_exec.specs.Steps.{IsStep}
use Rattle.mote_exec.proofs.GoingOn.{frame, others, rows, at}
use Rattle.mote_exec.proofs.HalfLists.{top}
use Rattle.mote_exec.proofs.LocalReferences.{takes_from}
use Rattle.mote_exec.proofs.MovedReferences.{cells_of_refs, operands_kept}
use Rattle.mote_exec.proofs.SameObjects.{same_cells, null_cell, object_cell}
use Rattle.mote_exec.proofs.TakenReferences.{without_refs}

-- ---- the move

from_two : (frame : Frame) (operands : List Reference) (use_them : Reference → Reference → Frame → SplitMove) → 2 ≤ length operands
    → take_ref_from frame operands (λ b below. take_ref below (λ a rest. use_them b a rest)) ≡ use_them (get_or operands 0 None) (get_or operands 1 None) (with_refs frame (drop 2 operands))
from_two frame [] use_them enough = absurd (omega (arith, enough))
from_two frame (b ∷ []) use_them enough = absurd (omega (arith, enough))
from_two frame (b ∷ a ∷ rest) use_them enough = refl

-- the operands meet the test
abbrev pub passes : RefTest → List Reference → Bool
passes ref_test.Equal operands = are_same (get_or operands 1 None) (get_or operands 0 None)
passes ref_test.NotEqual operands = not (are_same (get_or operands 1 None) (get_or operands 0 None))
passes ref_test.Null operands = not (is_some (get_or operands 0 None))
passes ref_test.NonNull operands = is_some (get_or operands 0 None)

pub tests : (state : State) (frame : Frame) (others : List Frame) (next : ℕ) (test : RefTest) (target : ℕ) → tested_refs test ≤ length frame.refs.operands
    → jump_if_reference state frame others next test target ≡ branches (passes test frame.refs.operands) state (without_refs (tested_refs test) frame) others target next
tests state frame others next ref_test.Equal target enough = from_two frame frame.refs.operands (λ b a rest. branches (are_same a b) state rest others target next) enough
tests state frame others next ref_test.NotEqual target enough = from_two frame frame.refs.operands (λ b a rest. branches (not (are_same a b)) state rest others target next) enough
tests state frame others next ref_test.Null target enough = takes_from frame frame.refs.operands (λ a rest. branches (not (is_some a)) state rest others target next) enough
tests state frame others next ref_test.NonNull target enough = takes_from frame frame.refs.operands (λ a rest. branches (is_some a) state rest others target next) enough

-- ---- the cells

module _ (naming : Naming) (is : IsNaming naming) where
  -- the cells meet the test where the operands do
  pub met_same : (test : RefTest) (operands : List Reference) → tested_refs test ≤ length operands → AllByRecursion (IsKept naming) operands
      → is_met test (reverse (take (tested_refs test) (map (cell_of naming) operands))) ≡ passes test operands
  met_same ref_test.Equal [] enough kept = absurd (omega (arith, enough))
  met_same ref_test.Equal (b ∷ []) enough kept = absurd (omega (arith, enough))
  met_same ref_test.Equal (b ∷ a ∷ rest) enough kept = same_cells naming is a b kept.1.0 kept.0
  met_same ref_test.NotEqual [] enough kept = absurd (omega (arith, enough))
  met_same ref_test.NotEqual (b ∷ []) enough kept = absurd (omega (arith, enough))
  met_same ref_test.NotEqual (b ∷ a ∷ rest) enough kept = ap not (same_cells naming is a b kept.1.0 kept.0)
  met_same ref_test.Null [] enough kept = absurd (omega (arith, enough))
  met_same ref_test.Null (a ∷ rest) enough kept = null_cell naming is a kept.0
  met_same ref_test.NonNull [] enough kept = absurd (omega (arith, enough))
  met_same ref_test.NonNull (a ∷ rest) enough kept = object_cell naming is a kept.0

-- ---- the step

module _ (shown : Shown) (old new : Memory) (test : RefTest) (target pc : ℕ) (step : IsStep shown old (insns.RJ test target) pc) where
  abbrev here : Frame
  here = frame shown old new (insns.RJ test target) pc step

  abbrev below : List Frame
  below = others shown old new (insns.RJ test target) pc step

  pub enough : tested_refs test ≤ length here.refs.operands
  enough = let next = at shown old new (insns.RJ test target) pc step in omega (arith, next.operands.refs)

  -- the move goes by what the cells on top say
  pub goes_by : (met : Bool) → (let youngest = youngest_frame old.region in met ≡ is_met test (last_items (tested_refs test) youngest.refs))
      → move_of shown.image shown.state here below pc (insns.RJ test target) (rows shown old new (insns.RJ test target) pc step) ≡ branches met shown.state (without_refs (tested_refs test) here) below target pc
  goes_by met e =
      let cell = cell_of shown.naming in
      let count = tested_refs test in
      let pictures = step.ready.pictures in
      let ways : Bool → SplitMove = λ met. branches met shown.state (without_refs count here) below target pc in
      let cells = ap (λ refs. is_met test (last_items count refs)) (cells_of_refs shown old new (insns.RJ test target) pc step)
      ∙ ap (is_met test) (top (map cell here.refs.locals) (map cell here.refs.operands) count (omega (arith, enough, length-map here.refs.operands cell)))
      ∙ met_same shown.naming pictures.naming_is test here.refs.operands enough (operands_kept shown old new (insns.RJ test target) pc step) in
      tests shown.state here below pc test target enough ∙ ap ways (sym (e ∙ cells))
