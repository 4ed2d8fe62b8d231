-- What the locals of a frame are where one is set.
use Rattle.std.proofs.Common.{◌≡◌, ℕ, ◌<◌, Bool, true, false, nat_eq, nat_lt, if◌then◌else◌, List, ◌∷◌, length, Option, Some, None, option_and_then, ap, ◌∙◌, arith}
use Rattle.std.specs.Prelude.{slice_set}
use Rattle.std.specs.Option.{option_map_or}
use Rattle.std.proofs.lemmas.Bool.Decides.{nat_tests}
use Rattle.account.specs.Account.{Stuck}
use Rattle.insn_form.specs.declared.ValueKind.{ValueKind}
use Rattle.body_form.specs.declared.op.Op.{Op}
use Rattle.body_form.specs.declared.op.Op.TheVariants as op
use Rattle.jvm_model.specs.State.{Value}
use Rattle.mote_model.specs.SplitState as split
use Rattle.typed_machine.specs.TypedState.{State}
use Rattle.typed_machine.specs.TypedMoves.{goes_on}
use Rattle.typed_machine.specs.TypedStep as step
use Rattle.typed_machine.specs.TypedStep.{local_at, move, with_local}
use Rattle.typed_machine.specs.TypedWorld.{pc_after}
use Rattle.match_states.specs.MatchedFrames.{reference_of, local_reference}
use Rattle.match_states.specs.Setting.{Setting}
use Rattle.follow_numbers.specs.WideCode.{IsWideCode, StandsAt}
use Rattle.follow_numbers.proofs.NextStates.{body_at, typed_move}
use Rattle.follow_operands.proofs.MovedFrames.{frame_with}
use Rattle.follow_operands.proofs.SetLocals.{get_set, get_beside}

module _ {setting : Setting} {state : State} {other : split.State} {instruction : Op} (code : IsWideCode setting) (here : StandsAt setting state other instruction) (local : ℕ) (value : Value) where
  abbrev pub locals_set : List (Option Value)
  locals_set = slice_set here.frame.locals local (Some value)

  pub set_here : local < length here.frame.locals → local_at (frame_with code here locals_set) local ≡ Some value
  set_here low = ap (option_and_then (λ (held : Option Value). held)) (get_set here.frame.locals local (Some value) low)

  pub set_beside : (beside : ℕ) → nat_eq beside local ≡ false → local_at (frame_with code here locals_set) beside ≡ local_at here.frame beside
  set_beside beside differs = ap (option_and_then (λ (held : Option Value). held)) (get_beside here.frame.locals local beside (Some value) differs)

  -- what the slots hold of other locals stays
  pub reference_beside : (beside : ℕ) → nat_eq beside local ≡ false → local_reference (frame_with code here locals_set) beside ≡ local_reference here.frame beside
  reference_beside beside differs = ap (λ found. option_map_or reference_of found None) (set_beside beside differs)

  pub reference_here : local < length here.frame.locals → local_reference (frame_with code here locals_set) local ≡ reference_of value
  reference_here low = ap (λ found. option_map_or reference_of found None) (set_here low)

-- a store sets the local to the top
pub typed_store : {setting : Setting} {state : State} {other : split.State} (code : IsWideCode setting) (kind : ValueKind) (local : ℕ) (here : StandsAt setting state other (op.Store kind local))
    (value : Value) (below : List Value) → here.frame.operands ≡ value ∷ below → local < length here.frame.locals
    → move setting.world state ≡ goes_on state (frame_with code here (locals_set code here local value)) here.frames (pc_after (body_at here).ops here.frame.pc) below
typed_store {state = state} code kind local here value below are low =
    let next = pc_after (body_at here).ops here.frame.pc in
    let test : nat_lt local (length here.frame.locals) ≡ true = grind (arith, nat_tests, low) in
    typed_move here
    ∙ ap (step.store state here.frame here.frames next local) are
    ∙ ap (λ (b : Bool). if b then goes_on state (with_local here.frame local value) here.frames next below else Stuck) test
