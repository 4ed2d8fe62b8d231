-- The split machine follows the typed one at loads and stores of both kinds.
use Rattle.std.proofs.Common.{ℕ}
use Rattle.insn_form.specs.declared.ValueKind.{ValueKind}
use Rattle.insn_form.specs.declared.ValueKind.TheVariants as value_kind
use Rattle.body_form.specs.declared.op.Op.TheVariants as op
use Rattle.mote_model.specs.SplitState as split
use Rattle.typed_machine.specs.TypedState.{State}
use Rattle.match_states.specs.Setting.{Setting}
use Rattle.follow_numbers.specs.WideCode.{IsWideCode, StandsAt}
use Rattle.follow_numbers.proofs.NextMoves.{AreMatched}
use Rattle.follow_operands.proofs.LoadedNumbers.{load_int_follows}
use Rattle.follow_operands.proofs.LoadedReferences.{load_ref_follows}
use Rattle.follow_operands.proofs.StoredNumbers.{store_int_follows}
use Rattle.follow_operands.proofs.StoredReferences.{store_ref_follows}

module _ {setting : Setting} {state : State} {other : split.State} (code : IsWideCode setting) (local : ℕ) where
  pub load_follows : (kind : ValueKind) → StandsAt setting state other (op.Load kind local) → AreMatched setting state other
  load_follows value_kind.Int here = load_int_follows code local here
  load_follows value_kind.Ref here = load_ref_follows code local here

  pub store_follows : (kind : ValueKind) → StandsAt setting state other (op.Store kind local) → AreMatched setting state other
  store_follows value_kind.Int here = store_int_follows code local here
  store_follows value_kind.Ref here = store_ref_follows code local here
