-- Locals, operands, whole numbers and jumps of the typed machine lower the rank.
use Rattle.std.proofs.Common.{ℕ, ℤ, not, ◌+ℤ◌, Bool, nat_lt, List, [], ◌∷◌, length, Option, Some, None, refl}
use Rattle.std.specs.Int.{w32, int_wrap}
use Rattle.account.specs.Account.{Stuck}
use Rattle.cell_num.specs.declared.arithmetic.BinOp.{BinOp}
use Rattle.cell_num.specs.Arithmetic.{applied}
use Rattle.insn_form.specs.declared.RefCond.{RefCond}
use Rattle.insn_form.specs.declared.RefCond.TheVariants as ref_cond
use Rattle.body_form.specs.declared.op.UnaryOp.{UnaryOp}
use Rattle.jvm_model.specs.State.{Value, Whole}
use Rattle.typed_machine.specs.TypedMoves.{TypedMove, goes_on, arithmetic_exception}
use Rattle.typed_machine.specs.TypedState.{Frame, State}
use Rattle.typed_machine.specs.TypedStep.{with_local, load, store, increment, restack, result, compute, unary_of, convert, if_number, if_numbers, is_null, are_same, if_reference, choose}
use Rattle.typed_machine.specs.TypedWorld.{World}
use Rattle.run_measures.proofs.Lowering.{Lowers, stuck, either}
use Rattle.run_measures.proofs.TypedRank.{rank_of, IsAhead}
use Rattle.run_measures.proofs.TypedForms.{rank_in, thrown, on, jumped, branched}

module _ {world : World} {frame : Frame} {next : Option ℕ} (ahead : IsAhead world frame next) (others : List Frame) (state : State) where
  abbrev Lower : TypedMove → Type 0
  Lower move = Lowers (rank_in world) (rank_of world (frame ∷ others)) move

  -- ---- locals, operands and whole numbers

  pub load_lowers : (found : Option Value) → Lower (load state frame others next found)
  load_lowers None = stuck
  load_lowers (Some value) = on ahead others state frame (value ∷ frame.operands) refl

  pub store_lowers : (local : ℕ) (operands : List Value) → Lower (store state frame others next local operands)
  store_lowers local [] = stuck
  store_lowers local (value ∷ operands) =
      either (nat_lt local (length frame.locals)) (goes_on state (with_local frame local value) others next operands) Stuck (on ahead others state (with_local frame local value) operands refl) stuck

  pub increment_lowers : (local : ℕ) (amount : ℤ) (found : Option Value) → Lower (increment state frame others next local amount found)
  increment_lowers local amount (Some (Whole number)) = on ahead others state (with_local frame local (Whole (int_wrap w32 (number +ℤ amount)))) frame.operands refl
  increment_lowers local amount found = stuck

  pub restack_lowers : (found : Option (List Value)) → Lower (restack state frame others next found)
  restack_lowers None = stuck
  restack_lowers (Some operands) = on ahead others state frame operands refl

  pub result_lowers : (operands : List Value) (found : Option ℤ) → Lower (result world state frame others next operands found)
  result_lowers operands None = thrown world state (frame ∷ others) arithmetic_exception
  result_lowers operands (Some number) = on ahead others state frame (Whole number ∷ operands) refl

  pub compute_lowers : (operation : BinOp) (operands : List Value) → Lower (compute world state frame others next operation operands)
  compute_lowers operation (Whole b ∷ Whole a ∷ operands) = result_lowers operands (applied operation a b)
  compute_lowers operation operands = stuck

  pub convert_lowers : (operation : UnaryOp) (operands : List Value) → Lower (convert state frame others next operation operands)
  convert_lowers operation (Whole number ∷ operands) = on ahead others state frame (Whole (unary_of operation number) ∷ operands) refl
  convert_lowers operation operands = stuck

  -- ---- jumps

  pub number_lowers : (holds : ℤ → Bool) (target : ℕ) (operands : List Value) → Lower (if_number state frame others next holds target operands)
  number_lowers holds target (Whole number ∷ operands) = branched ahead others (holds number) state target operands
  number_lowers holds target operands = stuck

  pub numbers_lower : (holds : ℤ → ℤ → Bool) (target : ℕ) (operands : List Value) → Lower (if_numbers state frame others next holds target operands)
  numbers_lower holds target (Whole b ∷ Whole a ∷ operands) = branched ahead others (holds a b) state target operands
  numbers_lower holds target operands = stuck

  pub reference_lowers : (cond : RefCond) (target : ℕ) (operands : List Value) → Lower (if_reference state frame others next cond target operands)
  reference_lowers ref_cond.Null target (a ∷ operands) = branched ahead others (is_null a) state target operands
  reference_lowers ref_cond.NonNull target (a ∷ operands) = branched ahead others (not (is_null a)) state target operands
  reference_lowers ref_cond.Eq target (b ∷ a ∷ operands) = branched ahead others (are_same a b) state target operands
  reference_lowers ref_cond.Ne target (b ∷ a ∷ operands) = branched ahead others (not (are_same a b)) state target operands
  reference_lowers cond target operands = stuck

  pub choose_lowers : (target : ℤ → ℕ) (operands : List Value) → Lower (choose state frame others target operands)
  choose_lowers target (Whole key ∷ operands) = jumped ahead others state (target key) operands
  choose_lowers target operands = stuck
