-- Each instruction of the typed machine is a tick, ends the run, or lowers the rank.
use Rattle.std.proofs.Common.{ℕ, pos, List, ◌∷◌, Option, refl}
use Rattle.std.specs.Prelude.{unwrap_or}
use Rattle.cell_num.specs.Conditions.{is_met}
use Rattle.body_form.specs.declared.body.Body.{Body}
use Rattle.body_form.specs.declared.op.Op.{Op}
use Rattle.body_form.specs.declared.op.Op.TheVariants as op
use Rattle.jvm_model.specs.Operands.{restacked, row_target}
use Rattle.typed_machine.specs.TypedArrays.{numbers_in}
use Rattle.typed_machine.specs.TypedMoves.{TypedMove}
use Rattle.typed_machine.specs.TypedState.{Frame, State}
use Rattle.typed_machine.specs.TypedStep.{constant_of, local_at, move_of}
use Rattle.typed_machine.specs.TypedWorld.{World}
use Rattle.run_measures.proofs.Lowering.{Lowers}
use Rattle.run_measures.proofs.TypedRank.{rank_of, IsAhead}
use Rattle.run_measures.proofs.TypedForms.{rank_in, on, jumped}
use Rattle.run_measures.proofs.TypedPlain.{load_lowers, store_lowers, increment_lowers, restack_lowers, compute_lowers, convert_lowers, number_lowers, numbers_lower, reference_lowers, choose_lowers}
use Rattle.run_measures.proofs.TypedObjects.{read_static_lowers, write_static_lowers, read_field_lowers, write_field_lowers, make_lowers, throw_lowers, cast_lowers, test_lowers}
use Rattle.run_measures.proofs.TypedArrays.{make_array_lowers, make_arrays_lower, array_length_lowers, array_load_lowers, array_store_lowers}
use Rattle.run_measures.proofs.TypedCalls.{BodiesRise, leaving_lowers, call_static_lowers, call_special_lowers, call_virtual_lowers, call_interface_lowers}

module _ {world : World} {frame : Frame} {next : Option ℕ} (ahead : IsAhead world frame next) (others : List Frame) (state : State) where
  abbrev Lower : TypedMove → Type 0
  Lower move = Lowers (rank_in world) (rank_of world (frame ∷ others)) move

  pub op_lowers : BodiesRise world → (body : Body) (instruction : Op) → Lower (move_of world state frame others body next instruction)
  op_lowers rise body op.Nop = on ahead others state frame frame.operands refl
  op_lowers rise body (op.Const constant) = on ahead others state frame (constant_of constant ∷ frame.operands) refl
  op_lowers rise body (op.Load kind local) = load_lowers ahead others state (local_at frame local)
  op_lowers rise body (op.Store kind local) = store_lowers ahead others state local frame.operands
  op_lowers rise body (op.Inc local amount) = increment_lowers ahead others state local amount (local_at frame local)
  op_lowers rise body (op.Stack form) = restack_lowers ahead others state (restacked form frame.operands)
  op_lowers rise body (op.Bin operation) = compute_lowers ahead others state operation frame.operands
  op_lowers rise body (op.Unary operation) = convert_lowers ahead others state operation frame.operands
  op_lowers rise body (op.If cond target) = number_lowers ahead others state (λ number. is_met cond number (pos 0)) target frame.operands
  op_lowers rise body (op.IfCmp cond target) = numbers_lower ahead others state (is_met cond) target frame.operands
  op_lowers rise body (op.IfRef cond target) = reference_lowers ahead others state cond target frame.operands
  op_lowers rise body (op.Goto target) = jumped ahead others state target frame.operands
  op_lowers rise body (op.Switch form default rows) = choose_lowers ahead others state (λ key. unwrap_or (row_target key rows) default) frame.operands
  op_lowers rise body (op.Return kind) = leaving_lowers world rise frame state others body.result kind
  op_lowers rise body (op.GetStatic used) = read_static_lowers ahead others state (state.statics used.field)
  op_lowers rise body (op.PutStatic used) = write_static_lowers ahead others state used frame.operands
  op_lowers rise body (op.GetField used) = read_field_lowers ahead others state used frame.operands
  op_lowers rise body (op.PutField used) = write_field_lowers ahead others state used frame.operands
  op_lowers rise body (op.CallVirtual used) = call_virtual_lowers ahead others state used
  op_lowers rise body (op.CallSpecial used) = call_special_lowers ahead others state used
  op_lowers rise body (op.CallStatic used) = call_static_lowers ahead others state used
  op_lowers rise body (op.CallInterface used) = call_interface_lowers ahead others state used
  op_lowers rise body (op.New type) = make_lowers ahead others state type.base
  op_lowers rise body (op.NewArray type) = make_array_lowers ahead others state type frame.operands
  op_lowers rise body op.ArrayLength = array_length_lowers ahead others state frame.operands
  op_lowers rise body (op.ArrayLoad kind) = array_load_lowers ahead others state frame.operands
  op_lowers rise body (op.ArrayStore kind) = array_store_lowers ahead others state frame.operands
  op_lowers rise body op.Throw = throw_lowers ahead others state frame.operands
  op_lowers rise body (op.CheckCast type) = cast_lowers ahead others state type frame.operands
  op_lowers rise body (op.InstanceOf type) = test_lowers ahead others state type frame.operands
  op_lowers rise body (op.MultiArray array dims) = make_arrays_lower ahead others state array (numbers_in dims frame.operands)
