-- Each move of typed code fits, by the family of the instruction.
use Rattle.std.proofs.Common.{◌≡◌, ℕ, List, [], ◌∷◌, Option, refl, sym, subst}
use Rattle.std.specs.Prelude.{option_map}
use Rattle.std.specs.Option.{option_map_or}
use Rattle.account.specs.Account.{Stuck}
use Rattle.body_form.specs.declared.body.Body.{Body}
use Rattle.body_form.specs.declared.op.Op.{Op}
use Rattle.body_form.specs.declared.op.Op.TheVariants as op
use Rattle.typed_machine.specs.TypedState.{Frame, State}
use Rattle.typed_machine.specs.TypedStep.{move_of, move_in, move_among}
use Rattle.typed_machine.specs.TypedWorld.{World, Placed, pc_after}
use Rattle.type_safety.specs.Facts.{Named}
use Rattle.type_safety.specs.Fitting.{Tables, FramesFit, StateFits}
use Rattle.type_safety.specs.Parts.{AreParts}
use Rattle.type_safety.specs.Safety.{IsSet, MoveFits, FactsKeepSafe}
use Rattle.type_safety.proofs.moves.ArrayMoves.{new_array_moves_fit, array_length_fits, array_load_fits, array_store_fits}
use Rattle.type_safety.proofs.moves.ArraysOfArrays.{multi_array_fits}
use Rattle.type_safety.proofs.moves.CallMoves.{call_static_fits}
use Rattle.type_safety.proofs.moves.ConstructorMoves.{call_special_fits}
use Rattle.type_safety.proofs.moves.FieldMoves.{get_static_fits, put_static_fits, get_field_fits, put_field_fits}
use Rattle.type_safety.proofs.moves.Lemmas.{MoveLemma}
use Rattle.type_safety.proofs.moves.LocalMoves.{load_moves, store_moves, inc_moves, stack_moves}
use Rattle.type_safety.proofs.moves.ObjectMoves.{new_fits, check_cast_fits, instance_of_fits}
use Rattle.type_safety.proofs.moves.PlainMoves.{nop_moves, const_moves, goto_moves, bin_moves, unary_moves, if_moves, if_cmp_moves, if_ref_moves, switch_moves}
use Rattle.type_safety.proofs.moves.ReceiverCalls.{call_virtual_fits, call_interface_fits}
use Rattle.type_safety.proofs.moves.ReturnMoves.{return_fits}
use Rattle.type_safety.proofs.fitting.SetBodies.{body_of}
use Rattle.type_safety.proofs.moves.Starting.{starting_fits}
use Rattle.type_safety.proofs.moves.ThrowMoves.{throw_moves}

-- ---- the families

each_fits : (world : World) (own : ℕ) (instruction : Op) → Named world own instruction → MoveLemma instruction
each_fits world own op.Nop named = nop_moves
each_fits world own (op.Const constant) named = const_moves constant named
each_fits world own (op.Load kind local) named = load_moves kind local
each_fits world own (op.Store kind local) named = store_moves kind local
each_fits world own (op.Inc local amount) named = inc_moves local amount
each_fits world own (op.Stack form) named = stack_moves form
each_fits world own (op.Bin operation) named = bin_moves operation
each_fits world own (op.Unary operation) named = unary_moves operation
each_fits world own (op.If cond target) named = if_moves cond target
each_fits world own (op.IfCmp cond target) named = if_cmp_moves cond target
each_fits world own (op.IfRef cond target) named = if_ref_moves cond target
each_fits world own (op.Goto target) named = goto_moves target
each_fits world own (op.Switch form default rows) named = switch_moves form default rows
each_fits world own (op.Return kind) named = return_fits kind
each_fits world own (op.GetStatic used) named = get_static_fits used
each_fits world own (op.PutStatic used) named = put_static_fits used
each_fits world own (op.GetField used) named = get_field_fits used
each_fits world own (op.PutField used) named = put_field_fits used
each_fits world own (op.CallVirtual used) named = call_virtual_fits starting_fits used
each_fits world own (op.CallSpecial used) named = call_special_fits starting_fits used
each_fits world own (op.CallStatic used) named = call_static_fits starting_fits used
each_fits world own (op.CallInterface used) named = call_interface_fits starting_fits used
each_fits world own (op.New type) named = new_fits type
each_fits world own (op.NewArray array) named = new_array_moves_fit array named
each_fits world own op.ArrayLength named = array_length_fits
each_fits world own (op.ArrayLoad kind) named = array_load_fits kind
each_fits world own (op.ArrayStore kind) named = array_store_fits kind
each_fits world own op.Throw named = throw_moves
each_fits world own (op.CheckCast type) named = check_cast_fits type
each_fits world own (op.InstanceOf type) named = instance_of_fits type
each_fits world own (op.MultiArray array dims) named = multi_array_fits array dims named.0 named.1

-- ---- the move

module _ (parts : AreParts) (world : World) (tables : Tables) (set : IsSet world tables) (state : State) (fits : StateFits world tables state) where
  by_frames : (frames : List Frame) → state.frames ≡ frames → MoveFits world tables (move_among world state frames)
  by_frames [] is = absurd (subst (FramesFit world tables state.objects) is fits.frames)
  by_frames (frame ∷ others) is =
      let stands = parts.stands world tables set state frame others is fits in
      let body = stands.body in
      let at = stands.is in
      let facts = (body_of world tables set frame.method body at.found).facts in
      let fitting = each_fits world body.class stands.instruction (facts.named frame.pc stands.instruction at.at) parts world tables set state frame others is fits body stands.types stands.after at stands.has in
      subst (λ (found : Option Body). MoveFits world tables (move_in world state frame others found)) (sym at.found)
      (subst
      (λ (o : Option Op). MoveFits world tables (option_map_or (λ (placed : Placed). move_of world state frame others body placed.next placed.op) (option_map (λ op. record { op = op; next = pc_after body.ops frame.pc }) o) Stuck))
      (sym at.at) fitting)

pub moves_fit : AreParts → FactsKeepSafe
moves_fit parts world tables set state fits = by_frames parts world tables set state fits state.frames refl
