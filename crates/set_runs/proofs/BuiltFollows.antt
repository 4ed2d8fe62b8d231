-- The split machine follows the typed one, where each instruction is of a form that is built.
use Rattle.std.proofs.Common.{◌≡◌, inl, inr, ℕ, true, false, Some, None}
use Rattle.std.specs.List.{Contains}
use Rattle.std.proofs.lemmas.Bool.{false≢true}
use Rattle.insn_form.specs.declared.ValueKind.TheVariants as value_kind
use Rattle.body_form.specs.declared.body.Body.{Body}
use Rattle.body_form.specs.declared.op.MethodUse.{MethodUse}
use Rattle.body_form.specs.declared.op.Op.{Op}
use Rattle.body_form.specs.declared.op.Op.TheVariants as op
use Rattle.jvm_model.specs.Bodies.{AreBodies}
use Rattle.jvm_model.specs.ImageLimits.{first_excess}
use Rattle.mote_model.specs.SplitState as split
use Rattle.typed_machine.specs.TypedState.{State}
use Rattle.type_safety.specs.Facts.{Runs}
use Rattle.type_safety.proofs.facts.Control.{op_there}
use Rattle.type_safety.proofs.fitting.SetLists.{all_contained}
use Rattle.match_states.specs.Followed.{StatesMatch, SplitFollows}
use Rattle.match_states.specs.Setting.{Setting}
use Rattle.match_views.proofs.Views.{views-same}
use Rattle.follow_numbers.specs.WideCode.{IsWideCode, StandsAt}
use Rattle.follow_numbers.proofs.BinaryNumbers.{bin_follows}
use Rattle.follow_numbers.proofs.FrameStands.{youngest_stands_at}
use Rattle.follow_numbers.proofs.NextStates.{body_at, found_at}
use Rattle.follow_numbers.proofs.NextMoves.{AreMatched}
use Rattle.follow_numbers.proofs.NumberBranches.{goto_follows, if_cmp_follows, if_follows, switch_follows}
use Rattle.follow_numbers.proofs.ReferenceBranches.{if_ref_follows}
use Rattle.follow_numbers.proofs.UnaryNumbers.{unary_follows}
use Rattle.follow_operands.proofs.Constants.{const_follows, nop_follows}
use Rattle.follow_operands.proofs.IncrementedNumbers.{inc_follows}
use Rattle.follow_operands.proofs.LocalMoves.{load_follows, store_follows}
use Rattle.follow_operands.proofs.StackForms.{stack_follows}
use Rattle.follow_calls.proofs.CalledStatics.{call_body_follows}
use Rattle.follow_calls.proofs.DeclaredParameters.{bodies_declared}
use Rattle.follow_calls.proofs.NativeCalls.{native_static_follows}
use Rattle.follow_calls.proofs.ReadStatics.{get_static_follows}
use Rattle.follow_calls.proofs.ReturnedFrames.{return_nothing_follows}
use Rattle.follow_calls.proofs.ReturnedNumbers.{return_int_follows}
use Rattle.follow_calls.proofs.ReturnedReferences.{return_reference_follows}
use Rattle.follow_calls.proofs.WrittenStatics.{put_static_follows}
use Rattle.set_image.specs.LinkRefusals.{is_built}
use Rattle.set_runs.proofs.DeclaredResults.{results_declared}
use Rattle.set_runs.proofs.NoRefusals.{IsBuilt}

module _ (setting : Setting) (code : IsWideCode setting) (bodies : AreBodies setting.world.files setting.world.bodies)
    (built : (body : Body) → Contains setting.world.bodies body → IsBuilt body) (within : first_excess setting.world.files setting.numbering ≡ None) where
  module _ (state : State) (other : split.State) where
    by_run : (used : MethodUse) (here : StandsAt setting state other (op.CallStatic used)) → Runs setting.world used.method used false → AreMatched setting state other
    by_run used here (inl native) = native_static_follows code here native
    by_run used here (inr body) = call_body_follows code (bodies_declared setting bodies) used here body

    by_op : (instruction : Op) → is_built instruction ≡ true → StandsAt setting state other instruction → AreMatched setting state other
    by_op op.Nop built here = nop_follows code here
    by_op (op.Const constant) built here = const_follows code constant here
    by_op (op.Load kind local) built here = load_follows code local kind here
    by_op (op.Store kind local) built here = store_follows code local kind here
    by_op (op.Inc local amount) built here = inc_follows code local amount here
    by_op (op.Stack form) built here = stack_follows code form here
    by_op (op.Bin operation) built here = bin_follows code code.compiled.typed.closed within operation here
    by_op (op.Unary operation) built here = unary_follows code operation here
    by_op (op.If condition target) built here = if_follows code condition target here
    by_op (op.IfCmp condition target) built here = if_cmp_follows code condition target here
    by_op (op.IfRef condition target) built here = if_ref_follows code target condition here
    by_op (op.Goto target) built here = goto_follows code target here
    by_op (op.Switch form default rows) built here = switch_follows code form default rows here
    by_op (op.Return None) built here = return_nothing_follows code here
    by_op (op.Return (Some value_kind.Int)) built here = return_int_follows code here (results_declared setting.world.files setting.world.bodies bodies (body_at here) (found_at here).of_set)
    by_op (op.Return (Some value_kind.Ref)) built here = return_reference_follows code here
    by_op (op.GetStatic used) built here = get_static_follows code used here
    by_op (op.PutStatic used) built here = put_static_follows code used here
    by_op (op.CallStatic used) built here = by_run used here ((code.compiled.typed.facts (body_at here) (found_at here).of_set).named here.frame.pc (op.CallStatic used) here.at)
    by_op instruction built here = absurd (false≢true built)

    matched : StatesMatch setting state other → AreMatched setting state other
    matched match =
        let at = youngest_stands_at setting code.compiled state other match in
        let here = at.1 in
        let form = built (body_at here) (found_at here).of_set in
        by_op at.0 (all_contained (λ (x : ℕ × Op). is_built x.1 ≡ true) (body_at here).ops form.ops (here.frame.pc, at.0) (op_there (body_at here).ops here.frame.pc at.0 here.at)) here

  pub built_follows : SplitFollows setting
  built_follows = record { views = λ state other match. views-same setting state other match code.compiled; matches = λ state other match. matched state other match }
