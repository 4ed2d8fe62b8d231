-- Calls of static methods fit.
use Rattle.std.proofs.Common.{◌≡◌, ℕ, ◌+◌, ◌≤◌, true, false, nat_lt, inl, inr, [], length, drop, Some, if◌then◌else◌, refl, sym, subst, arith}
use Rattle.std.proofs.lemmas.Bool.{le-ltb}
use Rattle.account.specs.Account.{Stuck}
use Rattle.body_form.specs.declared.op.MethodUse.{MethodUse}
use Rattle.body_form.specs.declared.op.Op.{Op}
use Rattle.body_form.specs.declared.op.Op.TheVariants as op
use Rattle.body_form.specs.declared.types.VType.{VType}
use Rattle.class_tree.specs.MergeLaws.{IsKnown}
use Rattle.jvm_model.specs.Bodies.{AreEach}
use Rattle.jvm_model.specs.State.{Value}
use Rattle.jvm_model.specs.TypesFrames.{fits_kind}
use Rattle.jvm_model.specs.TypesRules.{takes, argument_tests, result_of}
use Rattle.typed_machine.specs.TypedCalls.{arguments_of, argument_count, runs}
use Rattle.typed_machine.specs.TypedMoves.{TypedMove}
use Rattle.typed_machine.specs.TypedWorld.{World, pc_after}
use Rattle.type_safety.specs.Facts.{Runs}
use Rattle.type_safety.specs.Fitting.{Tables, ValueFits, KindFits}
use Rattle.type_safety.specs.Safety.{MoveFits}
use Rattle.type_safety.proofs.moves.Arguments.{takes_parts, takes_enough, tests_length, arguments_taken}
use Rattle.type_safety.proofs.moves.CallParts.{CallRule, call_rule, CallsFrom, calls_from, body_starts, static_arguments}
use Rattle.type_safety.proofs.fitting.EachLists.{each_length, each_drop, each_with}
use Rattle.type_safety.proofs.moves.GoingOn.{RuleParts, rule_parts, facts_of}
use Rattle.type_safety.proofs.moves.Lemmas.{MoveLemma, StartingFits}
use Rattle.type_safety.proofs.moves.NativeMoves.{static_native_runs}

unless_less : (world : World) (tables : Tables) (m n : ℕ) (move : TypedMove) → n ≤ m → MoveFits world tables move → MoveFits world tables (if nat_lt m n then Stuck else move)
unless_less world tables m n move le fits = subst (λ b. MoveFits world tables (if b then Stuck else move)) (sym (le-ltb m n le)) fits

pub call_static_fits : StartingFits → (used : MethodUse) → MoveLemma (op.CallStatic used)
call_static_fits starting used parts world tables set state frame others same fits body types after stands typed =
    unless_less world tables (length frame.operands) (argument_count used)
    (runs world state frame others (pc_after body.ops frame.pc) used.method (arguments_of used frame.operands) (drop (argument_count used) frame.operands)) enough (run named)
  where
    Fits : Value → VType → Type 0
    Fits = ValueFits world state.objects body

    instruction : Op
    instruction = op.CallStatic used

    change : RuleParts world.files body frame.pc instruction types after
    change = rule_parts world.files body frame.pc instruction types after stands.rule

    rule : CallRule world.files types used [] change.change
    rule = call_rule world.files types used [] change.change change.is

    tests : takes (argument_tests world.files used) types.stack ≡ true
    tests = (takes_parts (argument_tests world.files used) [] types.stack rule.taken).0

    enough : argument_count used ≤ length frame.operands
    enough =
        let there = takes_enough (argument_tests world.files used) types.stack tests in
        let count = tests_length (fits_kind world.files) used.descriptor.params in
        let long = each_length Fits frame.operands types.stack typed.operands in
        omega arith

    arguments : AreEach (KindFits world state.objects) used.descriptor.params (arguments_of used frame.operands)
    arguments =
        arguments_taken world state.objects set.closed fits.objects body used.descriptor.params frame.operands types.stack
        (each_with Fits (IsKnown world.files) frame.operands types.stack typed.operands stands.of_set.stack) tests

    none_more : argument_count used ≡ length used.descriptor.params + 0
    none_more = omega arith

    calls : CallsFrom starting parts world tables set state frame others same fits body types after instruction stands typed (drop (argument_count used) frame.operands)
    calls =
        calls_from starting parts world tables set state frame others same fits body types after instruction stands typed used [] change.change change.is rule (drop (argument_count used) frame.operands)
        (subst (λ n. AreEach Fits (drop (argument_count used) frame.operands) (drop n types.stack)) none_more (each_drop Fits (argument_count used) frame.operands types.stack typed.operands))

    named : Runs world used.method used false
    named = (facts_of world tables set frame.method body stands.found).named frame.pc instruction stands.at

    run : Runs world used.method used false
        → MoveFits world tables (runs world state frame others (pc_after body.ops frame.pc) used.method (arguments_of used frame.operands) (drop (argument_count used) frame.operands))
    run (inl native) =
        static_native_runs starting parts world tables set state frame others same fits body types after instruction stands typed refl used used.method native arguments calls
        (subst (λ c. result_of world.files used.descriptor.result ≡ Some c.pushes) rule.is rule.result)
        (arguments_of used frame.operands) (drop (argument_count used) frame.operands)
    run (inr with_body) =
        body_starts starting parts world tables set state frame others same fits body types after instruction stands typed used refl used.method false with_body
        (arguments_of used frame.operands) (drop (argument_count used) frame.operands) calls
        (static_arguments world state.objects used.method used with_body (arguments_of used frame.operands) arguments)
