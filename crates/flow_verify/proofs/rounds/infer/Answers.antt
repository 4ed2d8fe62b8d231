-- Each round goes on from what holds before it.
use Rattle.std.proofs.Common.{vec_len, ◌≡◌, ℕ, ◌<◌, List, [], length, add-one, sym, subst, ◌∙◌, arith}
use Rattle.std.specs.List.{AllByRecursion}
use Rattle.std.proofs.lemmas.List.{nil_from_length}
use Rattle.std.proofs.lemmas.Bool.{eqb-true}
use Rattle.flow_verify.proofs.waves.RoundSteps.{IsBefore, before_all, failing_is, before_then, quiet_round, quiet_frames}
use Rattle.flow_verify.proofs.rounds.infer.Goals as goal

pub loop-round-init : goal.loop-round-init
loop-round-init c = before_all c.args.set.now c.args.body.now c.in_ok-first.first.frames c.in_ok-first.first.wave.items c.in_ok-first.ensures

pub one_round-requires-clause-wave : goal.one_round-requires-clause-wave
one_round-requires-clause-wave c = subst (λ (list : List ℕ). AllByRecursion (λ position. position < length c.args.body.now.ops) list) (sym c.as_slice.ensures.value) c.loop-round.invariant.within

pub returns-in-Some : goal.returns-in-Some
returns-in-Some c =
    failing_is c.args.set.now c.requires.closed c.args.body.now c.requires.names c.loop-round.round c.loop-round.frames c.one_round.new.frames c.as_slice.result.now c.in-Ok.step.wave.items c.in-Ok.step.failing
    (subst (IsBefore c.args.set.now c.args.body.now c.loop-round.round c.loop-round.frames) (sym c.as_slice.ensures.value) c.loop-round.invariant) c.in-Ok.ensures c.in-Some.pc c.in-Some.is

pub returns-then-is_empty : goal.returns-then-is_empty
returns-then-is_empty c =
    let files = c.args.set.now in
    let body = c.args.body.now in
    let round = c.loop-round.round in
    let frames = c.loop-round.frames in
    let after = c.one_round.new.frames in
    let wave = c.as_slice.result.now in
    let before = subst (IsBefore files body round frames) (sym c.as_slice.ensures.value) c.loop-round.invariant in
    let empty = eqb-true (vec_len c.in-Ok.step.wave) 0 (sym c.is_empty.ensures ∙ c.if-is_empty.true) in
    let next : c.in-Ok.step.wave.items ≡ [] = nil_from_length c.in-Ok.step.wave.items (omega (arith, empty, c.in-Ok.step.wave.ok.0)) in (
      round,
      quiet_round files c.requires.closed body c.requires.names round frames after wave c.in-Ok.step.wave.items c.in-Ok.step.failing before c.in-Ok.ensures c.in_default.is next,
      quiet_frames files c.requires.closed body c.requires.names round frames after wave c.in-Ok.step.wave.items c.in-Ok.step.failing before c.in-Ok.ensures c.in_default.is next,
    )

pub loop-round-preserved : goal.loop-round-preserved
loop-round-preserved c =
    let files = c.args.set.now in
    let body = c.args.body.now in
    let round = c.loop-round.round in
    let frames = c.loop-round.frames in
    let after = c.one_round.new.frames in
    let wave = c.as_slice.result.now in
    let before = subst (IsBefore files body round frames) (sym c.as_slice.ensures.value) c.loop-round.invariant in
    subst (λ n. IsBefore files body n after c.in-Ok.step.wave.items) (sym (add-one round))
    (before_then files c.requires.closed body c.requires.names round frames after wave c.in-Ok.step.wave.items c.in-Ok.step.failing before c.in-Ok.ensures c.in_default.is)
