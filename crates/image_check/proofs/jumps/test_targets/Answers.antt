use Rattle.std.proofs.Common.{◌≡◌, ◌∙◌, sym, ap, List, ℕ, get_or, inr, true, false}
use Rattle.std.specs.List.{list_all}
use Rattle.std.proofs.lemmas.Bool.{false≢true}
use Rattle.std.proofs.lemmas.List.Elements.{All-more, Contains-get_or}
use Rattle.image_check.specs.Code.{JumpsToStarts, targets_at}
use Rattle.image_check.specs.Listing.{is_start}
use Rattle.image_check.proofs.Passing.{all-kept}
use Rattle.image_check.proofs.Holding.{holds_at}
use Rattle.image_check.proofs.Starts.{nothing, all-found, all-passes}
use Rattle.image_check.proofs.jumps.test_targets.Goals as goal

pub jumps_to_starts-requires-clause-holds : goal.jumps_to_starts-requires-clause-holds
jumps_to_starts-requires-clause-holds c =
    let insns = c.args.insns.now in
    let x = get_or insns c.loop-x.x-index nothing in
    rw c.as_slice-code.ensures (holds_at c.args.method.now.code insns c.requires.code x (Contains-get_or insns c.loop-x.x-index nothing c.loop-x-test.true))

pub returns-then-not-jumps_to_starts-clause-refused : goal.returns-then-not-jumps_to_starts-clause-refused
returns-then-not-jumps_to_starts-clause-refused c = λ image.
    let insns = c.args.insns.now in
    let code = c.args.method.now.code in
    let x = get_or insns c.loop-x.x-index nothing in
    let fails : list_all (is_start insns) (targets_at code x) ≡ false =
    ap (λ (code : List ℕ). list_all (is_start insns) (targets_at code x)) (sym c.as_slice-code.ensures) ∙ sym c.jumps_to_starts.ensures ∙ c.if-not-jumps_to_starts.true in
    inr (record {
      insns = insns;
      insn = x.1;
      is_code = c.requires.code;
      stands = Contains-get_or insns c.loop-x.x-index nothing c.loop-x-test.true;
      is_not = λ jumps. false≢true (sym fails ∙ all-passes insns (targets_at code x) jumps);
    })

pub loop-x-preserved : goal.loop-x-preserved
loop-x-preserved c =
    let insns = c.args.insns.now in
    let code = c.args.method.now.code in
    let x = get_or insns c.loop-x.x-index nothing in
    let passes : list_all (is_start insns) (targets_at code x) ≡ true =
    ap (λ (code : List ℕ). list_all (is_start insns) (targets_at code x)) (sym c.as_slice-code.ensures) ∙ sym c.jumps_to_starts.ensures ∙ c.if-not-jumps_to_starts.false in
    All-more (JumpsToStarts code insns) insns c.loop-x.x-index nothing c.loop-x-test.true c.loop-x.invariant (all-found insns (targets_at code x) passes)

pub returns-clause-kept : goal.returns-clause-kept
returns-clause-kept c = all-kept (JumpsToStarts c.args.method.now.code c.args.insns.now) c.args.insns.now c.loop-x.x-index c.loop-x-test.false c.loop-x.invariant
