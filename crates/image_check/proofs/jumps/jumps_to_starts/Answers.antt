use Rattle.std.proofs.Common.{◌≡◌, ◌<◌, ◌≤◌, length, get_or, true, false, sym, ap, ◌∙◌, arith}
use Rattle.std.proofs.Common.{drop}
use Rattle.image_check.specs.Code.{targets_at}
use Rattle.image_check.specs.Listing.{is_start}
use Rattle.image_check.proofs.Passing.{all-here, all-more, all-end}
use Rattle.image_check.proofs.Targets.{count_is}
use Rattle.image_check.proofs.jumps.jumps_to_starts.Goals as goal

pub returns-then-not-is_start : goal.returns-then-not-is_start
returns-then-not-is_start c =
    let test = is_start c.args.insns.now in
    let targets = targets_at c.args.code.now (c.args.pc, c.args.insn) in
    let within : c.loop-index.index < length targets = omega (arith, count_is c.args.insn (drop c.args.pc c.args.code.now), c.target_count-index-end.ensures.value) in
    let fails : test (get_or targets c.loop-index.index 0) ≡ false = ap test (sym c.target.ensures) ∙ sym c.is_start.ensures ∙ c.if-not-is_start.true in
    sym (all-here test targets c.loop-index.index 0 within fails) ∙ c.loop-index.invariant

pub loop-index-preserved : goal.loop-index-preserved
loop-index-preserved c =
    let test = is_start c.args.insns.now in
    let targets = targets_at c.args.code.now (c.args.pc, c.args.insn) in
    let within : c.loop-index.index < length targets = omega (arith, count_is c.args.insn (drop c.args.pc c.args.code.now), c.target_count-index-end.ensures.value) in
    let passes : test (get_or targets c.loop-index.index 0) ≡ true = ap test (sym c.target.ensures) ∙ sym c.is_start.ensures ∙ c.if-not-is_start.false in
    all-more test targets c.loop-index.index 0 within passes ∙ c.loop-index.invariant

pub returns : goal.returns
returns c =
    let test = is_start c.args.insns.now in
    let targets = targets_at c.args.code.now (c.args.pc, c.args.insn) in
    let past : length targets ≤ c.loop-index.index = omega (arith, count_is c.args.insn (drop c.args.pc c.args.code.now), c.target_count-index-end.ensures.value) in
    sym (all-end test targets c.loop-index.index past) ∙ c.loop-index.invariant
