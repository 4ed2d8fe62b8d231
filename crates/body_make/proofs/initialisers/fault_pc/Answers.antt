use Rattle.std.proofs.Common.{◌+◌, option_map, sym, ap, ◌∙◌}
use Rattle.std.proofs.lemmas.List.{take_rest}
use Rattle.jvm_model.specs.Initialisers.{fails_after_return}
use Rattle.body_make.specs.Pushes.{pushed_of}
use Rattle.body_make.proofs.Initialised.{code_ends, code_holds, code_returns, code_fails}
use Rattle.body_make.proofs.initialisers.fault_pc.Goals as goal

pub returns-in-Ok-Returns-clause-found : goal.returns-in-Ok-Returns-clause-found
returns-in-Ok-Returns-clause-found c =
    let goes = code_returns c.args.file.now c.args.end (option_map pushed_of c.loop-index.held) c.args.insns.now c.loop-index.index c.index-insns-index.result c.loop-index-test.true c.index-insns-index.is c.in-Ok-Returns.field-0 c.in-Ok-Returns.ensures.found c.in-Ok-Returns.field-0-is in
    c.first_pc.ensures ∙ ap fails_after_return (take_rest c.args.insns.now (c.loop-index.index + 1)) ∙ sym goes ∙ c.loop-index.invariant

pub returns-in-Ok-Fails-clause-found : goal.returns-in-Ok-Fails-clause-found
returns-in-Ok-Fails-clause-found c =
    sym (code_fails c.args.file.now c.args.end (option_map pushed_of c.loop-index.held) c.args.insns.now c.loop-index.index c.index-insns-index.result c.loop-index-test.true c.index-insns-index.is c.in-Ok-Fails.field-0 c.in-Ok-Fails.ensures.found c.in-Ok-Fails.field-0-is)
    ∙ c.loop-index.invariant

pub loop-index-preserved : goal.loop-index-preserved
loop-index-preserved c =
    sym (code_holds c.args.file.now c.args.end (option_map pushed_of c.loop-index.held) c.args.insns.now c.loop-index.index c.index-insns-index.result c.loop-index-test.true c.index-insns-index.is c.in-Ok-Holds.field-0 c.in-Ok-Holds.ensures.found c.in-Ok-Holds.pushed c.in-Ok-Holds.field-0-is)
    ∙ c.loop-index.invariant

pub returns-clause-found : goal.returns-clause-found
returns-clause-found c =
    sym (code_ends c.args.file.now c.args.end (option_map pushed_of c.loop-index.held) c.args.insns.now c.loop-index.index c.loop-index-test.false) ∙ c.loop-index.invariant
