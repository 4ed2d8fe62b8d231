use Rattle.std.proofs.Common.{length, sym}
use Rattle.class_pool.specs.DescriptorReading.{suffix_of, params_at}
use Rattle.class_pool.proofs.descriptors.Skips.{skip_goes_on, skip_closes, skip_fails, skip_ends}
use Rattle.class_pool.proofs.scan.skip_params.Goals as goal

pub returns-in-Some : goal.returns-in-Some
returns-in-Some c =
    let text = c.args.text.now in
    sym (skip_closes (length text) c.loop.counter c.loop.rest.now c.in-Some.suffix.now (suffix_of (params_at (length text) text)) c.loop-test.true (sym c.in-Some.ensures) c.loop.invariant)

pub returns-in-None : goal.returns-in-None
returns-in-None c =
    let text = c.args.text.now in
    sym (skip_fails (length text) c.loop.counter c.loop.rest.now (suffix_of (params_at (length text) text)) c.loop-test.true (sym c.in_default.ensures) (sym c.in-None.ensures) c.loop.invariant)

pub loop-preserved : goal.loop-preserved
loop-preserved c =
    let text = c.args.text.now in
    skip_goes_on (length text) c.loop.counter c.loop.rest.now c.in-Some-skip_kind.suffix.now (suffix_of (params_at (length text) text)) c.loop-test.true (sym c.in_default.ensures) (sym c.in-Some-skip_kind.ensures) c.loop.invariant

pub returns : goal.returns
returns c =
    let text = c.args.text.now in
    sym (skip_ends (length text) c.loop.counter c.loop.rest.now (suffix_of (params_at (length text) text)) c.loop-test.false c.loop.invariant)
