use Rattle.std.proofs.Common.{◌≡◌, ◌++◌, ◌∷◌, [], length, sym}
use Rattle.std.proofs.lemmas.Result.{err_from_is_err_and}
use Rattle.class_pool.specs.DescriptorReading.{params_at}
use Rattle.class_pool.proofs.descriptors.Parameters.{loop_goes_on, loop_closes, loop_fails, loop_ends}
use Rattle.class_pool.proofs.methods.params_at.Goals as goal

pub returns-in-Some : goal.returns-in-Some
returns-in-Some c =
    let text = c.args.text.now in
    loop_closes c.loop.params.items (length text) c.loop.counter c.loop.rest.now c.in-Some.suffix.now (params_at (length text) text) c.loop-test.true (sym c.in-Some.ensures) c.loop.invariant

pub returns-in_err-kind : goal.returns-in_err-kind
returns-in_err-kind c =
    let text = c.args.text.now in
    let p = err_from_is_err_and c.from_residual.result c.from_residual.ensures.1 in
    rw (p.1, p.2) (loop_fails c.in_err-kind.field-0.0 c.loop.params.items (length text) c.loop.counter c.loop.rest.now (params_at (length text) text) c.loop-test.true (sym c.in_default.ensures) c.in_err-kind.ensures c.loop.invariant)

pub loop-preserved : goal.loop-preserved
loop-preserved c =
    let text = c.args.text.now in
    let kind = c.in_ok-kind.kind in
    let pushed : c.push.new.self.items ≡ c.loop.params.items ++ kind ∷ [] = c.in_ok-push.ensures.items in
    rw pushed (loop_goes_on c.loop.params.items (length text) c.loop.counter c.loop.rest.now kind c.in_ok-kind.suffix.now (params_at (length text) text) c.loop-test.true (sym c.in_default.ensures) c.in_ok-kind.ensures c.loop.invariant)

pub returns : goal.returns
returns c =
    let text = c.args.text.now in
    loop_ends c.loop.params.items (length text) c.loop.counter c.loop.rest.now (params_at (length text) text) c.loop-test.false c.loop.invariant
