use Rattle.std.proofs.Common.{◌≡◌, ◌++◌, ◌∷◌, []}
use Rattle.std.proofs.lemmas.Result.{err_from_is_err_and}
use Rattle.image_form.specs.Reading.{items_at, handler_at}
use Rattle.image_form.proofs.format.Items.{goes_on, ends, is_done}
use Rattle.image_form.proofs.methods.listed_handlers.Goals as goal

pub returns-in_err-handler : goal.returns-in_err-handler
returns-in_err-handler c =
    let p = err_from_is_err_and c.from_residual.result c.from_residual.ensures.1 in
    rw (p.1, p.2) (ends (handler_at c.args.types.now c.args.index) c.in_err-handler.field-0.0 c.args.count c.loop.counter c.loop.handlers.items c.loop.rest.now (items_at (handler_at c.args.types.now c.args.index) c.args.count [] c.args.bytes.now) c.loop-test.true (rw c.as_slice.ensures.value at c.in_err-handler.ensures) c.loop.invariant)

pub loop-preserved : goal.loop-preserved
loop-preserved c =
    let pushed : c.push.new.self.items ≡ c.loop.handlers.items ++ c.in_ok-handler.handler ∷ [] = c.in_ok-push.ensures.items in
    rw pushed (goes_on (handler_at c.args.types.now c.args.index) c.args.count c.loop.counter c.loop.handlers.items c.loop.rest.now c.in_ok-handler.handler c.in_ok-handler.after.now (items_at (handler_at c.args.types.now c.args.index) c.args.count [] c.args.bytes.now) c.loop-test.true (rw c.as_slice.ensures.value at c.in_ok-handler.ensures) c.loop.invariant)

pub returns : goal.returns
returns c = is_done (handler_at c.args.types.now c.args.index) c.args.count c.loop.counter c.loop.handlers.items c.loop.rest.now (items_at (handler_at c.args.types.now c.args.index) c.args.count [] c.args.bytes.now) c.loop-test.false c.loop.invariant
