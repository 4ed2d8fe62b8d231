use Rattle.std.proofs.Common.{◌≡◌, ◌++◌, ◌∷◌, []}
use Rattle.std.proofs.lemmas.Result.{err_from_is_err_and}
use Rattle.image_form.specs.Reading.{items_at, interface_at}
use Rattle.image_form.proofs.format.Items.{goes_on, ends, is_done}
use Rattle.image_form.proofs.types.listed_interfaces.Goals as goal

pub returns-in_err-interface : goal.returns-in_err-interface
unfolding interface_at
returns-in_err-interface c =
    let p = err_from_is_err_and c.from_residual.result c.from_residual.ensures.1 in
    rw (p.1, p.2) (ends (interface_at c.args.types.now) c.in_err-interface.field-0.0 c.args.count c.loop.counter c.loop.interfaces.items c.loop.rest.now (items_at (interface_at c.args.types.now) c.args.count [] c.args.bytes.now) c.loop-test.true c.in_err-interface.ensures c.loop.invariant)

pub loop-preserved : goal.loop-preserved
unfolding interface_at
loop-preserved c =
    let pushed : c.push.new.self.items ≡ c.loop.interfaces.items ++ c.in_ok-interface.interface ∷ [] = c.in_ok-push.ensures.items in
    rw pushed (goes_on (interface_at c.args.types.now) c.args.count c.loop.counter c.loop.interfaces.items c.loop.rest.now c.in_ok-interface.interface c.in_ok-interface.after.now (items_at (interface_at c.args.types.now) c.args.count [] c.args.bytes.now) c.loop-test.true c.in_ok-interface.ensures c.loop.invariant)

pub returns : goal.returns
returns c = is_done (interface_at c.args.types.now) c.args.count c.loop.counter c.loop.interfaces.items c.loop.rest.now (items_at (interface_at c.args.types.now) c.args.count [] c.args.bytes.now) c.loop-test.false c.loop.invariant
