use Rattle.std.proofs.Common.{◌+◌, length}
use Rattle.std.specs.Option.{option_or}
use Rattle.jvm_model.specs.ImageLimits.{excess}
use Rattle.infuse_ids.specs.Orders.{methods_over, selectors_over, types_over}
use Rattle.infuse_ids.proofs.LargeObjects.{refuses_first, refuses_later}
use Rattle.infuse_ids.proofs.numbering.lists.Goals as goal

pub returns-in-Err-clause-refused : goal.returns-in-Err-clause-refused
returns-in-Err-clause-refused c =
    let selectors = excess 3 (length (selectors_over c.args.set.now c.args.order.now)) 16384 in
    let methods = excess 4 (32 + length (methods_over c.args.order.now c.args.bodies.now)) 16384 in
    refuses_first (excess 2 (32 + length (types_over c.args.order.now c.args.bodies.now)) 4096) (option_or selectors methods) c.in-Err.why c.in-Err.ensures.refused

pub returns-in-Err-selectors-clause-refused : goal.returns-in-Err-selectors-clause-refused
returns-in-Err-selectors-clause-refused c =
    let selectors = excess 3 (length (selectors_over c.args.set.now c.args.order.now)) 16384 in
    let methods = excess 4 (32 + length (methods_over c.args.order.now c.args.bodies.now)) 16384 in
    refuses_later (excess 2 (32 + length (types_over c.args.order.now c.args.bodies.now)) 4096) (option_or selectors methods) c.in-Err-selectors.why c.in-Ok.ensures.within
    (refuses_first selectors methods c.in-Err-selectors.why c.in-Err-selectors.ensures.refused)

pub returns-in-Err-methods-clause-refused : goal.returns-in-Err-methods-clause-refused
returns-in-Err-methods-clause-refused c =
    let selectors = excess 3 (length (selectors_over c.args.set.now c.args.order.now)) 16384 in
    let methods = excess 4 (32 + length (methods_over c.args.order.now c.args.bodies.now)) 16384 in
    refuses_later (excess 2 (32 + length (types_over c.args.order.now c.args.bodies.now)) 4096) (option_or selectors methods) c.in-Err-methods.why c.in-Ok.ensures.within
    (refuses_later selectors methods c.in-Err-methods.why c.in-Ok-selectors.ensures.within c.in-Err-methods.ensures.refused)
