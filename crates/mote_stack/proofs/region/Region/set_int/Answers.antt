use Rattle.std.proofs.Common.{◌-◌, arith}
use Rattle.mote_stack.proofs.Changed.{seen, some_of_cell}
use Rattle.mote_stack.proofs.HalfWrites.{cell_set}
use Rattle.mote_stack.proofs.region.Region.set_int.Goals as goal

pub invariant_of-self : goal.invariant_of-self
invariant_of-self c =
    let s = seen c.self.inside c.args.self.now c.self.view_is c.self.invariant (some_of_cell c.args.self.now c.args.n c.requires) in
    let header = c.from-header.ensures in
    (cell_set c.self.inside c.args.self.now (c.from-header.result - 1 - c.from.result) c.args.n c.args.v c.self.invariant s c.requires (omega arith)).1

pub returns : goal.returns
returns c =
    let s = seen c.self.inside c.args.self.now c.self.view_is c.self.invariant (some_of_cell c.args.self.now c.args.n c.requires) in
    let header = c.from-header.ensures in
    (cell_set c.self.inside c.args.self.now (c.from-header.result - 1 - c.from.result) c.args.n c.args.v c.self.invariant s c.requires (omega arith)).0
