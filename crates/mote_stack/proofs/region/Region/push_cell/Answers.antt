use Rattle.std.proofs.Common.{◌+◌, ◌-◌, ap, arith}
use Rattle.mote_stack.proofs.Changed.{seen, some_of_free, cells_read}
use Rattle.mote_stack.proofs.HalfWrites.{cell_pushed}
use Rattle.mote_stack.proofs.region.Region.push_cell.Goals as goal

pub invariant_of-self : goal.invariant_of-self
invariant_of-self c =
    let s = seen c.self.inside c.args.self.now c.self.view_is c.self.invariant (some_of_free c.args.self.now 0 c.requires) in
    let header = c.from-header.ensures in
    let depth = cells_read c.self.inside c.args.self.now (c.from-header.result + 3) c.index-depth.result.now s (ap (λ n. n + 3) c.from-header.ensures) c.index-depth.ensures in
    (cell_pushed c.self.inside c.args.self.now (c.from-header.result - 1 - c.from.result) c.args.v (c.from-header.result + 3) (c.index-depth.result.now + 1) c.self.invariant s c.requires (omega arith) (omega arith) (omega arith)).1

pub returns : goal.returns
returns c =
    let s = seen c.self.inside c.args.self.now c.self.view_is c.self.invariant (some_of_free c.args.self.now 0 c.requires) in
    let header = c.from-header.ensures in
    let depth = cells_read c.self.inside c.args.self.now (c.from-header.result + 3) c.index-depth.result.now s (ap (λ n. n + 3) c.from-header.ensures) c.index-depth.ensures in
    (cell_pushed c.self.inside c.args.self.now (c.from-header.result - 1 - c.from.result) c.args.v (c.from-header.result + 3) (c.index-depth.result.now + 1) c.self.invariant s c.requires (omega arith) (omega arith) (omega arith)).0
