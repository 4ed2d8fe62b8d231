use Rattle.std.proofs.Common.{◌+◌, ap}
use Rattle.mote_stack.proofs.Changed.{seen}
use Rattle.mote_stack.proofs.HalfWrites.{pc_written}
use Rattle.mote_stack.proofs.region.Region.set_pc.Goals as goal

pub invariant_of-self : goal.invariant_of-self
invariant_of-self c =
    (pc_written c.self.inside c.args.self.now (c.from.result + 1) c.args.pc c.self.invariant (seen c.self.inside c.args.self.now c.self.view_is c.self.invariant c.requires) (ap (λ n. n + 1) c.from.ensures)).1

pub returns : goal.returns
returns c =
    (pc_written c.self.inside c.args.self.now (c.from.result + 1) c.args.pc c.self.invariant (seen c.self.inside c.args.self.now c.self.view_is c.self.invariant c.requires) (ap (λ n. n + 1) c.from.ensures)).0
