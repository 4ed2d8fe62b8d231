use Rattle.std.proofs.Common.{◌+◌, ap}
use Rattle.mote_stack.proofs.Calls.{both_cut}
use Rattle.mote_stack.proofs.region.Region.trim.Goals as goal

pub invariant_of-self : goal.invariant_of-self
invariant_of-self c =
    (both_cut c.self.inside c.args.self.now (c.from-header.result + 2) c.args.refs (c.from-header.result + 3) c.args.cells c.self.view_is c.self.invariant c.requires.refs c.requires.cells (ap (λ n. n + 2) c.from-header.ensures) (ap (λ n. n + 3) c.from-header.ensures)).1

pub returns : goal.returns
returns c =
    (both_cut c.self.inside c.args.self.now (c.from-header.result + 2) c.args.refs (c.from-header.result + 3) c.args.cells c.self.view_is c.self.invariant c.requires.refs c.requires.cells (ap (λ n. n + 2) c.from-header.ensures) (ap (λ n. n + 3) c.from-header.ensures)).0
