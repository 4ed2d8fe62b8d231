use Rattle.std.proofs.Common.{◌-◌, ap}
use Rattle.mote_stack.proofs.Changed.{seen, body_read}
use Rattle.mote_stack.proofs.Calls.{popped}
use Rattle.mote_stack.proofs.region.Region.pop_frame.Goals as goal

pub returns : goal.returns
returns c =
    let s = seen c.self.inside c.args.self.now c.self.view_is c.self.invariant c.requires in
    let body = body_read c.self.inside c.args.self.now c.from-header.result c.index.result.now c.from.result c.index-2.result.now s c.from-header.ensures c.index.ensures c.from.ensures c.index-2.ensures in
    popped c.self.inside c.args.self.now (c.self.inside.youngest - c.index-2.result.now) c.saturating_sub-self-inside.result s (ap (λ b. c.self.inside.youngest - b) body)
