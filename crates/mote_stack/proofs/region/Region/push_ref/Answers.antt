use Rattle.std.proofs.Common.{◌+◌, ◌-◌, ap, arith}
use Rattle.mote_stack.proofs.Changed.{seen, some_of_free, body_read, refs_read}
use Rattle.mote_stack.proofs.HalfWrites.{ref_pushed}
use Rattle.mote_stack.proofs.region.Region.push_ref.Goals as goal

pub overflow_sub-header : goal.overflow_sub-header
overflow_sub-header c =
    let s = seen c.self.inside c.args.self.now c.self.view_is c.self.invariant (some_of_free c.args.self.now 0 c.requires) in
    let body = body_read c.self.inside c.args.self.now c.from-header.result c.index.result.now c.from.result c.index-body.result.now s c.from-header.ensures c.index.ensures c.from.ensures c.index-body.ensures in
    let header = c.from-header.ensures in
    omega arith

pub invariant_of-self : goal.invariant_of-self
invariant_of-self c =
    let s = seen c.self.inside c.args.self.now c.self.view_is c.self.invariant (some_of_free c.args.self.now 0 c.requires) in
    let body = body_read c.self.inside c.args.self.now c.from-header.result c.index.result.now c.from.result c.index-body.result.now s c.from-header.ensures c.index.ensures c.from.ensures c.index-body.ensures in
    let header = c.from-header.ensures in
    let depth = refs_read c.self.inside c.args.self.now (c.from-header.result + 2) c.index-depth.result.now s (ap (λ n. n + 2) c.from-header.ensures) c.index-depth.ensures in
    (ref_pushed c.self.inside c.args.self.now (c.from-header.result - c.from-2.result + c.from-3.result) c.args.v (c.from-header.result + 2) (c.index-depth.result.now + 1) c.self.invariant s c.requires (omega arith) (omega arith) (omega arith)).1

pub returns : goal.returns
returns c =
    let s = seen c.self.inside c.args.self.now c.self.view_is c.self.invariant (some_of_free c.args.self.now 0 c.requires) in
    let body = body_read c.self.inside c.args.self.now c.from-header.result c.index.result.now c.from.result c.index-body.result.now s c.from-header.ensures c.index.ensures c.from.ensures c.index-body.ensures in
    let header = c.from-header.ensures in
    let depth = refs_read c.self.inside c.args.self.now (c.from-header.result + 2) c.index-depth.result.now s (ap (λ n. n + 2) c.from-header.ensures) c.index-depth.ensures in
    (ref_pushed c.self.inside c.args.self.now (c.from-header.result - c.from-2.result + c.from-3.result) c.args.v (c.from-header.result + 2) (c.index-depth.result.now + 1) c.self.invariant s c.requires (omega arith) (omega arith) (omega arith)).0
