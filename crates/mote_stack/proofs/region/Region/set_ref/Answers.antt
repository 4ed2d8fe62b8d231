use Rattle.std.proofs.Common.{◌+◌, ◌-◌, arith}
use Rattle.mote_stack.proofs.Changed.{seen, some_of_ref, body_read}
use Rattle.mote_stack.proofs.HalfWrites.{ref_set}
use Rattle.mote_stack.proofs.region.Region.set_ref.Goals as goal

pub overflow_sub-header : goal.overflow_sub-header
overflow_sub-header c =
    let s = seen c.self.inside c.args.self.now c.self.view_is c.self.invariant (some_of_ref c.args.self.now c.args.n c.requires) in
    let body = body_read c.self.inside c.args.self.now c.from-header.result c.index.result.now c.from.result c.index-body.result.now s c.from-header.ensures c.index.ensures c.from.ensures c.index-body.ensures in
    let header = c.from-header.ensures in
    omega arith

pub index_mut-requires : goal.index_mut-requires
index_mut-requires c =
    let s = seen c.self.inside c.args.self.now c.self.view_is c.self.invariant (some_of_ref c.args.self.now c.args.n c.requires) in
    let body = body_read c.self.inside c.args.self.now c.from-header.result c.index.result.now c.from.result c.index-body.result.now s c.from-header.ensures c.index.ensures c.from.ensures c.index-body.ensures in
    let header = c.from-header.ensures in
    omega arith

pub invariant_of-self : goal.invariant_of-self
invariant_of-self c =
    let s = seen c.self.inside c.args.self.now c.self.view_is c.self.invariant (some_of_ref c.args.self.now c.args.n c.requires) in
    let body = body_read c.self.inside c.args.self.now c.from-header.result c.index.result.now c.from.result c.index-body.result.now s c.from-header.ensures c.index.ensures c.from.ensures c.index-body.ensures in
    let header = c.from-header.ensures in
    (ref_set c.self.inside c.args.self.now (c.from-header.result - c.from-2.result + c.from-3.result) c.args.n c.args.v c.self.invariant s c.requires (omega arith)).1

pub returns : goal.returns
returns c =
    let s = seen c.self.inside c.args.self.now c.self.view_is c.self.invariant (some_of_ref c.args.self.now c.args.n c.requires) in
    let body = body_read c.self.inside c.args.self.now c.from-header.result c.index.result.now c.from.result c.index-body.result.now s c.from-header.ensures c.index.ensures c.from.ensures c.index-body.ensures in
    let header = c.from-header.ensures in
    (ref_set c.self.inside c.args.self.now (c.from-header.result - c.from-2.result + c.from-3.result) c.args.n c.args.v c.self.invariant s c.requires (omega arith)).0
