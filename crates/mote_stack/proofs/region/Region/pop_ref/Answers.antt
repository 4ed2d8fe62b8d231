use Rattle.std.proofs.Common.{◌≡◌, ◌+◌, ◌-◌, get_or, length, take, ap, sym, ◌∙◌, arith}
use Rattle.std.proofs.lemmas.List.{get_or_read}
use Rattle.mote_stack.specs.Frames.{youngest_frame, with_refs}
use Rattle.mote_stack.specs.Layout.{base_of}
use Rattle.mote_stack.proofs.Changed.{seen, Becomes, some_of_ref, body_read, refs_read}
use Rattle.mote_stack.proofs.HalfWrites.{put, refs_cut}
use Rattle.mote_stack.proofs.region.Region.pop_ref.Goals as goal
use Rattle.mote_stack.proofs.region.Region.pop_ref.Goals.{After-index_mut}

pub overflow_sub-header : goal.overflow_sub-header
overflow_sub-header c =
    let s = seen c.self.inside c.args.self.now c.self.view_is c.self.invariant (some_of_ref c.args.self.now 0 c.requires) in
    let body = body_read c.self.inside c.args.self.now c.from-header.result c.index.result.now c.from.result c.index-body.result.now s c.from-header.ensures c.index.ensures c.from.ensures c.index-body.ensures in
    omega arith

pub returns-clause-value : goal.returns-clause-value
returns-clause-value c =
    let s = seen c.self.inside c.args.self.now c.self.view_is c.self.invariant (some_of_ref c.args.self.now 0 c.requires) in
    let body = body_read c.self.inside c.args.self.now c.from-header.result c.index.result.now c.from.result c.index-body.result.now s c.from-header.ensures c.index.ensures c.from.ensures c.index-body.ensures in
    let depth = refs_read c.self.inside c.args.self.now (c.from-header.result + 2) c.index-2.result.now s (ap (λ n. n + 2) c.from-header.ensures) c.index-2.ensures in
    let at : c.from-header.result - c.from-2.result + c.from-3.result ≡ base_of c.self.inside.bodies.items c.self.inside.cells.items c.self.inside.youngest + (length (youngest_frame c.args.self.now).refs - 1) = omega arith in
    get_or_read c.self.inside.cells.items (c.from-header.result - c.from-2.result + c.from-3.result) c.index-v.result.now (omega arith) c.index-v.ensures 0
    ∙ (ap (λ k. get_or c.self.inside.cells.items k 0) at ∙ sym (s.refs_at (length (youngest_frame c.args.self.now).refs - 1) (omega arith)))

-- the fields after the new number of items is written
pops : (c : goal.After-index_mut) → Becomes (put c.self.inside (c.from-header.result + 2) (c.index-2.result.now - 1)) (with_refs c.args.self.now (take (length (youngest_frame c.args.self.now).refs - 1) (youngest_frame c.args.self.now).refs))
pops c =
    let s = seen c.self.inside c.args.self.now c.self.view_is c.self.invariant (some_of_ref c.args.self.now 0 c.requires) in
    let body = body_read c.self.inside c.args.self.now c.from-header.result c.index.result.now c.from.result c.index-body.result.now s c.from-header.ensures c.index.ensures c.from.ensures c.index-body.ensures in
    let depth = refs_read c.self.inside c.args.self.now (c.from-header.result + 2) c.index-2.result.now s (ap (λ n. n + 2) c.from-header.ensures) c.index-2.ensures in
    refs_cut c.self.inside c.args.self.now (c.from-header.result + 2) (c.index-2.result.now - 1) (length (youngest_frame c.args.self.now).refs - 1) c.self.invariant s (omega arith) (omega arith) (omega arith)

pub invariant_of-self : goal.invariant_of-self
invariant_of-self c = (pops (goal.at.invariant_of-self c).After-index_mut).1

pub returns-clause-after : goal.returns-clause-after
returns-clause-after c = (pops (goal.at.returns-clause-after c).After-index_mut).0
