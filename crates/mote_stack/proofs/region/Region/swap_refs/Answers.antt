use Rattle.std.proofs.Common.{◌+◌, ◌-◌, length, refl, ap, arith}
use Rattle.mote_stack.specs.Frames.{youngest_frame, with_refs}
use Rattle.mote_stack.specs.Shuffles.{exchanged}
use Rattle.mote_stack.proofs.Changed.{seen, Becomes, some_of_ref, body_read, refs_read}
use Rattle.mote_stack.proofs.Shuffled.{exchanged_shuffles, refs_shuffled}
use Rattle.mote_stack.proofs.Copies.{swap_up}
use Rattle.mote_stack.proofs.region.Region.swap_refs.Goals as goal
use Rattle.mote_stack.proofs.region.Region.swap_refs.Goals.{After-rotate}

-- the fields after the exchange
exchanges : (c : goal.After-rotate) → Becomes (record c.self.inside { cells = c.rotate.new.cells }) (with_refs c.args.self.now (exchanged c.args.m c.args.n (youngest_frame c.args.self.now).refs))
exchanges c =
    let s = seen c.self.inside c.args.self.now c.self.view_is c.self.invariant (some_of_ref c.args.self.now 0 (omega (arith, c.requires.some, c.requires.there))) in
    let body = body_read c.self.inside c.args.self.now c.from-header.result c.index.result.now c.from.result c.index-body.result.now s c.from-header.ensures c.index.ensures c.from.ensures c.index-body.ensures in
    let depth = refs_read c.self.inside c.args.self.now (c.from-header.result + 2) c.index-depth.result.now s (ap (λ n. n + 2) c.from-header.ensures) c.index-depth.ensures in
    let shuffled = exchanged_shuffles c.args.m c.args.n (youngest_frame c.args.self.now).refs c.requires.there in
    refs_shuffled c.self.inside (record c.self.inside { cells = c.rotate.new.cells }) c.args.self.now (exchanged c.args.m c.args.n (youngest_frame c.args.self.now).refs) c.args.m c.args.n (length (youngest_frame c.args.self.now).refs) c.self.invariant s (record { bodies = refl; used = refl; count = refl; youngest = refl; len = c.rotate.ensures.len }) shuffled.0 shuffled.1 (omega arith)
    (swap_up c.self.inside (record c.self.inside { cells = c.rotate.new.cells }) c.args.self.now c.args.m c.args.n (length (youngest_frame c.args.self.now).refs)
    ((c.from-header.result - c.from-2.result + c.from-3.result) - c.from-4.result - c.from-5.result) (c.from-header.result - c.from-2.result + c.from-3.result) c.from-6.result s
    (omega arith) (omega arith) (omega arith) (omega arith) (omega arith) c.rotate.ensures.rotated)

pub invariant_of-self : goal.invariant_of-self
invariant_of-self c = (exchanges (goal.at.invariant_of-self c).After-rotate).1

pub returns : goal.returns
returns c = (exchanges (goal.at.returns c).After-rotate).0
