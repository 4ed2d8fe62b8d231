use Rattle.std.proofs.Common.{◌+◌, ◌-◌, length, refl, ap, sym, ◌∙◌, arith}
use Rattle.mote_stack.specs.Frames.{youngest_frame, with_refs}
use Rattle.mote_stack.specs.Shuffles.{duplicated}
use Rattle.mote_stack.proofs.Changed.{seen, Becomes, some_of_ref, body_read, refs_read}
use Rattle.mote_stack.proofs.Shuffled.{duplicated_shuffles, refs_shuffled}
use Rattle.mote_stack.proofs.Copies.{dup_up}
use Rattle.mote_stack.proofs.region.Region.dupx_refs.Goals as goal
use Rattle.mote_stack.proofs.region.Region.dupx_refs.Goals.{After-index_mut}
use Rattle.std.specs.Vec.{with_item}

pub copy_within-requires-2-clause-in_bounds : goal.copy_within-requires-2-clause-in_bounds
copy_within-requires-2-clause-in_bounds c =
    let s = seen c.self.inside c.args.self.now c.self.view_is c.self.invariant (some_of_ref c.args.self.now 0 (omega (arith, c.requires.some, c.requires.there))) in
    let body = body_read c.self.inside c.args.self.now c.from-header.result c.index.result.now c.from.result c.index-body.result.now s c.from-header.ensures c.index.ensures c.from.ensures c.index-body.ensures in
    let depth = refs_read c.self.inside c.args.self.now (c.from-header.result + 2) c.index-depth.result.now s (ap (λ n. n + 2) c.from-header.ensures) c.index-depth.ensures in
    omega arith

pub copy_within-requires-2-clause-dest_in_bounds : goal.copy_within-requires-2-clause-dest_in_bounds
copy_within-requires-2-clause-dest_in_bounds c =
    let s = seen c.self.inside c.args.self.now c.self.view_is c.self.invariant (some_of_ref c.args.self.now 0 (omega (arith, c.requires.some, c.requires.there))) in
    let body = body_read c.self.inside c.args.self.now c.from-header.result c.index.result.now c.from.result c.index-body.result.now s c.from-header.ensures c.index.ensures c.from.ensures c.index-body.ensures in
    let depth = refs_read c.self.inside c.args.self.now (c.from-header.result + 2) c.index-depth.result.now s (ap (λ n. n + 2) c.from-header.ensures) c.index-depth.ensures in
    omega arith

pub overflow_add-depth : goal.overflow_add-depth
overflow_add-depth c =
    let s = seen c.self.inside c.args.self.now c.self.view_is c.self.invariant (some_of_ref c.args.self.now 0 (omega (arith, c.requires.some, c.requires.there))) in
    let body = body_read c.self.inside c.args.self.now c.from-header.result c.index.result.now c.from.result c.index-body.result.now s c.from-header.ensures c.index.ensures c.from.ensures c.index-body.ensures in
    let depth = refs_read c.self.inside c.args.self.now (c.from-header.result + 2) c.index-depth.result.now s (ap (λ n. n + 2) c.from-header.ensures) c.index-depth.ensures in
    omega arith

-- the fields after both copies and the new number of items
duplicates : (c : goal.After-index_mut) → Becomes (record c.self.inside { cells = with_item c.copy_within-2.new.self (c.from-header.result + 2) (c.index-depth.result.now + c.args.m) }) (with_refs c.args.self.now (duplicated c.args.m c.args.n (youngest_frame c.args.self.now).refs))
duplicates c =
    let s = seen c.self.inside c.args.self.now c.self.view_is c.self.invariant (some_of_ref c.args.self.now 0 (omega (arith, c.requires.some, c.requires.there))) in
    let body = body_read c.self.inside c.args.self.now c.from-header.result c.index.result.now c.from.result c.index-body.result.now s c.from-header.ensures c.index.ensures c.from.ensures c.index-body.ensures in
    let depth = refs_read c.self.inside c.args.self.now (c.from-header.result + 2) c.index-depth.result.now s (ap (λ n. n + 2) c.from-header.ensures) c.index-depth.ensures in
    let shuffled = duplicated_shuffles c.args.m c.args.n (youngest_frame c.args.self.now).refs c.requires.there in
    refs_shuffled c.self.inside (record c.self.inside { cells = with_item c.copy_within-2.new.self (c.from-header.result + 2) (c.index-depth.result.now + c.args.m) }) c.args.self.now (duplicated c.args.m c.args.n (youngest_frame c.args.self.now).refs) c.args.m c.args.n (length (youngest_frame c.args.self.now).refs + c.args.m) c.self.invariant s (record { bodies = refl; used = refl; count = refl; youngest = refl; len = c.copy_within-2.ensures.len ∙ c.copy_within.ensures.len }) shuffled.0 shuffled.1 (omega arith)
    (dup_up c.self.inside (record c.self.inside { cells = with_item c.copy_within-2.new.self (c.from-header.result + 2) (c.index-depth.result.now + c.args.m) }) c.args.self.now c.copy_within.new.self.items c.copy_within-2.new.self.items c.args.m c.args.n (length (youngest_frame c.args.self.now).refs + c.args.m)
    (c.from-header.result - c.from-2.result + c.from-3.result - c.from-4.result - c.from-5.result) ((c.from-header.result - c.from-2.result + c.from-3.result - c.from-4.result - c.from-5.result) + c.from-6.result) ((c.from-header.result - c.from-2.result + c.from-3.result) - (c.from-header.result - c.from-2.result + c.from-3.result - c.from-4.result - c.from-5.result)) (c.from-header.result - c.from-2.result + c.from-3.result) (c.from-header.result - c.from-2.result + c.from-3.result - c.from-4.result - c.from-5.result) ((c.from-header.result - c.from-2.result + c.from-3.result) + c.from-7.result - (c.from-header.result - c.from-2.result + c.from-3.result)) (c.from-header.result + 2) (c.index-depth.result.now + c.args.m) s
    (omega arith) (omega arith) (omega arith) (omega arith) (omega arith) (omega arith) (omega arith) (omega arith) (omega arith)
    c.copy_within.ensures.by_index c.copy_within-2.ensures.by_index (sym c.copy_within-2.new.self.ok.0 ∙ (c.copy_within-2.ensures.len ∙ (c.copy_within.ensures.len ∙ c.self.inside.cells.ok.0))) (omega arith) (omega arith) refl)

pub invariant_of-self : goal.invariant_of-self
invariant_of-self c = (duplicates (goal.at.invariant_of-self c).After-index_mut).1

pub returns : goal.returns
returns c = (duplicates (goal.at.returns c).After-index_mut).0
