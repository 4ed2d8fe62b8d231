use Rattle.std.proofs.Common.{◌+◌, ◌-◌, length, refl, ap, sym, ◌∙◌, arith}
use Rattle.mote_stack.specs.Frames.{youngest_frame, with_cells}
use Rattle.mote_stack.specs.Shuffles.{without_item}
use Rattle.mote_stack.proofs.Changed.{seen, Becomes, some_of_cell, cells_read}
use Rattle.mote_stack.proofs.Shuffled.{without_item_shuffles, cells_shuffled}
use Rattle.mote_stack.proofs.Copies.{drop_down}
use Rattle.mote_stack.proofs.region.Region.drop_at.Goals as goal
use Rattle.mote_stack.proofs.region.Region.drop_at.Goals.{After-index_mut}
use Rattle.std.specs.Vec.{with_item}

pub overflow_sub-count : goal.overflow_sub-count
overflow_sub-count c =
    let s = seen c.self.inside c.args.self.now c.self.view_is c.self.invariant (some_of_cell c.args.self.now c.args.depth c.requires) in
    let depth = cells_read c.self.inside c.args.self.now (c.from-header.result + 3) c.index-count.result.now s (ap (λ n. n + 3) c.from-header.ensures) c.index-count.ensures in
    omega arith

-- the fields after the copy and the new number of cells
drops : (c : goal.After-index_mut) → Becomes (record c.self.inside { cells = with_item c.copy_within.new.self (c.from-header.result + 3) (c.index-count.result.now - 1) }) (with_cells c.args.self.now (without_item c.args.depth (youngest_frame c.args.self.now).cells))
drops c =
    let s = seen c.self.inside c.args.self.now c.self.view_is c.self.invariant (some_of_cell c.args.self.now c.args.depth c.requires) in
    let depth = cells_read c.self.inside c.args.self.now (c.from-header.result + 3) c.index-count.result.now s (ap (λ n. n + 3) c.from-header.ensures) c.index-count.ensures in
    let shuffled = without_item_shuffles c.args.depth (youngest_frame c.args.self.now).cells c.requires in
    cells_shuffled c.self.inside (record c.self.inside { cells = with_item c.copy_within.new.self (c.from-header.result + 3) (c.index-count.result.now - 1) }) c.args.self.now (without_item c.args.depth (youngest_frame c.args.self.now).cells) c.args.depth 1 (length (youngest_frame c.args.self.now).cells - 1) c.self.invariant s (record { bodies = refl; used = refl; count = refl; youngest = refl; len = c.copy_within.ensures.len }) shuffled.0 shuffled.1 (omega arith)
    (drop_down c.self.inside (record c.self.inside { cells = with_item c.copy_within.new.self (c.from-header.result + 3) (c.index-count.result.now - 1) }) c.args.self.now c.copy_within.new.self.items c.args.depth (length (youngest_frame c.args.self.now).cells - 1)
    (c.from-header.result - c.from.result) ((c.from-header.result - c.from.result) + 1) ((c.from-header.result - c.from.result) + c.from-2.result - (c.from-header.result - c.from.result)) (c.from-header.result + 3) (c.index-count.result.now - 1) s
    (omega arith) (omega arith) (omega arith) (omega arith) (omega arith)
    c.copy_within.ensures.by_index (sym c.copy_within.new.self.ok.0 ∙ (c.copy_within.ensures.len ∙ c.self.inside.cells.ok.0)) (omega arith) (omega arith) refl)

pub invariant_of-self : goal.invariant_of-self
invariant_of-self c = (drops (goal.at.invariant_of-self c).After-index_mut).1

pub returns : goal.returns
returns c = (drops (goal.at.returns c).After-index_mut).0
