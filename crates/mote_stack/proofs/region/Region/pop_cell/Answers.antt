use Rattle.std.proofs.Common.{◌≡◌, ◌+◌, ◌-◌, get_or, length, take, ap, sym, ◌∙◌, arith}
use Rattle.std.proofs.lemmas.List.{get_or_read}
use Rattle.mote_stack.specs.Frames.{youngest_frame, with_cells}
use Rattle.mote_stack.proofs.Changed.{seen, Becomes, some_of_cell, cells_read}
use Rattle.mote_stack.proofs.HalfWrites.{put, cells_cut}
use Rattle.mote_stack.proofs.region.Region.pop_cell.Goals as goal
use Rattle.mote_stack.proofs.region.Region.pop_cell.Goals.{After-index_mut}

pub returns-clause-value : goal.returns-clause-value
returns-clause-value c =
    let s = seen c.self.inside c.args.self.now c.self.view_is c.self.invariant (some_of_cell c.args.self.now 0 c.requires) in
    let depth = cells_read c.self.inside c.args.self.now (c.from-header.result + 3) c.index.result.now s (ap (λ n. n + 3) c.from-header.ensures) c.index.ensures in
    let at : c.from-header.result - 1 - c.from.result ≡ c.self.inside.youngest - 1 - (length (youngest_frame c.args.self.now).cells - 1) = omega arith in
    get_or_read c.self.inside.cells.items (c.from-header.result - 1 - c.from.result) c.index-v.result.now (omega arith) c.index-v.ensures 0
    ∙ (ap (λ k. get_or c.self.inside.cells.items k 0) at ∙ sym (s.cells_at (length (youngest_frame c.args.self.now).cells - 1) (omega arith)))

-- the fields after the new number of items is written
pops : (c : goal.After-index_mut) → Becomes (put c.self.inside (c.from-header.result + 3) (c.index.result.now - 1)) (with_cells c.args.self.now (take (length (youngest_frame c.args.self.now).cells - 1) (youngest_frame c.args.self.now).cells))
pops c =
    let s = seen c.self.inside c.args.self.now c.self.view_is c.self.invariant (some_of_cell c.args.self.now 0 c.requires) in
    let depth = cells_read c.self.inside c.args.self.now (c.from-header.result + 3) c.index.result.now s (ap (λ n. n + 3) c.from-header.ensures) c.index.ensures in
    cells_cut c.self.inside c.args.self.now (c.from-header.result + 3) (c.index.result.now - 1) (length (youngest_frame c.args.self.now).cells - 1) c.self.invariant s (omega arith) (omega arith) (omega arith)

pub invariant_of-self : goal.invariant_of-self
invariant_of-self c = (pops (goal.at.invariant_of-self c).After-index_mut).1

pub returns-clause-after : goal.returns-clause-after
returns-clause-after c = (pops (goal.at.returns-clause-after c).After-index_mut).0
