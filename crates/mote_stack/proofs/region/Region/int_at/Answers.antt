use Rattle.std.proofs.Common.{◌≡◌, ◌-◌, get_or, ap, sym, ◌∙◌, arith}
use Rattle.std.proofs.lemmas.List.{get_or_read}
use Rattle.mote_stack.proofs.Changed.{seen, some_of_cell}
use Rattle.mote_stack.proofs.region.Region.int_at.Goals as goal

pub returns : goal.returns
returns c =
    let s = seen c.self.inside c.args.self.now c.self.view_is c.self.invariant (some_of_cell c.args.self.now c.args.n c.requires) in
    let at : c.from.result - 1 - c.from-2.result ≡ c.self.inside.youngest - 1 - c.args.n = omega arith in
    get_or_read c.self.inside.cells.items (c.from.result - 1 - c.from-2.result) c.index.result.now (omega arith) c.index.ensures 0
    ∙ (ap (λ k. get_or c.self.inside.cells.items k 0) at ∙ sym (s.cells_at c.args.n (omega arith)))
