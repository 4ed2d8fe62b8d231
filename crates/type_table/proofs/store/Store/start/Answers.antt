-- The tree that is made stands for the locals of the frame.
use Rattle.std.proofs.Common.{◌≡◌, ◌≤◌, length, sym, ap, subst}
use Rattle.type_table.specs.Frames.{Stored}
use Rattle.type_table.specs.Changes.{IsFound, started}
use Rattle.type_table.proofs.Filling.{is_started}
use Rattle.type_table.proofs.store.Store.start.Goals as goal

pub returns-clause-started : goal.returns-clause-started
returns-clause-started c =
    let inside = c.self.inside in
    let trees = c.filled.new.trees in
    let stored : Stored = record { cells = inside.cells.items; leaves = trees.leaves.items; branches = trees.branches.items; depth = inside.depth; locals = inside.locals } in
    let same : inside.locals ≡ c.args.self.now.locals = ap (λ (s : Stored). s.locals) c.self.view_is in
    let few : length c.args.locals.now ≤ inside.locals = subst (λ n. length c.args.locals.now ≤ n) (sym same) c.requires in
    subst (λ n. IsFound stored (record { height = 0; operands = 0; locals = c.in_ok-locals.locals; pending = c.args.pending }) (started n c.args.locals.now c.args.pending)) same
    (is_started inside.cells.items trees inside.depth inside.locals c.in_ok-locals.locals c.args.locals.now c.args.pending c.self.invariant.0 few c.in_ok-locals.ensures.filled)
