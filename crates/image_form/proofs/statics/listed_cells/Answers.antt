use Rattle.std.proofs.Common.{◌≡◌, ◌++◌, ◌∷◌, [], inr}
use Rattle.std.proofs.lemmas.Result.{err_from_is_err_and}
use Rattle.image_form.specs.Reading.{items_at, cell_at}
use Rattle.image_form.proofs.format.Items.{err_shows, goes_on, ends, is_done}
use Rattle.image_form.proofs.statics.listed_cells.Goals as goal

pub returns-in_err-cell : goal.returns-in_err-cell
unfolding cell_at
returns-in_err-cell c =
    let p = err_from_is_err_and c.from_residual.result c.from_residual.ensures.1 in
    rw (p.1, p.2) (ends cell_at c.in_err-cell.field-0.0 c.args.count c.loop.counter c.loop.cells.items c.loop.rest.now (items_at cell_at c.args.count [] c.args.bytes.now) c.loop-test.true (err_shows (λ x. x) c.in_err-cell.field-0.0 (cell_at c.loop.cells.items c.loop.rest.now) (inr c.in_err-cell.ensures)) c.loop.invariant)

pub loop-preserved : goal.loop-preserved
unfolding cell_at
loop-preserved c =
    let pushed : c.push.new.self.items ≡ c.loop.cells.items ++ c.in_ok-cell.cell ∷ [] = c.in_ok-push.ensures.items in
    rw pushed (goes_on cell_at c.args.count c.loop.counter c.loop.cells.items c.loop.rest.now c.in_ok-cell.cell c.in_ok-cell.after.now (items_at cell_at c.args.count [] c.args.bytes.now) c.loop-test.true c.in_ok-cell.ensures c.loop.invariant)

pub returns : goal.returns
returns c = is_done cell_at c.args.count c.loop.counter c.loop.cells.items c.loop.rest.now (items_at cell_at c.args.count [] c.args.bytes.now) c.loop-test.false c.loop.invariant
