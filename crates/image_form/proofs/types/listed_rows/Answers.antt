use Rattle.std.proofs.Common.{◌≡◌, ◌++◌, ◌∷◌, []}
use Rattle.std.proofs.lemmas.Result.{err_from_is_err_and}
use Rattle.image_form.specs.Reading.{items_at, row_at}
use Rattle.image_form.proofs.format.Items.{goes_on, ends, is_done}
use Rattle.image_form.proofs.types.listed_rows.Goals as goal

pub returns-in_err-row : goal.returns-in_err-row
returns-in_err-row c =
    let p = err_from_is_err_and c.from_residual.result c.from_residual.ensures.1 in
    rw (p.1, p.2) (ends (row_at c.args.index) c.in_err-row.field-0.0 c.args.count c.loop.counter c.loop.rows.items c.loop.rest.now (items_at (row_at c.args.index) c.args.count [] c.args.bytes.now) c.loop-test.true (rw c.as_slice.ensures.value at c.in_err-row.ensures) c.loop.invariant)

pub loop-preserved : goal.loop-preserved
loop-preserved c =
    let pushed : c.push.new.self.items ≡ c.loop.rows.items ++ c.in_ok-row.row ∷ [] = c.in_ok-push.ensures.items in
    rw pushed (goes_on (row_at c.args.index) c.args.count c.loop.counter c.loop.rows.items c.loop.rest.now c.in_ok-row.row c.in_ok-row.after.now (items_at (row_at c.args.index) c.args.count [] c.args.bytes.now) c.loop-test.true (rw c.as_slice.ensures.value at c.in_ok-row.ensures) c.loop.invariant)

pub returns : goal.returns
returns c = is_done (row_at c.args.index) c.args.count c.loop.counter c.loop.rows.items c.loop.rest.now (items_at (row_at c.args.index) c.args.count [] c.args.bytes.now) c.loop-test.false c.loop.invariant
