use Rattle.std.proofs.Common.{◌≡◌, ◌++◌, ◌∷◌, [], None, FitsSigned, w32, to_z, of_z, rules}
use Rattle.std.proofs.lemmas.Int.{to_z-of_z}
use Rattle.std.proofs.lemmas.Result.{err_from_is_err_and}
use Rattle.class_code.specs.Table.{lookup_rows}
use Rattle.class_code.proofs.Rows.{lookup-goes_on, lookup-ends, lookup-done}
use Rattle.class_code.proofs.switch.lookup_rows.Goals as goal

pub returns-in_err-row : goal.returns-in_err-row
returns-in_err-row c =
    let p = err_from_is_err_and c.from_residual.result c.from_residual.ensures.1 in
    rw (p.1, p.2) (lookup-ends c.args.pc c.in_err-row.field-0.0 c.loop.before c.loop.rows.items c.args.count c.loop.counter c.loop.rest.now (lookup_rows c.args.pc None c.args.count c.args.bytes.now) c.loop-test.true c.in_err-row.ensures c.loop.invariant)

pub loop-preserved : goal.loop-preserved
loop-preserved c =
    let row = c.in_ok-row.row in
    let e : c.push.new.self.items ≡ c.loop.rows.items ++ row ∷ [] = c.in_ok-push.ensures.items in
    let fits : FitsSigned w32 row.key = search rules in
    let same : to_z w32 (of_z w32 row.key) ≡ row.key = to_z-of_z w32 row.key fits in
    rw (e, same) (lookup-goes_on c.args.pc c.loop.before c.loop.rows.items c.args.count c.loop.counter c.loop.rest.now row c.in_ok-row.after.now (lookup_rows c.args.pc None c.args.count c.args.bytes.now) c.loop-test.true c.in_ok-row.ensures c.loop.invariant)

pub returns : goal.returns
returns c = lookup-done c.args.pc c.loop.before c.loop.rows.items c.args.count c.loop.counter c.loop.rest.now (lookup_rows c.args.pc None c.args.count c.args.bytes.now) c.loop-test.false c.loop.invariant
