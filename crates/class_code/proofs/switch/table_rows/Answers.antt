use Rattle.std.proofs.Common.{◌≡◌, ◌-◌, ◌+ℤ◌, ℤ, pos, FitsSigned, w32, to_z, of_z, rules, subst, ◌∙◌, ap}
use Rattle.std.proofs.lemmas.Int.{to_z-of_z}
use Rattle.std.proofs.lemmas.Result.{err_from_is_err_and}
use Rattle.class_code.specs.Table.{table_rows}
use Rattle.class_code.proofs.Rows.{with_prefix, table-goes_on, table-ends, table-done}
use Rattle.class_code.proofs.switch.table_rows.Goals as goal

pub returns-in_err-target : goal.returns-in_err-target
returns-in_err-target c =
    let p = err_from_is_err_and c.from_residual.result c.from_residual.ensures.1 in
    let low_is : to_z w32 (of_z w32 c.args.low) ≡ c.args.low = to_z-of_z w32 c.args.low c.ranges.low in
    let so_far = subst (λ (low : ℤ). with_prefix c.loop-index.rows.items (table_rows c.args.pc low c.loop-index.index (c.args.count - c.loop-index.index) c.loop-index.rest.now) ≡ table_rows c.args.pc low 0 c.args.count c.args.bytes.now) low_is c.loop-index.invariant in
    rw (p.1, p.2) (table-ends c.args.pc c.args.low c.in_err-target.field-0.0 c.loop-index.rows.items c.args.count c.loop-index.index c.loop-index.rest.now (table_rows c.args.pc c.args.low 0 c.args.count c.args.bytes.now) c.loop-index-test.true c.in_err-target.ensures so_far)

pub loop-index-preserved : goal.loop-index-preserved
loop-index-preserved c =
    let low = to_z w32 (of_z w32 c.args.low) in
    let low_is : low ≡ c.args.low = to_z-of_z w32 c.args.low c.ranges.low in
    let fits : FitsSigned w32 c.key_of-key.result = search rules in
    let same : to_z w32 (of_z w32 c.key_of-key.result) ≡ c.key_of-key.result = to_z-of_z w32 c.key_of-key.result fits in
    let key_is : to_z w32 (of_z w32 c.key_of-key.result) ≡ low +ℤ pos c.loop-index.index = same ∙ c.key_of-key.ensures in
    rw (c.in_ok-push.ensures.items) (table-goes_on c.args.pc low c.loop-index.rows.items c.args.count c.loop-index.index c.loop-index.rest.now (record { key = to_z w32 (of_z w32 c.key_of-key.result); target = c.in_ok-target.target }) c.in_ok-target.target c.in_ok-target.after.now (table_rows c.args.pc low 0 c.args.count c.args.bytes.now) c.loop-index-test.true c.in_ok-target.ensures (ap (λ (key : ℤ). record { key = key; target = c.in_ok-target.target }) key_is) c.loop-index.invariant)

pub returns : goal.returns
returns c =
    let low_is : to_z w32 (of_z w32 c.args.low) ≡ c.args.low = to_z-of_z w32 c.args.low c.ranges.low in
    let so_far = subst (λ (low : ℤ). with_prefix c.loop-index.rows.items (table_rows c.args.pc low c.loop-index.index (c.args.count - c.loop-index.index) c.loop-index.rest.now) ≡ table_rows c.args.pc low 0 c.args.count c.args.bytes.now) low_is c.loop-index.invariant in
    table-done c.args.pc c.args.low c.loop-index.rows.items c.args.count c.loop-index.index c.loop-index.rest.now (table_rows c.args.pc c.args.low 0 c.args.count c.args.bytes.now) c.loop-index-test.false so_far
