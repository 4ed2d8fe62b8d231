-- What was passed and what is left are all the whole numbers of the chain.
use Rattle.std.proofs.Common.{◌≡◌, ◌+◌, ap, ◌∙◌, arith}
use Rattle.type_table.specs.Chains.{chain_of}
use Rattle.type_table.specs.Counts.{ints_in}
use Rattle.type_table.proofs.Counting.{ints_top, ints_high, no_ints}
use Rattle.type_table.proofs.shapes.count_ints.Goals as goal
use Rattle.type_table.proofs.shapes.count_ints.Goals.{In-Some-noted}

all_counted : (c : In-Some-noted) → c.loop-cell.passed + c.in-Some-noted.ints ≡ ints_in (chain_of c.args.cells.now c.args.chain)
all_counted c =
    ap (λ n. c.loop-cell.passed + n) (c.requires.counted.right c.loop-cell.rest.top _ c.in-Some-noted.ensures) ∙ c.loop-cell.invariant.sum

pub overflow_add-result : goal.overflow_add-result
overflow_add-result c =
    let all = all_counted c in
    let high = ints_high c.args.cells.now c.args.chain c.requires.has in
    omega (arith, all, high)

pub returns-in-Some-noted : goal.returns-in-Some-noted
returns-in-Some-noted c = all_counted c

pub overflow_add-passed : goal.overflow_add-passed
overflow_add-passed c =
    let cells = c.args.cells.now in
    let top = ints_top cells c.loop-cell.rest c.in-Some.below c.in-Some.cell c.in-Some.ensures in
    let high = ints_high cells c.args.chain c.requires.has in
    omega (arith, top, high, c.loop-cell.invariant.sum, c.int_count-passed.ensures)

pub returns : goal.returns
returns c = omega (arith, c.loop-cell.invariant.sum, no_ints c.args.cells.now c.loop-cell.rest c.in_default.ensures)
