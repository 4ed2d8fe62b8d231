-- Each turn notes one more cell.
use Rattle.std.proofs.Common.{arith}
use Rattle.type_table.proofs.Chaining.{top_within}
use Rattle.type_table.proofs.Counting.{ints_top, more_counted}
use Rattle.type_table.proofs.shapes.note_ints.Goals as goal

pub bounds-counts-rest : goal.bounds-counts-rest
bounds-counts-rest c =
    let top = c.in-Some.ensures in
    let within = top_within c.args.cells.now c.loop-cell.rest.height c.loop-cell.rest.top (omega (arith, top.height)) c.loop-cell.invariant.has in
    omega (arith, within, c.loop-cell.invariant.counted.size)

pub loop-cell-preserved : goal.loop-cell-preserved
loop-cell-preserved c =
    let cells = c.args.cells.now in
    let top = c.in-Some.ensures in
    let ints = ints_top cells c.loop-cell.rest c.in-Some.below c.in-Some.cell top in
    record {
      has = top.has;
      counted = more_counted cells c.loop-cell.counts c.loop-cell.rest.top c.loop-cell.rest.height c.loop-cell.left c.loop-cell.invariant.counted c.loop-cell.invariant.left;
      left = omega (arith, ints, c.loop-cell.invariant.left, c.int_count-left.ensures);
    }
