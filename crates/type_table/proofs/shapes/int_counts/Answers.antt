-- Nothing is noted at first.
use Rattle.type_table.proofs.Counting.{none_counted}
use Rattle.type_table.proofs.shapes.int_counts.Goals as goal

pub loop-row-init : goal.loop-row-init
loop-row-init c = record {
  counted = none_counted c.args.cells.now c.in_ok-noted.noted.items (c.in_ok-noted.ensures.items_if_clones_equal (λ y same. same));
  counts = c.new-counts.ensures.items;
}
