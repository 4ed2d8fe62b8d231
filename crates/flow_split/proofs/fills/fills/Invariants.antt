use Rattle.std.proofs.Common.{◌≡◌, ◌+◌, ◌*◌, ◌≤◌, map, filter, take}
use Rattle.std.specs.List.{range_with_len}
use Rattle.jvm_model.specs.WidthsShapes.{Widths}
use Rattle.jvm_model.specs.WidthsSlots.{is_extended, fill_of}
use Rattle.flow_split.specs.Shares.{passed_in, extended_in, cell_shares_of}
use Rattle.flow_split.proofs.fills.fills.Given as goal

abbrev pub invariant-loop-local : goal.invariant-loop-local
invariant-loop-local l = record {
  passed : l.next.passed ≡ passed_in (take l.local l.shares);
  extended : l.next.extended ≡ passed_in l.shares + extended_in (take l.local l.shares);
  small : l.next.stored ≤ 255 * l.local;
  fills : (widths : Widths) → l.shares ≡ cell_shares_of l.body widths → l.fills.items ≡ map (fill_of l.body widths) (filter (is_extended l.body widths) (range_with_len 0 l.local));
}
