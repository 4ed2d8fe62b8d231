use Rattle.std.proofs.Common.{sym, arith}
use Rattle.class_file.specs.Texts.{number_in, row_at}
use Rattle.byte_read.proofs.Steps.{ok_is}
use Rattle.class_file.proofs.text_table.SameTexts.{one_row, table_is_right}
use Rattle.class_file.proofs.texts.rows_of.Goals as goal

pub loop-index-preserved : goal.loop-index-preserved
loop-index-preserved c =
    rw c.in_ok-push.ensures.items (one_row c.loop-index.rows.items c.in_ok-row.row (row_at c.args.pool.now (number_in c.args.numbers.now)) c.loop-index.index c.loop-index.invariant.0 c.loop-index.invariant.1 (sym (ok_is _ _ c.in_ok-row.ensures)))

pub returns-clause-found : goal.returns-clause-found
returns-clause-found c =
    table_is_right c.args.pool.now (number_in c.args.numbers.now) c.loop-index.rows.items c.requires (omega (arith, c.loop-index.invariant.0, c.count-index-end.ensures)) c.loop-index.invariant.1
