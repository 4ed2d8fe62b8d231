use Rattle.image_form.specs.Format.{row_bytes}
use Rattle.image_form.proofs.format.Written.{written_at}
use Rattle.image_form.proofs.write.append_each_row.Goals as goal

pub loop-row-preserved : goal.loop-row-preserved
loop-row-preserved c =
    written_at row_bytes c.args.out.now.items c.args.rows.now c.loop-row.row-index _ c.loop-row.out.items c.append_row.new.out.items c.loop-row-test.true c.loop-row.invariant c.in_ok-append_row.ensures
