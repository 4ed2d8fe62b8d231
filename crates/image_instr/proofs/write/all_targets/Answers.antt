use Rattle.std.proofs.lemmas.List.Elements.{All-more}
use Rattle.image_instr.specs.Insn.{target_bytes, HasRowRanges}
use Rattle.image_instr.proofs.encoding.Written.{written_more}
use Rattle.image_instr.proofs.write.all_targets.Goals as goal

pub loop-each-preserved : goal.loop-each-preserved
loop-each-preserved c = record {
  written = written_more target_bytes c.args.out.now.items c.args.rows.now c.loop-each.each-index _ c.loop-each.out.items c.target.new.out.items c.loop-each-test.true c.loop-each.invariant.written c.in_ok-target.ensures.ok;
  ranges = All-more HasRowRanges c.args.rows.now c.loop-each.each-index _ c.loop-each-test.true c.loop-each.invariant.ranges c.target.ensures.ranges;
}
