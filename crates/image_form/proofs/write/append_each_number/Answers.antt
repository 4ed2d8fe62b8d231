use Rattle.image_instr.specs.Insn.{u2}
use Rattle.image_form.proofs.format.Written.{written_at}
use Rattle.image_form.proofs.write.append_each_number.Goals as goal

pub loop-number-preserved : goal.loop-number-preserved
loop-number-preserved c =
    written_at u2 c.args.out.now.items c.args.numbers.now c.loop-number.number-index _ c.loop-number.out.items c.append_u2.new.out.items c.loop-number-test.true c.loop-number.invariant c.in_ok-append_u2.ensures
