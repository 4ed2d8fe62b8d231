use Rattle.image_form.specs.Format.{handler_bytes}
use Rattle.image_form.proofs.format.Written.{written_at}
use Rattle.image_form.proofs.write.append_each_handler.Goals as goal

pub loop-handler-preserved : goal.loop-handler-preserved
loop-handler-preserved c =
    written_at handler_bytes c.args.out.now.items c.args.handlers.now c.loop-handler.handler-index _ c.loop-handler.out.items c.append_handler.new.out.items c.loop-handler-test.true c.loop-handler.invariant c.in_ok-append_handler.ensures
