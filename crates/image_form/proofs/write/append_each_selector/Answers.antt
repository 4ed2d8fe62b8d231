use Rattle.image_form.specs.Format.{sig_bytes}
use Rattle.image_form.proofs.format.Written.{written_at}
use Rattle.image_form.proofs.write.append_each_selector.Goals as goal

pub loop-selector-preserved : goal.loop-selector-preserved
loop-selector-preserved c =
    written_at sig_bytes c.args.out.now.items c.args.selectors.now c.loop-selector.selector-index _ c.loop-selector.out.items c.append_signature.new.out.items c.loop-selector-test.true c.loop-selector.invariant c.in_ok-append_signature.ensures
