use Rattle.std.proofs.Common.{[]}
use Rattle.image_form.specs.Format.{method_bytes}
use Rattle.image_form.specs.Grammar.{IsMethod}
use Rattle.image_form.proofs.format.Written.{written_more, each_at}
use Rattle.image_form.proofs.write.append_each_method.Goals as goal

pub append_method-requires : goal.append_method-requires
append_method-requires c = (c.requires.0, (each_at (λ before method. IsMethod c.requires.0 method) [] c.args.methods.now c.loop-method.method-index c.method-item.result c.loop-method-test.true c.method-item.is c.requires.1).1)

pub loop-method-preserved : goal.loop-method-preserved
loop-method-preserved c =
    written_more method_bytes c.args.out.now.items c.args.methods.now c.loop-method.method-index c.method-item.result c.loop-method.out.items c.append_method.new.out.items c.loop-method-test.true c.method-item.is c.loop-method.invariant c.in_ok-append_method.ensures
