use Rattle.std.proofs.Common.{[]}
use Rattle.image_form.specs.Format.{type_bytes}
use Rattle.image_form.specs.Grammar.{IsType}
use Rattle.image_form.proofs.format.Written.{written_more, each_at}
use Rattle.image_form.proofs.write.append_each_type.Goals as goal

pub append_type-requires : goal.append_type-requires
append_type-requires c = each_at IsType [] c.args.types.now c.loop-entry.entry-index c.entry-item.result c.loop-entry-test.true c.entry-item.is c.requires

pub loop-entry-preserved : goal.loop-entry-preserved
loop-entry-preserved c =
    written_more type_bytes c.args.out.now.items c.args.types.now c.loop-entry.entry-index c.entry-item.result c.loop-entry.out.items c.append_type.new.out.items c.loop-entry-test.true c.entry-item.is c.loop-entry.invariant c.in_ok-append_type.ensures
