use Rattle.std.proofs.Common.{◌+◌, List, ap, ◌∙◌}
use Rattle.class_pool.specs.declared.types.TypeRef.{TypeRef}
use Rattle.jvm_model.specs.ImageNumbering.{with_type}
use Rattle.infuse_ids.proofs.ShownTypes.{no_arrays, arrays_more}
use Rattle.infuse_ids.proofs.types.add_arrays.Goals as goal

pub loop-lower-init : goal.loop-lower-init
loop-lower-init c = no_arrays c.args.base c.args.types.now

pub loop-lower-preserved : goal.loop-lower-preserved
loop-lower-preserved c =
    c.in-Ok.ensures
    ∙ ap (λ (types : List TypeRef). with_type types (record { dims = c.loop-lower.lower + 1; base = c.args.base })) c.loop-lower.invariant
    ∙ arrays_more c.args.base c.loop-lower.lower c.args.types.now
