use Rattle.std.proofs.lemmas.Result.{IfOk-weaker}
use Rattle.class_make.proofs.Validity.{record_fits}
use Rattle.class_make.proofs.Tested.{valid_bytes}
use Rattle.class_make.proofs.write.write_class.Goals as goal

pub write_fitting-requires : goal.write_fitting-requires
write_fitting-requires c = record_fits c.args.file.now c.requires

pub returns-clause-found : goal.returns-clause-found
returns-clause-found c =
    IfOk-weaker c.write_fitting.result _ _ (λ bytes e. valid_bytes bytes.items c.args.file.now e c.requires) c.write_fitting.ensures
