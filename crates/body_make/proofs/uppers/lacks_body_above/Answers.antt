use Rattle.std.proofs.Common.{Bool, List, ap, ◌∙◌}
use Rattle.std.specs.List.{list_any}
use Rattle.class_file.specs.declared.record.Member.{Member}
use Rattle.class_tree.specs.Members.{in_file}
use Rattle.jvm_model.specs.Overrides.{lacks_body}
use Rattle.body_make.proofs.FilesAbove.{lacks_there}
use Rattle.body_make.proofs.uppers.lacks_body_above.Goals as goal

pub returns : goal.returns
returns c =
    let files = c.args.set.now in
    let file = c.file-file.result.now in
    let lacks : Member → Bool = λ m. lacks_body files c.args.class (in_file file.pool m) in
    c.lacks_one.ensures ∙ ap (λ (ms : List Member). list_any lacks ms) c.as_slice.ensures ∙ lacks_there files c.args.class c.args.upper file c.requires.own c.file-file.ensures.file
